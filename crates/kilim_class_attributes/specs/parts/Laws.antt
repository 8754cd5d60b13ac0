-- What reading and writing come to.
use Rattle.std.specs.Prelude.{List}
use Rattle.kilim_class_grammar.specs.Format.{Format}
use Rattle.kilim_class_grammar.specs.Spelling.{u2}
use Rattle.kilim_class_pool.specs.declared.entry.Entry.{Entry}
use Rattle.kilim_class_attributes.specs.declared.parts.fault.AttributeFault.{AttributeFault}
use Rattle.kilim_class_attributes.specs.declared.parts.frame.Frame.{Frame}
use Rattle.kilim_class_attributes.specs.declared.parts.index.EntryKind.{EntryKind}
use Rattle.kilim_class_attributes.specs.declared.parts.annotation.PartKind.{PartKind}
use Rattle.kilim_class_attributes.specs.parts.Indices.{index_at, IndexFits}
use Rattle.kilim_class_attributes.specs.parts.Frames.{frames_text, FramesAreSized, FramesFit, frames_at}
use Rattle.kilim_class_attributes.specs.parts.Annotations.{parts_text, PartsFit, parts_at}

-- Over each pool, what is read as an index of a kind, as frames, or as the parts of annotations is spelled so and has a
-- text, and what is spelled is read again, whatever follows.
pub record PartsAreSpelled : Type 0 where
  pub indices : (pool : List Entry) (kind : EntryKind) (cut : AttributeFault) → Format u2 (index_at pool kind cut) (IndexFits pool kind)
  pub frames : (pool : List Entry) → Format frames_text (frames_at pool) (FramesFit pool)
  pub parts : (pool : List Entry) (ends : AttributeFault) (kind : PartKind) → Format parts_text (parts_at pool ends kind) (PartsFit pool kind)
  -- frames that have a text can be written
  pub sized : (pool : List Entry) (frames : List Frame) → FramesFit pool frames → FramesAreSized frames
