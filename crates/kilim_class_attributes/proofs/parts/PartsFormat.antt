-- The parts of annotations both ways, all that one asks for with it (JVMS 4.7.16).
use Rattle.std.proofs.Common.{List, [], ◌∷◌, length, arith}
use Rattle.kilim_class_grammar.proofs.Formats.{Format}
use Rattle.kilim_class_pool.specs.declared.entry.Entry.{Entry}
use Rattle.kilim_class_attributes.specs.declared.parts.fault.AttributeFault.{AttributeFault}
use Rattle.kilim_class_attributes.specs.declared.parts.annotation.PartKind.{PartKind}
use Rattle.kilim_class_attributes.specs.parts.Annotations.{asks, parts_text, PartsFit, part_at, parts_at}
use Rattle.kilim_class_attributes.proofs.parts.AnnotationFormats.{part_format, part_some}
use Rattle.kilim_class_attributes.proofs.parts.Sentences as sentences

pub parts_format : (pool : List Entry) (ends : AttributeFault) (kind : PartKind) → Format parts_text (parts_at pool ends kind) (PartsFit pool kind)
unfolding parts_at
parts_format pool ends kind = record {
  takes = λ bytes parts rest fits e. sentences.takes ends (part_at pool ends) asks (part_format pool ends) (part_some pool ends) (length bytes) (kind ∷ []) bytes parts rest fits e;
  again = λ parts rest fit. sentences.again ends (part_at pool ends) asks (part_format pool ends) (part_some pool ends) _ (kind ∷ []) parts rest (omega arith) fit;
}
