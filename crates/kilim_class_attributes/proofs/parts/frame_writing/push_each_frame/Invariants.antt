use Rattle.std.proofs.Common.{◌≡◌, ◌++◌, drop}
use Rattle.std.specs.List.{flat_map}
use Rattle.kilim_class_attributes.specs.parts.Frames.{frame_text}
use Rattle.kilim_class_attributes.proofs.parts.frame_writing.push_each_frame.Given as goal

abbrev pub invariant-loop-frame : goal.invariant-loop-frame
invariant-loop-frame l = l.into.items ++ flat_map frame_text (drop l.frame-index l.frames) ≡ l.fn.into.items ++ flat_map frame_text l.frames
