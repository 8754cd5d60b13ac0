use Rattle.std.proofs.Common.{◌≡◌, ◌++◌, drop}
use Rattle.kilim_class_builder.specs.Frames.{frames_names}
use Rattle.kilim_class_builder.proofs.frames.frames_names.Given as goal

abbrev pub invariant-loop-entry : goal.invariant-loop-entry
invariant-loop-entry l = l.names.items ++ frames_names l.pool (drop l.entry-index l.frames) ≡ frames_names l.pool l.frames
