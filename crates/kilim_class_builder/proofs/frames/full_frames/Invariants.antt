use Rattle.std.proofs.Common.{◌≡◌, ◌++◌, drop}
use Rattle.kilim_class_builder.specs.Frames.{full_frames}
use Rattle.kilim_class_builder.proofs.frames.full_frames.Given as goal

abbrev pub invariant-loop-entry : goal.invariant-loop-entry
invariant-loop-entry l = l.all ++ full_frames l.pool l.next (drop l.entry-index l.frames) ≡ full_frames l.pool 0 l.frames
