use Rattle.std.proofs.Common.{◌≡◌, ◌++◌, drop}
use Rattle.kilim_weave_file_spec.specs.FullFrames.{full_frames}
use Rattle.kilim_weave_file.proofs.frames.full_frames.Given as goal

abbrev pub invariant-loop-entry : goal.invariant-loop-entry
invariant-loop-entry l = l.all ++ full_frames l.program l.pool l.next (drop l.entry-index l.frames) ≡ full_frames l.program l.pool 0 l.frames
