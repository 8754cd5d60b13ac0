use Rattle.std.proofs.Common.{◌≡◌, ◌++◌, drop}
use Rattle.kilim_weave_file_spec.specs.FullFrames.{frames_needs}
use Rattle.kilim_weave_file.proofs.needs.push_frames.Given as goal

abbrev pub invariant-loop-entry : goal.invariant-loop-entry
invariant-loop-entry l = l.into ++ frames_needs l.program (drop l.entry-index l.frames) ≡ l.fn.into ++ frames_needs l.program l.frames
