use Rattle.std.proofs.Common.{◌≡◌, drop}
use Rattle.kilim_type_spec.specs.Faults.{frame_fault}
use Rattle.kilim_type_verify.proofs.frames.frame_fault.Given as goal

abbrev pub invariant-loop-index : goal.invariant-loop-index
invariant-loop-index l = frame_fault l.method (drop l.index l.frames) ≡ frame_fault l.method l.method.frames
