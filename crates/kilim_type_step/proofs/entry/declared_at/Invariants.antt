use Rattle.std.proofs.Common.{◌≡◌, drop}
use Rattle.kilim_type_spec.specs.Typed.{frame_in}
use Rattle.kilim_type_step.proofs.entry.declared_at.Given as goal

abbrev pub invariant-loop-entry : goal.invariant-loop-entry
invariant-loop-entry l = frame_in (drop l.entry-index l.method.frames) l.place ≡ frame_in l.method.frames l.place
