use Rattle.std.proofs.Common.{◌≡◌, drop}
use Rattle.kilim_type_spec.specs.Faults.{locals_flow}
use Rattle.kilim_type_verify.proofs.flows.locals_flow.Given as goal

abbrev pub invariant-loop-slot : goal.invariant-loop-slot
invariant-loop-slot l = locals_flow l.program (drop l.slot l.from) (drop l.slot l.to) ≡ locals_flow l.program l.from l.to
