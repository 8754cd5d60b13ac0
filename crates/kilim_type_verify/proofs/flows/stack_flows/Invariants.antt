use Rattle.std.proofs.Common.{◌≡◌, drop}
use Rattle.kilim_type_spec.specs.Typed.{all_assignable}
use Rattle.kilim_type_verify.proofs.flows.stack_flows.Given as goal

abbrev pub invariant-loop-at : goal.invariant-loop-at
invariant-loop-at l = all_assignable l.program (drop l.at l.from) (drop l.at l.to) ≡ all_assignable l.program l.from l.to
