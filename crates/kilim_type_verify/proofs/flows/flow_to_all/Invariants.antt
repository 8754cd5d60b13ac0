use Rattle.std.proofs.Common.{◌≡◌, drop}
use Rattle.std.specs.List.{list_all}
use Rattle.kilim_type_spec.specs.Typed.{declared}
use Rattle.kilim_type_spec.specs.Faults.{flows_into_declared}
use Rattle.kilim_type_verify.proofs.flows.flow_to_all.Given as goal

abbrev pub invariant-loop-at : goal.invariant-loop-at
invariant-loop-at l = list_all (λ to. flows_into_declared l.program l.from (declared l.method to)) (drop l.at-index l.places) ≡ list_all (λ to. flows_into_declared l.program l.from (declared l.method to)) l.places
