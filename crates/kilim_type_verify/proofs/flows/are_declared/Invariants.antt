use Rattle.std.proofs.Common.{◌≡◌, drop}
use Rattle.std.specs.List.{list_all}
use Rattle.std.specs.Prelude.{is_some}
use Rattle.kilim_type_spec.specs.Typed.{declared}
use Rattle.kilim_type_verify.proofs.flows.are_declared.Given as goal

abbrev pub invariant-loop-at : goal.invariant-loop-at
invariant-loop-at l = list_all (λ to. is_some (declared l.method to)) (drop l.at-index l.places) ≡ list_all (λ to. is_some (declared l.method to)) l.places
