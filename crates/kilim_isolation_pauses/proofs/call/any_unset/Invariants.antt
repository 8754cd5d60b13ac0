use Rattle.std.proofs.Common.{◌≡◌, drop}
use Rattle.std.specs.List.{list_any}
use Rattle.kilim_type_spec.specs.Step.{is_unset}
use Rattle.kilim_isolation_pauses.proofs.call.any_unset.Given as goal

abbrev pub invariant-loop-ty : goal.invariant-loop-ty
invariant-loop-ty l = list_any is_unset (drop l.ty-index l.types) ≡ list_any is_unset l.types
