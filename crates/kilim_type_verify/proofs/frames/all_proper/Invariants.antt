use Rattle.std.proofs.Common.{◌≡◌, drop}
use Rattle.std.specs.List.{list_all}
use Rattle.kilim_type_spec.specs.Typed.{is_proper}
use Rattle.kilim_type_verify.proofs.frames.all_proper.Given as goal

abbrev pub invariant-loop-t : goal.invariant-loop-t
invariant-loop-t l = list_all is_proper (drop l.t-index l.types) ≡ list_all is_proper l.types
