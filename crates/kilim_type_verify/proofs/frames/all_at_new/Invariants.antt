use Rattle.std.proofs.Common.{◌≡◌, drop}
use Rattle.std.specs.List.{list_all}
use Rattle.kilim_type_spec.specs.Typed.{stands_at_new}
use Rattle.kilim_type_verify.proofs.frames.all_at_new.Given as goal

abbrev pub invariant-loop-t : goal.invariant-loop-t
invariant-loop-t l = list_all (stands_at_new l.method) (drop l.t-index l.types) ≡ list_all (stands_at_new l.method) l.types
