use Rattle.std.proofs.Common.{◌≡◌, ◌+◌, drop}
use Rattle.std.specs.Prelude.{sum_by}
use Rattle.kilim_program.specs.Same.{type_slots}
use Rattle.kilim_type_verify.proofs.entry.params_fit.Given as goal

abbrev pub invariant-loop-ty : goal.invariant-loop-ty
invariant-loop-ty l = l.left + sum_by type_slots l.params ≡ l.most + sum_by type_slots (drop l.ty-index l.params)
