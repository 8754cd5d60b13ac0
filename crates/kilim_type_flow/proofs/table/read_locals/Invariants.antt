use Rattle.std.proofs.Common.{◌≡◌, ℕ, length, true}
use Rattle.kilim_type_spec.specs.Typed.{reads}
use Rattle.kilim_type_flow.specs.Marks.{EachUpTo, is_marked}
use Rattle.kilim_type_flow.proofs.table.read_locals.Given as goal

abbrev pub invariant-loop-at : goal.invariant-loop-at
invariant-loop-at l = (length l.marks.items ≡ l.fn.most) × EachUpTo l.at l.fn.method.code (λ e. (k : ℕ) → reads e.1 k ≡ true → is_marked l.marks.items k ≡ true)
