use Rattle.std.proofs.Common.{◌≡◌, ◌<◌, ◌≤◌, ◌^◌, ℕ, true}
use Rattle.kilim_type_spec.specs.Typed.{reads}
use Rattle.kilim_type_flow.specs.Marks.{EachUpTo}
use Rattle.kilim_type_flow.proofs.table.locals_below.Given as goal

abbrev pub invariant-loop-at : goal.invariant-loop-at
invariant-loop-at l = (l.most ≤ 2 ^ 16) × EachUpTo l.at l.fn.method.code (λ e. (k : ℕ) → reads e.1 k ≡ true → k < l.most)
