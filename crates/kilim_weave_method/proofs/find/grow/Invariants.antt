use Rattle.std.proofs.Common.{◌≡◌, ◌+◌, ◌-◌, ℕ, None, get_or, length}
use Rattle.kilim_weave_method.proofs.find.grow.Given as goal

abbrev pub invariant-loop-table : goal.invariant-loop-table
invariant-loop-table l = (k : ℕ) → get_or l.table.items k None ≡ get_or l.initial.table.items k None

abbrev pub decreases-loop-table : goal.decreases-loop-table
decreases-loop-table l = l.fn.number + 1 - length l.table.items
