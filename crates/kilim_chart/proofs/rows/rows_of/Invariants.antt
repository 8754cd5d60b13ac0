use Rattle.std.proofs.Common.{◌≡◌, ◌+◌, ◌++◌, drop}
use Rattle.kilim_chart.specs.Rows.{rows_from}
use Rattle.kilim_chart.proofs.rows.rows_of.Given as goal

abbrev pub invariant-loop-i : goal.invariant-loop-i
invariant-loop-i l = l.rows ++ rows_from l.choice (l.i + 1) (drop l.i l.entries) ≡ rows_from l.choice 1 l.entries
