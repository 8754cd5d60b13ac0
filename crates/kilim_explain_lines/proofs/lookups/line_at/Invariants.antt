use Rattle.std.proofs.Common.{◌≡◌, None, drop}
use Rattle.kilim_explain_lines.specs.Lookups.{best_row}
use Rattle.kilim_explain_lines.proofs.lookups.line_at.Given as goal

abbrev pub invariant-loop-row : goal.invariant-loop-row
invariant-loop-row l = best_row l.place l.best (drop l.row-index l.rows) ≡ best_row l.place None l.rows
