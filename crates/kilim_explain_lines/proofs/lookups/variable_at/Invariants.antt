use Rattle.std.proofs.Common.{◌≡◌, drop, find}
use Rattle.kilim_explain_lines.specs.Lookups.{holds}
use Rattle.kilim_explain_lines.proofs.lookups.variable_at.Given as goal

abbrev pub invariant-loop-row : goal.invariant-loop-row
invariant-loop-row l = find (holds l.slot l.place) (drop l.row-index l.rows) ≡ find (holds l.slot l.place) l.rows
