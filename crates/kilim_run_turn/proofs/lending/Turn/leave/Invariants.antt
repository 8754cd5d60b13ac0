use Rattle.kilim_run_turn.specs.Views.{cell_at}
use Rattle.kilim_run_turn.proofs.lending.Turn.leave.Given as goal

abbrev pub ghosts-post : goal.ghosts-post
ghosts-post g a = record { cell = cell_at (g.B.Cells.cells a.value.now) a.number }
