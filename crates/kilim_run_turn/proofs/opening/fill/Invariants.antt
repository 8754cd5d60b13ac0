use Rattle.kilim_run_turn.proofs.opening.fill.Given as goal

abbrev pub ghosts-name : goal.ghosts-name
ghosts-name g a = record { table = a.shelf.now.table_id }
