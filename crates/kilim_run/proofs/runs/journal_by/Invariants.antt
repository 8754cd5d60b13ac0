use Rattle.kilim_run.proofs.runs.journal_by.Given as goal

abbrev pub ghosts-named_with : goal.ghosts-named_with
ghosts-named_with g a = record { program = a.code.now.program; counted = a.code.now.counted }
