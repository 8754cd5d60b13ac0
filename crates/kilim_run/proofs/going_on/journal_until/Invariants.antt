use Rattle.kilim_run.proofs.going_on.journal_until.Given as goal

abbrev pub ghosts-named_some : goal.ghosts-named_some
ghosts-named_some g a = record { program = a.code.now.program; counted = a.code.now.counted }
