use Rattle.kilim_run.proofs.runs.journal_alone.Given as goal

abbrev pub ghosts-named_alone : goal.ghosts-named_alone
ghosts-named_alone g a = record { program = a.code.now.program; counted = a.code.now.counted }
