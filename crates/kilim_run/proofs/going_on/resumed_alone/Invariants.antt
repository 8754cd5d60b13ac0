use Rattle.kilim_run.proofs.going_on.resumed_alone.Given as goal

abbrev pub ghosts-named_resumed : goal.ghosts-named_resumed
ghosts-named_resumed g a = record { program = a.code.now.program; counted = a.code.now.counted }
