use Rattle.kilim_run.proofs.going_on.resumed_by.Given as goal

abbrev pub ghosts-named_resumed_with : goal.ghosts-named_resumed_with
ghosts-named_resumed_with g a = record { program = a.code.now.program; counted = a.code.now.counted }
