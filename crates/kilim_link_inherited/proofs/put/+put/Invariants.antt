use Rattle.kilim_link_inherited.proofs.put.+put.Given as goal

abbrev pub decreases-put : goal.decreases-put
decreases-put l = l.levels
