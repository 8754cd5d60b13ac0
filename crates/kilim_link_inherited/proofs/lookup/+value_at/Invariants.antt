use Rattle.kilim_link_inherited.proofs.lookup.+value_at.Given as goal

abbrev pub decreases-value_at : goal.decreases-value_at
decreases-value_at l = l.levels
