use Rattle.kilim_link_inherited.proofs.lookup.+has_any.Given as goal

abbrev pub decreases-has_any : goal.decreases-has_any
decreases-has_any l = l.levels
