use Rattle.kilim_link_inherited.proofs.order.push_unseen.Given as goal

abbrev pub decreases-loop-left : goal.decreases-loop-left
decreases-loop-left l = l.left
