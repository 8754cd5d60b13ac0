use Rattle.std.proofs.Common.{vec_len}
use Rattle.kilim_run_trees.proofs.Filling.{Filling}
use Rattle.kilim_run_trees.proofs.put.fill.Given as goal

abbrev pub invariant-loop-object : goal.invariant-loop-object
invariant-loop-object l = Filling l.initial.heap l.places.items l.initial.objects.items l.heap l.objects.items

abbrev pub decreases-loop-object : goal.decreases-loop-object
decreases-loop-object l = vec_len l.objects
