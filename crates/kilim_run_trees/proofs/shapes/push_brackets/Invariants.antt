use Rattle.std.proofs.Common.{◌≡◌, ◌++◌}
use Rattle.kilim_run_trees.specs.Emitted.{brackets}
use Rattle.kilim_run_trees.proofs.shapes.push_brackets.Given as goal

abbrev pub invariant-loop-k : goal.invariant-loop-k
invariant-loop-k l = l.out.items ≡ l.initial.out.items ++ brackets l.k
