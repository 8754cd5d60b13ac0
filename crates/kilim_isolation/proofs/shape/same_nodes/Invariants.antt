use Rattle.std.proofs.Common.{◌≡◌, take}
use Rattle.kilim_isolation.proofs.shape.same_nodes.Given as goal

abbrev pub invariant-loop-k : goal.invariant-loop-k
invariant-loop-k l = take l.k l.a ≡ take l.k l.b
