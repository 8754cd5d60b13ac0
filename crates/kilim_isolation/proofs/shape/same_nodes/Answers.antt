use Rattle.std.proofs.Common.{refl, arith, false, None}
use Rattle.kilim_isolation_graph.specs.declared.node.Standing.TheVariants.{Root}
use Rattle.std.proofs.lemmas.Grind.{common_steps}
use Rattle.kilim_isolation.proofs.Loops.{same_end, same_on}
use Rattle.kilim_isolation.proofs.shape.same_nodes.Goals as goal

pub returns : goal.returns
returns c = (λ _. same_end c.args.a.now c.args.b.now c.loop-k.k (omega arith) (omega arith) c.loop-k.invariant, λ _. refl)

pub loop-k-preserved : goal.loop-k-preserved
loop-k-preserved c = same_on c.args.a.now c.args.b.now c.loop-k.k (record { region = 0; standing = Root; head = false; parent = None }) c.loop-k-test.true (omega arith) c.loop-k.invariant (grind (arith, common_steps))
