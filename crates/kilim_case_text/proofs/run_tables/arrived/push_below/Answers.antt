use Rattle.std.proofs.Common.{arith, refl}
use Rattle.kilim_run_trees.proofs.Sizes.{next_met}
use Rattle.kilim_case_text.proofs.run_tables.arrived.push_below.Goals as goal

pub loop-at-preserved : goal.loop-at-preserved
loop-at-preserved c = record {
  met = next_met _ _ _ _ _ _ _ _ _ c.loop-at.invariant.met c.in-Some.ensures.items c.object-object.ensures refl c.in_ok-push_refs.ensures;
  small = omega (arith, c.loop-at.invariant.small, c.if-count-eq-LIMIT.false);
}
