use Rattle.std.proofs.Common.{arith, ◌≡◌, length}
use Rattle.kilim_run_trees.proofs.Sizes.{too_large, next_met, size_of}
use Rattle.kilim_run_trees.proofs.reserve.tree_size.Goals as goal

pub returns-then-len-count-clause-err : goal.returns-then-len-count-clause-err
returns-then-len-count-clause-err c = too_large _ _ _ _ _ _ c.loop-at.invariant.met c.in-Some.ensures.items (omega (arith, c.if-len-count.true, c.len.ensures, c.loop-at.invariant.small))

pub loop-at-preserved : goal.loop-at-preserved
loop-at-preserved c = record {
  met = next_met _ _ _ _ _ _ _ _ _ c.loop-at.invariant.met c.in-Some.ensures.items c.object-object.ensures c.reserve_refs.ensures.items c.push_refs.ensures.items;
  small = omega (arith, c.loop-at.invariant.small, c.if-len-count.false);
}

pub returns-clause-ok : goal.returns-clause-ok
returns-clause-ok c =
    let none : length c.loop-at.pending.items ≡ 0 = omega (arith, c.in_default.ensures.cases.0, c.loop-at.pending.ok.0) in
    size_of _ _ _ c.loop-at.pending.items c.loop-at.invariant.met none c.loop-at.invariant.small
