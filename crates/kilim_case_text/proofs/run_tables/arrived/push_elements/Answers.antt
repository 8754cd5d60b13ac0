use Rattle.std.proofs.Common.{◌≡◌, ◌<◌, ◌+◌, ◌-◌, length, arith}
use Rattle.kilim_run_trees.specs.Walk.{value_refs}
use Rattle.kilim_run_trees.proofs.Stacks.{one_by_one, reverse_refs}
use Rattle.kilim_case_text.proofs.run_tables.arrived.push_elements.Goals as goal

pub loop-k-preserved : goal.loop-k-preserved
loop-k-preserved c =
    let next : c.loop-k.k ≡ c.loop-k.k - 1 + 1 = omega (arith, c.loop-k-test.true) in
    let lt : c.loop-k.k - 1 < length c.args.values.now = omega (arith, c.loop-k-test.true, c.loop-k.invariant.within) in
    record {
      within = omega (arith, lt);
      items = one_by_one value_refs _ _ _ _ _ _ c.index-values-at.result c.index-values-at.result next lt c.index-values-at.is (reverse_refs _) c.loop-k.invariant.items c.in_ok-push_ref.ensures;
    }
