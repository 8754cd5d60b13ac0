use Rattle.std.proofs.Common.{◌≡◌, ◌<◌, ◌+◌, ◌-◌, length, arith, get_or, refl}
use Rattle.kilim_run_trees.specs.Walk.{value_refs}
use Rattle.kilim_run_trees.proofs.Stacks.{one_by_one, reverse_refs}
use Rattle.kilim_case_text.proofs.run_tables.arrived.push_fields.Goals as goal

pub loop-k-preserved : goal.loop-k-preserved
loop-k-preserved c =
    let next : c.loop-k.k ≡ c.loop-k.k - 1 + 1 = omega (arith, c.loop-k-test.true) in
    let lt : c.loop-k.k - 1 < length c.args.fields.now = omega (arith, c.loop-k-test.true, c.loop-k.invariant.within) in
    record {
      within = omega (arith, lt);
      items = one_by_one (λ e. value_refs e.1) _ _ _ c.args.fields.now c.loop-k.k (c.loop-k.k - 1) (get_or c.args.fields.now (c.loop-k.k - 1) c.index-fields-at.result) c.index-fields-at.result next lt refl (reverse_refs _) c.loop-k.invariant.items c.in_ok-push_ref.ensures;
    }
