use Rattle.std.proofs.Common.{◌≡◌, ◌<◌, ◌≤◌, ◌+◌, ◌-◌, length, arith}
use Rattle.std.specs.Vec.{vec_capacity}
use Rattle.kilim_run_trees.specs.Walk.{value_refs, element_refs}
use Rattle.kilim_run_trees.proofs.Stacks.{ref_fits}
use Rattle.kilim_run_trees.proofs.reserve.push_elements.Goals as goal

pub push_ref-requires : goal.push_ref-requires
push_ref-requires c =
    let next : c.loop-k.k ≡ c.loop-k.k - 1 + 1 = omega (arith, c.loop-k-test.true) in
    let lt : c.loop-k.k - 1 < length c.args.values.now = omega (arith, c.loop-k-test.true, c.loop-k.invariant.within) in
    let fits : length c.args.stack.now.items + length (element_refs c.args.values.now) ≤ vec_capacity c.loop-k.stack = omega (arith, c.requires, c.args.stack.now.ok.0, c.loop-k.invariant.capacity) in
    let h = ref_fits value_refs c.args.stack.now.items c.loop-k.stack.items c.args.values.now c.loop-k.k (c.loop-k.k - 1) c.index-values-at.result c.index-values-at.result _ next lt c.index-values-at.is c.loop-k.invariant.items fits in
    omega (arith, h, c.loop-k.stack.ok.0)
