use Rattle.std.proofs.Common.{arith, length-append, ap, ◌≡◌, ◌-◌, suc, ◌∙◌, refl, reverse, length}
use Rattle.std.proofs.lemmas.List.{length-reverse}
use Rattle.std.proofs.Math.ListN.{length-set}
use Rattle.kilim_run_trees.proofs.Renumbering.{holds_first, holds_next, holds_last, refs_enough, stack_short}
use Rattle.kilim_run_trees.proofs.Stacks.{pop_reversed as push_turned}
use Rattle.kilim_run_trees.specs.Walk.{refs}
use Rattle.kilim_run_trees.proofs.take.number.Goals as goal

pub loop-k-init : goal.loop-k-init
loop-k-init c = record {
  holds = λ root entries h o. holds_first root entries c.args.objects.now.items (reverse c.args.stack.now.items) c.len-k.result h o (ap reverse c.requires.no_stack) (c.len-k.ensures ∙ c.args.objects.now.ok.0);
  within = omega (arith, c.len-k.ensures, c.args.objects.now.ok.0);
  same_length = refl;
  capacity = refl;
}

pub number_object-requires : goal.number_object-requires
number_object-requires c =
    let next : c.loop-k.k ≡ suc (c.loop-k.k - 1) = omega (arith, c.loop-k-test.true) in
    let w = c.requires.walked in
    let h = refs_enough w.root w.entries c.loop-k.objects.items (reverse c.loop-k.stack.items) c.loop-k.k (c.loop-k.k - 1) c.index_mut-object.result.now c.index_mut-object.result.now (c.loop-k.invariant.holds w.root w.entries w.leads w.same) next c.index_mut-object.ensures.value in
    omega (arith, h, length-reverse c.loop-k.stack.items)

pub push_reserved-requires : goal.push_reserved-requires
push_reserved-requires c =
    let w = c.requires.walked in
    let h = stack_short w.root w.entries c.loop-k.objects.items (reverse c.loop-k.stack.items) c.loop-k.k (c.loop-k.invariant.holds w.root w.entries w.leads w.same) in
    omega (arith, h, length-reverse c.loop-k.stack.items, length-reverse c.number_object.new.stack.items, ap length c.number_object.ensures.refs, length-append (refs c.number_object.new.object) (reverse c.number_object.new.stack.items), c.loop-k-test.true, c.loop-k.invariant.same_length, c.loop-k.invariant.capacity, c.number_object.ensures.capacity, c.requires.fits, c.number_object.new.stack.ok.0)

pub loop-k-preserved : goal.loop-k-preserved
loop-k-preserved c =
    let next : c.loop-k.k ≡ suc (c.loop-k.k - 1) = omega (arith, c.loop-k-test.true) in
    let old = c.index_mut-object.result.now in
    let new = c.number_object.new.object in
    let pushed = push_turned c.push_reserved.new.self.items c.number_object.new.stack.items (c.loop-k.k - 1) c.push_reserved.ensures.items in
    record {
      holds = λ root entries h o. holds_next root entries c.loop-k.objects.items _ (reverse c.loop-k.stack.items) (reverse c.number_object.new.stack.items) _ c.loop-k.k (c.loop-k.k - 1) old new old (c.loop-k.invariant.holds root entries h o) next c.index_mut-object.ensures.value c.number_object.ensures.alike c.number_object.ensures.refs refl pushed;
      within = omega (arith, length-set c.loop-k.objects.items (c.loop-k.k - 1) new, c.loop-k.invariant.within);
      same_length = length-set c.loop-k.objects.items (c.loop-k.k - 1) new ∙ c.loop-k.invariant.same_length;
      capacity = c.push_reserved.ensures.capacity ∙ (c.number_object.ensures.capacity ∙ c.loop-k.invariant.capacity);
    }

pub returns : goal.returns
returns c =
    let none : c.loop-k.k ≡ 0 = omega (arith, c.loop-k-test.false) in
    let w = c.requires.walked in
    let own = holds_last w.root w.entries c.loop-k.objects.items (reverse c.loop-k.stack.items) c.loop-k.k (c.loop-k.invariant.holds w.root w.entries w.leads w.same) none in
    record {
      preorder = own.1;
      same = λ root entries h o. (holds_last root entries c.loop-k.objects.items (reverse c.loop-k.stack.items) c.loop-k.k (c.loop-k.invariant.holds root entries h o) none).0 ∙ o;
    }
