use Rattle.std.proofs.Common.{◌<◌, ◌≤◌, length, arith, refl, ◌∙◌, reverse}
use Rattle.std.proofs.lemmas.List.{length-reverse}
use Rattle.std.proofs.Math.ListN.{length-set}
use Rattle.kilim_run_trees.specs.Walk.{value_refs, element_refs}
use Rattle.kilim_run_trees.specs.Steps.{Alike}
use Rattle.kilim_run_trees.proofs.Numbering.{number_none, number_next, number_enough, number_end, same_many}
use Rattle.kilim_run_trees.proofs.take.number_elements.Goals as goal

pub loop-k-init : goal.loop-k-init
loop-k-init c = record { numbering = number_none value_refs Alike c.args.values.now.items (reverse c.args.stack.now.items); same_length = refl; capacity = refl }

pub number_value-requires : goal.number_value-requires
number_value-requires c =
    let lt : c.loop-k.k < length c.loop-k.values.items = omega (arith, c.loop-k-test.true, c.loop-k.invariant.same_length, c.len-k-end.ensures, c.args.values.now.ok.0) in
    let fits : length (element_refs c.args.values.now.items) ≤ length (reverse c.args.stack.now.items) = omega (arith, c.requires, length-reverse c.args.stack.now.items) in
    let h = number_enough value_refs Alike c.args.values.now.items c.loop-k.values.items (reverse c.args.stack.now.items) (reverse c.loop-k.stack.items) c.loop-k.k c.index_mut-value.result.now c.index_mut-value.result.now same_many c.loop-k.invariant.numbering lt c.index_mut-value.ensures.value fits in
    omega (arith, h, length-reverse c.loop-k.stack.items)

pub loop-k-preserved : goal.loop-k-preserved
loop-k-preserved c =
    let lt : c.loop-k.k < length c.loop-k.values.items = omega (arith, c.loop-k-test.true, c.loop-k.invariant.same_length, c.len-k-end.ensures, c.args.values.now.ok.0) in
    record {
      numbering = number_next value_refs Alike c.args.values.now.items c.loop-k.values.items _ (reverse c.args.stack.now.items) (reverse c.loop-k.stack.items) (reverse c.number_value.new.stack.items) c.loop-k.k c.index_mut-value.result.now c.number_value.new.value c.index_mut-value.result.now c.loop-k.invariant.numbering lt c.index_mut-value.ensures.value c.number_value.ensures.alike c.number_value.ensures.refs refl;
      same_length = length-set c.loop-k.values.items c.loop-k.k c.number_value.new.value ∙ c.loop-k.invariant.same_length;
      capacity = c.number_value.ensures.capacity ∙ c.loop-k.invariant.capacity;
    }

pub returns-clause-alike : goal.returns-clause-alike
returns-clause-alike c = (number_end value_refs Alike c.args.values.now.items c.loop-k.values.items _ _ c.loop-k.k c.loop-k.invariant.numbering (omega arith)).0

pub returns-clause-refs : goal.returns-clause-refs
returns-clause-refs c = (number_end value_refs Alike c.args.values.now.items c.loop-k.values.items _ _ c.loop-k.k c.loop-k.invariant.numbering (omega arith)).1
