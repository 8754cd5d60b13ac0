use Rattle.std.proofs.Common.{◌<◌, ◌≤◌, length, arith, refl, ◌∙◌, reverse}
use Rattle.std.proofs.lemmas.List.{length-reverse}
use Rattle.std.proofs.Math.ListN.{length-set}
use Rattle.kilim_run_trees.specs.Walk.{value_refs, field_refs}
use Rattle.kilim_run_trees.specs.Steps.{AlikeField}
use Rattle.kilim_run_trees.proofs.Numbering.{number_none, number_next, number_enough, number_end, same_many_field}
use Rattle.kilim_run_trees.proofs.take.number_fields.Goals as goal

pub loop-k-init : goal.loop-k-init
loop-k-init c = record { numbering = number_none (λ e. value_refs e.1) AlikeField c.args.fields.now.items (reverse c.args.stack.now.items); same_length = refl; capacity = refl }

pub number_value-requires : goal.number_value-requires
number_value-requires c =
    let lt : c.loop-k.k < length c.loop-k.fields.items = omega (arith, c.loop-k-test.true, c.loop-k.invariant.same_length, c.len-k-end.ensures, c.args.fields.now.ok.0) in
    let fits : length (field_refs c.args.fields.now.items) ≤ length (reverse c.args.stack.now.items) = omega (arith, c.requires, length-reverse c.args.stack.now.items) in
    let h = number_enough (λ e. value_refs e.1) AlikeField c.args.fields.now.items c.loop-k.fields.items (reverse c.args.stack.now.items) (reverse c.loop-k.stack.items) c.loop-k.k c.index_mut-field.result.now c.index_mut-field.result.now same_many_field c.loop-k.invariant.numbering lt c.index_mut-field.ensures.value fits in
    omega (arith, h, length-reverse c.loop-k.stack.items)

pub loop-k-preserved : goal.loop-k-preserved
loop-k-preserved c =
    let lt : c.loop-k.k < length c.loop-k.fields.items = omega (arith, c.loop-k-test.true, c.loop-k.invariant.same_length, c.len-k-end.ensures, c.args.fields.now.ok.0) in
    record {
      numbering = number_next (λ e. value_refs e.1) AlikeField c.args.fields.now.items c.loop-k.fields.items _ (reverse c.args.stack.now.items) (reverse c.loop-k.stack.items) (reverse c.number_value.new.stack.items) c.loop-k.k c.index_mut-field.result.now (c.index_mut-field.result.now.0, c.number_value.new.value) c.index_mut-field.result.now c.loop-k.invariant.numbering lt c.index_mut-field.ensures.value (refl, c.number_value.ensures.alike) c.number_value.ensures.refs refl;
      same_length = length-set c.loop-k.fields.items c.loop-k.k (c.index_mut-field.result.now.0, c.number_value.new.value) ∙ c.loop-k.invariant.same_length;
      capacity = c.number_value.ensures.capacity ∙ c.loop-k.invariant.capacity;
    }

pub returns-clause-alike : goal.returns-clause-alike
returns-clause-alike c = (number_end (λ e. value_refs e.1) AlikeField c.args.fields.now.items c.loop-k.fields.items _ _ c.loop-k.k c.loop-k.invariant.numbering (omega arith)).0

pub returns-clause-refs : goal.returns-clause-refs
returns-clause-refs c = (number_end (λ e. value_refs e.1) AlikeField c.args.fields.now.items c.loop-k.fields.items _ _ c.loop-k.k c.loop-k.invariant.numbering (omega arith)).1
