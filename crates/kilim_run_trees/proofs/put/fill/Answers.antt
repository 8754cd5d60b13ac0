use Rattle.std.proofs.Common.{arith, ◌≡◌, ◌<◌, length, sym, ap, ◌∙◌, subst, get_or, ℕ, List}
use Rattle.std.specs.List.{AllByRecursion}
use Rattle.kilim_run_trees.specs.Walk.{field_refs, element_refs, renamed}
use Rattle.kilim_run_trees.specs.Moved.{at_places}
use Rattle.kilim_run_trees.proofs.Shaped.{all_parts}
use Rattle.kilim_run_trees.proofs.Filling.{fill_none, filled_more, refs_within, all_filled as all_done}
use Rattle.kilim_run_trees.proofs.put.fill.Goals as goal

pub loop-object-init : goal.loop-object-init
loop-object-init c = fill_none _ _ _ c.requires

pub rename_object-requires-clause-fields : goal.rename_object-requires-clause-fields
rename_object-requires-clause-fields c = subst (λ (ns : List ℕ). AllByRecursion (λ n. n < length ns) (field_refs c.in-Some.object.fields)) (sym c.as_slice.ensures.value) (all_parts (λ n. n < length c.args.places.now.items) (field_refs c.in-Some.object.fields) (element_refs c.in-Some.object.elements) (refs_within _ _ _ _ _ _ _ c.requires c.loop-object.invariant c.in-Some.ensures.items)).0

pub rename_object-requires-clause-elements : goal.rename_object-requires-clause-elements
rename_object-requires-clause-elements c = subst (λ (ns : List ℕ). AllByRecursion (λ n. n < length ns) (element_refs c.in-Some.object.elements)) (sym c.as_slice.ensures.value) (all_parts (λ n. n < length c.args.places.now.items) (field_refs c.in-Some.object.fields) (element_refs c.in-Some.object.elements) (refs_within _ _ _ _ _ _ _ c.requires c.loop-object.invariant c.in-Some.ensures.items)).1

pub loop-object-preserved : goal.loop-object-preserved
loop-object-preserved c =
    let new_is : renamed (at_places c.args.places.now.items) c.in-Some.object ≡ c.rename_object.new.object = ap (λ (ns : List ℕ). renamed (at_places ns) c.in-Some.object) (sym c.as_slice.ensures.value) ∙ c.rename_object.ensures in
    let place_is : c.index.result.now ≡ get_or c.args.places.now.items (length c.pop.new.self.items) c.index.result.now = c.index.ensures ∙ ap (λ k. get_or c.args.places.now.items k c.index.result.now) (c.len.ensures ∙ c.pop.new.self.ok.0) in
    filled_more _ _ _ _ _ _ _ _ _ _ c.index.result.now c.requires.once c.loop-object.invariant c.in-Some.ensures.items new_is place_is c.replace.ensures.left

pub returns : goal.returns
returns c = let none : length c.loop-object.objects.items ≡ 0 = omega (arith, c.in_default.ensures.cases.0, c.loop-object.objects.ok.0) in all_done _ _ _ _ c.loop-object.objects.items c.loop-object.invariant none
