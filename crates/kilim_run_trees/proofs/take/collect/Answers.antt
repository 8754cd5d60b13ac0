use Rattle.std.proofs.Common.{arith, ◌∙◌, refl}
use Rattle.kilim_run_trees.proofs.Taking.{takes_first, taken_next, there_next, room_next}
use Rattle.kilim_run_trees.proofs.take.collect.Goals as goal

pub loop-at-init : goal.loop-at-init
loop-at-init c = record { taking = takes_first _ _ _ _ _ _ _ _ c.requires.tree c.requires.no_stack c.push_reserved.ensures.items c.requires.no_objects c.push_reserved.ensures.capacity; capacity = refl }

pub remove-object-requires : goal.remove-object-requires
remove-object-requires c = there_next _ _ _ _ _ _ _ _ _ c.loop-at.invariant.taking c.in-Some.ensures.items

pub push_refs-requires : goal.push_refs-requires
push_refs-requires c = let h = (room_next _ _ _ _ _ _ _ _ _ _ c.loop-at.invariant.taking c.in-Some.ensures.items c.remove-object.ensures.object).1 in omega (arith, h, c.pop.ensures.capacity, c.pop.new.self.ok.0)

pub push_reserved-requires-in-Some : goal.push_reserved-requires-in-Some
push_reserved-requires-in-Some c = let h = (room_next _ _ _ _ _ _ _ _ _ _ c.loop-at.invariant.taking c.in-Some.ensures.items c.remove-object.ensures.object).0 in omega (arith, h, c.loop-at.objects.ok.0)

pub loop-at-preserved : goal.loop-at-preserved
loop-at-preserved c = record {
  taking = taken_next _ _ _ _ _ _ _ _ _ _ _ _ _ _ _ c.loop-at.invariant.taking c.in-Some.ensures.items c.remove-object.ensures.object c.remove-object.ensures.left c.push_refs.ensures.items c.push_reserved-in-Some.ensures.items c.push_reserved-in-Some.ensures.capacity (c.push_refs.ensures.capacity ∙ c.pop.ensures.capacity);
  capacity = c.push_refs.ensures.capacity ∙ (c.pop.ensures.capacity ∙ c.loop-at.invariant.capacity);
}
