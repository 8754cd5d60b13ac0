use Rattle.std.proofs.Common.{arith, length, sym, ap, subst, length-append, ◌∷◌, []}
use Rattle.kilim_run_state.specs.Machine.{Objects}
use Rattle.kilim_run_trees.specs.Steps.{Blanked}
use Rattle.kilim_run_trees.proofs.Blanks.{add_blank}
use Rattle.kilim_run_trees.proofs.put.new_places.Goals as goal

pub free_all-requires : goal.free_all-requires
free_all-requires c = (c.args.heap.now, subst (λ (h : Objects). Blanked c.args.heap.now h c.loop-k.places.items) (sym c.in-Err.ensures.err.1) c.loop-k.invariant.blanked)

pub returns-in-Err-clause-none : goal.returns-in-Err-clause-none
returns-in-Err-clause-none c = c.free_all.ensures c.args.heap.now (subst (λ (h : Objects). Blanked c.args.heap.now h c.loop-k.places.items) (sym c.in-Err.ensures.err.1) c.loop-k.invariant.blanked)

pub loop-k-preserved : goal.loop-k-preserved
loop-k-preserved c = record {
  blanked = add_blank _ _ _ _ _ _ _ c.loop-k.invariant.blanked c.in-Ok-add.ensures.ok.0 c.in-Ok-add.ensures.ok.1 c.push_reserved.ensures.items;
  counted = omega (arith, c.loop-k.invariant.counted, ap length c.push_reserved.ensures.items, length-append c.loop-k.places.items (c.in-Ok-add.at ∷ []));
  room = omega (arith, c.loop-k.invariant.room, c.push_reserved.ensures.capacity);
}
