use Rattle.std.proofs.Common.{arith, ◌≡◌, length}
use Rattle.kilim_run_trees.proofs.Blanks.{free_blank, last_there, blank_over}
use Rattle.kilim_run_trees.proofs.put.free_all.Goals as goal

pub loop-at-init : goal.loop-at-init
loop-at-init c = record { was = c.requires; each = λ base b. b }

pub remove-requires : goal.remove-requires
remove-requires c = last_there _ _ _ _ _ c.loop-at.invariant.was.1 c.in-Some.ensures.items

pub loop-at-preserved : goal.loop-at-preserved
loop-at-preserved c = record {
  was = (c.loop-at.invariant.was.0, free_blank _ _ _ _ _ _ c.loop-at.invariant.was.1 c.in-Some.ensures.items c.remove.ensures.left);
  each = λ base b. free_blank _ _ _ _ _ _ (c.loop-at.invariant.each base b) c.in-Some.ensures.items c.remove.ensures.left;
}

pub returns : goal.returns
returns c base b =
    let none : length c.loop-at.places.items ≡ 0 = omega (arith, c.in_default.ensures.cases.0, c.loop-at.places.ok.0) in
    blank_over base _ c.loop-at.places.items none (c.loop-at.invariant.each base b)
