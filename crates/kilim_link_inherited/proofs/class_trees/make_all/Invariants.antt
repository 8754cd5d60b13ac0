use Rattle.kilim_link_inherited.specs.Roots.{Keeps, MadeBelow, Sound}
use Rattle.kilim_link_inherited.proofs.class_trees.make_all.Given as goal

abbrev pub invariant-loop-place : goal.invariant-loop-place
invariant-loop-place l = record {
  sound : Sound l.ups l.entries l.nodes l.roots;
  kept : Keeps l.fn.roots l.roots;
  made : MadeBelow l.place l.roots;
}
