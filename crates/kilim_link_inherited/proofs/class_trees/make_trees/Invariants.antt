use Rattle.kilim_link_inherited.specs.Roots.{Keeps, Sound}
use Rattle.kilim_link_inherited.proofs.class_trees.make_trees.Given as goal

abbrev pub invariant-loop-class : goal.invariant-loop-class
invariant-loop-class l = record {
  sound : Sound l.ups l.entries l.nodes l.roots;
  kept : Keeps l.fn.roots l.roots;
}
