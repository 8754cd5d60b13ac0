use Rattle.std.proofs.Common.{◌≡◌, map, take}
use Rattle.kilim_link_spec.specs.World.{view_of_built_in}
use Rattle.kilim_link_views.proofs.built_in.views_of.Given as goal

abbrev pub invariant-loop-class : goal.invariant-loop-class
invariant-loop-class l = l.views ≡ map (view_of_built_in l.program) (take l.class-index l.program.classes)
