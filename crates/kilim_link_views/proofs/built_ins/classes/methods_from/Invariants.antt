use Rattle.std.proofs.Common.{◌≡◌, take}
use Rattle.kilim_program.specs.BuiltIn.{methods_from}
use Rattle.kilim_link_views.proofs.built_ins.classes.methods_from.Given as goal

abbrev pub invariant-loop-distance : goal.invariant-loop-distance
invariant-loop-distance l = l.ids ≡ methods_from l.first (take l.distance-index l.distances)
