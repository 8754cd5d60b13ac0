use Rattle.std.proofs.Common.{◌≡◌, map, take}
use Rattle.kilim_link_spec.specs.World.{declared_method}
use Rattle.kilim_link_views.proofs.members.declared_methods.Given as goal

abbrev pub invariant-loop-method : goal.invariant-loop-method
invariant-loop-method l = l.methods ≡ map (declared_method l.file) (take l.method-index l.file.methods)
