use Rattle.std.proofs.Common.{◌≡◌, map, take}
use Rattle.std.specs.List.{filter_map}
use Rattle.kilim_program.specs.Names.{method_at}
use Rattle.kilim_link_spec.specs.World.{declared_built_in}
use Rattle.kilim_link_views.proofs.built_in.declared_methods.Given as goal

abbrev pub invariant-loop-id : goal.invariant-loop-id
invariant-loop-id l = l.methods ≡ map (declared_built_in l.program) (filter_map (method_at l.program) (take l.id-index l.ids))
