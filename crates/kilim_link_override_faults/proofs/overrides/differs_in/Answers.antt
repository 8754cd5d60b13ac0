use Rattle.std.specs.List.{list_any}
use Rattle.kilim_link_spec.specs.World.{declared_methods}
use Rattle.kilim_link_override_faults.specs.Parts.{other_differs, passes_at, differs_in}
use Rattle.kilim_link_override_faults.proofs.Places.{ok_as, differs_is}
use Rattle.kilim_link_override_faults.proofs.overrides.differs_in.Goals as goal

pub returns : goal.returns
returns c =
    ok_as c.differs_at_any.result
    (list_any (passes_at (other_differs c.args.world.now c.args.class c.args.method.now c.args.above) (declared_methods c.args.world.now c.args.above)) c.methods_named-places.result.now)
    (differs_in c.args.world.now c.args.class c.args.method.now c.args.above)
    (differs_is c.args.world.now c.args.class c.args.method.now c.args.above c.args.signature.now.name c.args.signature.now.descriptor c.methods_named-places.result.now c.requires.name c.requires.descriptor c.methods_named-places.ensures)
    c.differs_at_any.ensures
