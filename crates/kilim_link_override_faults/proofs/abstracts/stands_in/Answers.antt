use Rattle.std.proofs.Common.{◌∙◌}
use Rattle.kilim_link_override_faults.proofs.Places.{stands_is}
use Rattle.kilim_link_override_faults.proofs.abstracts.stands_in.Goals as goal

pub returns : goal.returns
returns c =
    c.is_shared_at_any.ensures
    ∙ stands_is c.args.world.now c.args.class c.args.signature.now.name c.args.signature.now.descriptor c.methods_of.result.now c.methods_named-places.result.now c.methods_of.ensures c.methods_named-places.ensures
