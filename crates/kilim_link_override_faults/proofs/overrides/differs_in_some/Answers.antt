use Rattle.std.proofs.Common.{◌∙◌}
use Rattle.std.specs.List.{list_any}
use Rattle.kilim_link_spec.specs.Faults.{differs_from, inherited}
use Rattle.kilim_link_override_faults.specs.Parts.{differs_in}
use Rattle.kilim_link_override_faults.proofs.Places.{ok_as, differs_above}
use Rattle.kilim_link_override_faults.proofs.overrides.differs_in_some.Goals as goal

pub returns : goal.returns
returns c =
    let w = c.args.world.now in
    let m = c.args.method.now in
    let ancestors = c.as_slice.result.now in
    ok_as c.differs_in_any.result (list_any (differs_in w c.args.class m) ancestors) (list_any (differs_from w c.args.class m) (inherited w c.args.class))
    (differs_above w c.args.class m ancestors (c.as_slice.ensures ∙ c.in_ok-ancestors.ensures)) c.differs_in_any.ensures
