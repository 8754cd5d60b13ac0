use Rattle.std.proofs.Common.{ap, ◌∙◌}
use Rattle.kilim_link_spec.specs.World.{declared_methods}
use Rattle.kilim_link_override_faults.specs.Parts.{is_so, other_differs, passes_at}
use Rattle.kilim_link_override_faults.proofs.Lookups.{got_as}
use Rattle.kilim_link_override_faults.proofs.Places.{ok_as}
use Rattle.kilim_link_override_faults.proofs.overrides.differs_at.Goals as goal

pub returns-in-Some : goal.returns-in-Some
returns-in-Some c =
    let w = c.args.world.now in
    let test = other_differs w c.args.class c.args.method.now c.args.above in
    ok_as c.differs.result (test c.in-Some.other.now) (passes_at test (declared_methods w c.args.above) c.args.place)
    (ap (is_so test) (got_as c.get.result _ (λ x. x.now) c.methods_of.result.now c.args.place c.in-Some.is c.get.ensures.lookup.3) ∙ ap (λ ms. passes_at test ms c.args.place) c.methods_of.ensures)
    c.differs.ensures

pub returns-in-None : goal.returns-in-None
returns-in-None c =
    let w = c.args.world.now in
    let test = other_differs w c.args.class c.args.method.now c.args.above in
    ap (is_so test) (got_as c.get.result _ (λ x. x.now) c.methods_of.result.now c.args.place c.in-None.is c.get.ensures.lookup.3) ∙ ap (λ ms. passes_at test ms c.args.place) c.methods_of.ensures
