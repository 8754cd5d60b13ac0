use Rattle.std.proofs.Common.{ap, ◌∙◌}
use Rattle.kilim_link_spec.specs.World.{first_field}
use Rattle.kilim_link_world.proofs.Worlds.{first_field_is}
use Rattle.kilim_link_world.proofs.world.World.first_field.Goals as goal

pub returns : goal.returns
returns c =
    let w = c.self.inside in
    c.first_in.ensures
    ∙ (first_field_is w.classes w.parts.members.first_fields c.args.class.0 c.self.invariant.first_fields_are
    ∙ ap (λ v. first_field v c.args.class) c.self.view_is)
