use Rattle.std.proofs.Common.{ap, ◌∙◌}
use Rattle.std.specs.Prelude.{option_map}
use Rattle.kilim_link_spec.specs.World.{field_id, find_field}
use Rattle.kilim_link_world.proofs.world.World.find_field.Goals as goal

pub returns : goal.returns
returns c =
    let name = c.args.signature.now.name in
    let descriptor = c.args.signature.now.descriptor in
    c.field_of.ensures
    ∙ (ap (option_map field_id) c.find.ensures
    ∙ (c.self.invariant.nearest_fields_are c.args.class name descriptor
    ∙ ap (λ v. find_field v c.args.class name descriptor) c.self.view_is))
