use Rattle.std.proofs.Common.{ap, ◌∙◌}
use Rattle.std.specs.Prelude.{option_map}
use Rattle.kilim_program.specs.BuiltIn.{method_id}
use Rattle.kilim_link_spec.specs.World.{find_method}
use Rattle.kilim_link_world.proofs.world.World.find_method.Goals as goal

pub returns : goal.returns
returns c =
    let name = c.args.signature.now.name in
    let descriptor = c.args.signature.now.descriptor in
    c.method_of.ensures
    ∙ (ap (option_map method_id) c.find.ensures
    ∙ (c.self.invariant.nearest_methods_are c.args.class name descriptor
    ∙ ap (λ v. find_method v c.args.class name descriptor) c.self.view_is))
