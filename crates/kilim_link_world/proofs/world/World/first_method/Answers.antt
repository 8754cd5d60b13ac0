use Rattle.std.proofs.Common.{ap, ◌∙◌}
use Rattle.kilim_link_spec.specs.World.{first_method}
use Rattle.kilim_link_world.specs.Agrees.{method_count}
use Rattle.kilim_link_world.proofs.Worlds.{first_is}
use Rattle.kilim_link_world.proofs.world.World.first_method.Goals as goal

pub returns : goal.returns
returns c =
    let w = c.self.inside in
    c.first_in.ensures
    ∙ (first_is method_count w.classes w.parts.members.first_methods c.args.class.0 c.self.invariant.first_methods_are
    ∙ ap (λ v. first_method v c.args.class) c.self.view_is)
