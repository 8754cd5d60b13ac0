use Rattle.std.proofs.Common.{sym, ap, ◌∙◌}
use Rattle.std.specs.Prelude.{option_map}
use Rattle.kilim_program.specs.BuiltIn.{class_id}
use Rattle.kilim_link_spec.specs.World.{class_of}
use Rattle.kilim_link_world.proofs.Outlines.{class_named_is}
use Rattle.kilim_link_world.proofs.world.World.class_of.Goals as goal

pub returns : goal.returns
returns c =
    let w = c.self.inside in
    let name = c.args.name.now in
    c.class.ensures
    ∙ (ap (option_map class_id) (c.self.invariant.named name)
    ∙ (sym (class_named_is w.form w.classes w.parts.lines.outline name c.self.invariant.outlined)
    ∙ ap (λ v. class_of v name) c.self.view_is))
