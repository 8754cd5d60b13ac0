use Rattle.std.proofs.Common.{◌≡◌, List, Option, map, ap, ◌∙◌, subst}
use Rattle.std.specs.Prelude.{IfOk}
use Rattle.kilim_program.specs.declared.class.Class.{Class}
use Rattle.kilim_program.specs.declared.names.ClassId.{ClassId}
use Rattle.kilim_program.specs.Program.{Program}
use Rattle.kilim_link_world.proofs.Climbing.{superclasses_ok}
use Rattle.kilim_link_world.proofs.outline.Outline.superclasses.Goals as goal

pub returns : goal.returns
returns c =
    let listed = c.as_slice.ensures ∙ ap (λ (p : Program). p.classes) c.self.view_is in
    superclasses_ok c.args.self.now c.superclasses_of.result
    (subst (λ (cs : List Class). IfOk c.superclasses_of.result (λ (ups : List (Option ClassId)). ups ≡ map (λ class. class.superclass) cs)) listed c.superclasses_of.ensures)
