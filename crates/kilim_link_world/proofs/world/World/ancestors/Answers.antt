use Rattle.std.proofs.Common.{◌≡◌, List, Some, sym, ap, ◌∙◌, subst}
use Rattle.std.specs.Prelude.{IfOk}
use Rattle.kilim_program.specs.declared.names.ClassId.{ClassId}
use Rattle.kilim_program.specs.Keeps.{line_above, superclass_of}
use Rattle.kilim_program.specs.Names.{class_at, line_of}
use Rattle.kilim_program.specs.Program.{Program}
use Rattle.kilim_link_world.proofs.world.World.ancestors.Goals as goal

pub returns-in-Some : goal.returns-in-Some
returns-in-Some c =
    let outline = c.args.self.now.outline in
    let is : superclass_of (class_at outline c.args.class) ≡ Some c.in-Some.up = ap (λ (p : Program). superclass_of (class_at p c.args.class)) (sym c.outline.ensures) ∙ (sym c.superclass_of.ensures ∙ c.in-Some.is) in
    let line = ap (λ (p : Program). line_of p c.in-Some.up) c.outline-in-Some.ensures ∙ ap (line_above outline) (sym is) in
    subst (λ (ds : List ClassId). IfOk c.line.result (λ (l : List ClassId). l ≡ ds)) line c.line.ensures
