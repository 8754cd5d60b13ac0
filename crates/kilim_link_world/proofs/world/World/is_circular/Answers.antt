use Rattle.std.proofs.Common.{◌≡◌, ◌<◌, ◌==◌, ℕ, Option, Some, length, sym, ap, ◌∙◌, arith}
use Rattle.std.specs.Prelude.{is_some}
use Rattle.std.specs.List.{list_any}
use Rattle.kilim_program.specs.declared.names.ClassId.{ClassId}
use Rattle.kilim_program.specs.Keeps.{line_above, superclass_of}
use Rattle.kilim_program.specs.Names.{class_at, line_of}
use Rattle.kilim_program.specs.Program.{Program}
use Rattle.kilim_link_spec.specs.Faults.{is_circular}
use Rattle.kilim_link_world.proofs.Climbing.{class_within}
use Rattle.kilim_link_world.proofs.Outlines.{length_outline}
use Rattle.kilim_link_world.proofs.world.World.is_circular.Goals as goal

pub returns-in-Some : goal.returns-in-Some
unfolding is_circular
returns-in-Some c =
    let w = c.self.inside in
    let class = c.args.class in
    let up = c.in-Some.up in
    let outline = c.args.self.now.outline in
    let same : w.parts.lines.outline ≡ outline = ap (λ v. v.outline) c.self.view_is in
    let is : superclass_of (class_at outline class) ≡ Some up = ap (λ (p : Program). superclass_of (class_at p class)) (sym c.outline.ensures) ∙ (sym c.superclass_of.ensures ∙ c.in-Some.is) in
    let within : class.0 < length w.parts.lines.outline.classes = class_within w.parts.lines.outline class up (ap (λ (p : Program). superclass_of (class_at p class)) same ∙ is) in
    let lt : class.0 < length w.classes = (let len = length_outline w.form w.classes w.parts.lines.outline c.self.invariant.outlined in omega arith) in
    c.is_some.ensures
    ∙ (ap (λ (o : Option ℕ). is_some o) c.find.ensures.found
    ∙ (c.self.invariant.lineages_are up class.0 lt
    ∙ (ap (λ (p : Program). list_any (λ d. d.0 == class.0) (line_of p up)) same
    ∙ ap (λ (o : Option ClassId). list_any (λ d. d.0 == class.0) (line_above outline o)) (sym is))))
