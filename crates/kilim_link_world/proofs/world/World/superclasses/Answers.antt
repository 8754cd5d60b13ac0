use Rattle.std.proofs.Common.{List, Option, length, sym, ap, ◌∙◌, subst}
use Rattle.kilim_program.specs.declared.names.ClassId.{ClassId}
use Rattle.kilim_link_world.specs.Superclasses.{AreSuperclasses}
use Rattle.kilim_link_world.proofs.Outlines.{length_outline}
use Rattle.kilim_link_world.proofs.world.World.superclasses.Goals as goal

pub returns-clause-are : goal.returns-clause-are
returns-clause-are c =
    let w = c.self.inside in
    subst (λ (ups : List (Option ClassId)). AreSuperclasses c.args.self.now.outline ups) (sym c.as_slice.ensures) (subst (λ v. AreSuperclasses v.outline w.parts.lines.superclasses) c.self.view_is c.self.invariant.superclasses_are)

pub returns-clause-counted : goal.returns-clause-counted
returns-clause-counted c =
    let w = c.self.inside in
    ap length c.as_slice.ensures
    ∙ (c.self.invariant.superclasses_are.one_each
    ∙ (length_outline w.form w.classes w.parts.lines.outline c.self.invariant.outlined
    ∙ ap (λ v. length v.classes) c.self.view_is))
