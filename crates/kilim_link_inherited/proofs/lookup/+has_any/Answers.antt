use Rattle.std.proofs.Common.{◌≡◌, ◌∙◌, sym, ap, Some, refl, inl, inr}
use Rattle.std.specs.List.{slice_get}
use Rattle.kilim_link_inherited.specs.declared.node.Node.TheVariants.{Leaf, Branch}
use Rattle.kilim_link_inherited.proofs.Some.{leaf_has, some_has}
use Rattle.kilim_link_inherited.proofs.lookup.+has_any.Goals as goal

pub returns-in-Some-Leaf-clause-some : goal.returns-in-Some-Leaf-clause-some
returns-in-Some-Leaf-clause-some t c = λ yes.
    let is : slice_get c.args.nodes.now c.args.tree ≡ Some (Leaf c.in-Some-Leaf.field-0-0 c.in-Some-Leaf.field-0-1) = sym c.in-Some-Leaf.ensures ∙ ap Some c.in-Some-Leaf.field-0-is in
    leaf_has c.args.nodes.now c.args.tree c.args.levels c.in-Some-Leaf.field-0-0 c.in-Some-Leaf.field-0-1 is

pub returns-then-has_any-clause-some : goal.returns-then-has_any-clause-some
returns-then-has_any-clause-some t c = λ yes.
    let is : slice_get c.args.nodes.now c.args.tree ≡ Some (Branch c.in-Some-Branch.even c.in-Some-Branch.odd) = sym c.in-Some-Branch.ensures ∙ ap Some c.in-Some-Branch.field-0-is in
    some_has c.args.nodes.now c.args.tree c.in-Some-Branch.even c.in-Some-Branch.odd is c.args.levels c.in-Some-Branch.even c.if-levels-gt0.true (inl refl) (c.has_any.ensures.some yes)

pub returns-else-has_any-clause-some : goal.returns-else-has_any-clause-some
returns-else-has_any-clause-some t c = λ yes.
    let is : slice_get c.args.nodes.now c.args.tree ≡ Some (Branch c.in-Some-Branch.even c.in-Some-Branch.odd) = sym c.in-Some-Branch.ensures ∙ ap Some c.in-Some-Branch.field-0-is in
    some_has c.args.nodes.now c.args.tree c.in-Some-Branch.even c.in-Some-Branch.odd is c.args.levels c.in-Some-Branch.odd c.if-levels-gt0.true (inr refl) (c.has_any-else-has_any.ensures.some yes)
