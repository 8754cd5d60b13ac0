use Rattle.std.proofs.Common.{◌≡◌, ℕ, ◌∷◌, [], ◌++◌, Option, length, sym, subst}
use Rattle.kilim_link_inherited.specs.declared.node.Node.TheVariants.{Leaf}
use Rattle.kilim_link_inherited.specs.Trees.{Makes, HasOnly}
use Rattle.kilim_link_inherited.proofs.Putting.{ok_then, leaf_more}
use Rattle.kilim_link_inherited.proofs.put.leaf.Goals as goal

pub returns-in-Some : goal.returns-in-Some
returns-in-Some c =
    let old = c.args.nodes.now in
    let new = c.add.new.nodes in
    let key = c.args.key in
    ok_then c.add.result
    (λ (at : ℕ). (new ≡ old ++ Leaf key c.in-Some.value ∷ []) × (at ≡ length old))
    (λ (made : ℕ). Makes old new made × HasOnly new made key c.args.value)
    (λ at h. subst (λ (o : Option ℕ). Makes old new at × HasOnly new at key o) (sym c.in-Some.is) (leaf_more old new key c.in-Some.value at h.0 h.1 c.requires))
    c.add.ensures
