use Rattle.std.proofs.Common.{◌≡◌, ◌∙◌, sym, ap, ℕ, ◌/◌, List, Option, None, Some, rules}
use Rattle.std.specs.List.{slice_get}
use Rattle.kilim_link_inherited.specs.declared.node.Node.{Node}
use Rattle.kilim_link_inherited.specs.declared.node.Node.TheVariants.{Empty, Leaf, Branch}
use Rattle.kilim_link_inherited.proofs.Putting.{leaf_more, opens_branch, opens_nothing, opens_even, opens_odd, at_known}
use Rattle.kilim_link_inherited.proofs.put.opened.Goals as goal

-- what was found in the slice stands in the list
known : (now nodes : List Node) (tree : ℕ) (found : Option Node) → now ≡ nodes → found ≡ slice_get now tree → slice_get nodes tree ≡ found
known now nodes tree found same is = ap (λ (ns : List Node). slice_get ns tree) (sym same) ∙ sym is

pub returns-in-Some-Branch : goal.returns-in-Some-Branch
returns-in-Some-Branch c =
    let is : slice_get c.args.nodes.now c.args.tree ≡ Some (Branch c.in-Some-Branch.even c.in-Some-Branch.odd) = known _ _ _ _ c.as_slice.ensures c.in-Some-Branch.ensures ∙ ap Some c.in-Some-Branch.field-0-is in
    opens_branch c.args.nodes.now c.args.tree c.in-Some-Branch.even c.in-Some-Branch.odd c.requires is

pub returns-then-rest-eq0 : goal.returns-then-rest-eq0
returns-then-rest-eq0 c =
    let rest = c.in-Some-Leaf.rest in
    let value = c.in-Some-Leaf.value in
    let below = c.in-Ok.below in
    let is : slice_get c.args.nodes.now c.args.tree ≡ Some (Leaf rest value) = known _ _ _ _ c.as_slice.ensures c.in-Some-Leaf.ensures ∙ ap Some c.in-Some-Leaf.field-0-is in
    let made = leaf_more c.args.nodes.now c.add.new.nodes (rest / 2) value below c.in-Ok.ensures.0 c.in-Ok.ensures.1 c.requires in
    opens_even c.args.nodes.now c.add.new.nodes c.args.tree rest value below c.requires is made.0 made.1 (search rules)

pub returns-else-rest-eq0 : goal.returns-else-rest-eq0
returns-else-rest-eq0 c =
    let rest = c.in-Some-Leaf.rest in
    let value = c.in-Some-Leaf.value in
    let below = c.in-Ok.below in
    let is : slice_get c.args.nodes.now c.args.tree ≡ Some (Leaf rest value) = known _ _ _ _ c.as_slice.ensures c.in-Some-Leaf.ensures ∙ ap Some c.in-Some-Leaf.field-0-is in
    let made = leaf_more c.args.nodes.now c.add.new.nodes (rest / 2) value below c.in-Ok.ensures.0 c.in-Ok.ensures.1 c.requires in
    opens_odd c.args.nodes.now c.add.new.nodes c.args.tree rest value below c.requires is made.0 made.1 (search rules)

pub returns-in-Some-Empty : goal.returns-in-Some-Empty
returns-in-Some-Empty c =
    let is : slice_get c.args.nodes.now c.args.tree ≡ Some Empty = known _ _ _ _ c.as_slice.ensures c.in-Some-Empty.ensures ∙ ap Some c.in-Some-Empty.field-0-is in
    opens_nothing c.args.nodes.now c.args.tree c.requires (λ levels k. at_known c.args.nodes.now levels c.args.tree k (Some Empty) is)

pub returns-in-None : goal.returns-in-None
returns-in-None c =
    let is : slice_get c.args.nodes.now c.args.tree ≡ None = known _ _ _ _ c.as_slice.ensures c.in-None.ensures in
    opens_nothing c.args.nodes.now c.args.tree c.requires (λ levels k. at_known c.args.nodes.now levels c.args.tree k None is)
