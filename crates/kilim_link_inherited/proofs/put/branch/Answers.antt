use Rattle.std.proofs.Common.{◌≡◌, ℕ, ◌∷◌, [], ◌++◌, length}
use Rattle.kilim_link_inherited.specs.declared.node.Node.TheVariants.{Branch}
use Rattle.kilim_link_inherited.specs.Trees.{Makes, Joins}
use Rattle.kilim_link_inherited.proofs.Putting.{ok_then, branch_more}
use Rattle.kilim_link_inherited.proofs.put.branch.Goals as goal

pub returns-else-even-eq0 : goal.returns-else-even-eq0
returns-else-even-eq0 c =
    let old = c.args.nodes.now in
    let new = c.add.new.nodes in
    let even = c.args.even in
    let odd = c.args.odd in
    ok_then c.add.result
    (λ (at : ℕ). (new ≡ old ++ Branch even odd ∷ []) × (at ≡ length old))
    (λ (made : ℕ). Makes old new made × Joins old new even odd made)
    (λ at h. branch_more old new even odd at h.0 h.1 c.requires.table c.requires.even c.requires.odd)
    c.add.ensures
