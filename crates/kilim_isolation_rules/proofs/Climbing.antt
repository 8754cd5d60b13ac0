-- Ways up known parents, and nodes by their numbers.
use Rattle.std.proofs.Common.{◌≡◌, ℕ, zero, suc, ◌+◌, ◌-◌, ◌<◌, Bool, true, false, ◌||◌, eqb, List, [], ◌∷◌, ◌++◌, Option, Some, None, refl, sym, ap, ◌∙◌, arith}
use Rattle.std.proofs.lemmas.Bool.Decides.{nat_tests}
use Rattle.kilim_isolation_graph.specs.declared.node.Label.{Label}
use Rattle.kilim_isolation_graph.specs.declared.node.Node.{Node}
use Rattle.kilim_isolation_graph.specs.Nodes.{listed}
use Rattle.kilim_isolation_graph.proofs.Lists.{listed_push}
use Rattle.kilim_isolation_rules.specs.Steps.{rises, climbs}

differs : (n k : ℕ) → (n ≡ k → ⊥) → eqb n k ≡ false
differs n k ne = grind (arith, nat_tests)

pub climb_more : (node : ℕ → Node) (left at to parent : ℕ) (label : Label) (known : Option (ℕ × Label)) (total : Bool) → 0 < left → (at ≡ to → ⊥) → known ≡ (node at).parent → known ≡ Some (parent, label) →
    climbs node left at to ≡ total → climbs node (left - 1) parent to ≡ total
climb_more node zero at to parent label known total lt ne known_is is so_far = absurd (omega arith)
climb_more node (suc k) at to parent label known total lt ne known_is is so_far =
    let one : suc k - 1 ≡ k = omega arith in
    ap (λ j. climbs node j parent to) one
    ∙ (sym (ap (λ b. b || rises (node at).parent (λ q. climbs node k q to)) (differs at to ne) ∙ ap (λ e. rises e (λ q. climbs node k q to)) (sym known_is ∙ is)) ∙ so_far)

pub listed_more : (node : ℕ → Node) (n : ℕ) (x : Node) (old new : List Node) → x ≡ node n → new ≡ old ++ x ∷ [] → old ≡ listed node n → new ≡ listed node (n + 1)
listed_more node n x old new x_is is so_far = is ∙ (ap (λ z. old ++ z ∷ []) x_is ∙ (ap (λ ns. ns ++ node n ∷ []) so_far ∙ sym (listed_push node n)))
