-- The size of a tree.
use Rattle.std.proofs.lemmas.List.{length-reverse}
use Rattle.std.proofs.Common.{◌≡◌, ℕ, ◌+◌, ◌≤◌, List, [], ◌∷◌, ◌++◌, Some, length, refl, sym, ap, subst, ◌∙◌, arith, reverse, true, Bool}
use Rattle.std.specs.Prelude.{IsSome, Result, Ok, Err, is_ok, IfOk}
use Rattle.std.specs.FinMap.{get}
use Rattle.kilim_run_state.specs.declared.value.Object.{Object}
use Rattle.kilim_run_state.specs.Machine.{Objects}
use Rattle.kilim_run_state.specs.Shapes.{tree_limit}
use Rattle.kilim_run_trees.specs.Walk.{refs, Leads, AllThere}
use Rattle.kilim_run_trees.specs.Moved.{IsTooLarge}
use Rattle.kilim_run_trees.specs.Steps.{IsSize}
use Rattle.kilim_run_trees.proofs.Walks.{Met, met_none, met_more, leads_longer}
use Rattle.kilim_run_trees.proofs.Stacks.{pop_reversed, push_reversed}

pub met_at : (heap : Objects) (root at count : ℕ) (stack rest : List ℕ) → Met heap root (reverse stack) count → stack ≡ rest ++ at ∷ [] → Met heap root (at ∷ reverse rest) count
met_at heap root at count stack rest m e = subst (λ pending. Met heap root pending count) (pop_reversed stack rest at e) m

pub too_large : (heap : Objects) (root at count : ℕ) (stack rest : List ℕ) → Met heap root (reverse stack) count → stack ≡ rest ++ at ∷ [] → 65536 ≤ count + length rest → IsTooLarge heap root
unfolding tree_limit
too_large heap root at count stack rest m e full entries tree =
    let n = met_at heap root at count stack rest m e in
    let h = leads_longer heap (root ∷ []) n.entries entries at (reverse rest) n.leads n.are_in tree.leads tree.are_in in
    omega (arith, h, n.counted, full, length-reverse rest)

pub next_met : (heap : Objects) (root at count : ℕ) (stack rest same after : List ℕ) (o : Object) → Met heap root (reverse stack) count → stack ≡ rest ++ at ∷ [] → get heap at ≡ Some o → same ≡ rest → after ≡ same ++ reverse (refs o) → Met heap root (reverse after) (count + 1)
next_met heap root at count stack rest same after o m e g s a =
    let n = met_at heap root at count stack rest m e in
    subst (λ pending. Met heap root pending (count + 1)) (sym (push_reversed after rest (refs o) (a ∙ ap (λ s. s ++ reverse (refs o)) s))) (met_more heap root at (reverse rest) o count n g)

pub empty_of : (xs : List ℕ) → length xs ≡ 0 → xs ≡ []
empty_of [] e = refl
empty_of (x ∷ xs) e = absurd (omega arith)

pub size_of : (heap : Objects) (root count : ℕ) (stack : List ℕ) → Met heap root (reverse stack) count → length stack ≡ 0 → count ≤ 65536 → IsSize heap root count
unfolding tree_limit
size_of heap root count stack m e small =
    let none : reverse stack ≡ [] = ap reverse (empty_of stack e) in
    record { entries = m.entries; tree = record { leads = subst (Leads (root ∷ []) m.entries) none m.leads; are_in = m.are_in }; count = m.counted; small = small }

pub ok_then : {A E : Type 0} (r : Result A E) (P : Type 0) (b : Bool) → b ≡ is_ok r → b ≡ true → IfOk r (λ x. P) → P
ok_then (Ok x) P b e f p = p
ok_then (Err x) P b e f p = cc
