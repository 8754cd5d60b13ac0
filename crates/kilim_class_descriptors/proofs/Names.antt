-- A step of the loop that looks for the end of a name.
use Rattle.std.proofs.Common.{◌≡◌, ℕ, suc, ◌+◌, ◌<◌, Bool, List, [], ◌∷◌, ◌++◌, length, get_or, take, drop, Option, Some, None, refl, sym, ap, ◌∙◌, append_assoc, arith, drop-cons}
use Rattle.std.specs.Prelude.{if◌then◌else◌}
use Rattle.std.proofs.lemmas.Bool.{ne_eqb}
use Rattle.std.proofs.lemmas.List.{take_more}
use Rattle.kilim_class_descriptors.specs.Reading.{split_name, with_unit}
use Rattle.kilim_class_descriptors.proofs.Steps.{name_behind}

one_behind : (front : List ℕ) (u : ℕ) (read : Option (List ℕ × List ℕ)) → name_behind (front ++ u ∷ []) read ≡ name_behind front (with_unit u read)
one_behind front u None = refl
one_behind front u (Some x) = ap (λ (us : List ℕ). Some (us, x.1)) (append_assoc front (u ∷ []) x.0)

no_end : (u : ℕ) (us : List ℕ) → (u ≡ 59 → ⊥) → split_name (u ∷ us) ≡ with_unit u (split_name us)
no_end u us differs = ap (λ (b : Bool). if b then Some ([], us) else with_unit u (split_name us)) (ne_eqb u 59 differs)

pub goes_on : (us : List ℕ) (i : ℕ) {total : Option (List ℕ × List ℕ)} → i < length us → (get_or us i 0 ≡ 59 → ⊥) → name_behind (take i us) (split_name (drop i us)) ≡ total
    → name_behind (take (i + 1) us) (split_name (drop (i + 1) us)) ≡ total
goes_on us i lt differs so_far =
    let n : suc i ≡ i + 1 = omega arith in
    let rest = drop (i + 1) us in
    let here : drop i us ≡ get_or us i 0 ∷ rest = drop-cons us i 0 lt ∙ ap (λ (k : ℕ). get_or us i 0 ∷ drop k us) n in
    ap (λ front. name_behind front (split_name rest)) (take_more us i 0 lt)
    ∙ (one_behind (take i us) (get_or us i 0) (split_name rest)
    ∙ (ap (name_behind (take i us)) (sym (ap split_name here ∙ no_end (get_or us i 0) rest differs)) ∙ so_far))
