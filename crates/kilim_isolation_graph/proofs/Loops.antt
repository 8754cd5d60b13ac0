-- Loops that append something for each element, and loops that look for a number, by what is done.
use Rattle.std.proofs.Common.{◌≡◌, ℕ, suc, ◌+◌, ◌<◌, ◌≤◌, ◌||◌, Bool, if◌then◌else◌, List, [], ◌∷◌, ◌++◌, length, drop, get_or, map, take, sym, ap, ◌∙◌}
use Rattle.std.proofs.lemmas.Bool.{ne_eqb}
use Rattle.std.proofs.lemmas.List.{drop_more, map_more, take_all}
use Rattle.kilim_isolation_graph.specs.Canonical.{index_of, is_among}

pub mapped : {X A : Type 0} (f : X → A) (now next : List A) (xs : List X) (i : ℕ) (d : X) (y : A) → i < length xs → now ≡ map f (take i xs) → y ≡ f (get_or xs i d) → next ≡ now ++ y ∷ [] → next ≡ map f (take (i + 1) xs)
mapped f now next xs i d y lt so_far made step =
    step ∙ (ap (λ z. now ++ z ∷ []) made ∙ (ap (λ zs. zs ++ f (get_or xs i d) ∷ []) so_far ∙ sym (map_more f xs i d lt)))

pub mapped_all : {X A : Type 0} (f : X → A) (now : List A) (xs : List X) (i : ℕ) → length xs ≤ i → now ≡ map f (take i xs) → now ≡ map f xs
mapped_all f now xs i le so_far = so_far ∙ ap (map f) (take_all i xs le)

pub among_on : (xs : List ℕ) (k d n : ℕ) → k < length xs → (get_or xs k d ≡ n → ⊥) → is_among n (drop (k + 1) xs) ≡ is_among n (drop k xs)
among_on xs k d n lt other = sym (ap (is_among n) (drop_more xs k d lt) ∙ ap (λ (b : Bool). b || is_among n (drop (k + 1) xs)) (ne_eqb (get_or xs k d) n other))

pub index_on : (xs : List ℕ) (k d n : ℕ) → k < length xs → (get_or xs k d ≡ n → ⊥) → index_of n (drop k xs) ≡ suc (index_of n (drop (k + 1) xs))
index_on xs k d n lt other = ap (index_of n) (drop_more xs k d lt) ∙ ap (λ (b : Bool). if b then 0 else suc (index_of n (drop (k + 1) xs))) (ne_eqb (get_or xs k d) n other)
