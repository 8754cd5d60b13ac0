-- Loops over the elements of a list.
use Rattle.std.proofs.Common.{◌≡◌, ℕ, suc, ◌+◌, ◌<◌, ◌≤◌, Bool, true, false, ◌||◌, List, [], ◌∷◌, ◌++◌, length, get_or, map, take, drop, drop-cons, take-suc, add-one, append_assoc, sym, ap, ◌∙◌, zero, arith}
use Rattle.std.specs.List.{flat_map, list_any}
use Rattle.std.proofs.lemmas.List.{append-nil, drop_all}
use Rattle.kilim_lemmas.proofs.Walks.{next_text}

pub mapped_ahead : {X A : Type 0} (f : X → A) (now next whole : List A) (xs : List X) (i : ℕ) (x d : X) (y : A) → i < length xs → x ≡ get_or xs i d → now ++ map f (drop i xs) ≡ whole → y ≡ f x
    → next ≡ now ++ y ∷ [] → next ++ map f (drop (i + 1) xs) ≡ whole
mapped_ahead {X = X} {A = A} f now next whole xs i x d y lt is so_far made step =
    let rest : List A = map f (drop (suc i) xs) in
    rw add-one
    (ap (λ (t : List A). t ++ rest) step
    ∙ (append_assoc now (y ∷ []) rest
    ∙ (ap (λ (z : A). now ++ (z ∷ rest)) (made ∙ ap f is) ∙ (ap (λ (ys : List X). now ++ map f ys) (sym (drop-cons xs i d lt)) ∙ so_far))))

pub joined : {X A : Type 0} (f : X → List A) (now next : List A) (xs : List X) (i : ℕ) (d : X) → i < length xs → now ≡ flat_map f (take i xs) → next ≡ now ++ f (get_or xs i d) → next ≡ flat_map f (take (i + 1) xs)
joined {A = A} f now next xs i d lt so_far step = rw add-one (step ∙ (ap (λ (t : List A). t ++ f (get_or xs i d)) so_far ∙ next_text f xs i d lt))

pub copied : (now next xs : List ℕ) (i x : ℕ) → i < length xs → x ≡ get_or xs i 0 → now ≡ take i xs → next ≡ now ++ x ∷ [] → next ≡ take (i + 1) xs
copied now next xs i x lt is so_far step =
    rw add-one (step ∙ (ap (λ (t : List ℕ). t ++ x ∷ []) so_far ∙ (ap (λ (y : ℕ). take i xs ++ y ∷ []) is ∙ sym (take-suc xs i 0 lt))))

-- ---- whether one passes a test

module _ {A : Type 0} (test : A → Bool) (xs : List A) (i : ℕ) (d : A) {whole : Bool} (b : Bool) (lt : i < length xs) (answers : b ≡ test (get_or xs i d)) (so_far : list_any test (drop i xs) ≡ whole) where
  here : (b || list_any test (drop (suc i) xs)) ≡ whole
  here = ap (λ (c : Bool). c || list_any test (drop (suc i) xs)) answers ∙ (sym (ap (list_any test) (drop-cons xs i d lt)) ∙ so_far)

  pub found_at : b ≡ true → true ≡ whole
  found_at t = ap (λ (c : Bool). c || list_any test (drop (suc i) xs)) (sym t) ∙ here

  pub passed_at : b ≡ false → list_any test (drop (i + 1) xs) ≡ whole
  passed_at t = rw add-one (ap (λ (c : Bool). c || list_any test (drop (suc i) xs)) (sym t) ∙ here)
