-- Loops that ask each word, by what is left.
use Rattle.std.proofs.Common.{◌≡◌, ℕ, suc, ◌+◌, ◌<◌, ◌≤◌, Bool, true, false, ◌&&◌, List, ◌∷◌, length, get_or, map, drop, refl, sym, ap, ◌∙◌, arith}
use Rattle.std.specs.List.{list_all}
use Rattle.std.proofs.lemmas.List.{drop_all, drop_more}
use Rattle.kilim_command.specs.grammar.Words.{count_hyphened, count_plain, is_hyphened}

-- a test of what each is mapped to
module _ {X A : Type 0} (f : X → A) (test : A → Bool) (xs : List X) (i : ℕ) where
  module _ (x : X) (shown : A) (b : Bool) (lt : i < length xs) (is : x ≡ get_or xs i x) (same : shown ≡ f x) (answers : b ≡ test shown) (so_far : list_all test (map f (drop i xs)) ≡ list_all test (map f xs)) where
    mapped_here : (b && list_all test (map f (drop (i + 1) xs))) ≡ list_all test (map f xs)
    mapped_here =
        ap (λ (c : Bool). c && list_all test (map f (drop (i + 1) xs))) (answers ∙ (ap test same ∙ ap (λ (y : X). test (f y)) is))
        ∙ (sym (ap (λ (ys : List X). list_all test (map f ys)) (drop_more xs i x lt)) ∙ so_far)

    pub mapped_holds : b ≡ true → list_all test (map f (drop (i + 1) xs)) ≡ list_all test (map f xs)
    mapped_holds e = ap (λ (c : Bool). c && list_all test (map f (drop (i + 1) xs))) (sym e) ∙ mapped_here

    pub mapped_fails : b ≡ false → false ≡ list_all test (map f xs)
    mapped_fails e = ap (λ (c : Bool). c && list_all test (map f (drop (i + 1) xs))) (sym e) ∙ mapped_here

  pub mapped_all : length xs ≤ i → list_all test (map f (drop i xs)) ≡ list_all test (map f xs) → true ≡ list_all test (map f xs)
  mapped_all le so_far = sym (ap (λ (ys : List X). list_all test (map f ys)) (drop_all i xs le)) ∙ so_far

-- a test of each
module _ {X : Type 0} (test : X → Bool) (xs : List X) (i : ℕ) where
  module _ (x : X) (b : Bool) (lt : i < length xs) (is : x ≡ get_or xs i x) (answers : b ≡ test x) (so_far : list_all test (drop i xs) ≡ list_all test xs) where
    here : (b && list_all test (drop (i + 1) xs)) ≡ list_all test xs
    here = ap (λ (c : Bool). c && list_all test (drop (i + 1) xs)) (answers ∙ ap test is) ∙ (sym (ap (list_all test) (drop_more xs i x lt)) ∙ so_far)

    pub holds : b ≡ true → list_all test (drop (i + 1) xs) ≡ list_all test xs
    holds e = ap (λ (c : Bool). c && list_all test (drop (i + 1) xs)) (sym e) ∙ here

    pub fails : b ≡ false → false ≡ list_all test xs
    fails e = ap (λ (c : Bool). c && list_all test (drop (i + 1) xs)) (sym e) ∙ here

  pub held_all : length xs ≤ i → list_all test (drop i xs) ≡ list_all test xs → true ≡ list_all test xs
  held_all le so_far = sym (ap (list_all test) (drop_all i xs le)) ∙ so_far

-- ---- how many words stand first that begin with a hyphen, and how many that don't

hyphened_more : (w : List ℕ) (ws : List (List ℕ)) → is_hyphened w ≡ true → count_hyphened (w ∷ ws) ≡ suc (count_hyphened ws)
hyphened_more w ws e = rw e refl

hyphened_none : (w : List ℕ) (ws : List (List ℕ)) → is_hyphened w ≡ false → count_hyphened (w ∷ ws) ≡ 0
hyphened_none w ws e = rw e refl

plain_more : (w : List ℕ) (ws : List (List ℕ)) → is_hyphened w ≡ false → count_plain (w ∷ ws) ≡ suc (count_plain ws)
plain_more w ws e = rw e refl

plain_none : (w : List ℕ) (ws : List (List ℕ)) → is_hyphened w ≡ true → count_plain (w ∷ ws) ≡ 0
plain_none w ws e = rw e refl

module _ {X : Type 0} (f : X → List ℕ) (xs : List X) (i : ℕ) where
  module _ (x : X) (shown : List ℕ) (b : Bool) (lt : i < length xs) (is : x ≡ get_or xs i x) (same : shown ≡ f x) (answers : b ≡ is_hyphened shown) where
    tested : is_hyphened (f (get_or xs i x)) ≡ b
    tested = sym (answers ∙ (ap is_hyphened same ∙ ap (λ (y : X). is_hyphened (f y)) is))

    pub hyphened_on : b ≡ true → i + count_hyphened (map f (drop i xs)) ≡ count_hyphened (map f xs) → i + 1 + count_hyphened (map f (drop (i + 1) xs)) ≡ count_hyphened (map f xs)
    hyphened_on e so_far =
        let more : count_hyphened (map f (drop i xs)) ≡ suc (count_hyphened (map f (drop (i + 1) xs))) =
        ap (λ (ys : List X). count_hyphened (map f ys)) (drop_more xs i x lt) ∙ hyphened_more (f (get_or xs i x)) (map f (drop (i + 1) xs)) (tested ∙ e) in
        omega (arith, more, so_far)

    pub hyphened_here : b ≡ false → i + count_hyphened (map f (drop i xs)) ≡ count_hyphened (map f xs) → i ≡ count_hyphened (map f xs)
    hyphened_here e so_far =
        let none : count_hyphened (map f (drop i xs)) ≡ 0 = ap (λ (ys : List X). count_hyphened (map f ys)) (drop_more xs i x lt) ∙ hyphened_none (f (get_or xs i x)) (map f (drop (i + 1) xs)) (tested ∙ e) in
        omega (arith, none, so_far)

    pub plain_on : b ≡ false → i + count_plain (map f (drop i xs)) ≡ count_plain (map f xs) → i + 1 + count_plain (map f (drop (i + 1) xs)) ≡ count_plain (map f xs)
    plain_on e so_far =
        let more : count_plain (map f (drop i xs)) ≡ suc (count_plain (map f (drop (i + 1) xs))) =
        ap (λ (ys : List X). count_plain (map f ys)) (drop_more xs i x lt) ∙ plain_more (f (get_or xs i x)) (map f (drop (i + 1) xs)) (tested ∙ e) in
        omega (arith, more, so_far)

    pub plain_here : b ≡ true → i + count_plain (map f (drop i xs)) ≡ count_plain (map f xs) → i ≡ count_plain (map f xs)
    plain_here e so_far =
        let none : count_plain (map f (drop i xs)) ≡ 0 = ap (λ (ys : List X). count_plain (map f ys)) (drop_more xs i x lt) ∙ plain_none (f (get_or xs i x)) (map f (drop (i + 1) xs)) (tested ∙ e) in
        omega (arith, none, so_far)
