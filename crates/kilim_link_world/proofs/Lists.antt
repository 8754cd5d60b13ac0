-- Lists that grow at their end.
use Rattle.std.proofs.Common.{◌≡◌, ℕ, zero, suc, ◌+◌, Bool, true, false, cond, List, [], ◌∷◌, ◌++◌, length, take, Option, Some, None, refl, sym, ap, ◌∙◌, arith, append-nil}
use Rattle.std.specs.Prelude.{if◌then◌else◌, slice_get}
use Rattle.std.specs.List.{position_from}
use Rattle.std.proofs.lemmas.Option.{slice_get_within, same_Some}
use Rattle.std.proofs.lemmas.List.{length-take}
use Rattle.kilim_lemmas.proofs.Lists.{take_next}
use Rattle.kilim_link_spec.specs.World.{or_else}
use Rattle.kilim_link_inherited.specs.Index.{places_from}

pub or_none : {A : Type 0} (o : Option A) → o ≡ or_else o None
or_none None = refl
or_none (Some x) = refl

module _ {A : Type 0} (test : A → Bool) (x : A) where
  first_or : (found : Bool) (k : ℕ) (others more : Option ℕ) (last : Option ℕ) → more ≡ or_else others last → cond found (Some k) more ≡ or_else (cond found (Some k) others) last
  first_or true k others more last e = refl
  first_or false k others more last e = e

  -- the first one, or the new one
  pub position_more : (k : ℕ) (xs : List A) → position_from test k (xs ++ x ∷ []) ≡ or_else (position_from test k xs) (if test x then Some (k + length xs) else None)
  position_more k [] = ap (λ (n : ℕ). if test x then Some n else None) (omega arith)
  position_more k (y ∷ xs) = first_or (test y) k (position_from test (k + 1) xs) (position_from test (k + 1) (xs ++ x ∷ [])) (if test x then Some (k + suc (length xs)) else None)
      (position_more (k + 1) xs ∙ ap (λ (n : ℕ). or_else (position_from test (k + 1) xs) (if test x then Some n else None)) (omega arith))

  add_first : (found : Bool) (k : ℕ) (more others last : List ℕ) → more ≡ others ++ last → (if found then k ∷ more else more) ≡ (if found then k ∷ others else others) ++ last
  add_first true k more others last e = ap (λ ns. k ∷ ns) e
  add_first false k more others last e = e

  -- all of them, and the new one
  pub places_more : (k : ℕ) (xs : List A) → places_from test k (xs ++ x ∷ []) ≡ places_from test k xs ++ (if test x then (k + length xs) ∷ [] else [])
  places_more k [] = ap (λ (n : ℕ). if test x then n ∷ [] else []) (omega arith)
  places_more k (y ∷ xs) = add_first (test y) k (places_from test (k + 1) (xs ++ x ∷ [])) (places_from test (k + 1) xs) (if test x then (k + suc (length xs)) ∷ [] else [])
      (places_more (k + 1) xs ∙ ap (λ (n : ℕ). places_from test (k + 1) xs ++ (if test x then n ∷ [] else [])) (omega arith))

-- the same of the first elements of a list, where each is at its place
module _ {A : Type 0} (test : A → Bool) (xs : List A) (i : ℕ) (x : A) (is : slice_get xs i ≡ Some x) where
  len_is : 0 + length (take i xs) ≡ i
  len_is = let lt = slice_get_within xs i x is in let len = length-take i xs in omega arith

  pub position_next : position_from test 0 (take (i + 1) xs) ≡ or_else (position_from test 0 (take i xs)) (if test x then Some i else None)
  position_next =
      ap (position_from test 0) (take_next xs i x is) ∙ (position_more test x 0 (take i xs) ∙ ap (λ (n : ℕ). or_else (position_from test 0 (take i xs)) (if test x then Some n else None)) len_is)

  pub places_next : places_from test 0 (take (i + 1) xs) ≡ places_from test 0 (take i xs) ++ (if test x then i ∷ [] else [])
  places_next =
      ap (places_from test 0) (take_next xs i x is) ∙ (places_more test x 0 (take i xs) ∙ ap (λ (n : ℕ). places_from test 0 (take i xs) ++ (if test x then n ∷ [] else [])) len_is)

  chosen : (b : Bool) (before : List ℕ) → (if b then before ++ i ∷ [] else before) ≡ before ++ (if b then i ∷ [] else [])
  chosen true before = refl
  chosen false before = sym (append-nil before)

  -- one more place, where the next one passes
  pub index_next : (b : Bool) (before : List ℕ) → before ≡ places_from test 0 (take i xs) → b ≡ test x → (if b then before ++ i ∷ [] else before) ≡ places_from test 0 (take (i + 1) xs)
  index_next b before are passes =
      chosen b before
      ∙ (ap (λ (ns : List ℕ). ns ++ (if b then i ∷ [] else [])) are
      ∙ (ap (λ (found : Bool). places_from test 0 (take i xs) ++ (if found then i ∷ [] else [])) passes ∙ sym places_next))
