-- Lists that are made of the numbers below a bound.
use Rattle.std.proofs.Common.{◌≡◌, ℕ, zero, suc, ◌+◌, ◌<◌, List, [], ◌∷◌, ◌++◌, length, Some, refl, ap, ◌∙◌, inl, inr, arith, length-append}
use Rattle.std.specs.Prelude.{slice_get}
use Rattle.std.proofs.lemmas.Bool.{cases_lt}
use Rattle.kilim_lemmas.proofs.Lists.{get_last, get_front}
use Rattle.kilim_link_world.specs.Agrees.{each_below}

module _ {A : Type 0} (make : ℕ → A) where
  pub length_below : (n : ℕ) → length (each_below make n) ≡ n
  length_below zero = refl
  length_below (suc n) = length-append (each_below make n) (make n ∷ []) ∙ omega (arith, length_below n)

  pub get_below : (n k : ℕ) → k < n → slice_get (each_below make n) k ≡ Some (make k)
  get_below zero k lt = absurd (omega arith)
  get_below (suc n) k lt =
      elim (cases_lt k n) [
        | inl before ↦ get_front (each_below make n) (make n ∷ []) k (let len = length_below n in omega arith) ∙ get_below n k before
        | inr last ↦
            let at : k ≡ length (each_below make n) = let len = length_below n in omega arith in
            let is : n ≡ k = omega arith in
            ap (slice_get (each_below make n ++ make n ∷ [])) at ∙ (get_last (each_below make n) (make n) ∙ ap (λ (i : ℕ). Some (make i)) is)
      ]

  -- a loop that appends what is made of each number
  pub one_more : (made new : List A) (n : ℕ) (x : A) → made ≡ each_below make n → x ≡ make n → new ≡ made ++ x ∷ [] → new ≡ each_below make (n + 1)
  one_more made new n x so_far is step =
      let next : n + 1 ≡ suc n = omega arith in
      rw next (step ∙ (ap (λ xs. xs ++ x ∷ []) so_far ∙ ap (λ y. each_below make n ++ y ∷ []) is))
