-- Tables of places.
use Rattle.std.proofs.Common.{◌≡◌, ◌≢◌, ◌⊎◌, inl, inr, ℕ, zero, suc, ◌<◌, Bool, true, false, List, [], ◌∷◌, ◌++◌, Option, Some, None, length, get_or, set, refl, ap, sym, ◌∙◌, arith, eq-eqb, get_or-set_other}
use Rattle.std.specs.Prelude.{◌==◌, if◌then◌else◌}
use Rattle.std.proofs.lemmas.Bool.{ne_eqb}
use Rattle.std.proofs.lemmas.List.{get_or-set_same}
use Rattle.kilim_weave_method.specs.Found.{or_first}

same_or : (a b : ℕ) → (a ≡ b) ⊎ (a ≢ b)
same_or zero zero = inl refl
same_or zero (suc b) = inr (λ e. omega (arith, e))
same_or (suc a) zero = inr (λ e. omega (arith, e))
same_or (suc a) (suc b) = elim (same_or a b) [ inl e ↦ inl (ap suc e) | inr n ↦ inr (λ e. n (let f : a ≡ b = omega (arith, e) in f)) ]

pub none_more : (table : List (Option ℕ)) (k : ℕ) → get_or (table ++ None ∷ []) k None ≡ get_or table k None
none_more [] zero = refl
none_more [] (suc k) = refl
none_more (o ∷ table) zero = refl
none_more (o ∷ table) (suc k) = none_more table k

no_other : (o : Option ℕ) → or_first o None ≡ o
no_other None = refl
no_other (Some p) = refl

pub filled : (table : List (Option ℕ)) (at place : ℕ) → at < length table → get_or table at None ≡ None → (k : ℕ) → get_or (set table at (Some place)) k None ≡ or_first (get_or table k None) (if k == at then Some place else None)
filled table at place lt free k = elim (same_or k at) [
  | inl e ↦
      ap (λ (n : ℕ). get_or (set table at (Some place)) n None) e
      ∙ (get_or-set_same table at (Some place) None lt
      ∙ sym (ap (λ (o : Option ℕ). or_first o (if k == at then Some place else None)) (ap (λ (n : ℕ). get_or table n None) e ∙ free) ∙ ap (λ (b : Bool). or_first None (if b then Some place else None)) (eq-eqb k at e)))
  | inr n ↦
      get_or-set_other table at k (Some place) None n ∙ sym (ap (λ (b : Bool). or_first (get_or table k None) (if b then Some place else None)) (ne_eqb k at n) ∙ no_other (get_or table k None))
]

pub kept : (table : List (Option ℕ)) (at place q : ℕ) → get_or table at None ≡ Some q → (k : ℕ) → get_or table k None ≡ or_first (get_or table k None) (if k == at then Some place else None)
kept table at place q there k = elim (same_or k at) [
  | inl e ↦
      let o = ap (λ (n : ℕ). get_or table n None) e ∙ there in
      o ∙ sym (ap (λ (p : Option ℕ). or_first p (if k == at then Some place else None)) o)
  | inr n ↦ sym (ap (λ (b : Bool). or_first (get_or table k None) (if b then Some place else None)) (ne_eqb k at n) ∙ no_other (get_or table k None))
]
