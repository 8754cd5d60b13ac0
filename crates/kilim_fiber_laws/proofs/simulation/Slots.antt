-- Local slots: reading behind a store.
use Rattle.std.proofs.Common.{◌≡◌, ◌≢◌, ◌⊎◌, inl, inr, ℕ, zero, suc, ◌<◌, true, false, eqb, List, [], ◌∷◌, length, Option, Some, refl, sym, ap, subst, ◌∙◌, arith}
use Rattle.std.specs.Prelude.{slice_get, slice_set}
use Rattle.std.proofs.lemmas.Bool.Decides.{eqb_tells}
use Rattle.std.proofs.lemmas.List.{length-set}
use Rattle.kilim_program.specs.declared.value.Value.{Value}
use Rattle.kilim_program.specs.declared.verified.VType.{VType}
use Rattle.kilim_fiber_spec.specs.Form.{Among_slots}
use Rattle.kilim_fiber_spec.specs.Links.{value_or}

pub set_same : (l : List Value) (k : ℕ) (v : Value) → k < length l → slice_get (slice_set l k v) k ≡ Some v
set_same [] k v h = absurd (omega (arith, h))
set_same (a ∷ l) zero v h = refl
set_same (a ∷ l) (suc k) v h = set_same l k v (omega (arith, h))

pub set_other : (l : List Value) (k j : ℕ) (v : Value) → k ≢ j → slice_get (slice_set l k v) j ≡ slice_get l j
set_other [] k j v h = refl
set_other (a ∷ l) zero zero v h = absurd (h refl)
set_other (a ∷ l) zero (suc j) v h = refl
set_other (a ∷ l) (suc k) zero v h = refl
set_other (a ∷ l) (suc k) (suc j) v h = set_other l k j v (λ e. h (ap suc e))

pub get_within : (l : List Value) (k : ℕ) → k < length l → (v : Value) × (slice_get l k ≡ Some v)
get_within [] k h = absurd (omega (arith, h))
get_within (a ∷ l) zero h = (a, refl)
get_within (a ∷ l) (suc k) h = get_within l k (omega (arith, h))

-- the locals after restores: the values of `from`, the last slot first
abbrev pub put_back : List (ℕ × VType) → List Value → List Value → List Value
put_back [] from l = l
put_back (e ∷ es) from l = slice_set (put_back es from l) e.0 (value_or (slice_get from e.0))

pub back_length : (es : List (ℕ × VType)) (from l : List Value) → length (put_back es from l) ≡ length l
back_length [] from l = refl
back_length (e ∷ es) from l = length-set (put_back es from l) e.0 (value_or (slice_get from e.0)) ∙ back_length es from l

pub back_other : (es : List (ℕ × VType)) (from l : List Value) (j : ℕ) → (Among_slots es j → ⊥) → slice_get (put_back es from l) j ≡ slice_get l j
back_other [] from l j no_one = refl
back_other (e ∷ es) from l j no_one =
    set_other (put_back es from l) e.0 j (value_or (slice_get from e.0)) (λ h. no_one (inl h)) ∙ back_other es from l j (λ h. no_one (inr h))

pub back_same : (es : List (ℕ × VType)) (from l : List Value) (j : ℕ) (v : Value) → Among_slots es j → slice_get from j ≡ Some v → j < length l → slice_get (put_back es from l) j ≡ Some v
back_same [] from l j v a e h = absurd a
back_same (d ∷ es) from l j v a e h = by (λ b. back_same es from l j v b e h) (eqb_tells d.0 j) a
  where
    by : (Among_slots es j → slice_get (put_back es from l) j ≡ Some v) → ((eqb d.0 j ≡ true) × (d.0 ≡ j)) ⊎ ((eqb d.0 j ≡ false) × (d.0 ≢ j)) → Among_slots (d ∷ es) j → slice_get (slice_set (put_back es from l) d.0 (value_or (slice_get from d.0))) j ≡ Some v
    by go (inl t) a =
        subst (λ (k : ℕ). slice_get (slice_set (put_back es from l) k (value_or (slice_get from k))) j ≡ Some v) (sym t.1)
        (set_same (put_back es from l) j (value_or (slice_get from j)) (subst (λ (n : ℕ). j < n) (sym (back_length es from l)) h) ∙ ap (λ (o : Option Value). Some (value_or o)) e)
    by go (inr t) (inl b) = absurd (t.1 b)
    by go (inr t) (inr b) = set_other (put_back es from l) d.0 j (value_or (slice_get from d.0)) t.1 ∙ go b
