-- Slots of locals, and their types.
use Rattle.std.proofs.Common.{◌≡◌, ◌≢◌, inl, inr, ℕ, zero, suc, ◌<◌, Bool, true, false, List, [], ◌∷◌, length, Some, refl, ap, ◌∙◌, arith}
use Rattle.std.specs.Prelude.{slice_get, slice_set}
use Rattle.std.proofs.lemmas.Bool.Decides.{eqb_tells}
use Rattle.kilim_program.specs.declared.verified.VType.{VType}
use Rattle.kilim_program.specs.declared.verified.VType.TheVariants.{Top, Int, Long, Null, UninitThis, Uninit, Object}
use Rattle.kilim_type_spec.specs.Step.{peek, poke, split_at, split_long, with_half, stored, is_long}

module _ {X : Type 0} where
  pub set_there : (xs : List X) (i : ℕ) (x y : X) → slice_get xs i ≡ Some x → slice_get (slice_set xs i y) i ≡ Some y
  set_there [] i x y e = absurd (cc)
  set_there (z ∷ xs) zero x y e = refl
  set_there (z ∷ xs) (suc i) x y e = set_there xs i x y e

  pub set_other : (xs : List X) (i j : ℕ) (y : X) → j ≢ i → slice_get (slice_set xs i y) j ≡ slice_get xs j
  set_other [] i j y n = refl
  set_other (z ∷ xs) zero zero y n = absurd (n refl)
  set_other (z ∷ xs) zero (suc j) y n = refl
  set_other (z ∷ xs) (suc i) zero y n = refl
  set_other (z ∷ xs) (suc i) (suc j) y n = set_other xs i j y (λ e. n (ap suc e))

  pub set_length : (xs : List X) (i : ℕ) (y : X) → length (slice_set xs i y) ≡ length xs
  set_length [] i y = refl
  set_length (z ∷ xs) zero y = refl
  set_length (z ∷ xs) (suc i) y = ap suc (set_length xs i y)

  pub get_within : (xs : List X) (i : ℕ) → i < length xs → (x : X) × (slice_get xs i ≡ Some x)
  get_within [] i h = absurd (omega (arith, h))
  get_within (z ∷ xs) zero h = (z, refl)
  get_within (z ∷ xs) (suc i) h = get_within xs i (omega (arith, h))

peek_poke : (ls : List VType) (k : ℕ) (t : VType) → peek (poke ls k t) k ≡ t
peek_poke [] zero t = refl
peek_poke [] (suc k) t = peek_poke [] k t
peek_poke (x ∷ xs) zero t = refl
peek_poke (x ∷ xs) (suc k) t = peek_poke xs k t

pub no_slot : (k : ℕ) → peek [] k ≡ Top
no_slot zero = refl
no_slot (suc k) = refl

peek_other : (ls : List VType) (k j : ℕ) (t : VType) → j ≢ k → peek (poke ls k t) j ≡ peek ls j
peek_other [] zero zero t ne = absurd (ne refl)
peek_other [] zero (suc j) t ne = refl
peek_other [] (suc k) zero t ne = refl
peek_other [] (suc k) (suc j) t ne = peek_other [] k j t (λ e. ne (ap suc e)) ∙ no_slot j
peek_other (x ∷ xs) zero zero t ne = absurd (ne refl)
peek_other (x ∷ xs) zero (suc j) t ne = refl
peek_other (x ∷ xs) (suc k) zero t ne = refl
peek_other (x ∷ xs) (suc k) (suc j) t ne = peek_other xs k j t (λ e. ne (ap suc e))

abbrev pub IsTop : VType → Type 0
IsTop t = t ≡ Top

-- a slot that wasn't stored into is Top now, or as it was
pub data Otherwise (ls : List VType) (t : VType) (j : ℕ) : Type 0 where
  BecameTop : t ≡ Top → Otherwise ls t j
  Same : t ≡ peek ls j → Otherwise ls t j

poked : (ls : List VType) (k j : ℕ) → Otherwise ls (peek (poke ls k Top) j) j
poked ls k j = elim (eqb_tells j k) [ inl z ↦ BecameTop (ap (λ (q : ℕ). peek (poke ls k Top) q) z.1 ∙ peek_poke ls k Top) | inr z ↦ Same (peek_other ls k j Top z.1) ]

over : (ls ms : List VType) (t : VType) (j : ℕ) → ((q : ℕ) → Otherwise ls (peek ms q) q) → Otherwise ms t j → Otherwise ls t j
over ls ms t j a (BecameTop e) = BecameTop e
over ls ms t j a (Same e) = by (a j) e
  where
    by : Otherwise ls (peek ms j) j → t ≡ peek ms j → Otherwise ls t j
    by (BecameTop d) e = BecameTop (e ∙ d)
    by (Same d) e = Same (e ∙ d)

split : (ls : List VType) (k j : ℕ) → Otherwise ls (peek (split_long ls k) j) j
split ls zero j = Same refl
split ls (suc k) j = by (is_long (peek ls k))
  where
    by : (b : Bool) → Otherwise ls (peek (split_at b ls k) j) j
    by true = poked ls k j
    by false = Same refl

half : (t : VType) (ls : List VType) (k j : ℕ) → Otherwise ls (peek (with_half t ls k) j) j
half Long ls k j = poked ls (suc k) j
half Top ls k j = Same refl
half Int ls k j = Same refl
half Null ls k j = Same refl
half UninitThis ls k j = Same refl
half (Uninit q) ls k j = Same refl
half (Object ty) ls k j = Same refl

pub stored_other : (t : VType) (ls : List VType) (k j : ℕ) → j ≢ k → Otherwise ls (peek (stored ls k t) j) j
stored_other t ls k j ne = by (half t (poke (split_long ls k) k t) k j)
  where
    by : Otherwise (poke (split_long ls k) k t) (peek (stored ls k t) j) j → Otherwise ls (peek (stored ls k t) j) j
    by (BecameTop e) = BecameTop e
    by (Same e) = over ls (split_long ls k) (peek (stored ls k t) j) j (split ls k) (Same (e ∙ peek_other (split_long ls k) k j t ne))

half_here : (t : VType) (ls : List VType) (k : ℕ) → peek (with_half t ls k) k ≡ peek ls k
half_here Long ls k = peek_other ls (suc k) k Top (λ e. omega (arith, e))
half_here Top ls k = refl
half_here Int ls k = refl
half_here Null ls k = refl
half_here UninitThis ls k = refl
half_here (Uninit q) ls k = refl
half_here (Object ty) ls k = refl

-- what was stored is there
pub stored_here : (t : VType) (ls : List VType) (k : ℕ) → peek (stored ls k t) k ≡ t
stored_here t ls k = half_here t (poke (split_long ls k) k t) k ∙ peek_poke (split_long ls k) k t

-- the second half of a long is Top
pub stored_half : (ls : List VType) (k : ℕ) → peek (stored ls k Long) (suc k) ≡ Top
stored_half ls k = peek_poke (poke (split_long ls k) k Long) (suc k) Top
