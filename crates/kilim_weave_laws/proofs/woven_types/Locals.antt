-- Locals that agree where they are live: stores keep it.
use Rattle.std.proofs.Common.{◌≡◌, ◌≢◌, ◌⊎◌, inl, inr, ℕ, zero, suc, ◌+◌, ◌<◌, ◌≤◌, Bool, true, false, eqb, List, [], ◌∷◌, map, refl, sym, ap, subst, ◌∙◌, arith, eq-eqb, ne_eqb}
use Rattle.std.proofs.lemmas.Bool.Decides.{eqb_tells}
use Rattle.kilim_program.specs.declared.verified.VType.{VType}
use Rattle.kilim_program.specs.declared.verified.VType.TheVariants.{Top, Int, Long, Null, UninitThis, Uninit, Object}
use Rattle.kilim_type_spec.specs.Step.{size, peek, poke, split_at, split_long, with_half, stored, is_top, is_long, is_same, replaced, one_replaced}
use Rattle.kilim_weave_spec.specs.Woven.{moved_type}
use Rattle.kilim_weave_laws.proofs.woven_types.Moved.{moved_long}
use Rattle.std.proofs.lemmas.Bool.{false≢true}

pub same_or : (a b : ℕ) → (a ≡ b) ⊎ (a ≢ b)
same_or a b = elim (eqb_tells a b) [ inl x ↦ inl x.1 | inr y ↦ inr y.1 ]

pub no_slot : (k : ℕ) → peek [] k ≡ Top
no_slot zero = refl
no_slot (suc k) = refl

pub peek_poke : (ls : List VType) (k : ℕ) (t : VType) → peek (poke ls k t) k ≡ t
peek_poke [] zero t = refl
peek_poke [] (suc k) t = peek_poke [] k t
peek_poke (x ∷ xs) zero t = refl
peek_poke (x ∷ xs) (suc k) t = peek_poke xs k t

pub peek_other : (ls : List VType) (k j : ℕ) (t : VType) → j ≢ k → peek (poke ls k t) j ≡ peek ls j
peek_other [] zero zero t ne = absurd (ne refl)
peek_other [] zero (suc j) t ne = refl
peek_other [] (suc k) zero t ne = refl
peek_other [] (suc k) (suc j) t ne = peek_other [] k j t (λ e. ne (ap suc e)) ∙ no_slot j
peek_other (x ∷ xs) zero zero t ne = absurd (ne refl)
peek_other (x ∷ xs) zero (suc j) t ne = refl
peek_other (x ∷ xs) (suc k) zero t ne = refl
peek_other (x ∷ xs) (suc k) (suc j) t ne = peek_other xs k j t (λ e. ne (ap suc e))

-- what is live and no Top is the same in both, moved
abbrev pub Covers : (ℕ → ℕ) → (ℕ → Type 0) → List VType → List VType → Type 0
Covers at S fl cl = (j : ℕ) → S j → is_top (peek fl j) ≡ false → peek cl j ≡ moved_type at (peek fl j)

module _ (at : ℕ → ℕ) where
  -- one slot is written in both
  pub covers_poke : (S : ℕ → Type 0) (fl cl : List VType) (k : ℕ) (t : VType) → Covers at S fl cl → Covers at (λ j. S j ⊎ (k ≡ j)) (poke fl k t) (poke cl k (moved_type at t))
  covers_poke S fl cl k t c j s n = elim (same_or j k) [ inl e ↦ at_slot e | inr ne ↦ elsewhere ne s ]
    where
      at_slot : j ≡ k → peek (poke cl k (moved_type at t)) j ≡ moved_type at (peek (poke fl k t) j)
      at_slot e = subst (λ i. peek (poke cl k (moved_type at t)) i ≡ moved_type at (peek (poke fl k t) i)) (sym e) (peek_poke cl k (moved_type at t) ∙ ap (moved_type at) (sym (peek_poke fl k t)))

      elsewhere : j ≢ k → S j ⊎ (k ≡ j) → peek (poke cl k (moved_type at t)) j ≡ moved_type at (peek (poke fl k t) j)
      elsewhere ne (inr e) = absurd (ne (sym e))
      elsewhere ne (inl sj) = peek_other cl k j (moved_type at t) ne ∙ (c j sj (ap is_top (sym (peek_other fl k j t ne)) ∙ n) ∙ ap (moved_type at) (sym (peek_other fl k j t ne)))

  -- what isn't known of one side needs nothing of the other
  pub covers_dead : (S : ℕ → Type 0) (fl cl : List VType) (k : ℕ) (t : VType) → (S k → is_top (peek fl k) ≡ false → ⊥) → Covers at S fl cl → Covers at S fl (poke cl k t)
  covers_dead S fl cl k t dead c j s n = elim (same_or j k) [ inl e ↦ absurd (dead (subst S e s) (ap (λ i. is_top (peek fl i)) (sym e) ∙ n)) | inr ne ↦ peek_other cl k j t ne ∙ c j s n ]

  pub covers_top : (S : ℕ → Type 0) (fl cl : List VType) (k : ℕ) → Covers at S fl cl → Covers at S (poke fl k Top) cl
  covers_top S fl cl k c j s n = elim (same_or j k) [ inl e ↦ absurd (gone e) | inr ne ↦ c j s (ap is_top (sym (peek_other fl k j Top ne)) ∙ n) ∙ ap (moved_type at) (sym (peek_other fl k j Top ne)) ]
    where
      gone : j ≡ k → ⊥
      gone e = let a = ap is_top (peek_poke fl k Top) in let b = subst (λ i. is_top (peek (poke fl k Top) i) ≡ false) e n in absurd (cc)

  long_there : (fl cl : List VType) (k : ℕ) → peek cl k ≡ moved_type at (peek fl k) → is_long (peek cl k) ≡ is_long (peek fl k)
  long_there fl cl k e = ap is_long e ∙ moved_long at (peek fl k)

  -- a long whose second half is written is gone in both
  covers_split_at : (S : ℕ → Type 0) (fl cl : List VType) (k : ℕ) (a b : Bool) → is_long (peek fl k) ≡ a → is_long (peek cl k) ≡ b → Covers at S fl cl → Covers at S (split_at a fl k) (split_at b cl k)
  covers_split_at S fl cl k true true ea eb c = covers_dead S (poke fl k Top) cl k Top (λ s n. let e = ap is_top (peek_poke fl k Top) in absurd (cc)) (covers_top S fl cl k c)
  covers_split_at S fl cl k true false ea eb c = covers_top S fl cl k c
  covers_split_at S fl cl k false true ea eb c = covers_dead S fl cl k Top (λ s n. let e = long_there fl cl k (c k s n) in absurd (cc)) c
  covers_split_at S fl cl k false false ea eb c = c

  pub covers_split : (S : ℕ → Type 0) (fl cl : List VType) (k : ℕ) → Covers at S fl cl → Covers at S (split_long fl k) (split_long cl k)
  covers_split S fl cl zero c = c
  covers_split S fl cl (suc k) c = covers_split_at S fl cl k (is_long (peek fl k)) (is_long (peek cl k)) refl refl c

  abbrev pub Stored : (ℕ → Type 0) → ℕ → VType → ℕ → Type 0
  Stored S k t j = S j ⊎ ((k ≡ j) ⊎ ((suc k ≡ j) × (is_long t ≡ true)))

  short : (S : ℕ → Type 0) (k : ℕ) (t : VType) → is_long t ≡ false → (j : ℕ) → Stored S k t j → S j ⊎ (k ≡ j)
  short S k t f j (inl s) = inl s
  short S k t f j (inr (inl e)) = inr e
  short S k t f j (inr (inr h)) = let e = h.1 in absurd (cc)

  covers_half : (S : ℕ → Type 0) (fl cl : List VType) (k : ℕ) (t : VType) → Covers at (λ j. S j ⊎ (k ≡ j)) fl cl → Covers at (Stored S k t) (with_half t fl k) (with_half (moved_type at t) cl k)
  covers_half S fl cl k Long c = λ j s n. covers_poke (λ j. S j ⊎ (k ≡ j)) fl cl (suc k) Top c j (into j s) n
    where
      into : (j : ℕ) → Stored S k Long j → (S j ⊎ (k ≡ j)) ⊎ (suc k ≡ j)
      into j (inl s) = inl (inl s)
      into j (inr (inl e)) = inl (inr e)
      into j (inr (inr h)) = inr h.0
  covers_half S fl cl k Top c = λ j s n. c j (short S k Top refl j s) n
  covers_half S fl cl k Int c = λ j s n. c j (short S k Int refl j s) n
  covers_half S fl cl k Null c = λ j s n. c j (short S k Null refl j s) n
  covers_half S fl cl k UninitThis c = λ j s n. c j (short S k UninitThis refl j s) n
  covers_half S fl cl k (Uninit q) c = λ j s n. c j (short S k (Uninit q) refl j s) n
  covers_half S fl cl k (Object ty) c = λ j s n. c j (short S k (Object ty) refl j s) n

  pub covers_stored : (S : ℕ → Type 0) (fl cl : List VType) (k : ℕ) (t : VType) → Covers at S fl cl → Covers at (Stored S k t) (stored fl k t) (stored cl k (moved_type at t))
  covers_stored S fl cl k t c = covers_half S (poke (split_long fl k) k t) (poke (split_long cl k) k (moved_type at t)) k t (covers_poke S (split_long fl k) (split_long cl k) k t (covers_split S fl cl k c))

-- ---- slots above those that are written

untouched_at : (b : Bool) (ls : List VType) (k j : ℕ) → j ≢ k → peek (split_at b ls k) j ≡ peek ls j
untouched_at true ls k j ne = peek_other ls k j Top ne
untouched_at false ls k j ne = refl

untouched_split : (ls : List VType) (k j : ℕ) → k ≤ j → peek (split_long ls k) j ≡ peek ls j
untouched_split ls zero j h = refl
untouched_split ls (suc k) j h = untouched_at (is_long (peek ls k)) ls k j (λ e. omega (arith, e))

untouched_half : (t : VType) (ls : List VType) (k j : ℕ) → j ≢ suc k → peek (with_half t ls k) j ≡ peek ls j
untouched_half Long ls k j ne = peek_other ls (suc k) j Top ne
untouched_half Top ls k j ne = refl
untouched_half Int ls k j ne = refl
untouched_half Null ls k j ne = refl
untouched_half UninitThis ls k j ne = refl
untouched_half (Uninit q) ls k j ne = refl
untouched_half (Object ty) ls k j ne = refl

stored_by : (t : VType) (ls : List VType) (k j : ℕ) → k ≤ j → j ≢ k → peek (with_half t (poke (split_long ls k) k t) k) j ≡ peek (poke (split_long ls k) k t) j → peek (stored ls k t) j ≡ peek ls j
stored_by t ls k j h ne e = e ∙ (peek_other (split_long ls k) k j t ne ∙ untouched_split ls k j h)

pub untouched : (t : VType) (ls : List VType) (k j : ℕ) → k + size t ≤ j → peek (stored ls k t) j ≡ peek ls j
untouched Long ls k j h = stored_by Long ls k j (omega (arith, h)) (λ e. omega (arith, h, e)) (untouched_half Long (poke (split_long ls k) k Long) k j (λ e. omega (arith, h, e)))
untouched Top ls k j h = stored_by Top ls k j (omega (arith, h)) (λ e. omega (arith, h, e)) refl
untouched Int ls k j h = stored_by Int ls k j (omega (arith, h)) (λ e. omega (arith, h, e)) refl
untouched Null ls k j h = stored_by Null ls k j (omega (arith, h)) (λ e. omega (arith, h, e)) refl
untouched UninitThis ls k j h = stored_by UninitThis ls k j (omega (arith, h)) (λ e. omega (arith, h, e)) refl
untouched (Uninit q) ls k j h = stored_by (Uninit q) ls k j (omega (arith, h)) (λ e. omega (arith, h, e)) refl
untouched (Object ty) ls k j h = stored_by (Object ty) ls k j (omega (arith, h)) (λ e. omega (arith, h, e)) refl

half_here : (t : VType) (ls : List VType) (k : ℕ) → peek (with_half t ls k) k ≡ peek ls k
half_here t ls k = untouched_half t ls k k (λ e. omega (arith, e))

-- what was stored is there
pub stored_here : (t : VType) (ls : List VType) (k : ℕ) → peek (stored ls k t) k ≡ t
stored_here t ls k = half_here t (poke (split_long ls k) k t) k ∙ peek_poke (split_long ls k) k t

-- slots below that aren't touched
below_split : (ls : List VType) (k j : ℕ) → suc j < k → peek (split_long ls k) j ≡ peek ls j
below_split ls zero j h = absurd (omega (arith, h))
below_split ls (suc k) j h = untouched_at (is_long (peek ls k)) ls k j (λ e. omega (arith, e, h))

pub stored_below : (t : VType) (ls : List VType) (k j : ℕ) → suc j < k → peek (stored ls k t) j ≡ peek ls j
stored_below t ls k j h = untouched_half t (poke (split_long ls k) k t) k j (λ e. omega (arith, e, h)) ∙ (peek_other (split_long ls k) k j t (λ e. omega (arith, e, h)) ∙ below_split ls k j h)

split_short : (b : Bool) (ls : List VType) (k : ℕ) → b ≡ false → peek (split_at b ls k) k ≡ peek ls k
split_short true ls k h = absurd (cc)
split_short false ls k h = refl

-- the slot right below, where it holds no long
pub stored_above : (t : VType) (ls : List VType) (k : ℕ) → is_long (peek ls k) ≡ false → peek (stored ls (suc k) t) k ≡ peek ls k
stored_above t ls k h = untouched_half t (poke (split_long ls (suc k)) (suc k) t) (suc k) k (λ e. omega (arith, e)) ∙ (peek_other (split_long ls (suc k)) (suc k) k t (λ e. omega (arith, e)) ∙ split_short (is_long (peek ls k)) ls k h)

-- ---- an uninitialized type is replaced

same_top : (old : VType) → is_same old Top ≡ false
same_top UninitThis = refl
same_top (Uninit q) = refl
same_top Top = refl
same_top Int = refl
same_top Long = refl
same_top Null = refl
same_top (Object ty) = refl

pub peek_replaced : (old new : VType) (ls : List VType) (j : ℕ) → peek (replaced old new ls) j ≡ one_replaced (is_same old (peek ls j)) (peek ls j) new
peek_replaced old new [] j = no_slot j ∙ sym (ap (λ t. one_replaced (is_same old t) t new) (no_slot j) ∙ ap (λ b. one_replaced b Top new) (same_top old))
peek_replaced old new (t ∷ ts) zero = refl
peek_replaced old new (t ∷ ts) (suc j) = peek_replaced old new ts j

module _ (at : ℕ → ℕ) (differ : (a b : ℕ) → at a ≡ at b → a ≡ b) where
  eq_moved : (a b : ℕ) → eqb (at a) (at b) ≡ eqb a b
  eq_moved a b = elim (eqb_tells a b) [ inl x ↦ eq-eqb (at a) (at b) (ap at x.1) ∙ sym x.0 | inr y ↦ ne_eqb (at a) (at b) (λ e. y.1 (differ a b e)) ∙ sym y.0 ]

  pub same_moved : (a b : VType) → is_same (moved_type at a) (moved_type at b) ≡ is_same a b
  same_moved UninitThis Top = refl
  same_moved UninitThis Int = refl
  same_moved UninitThis Long = refl
  same_moved UninitThis Null = refl
  same_moved UninitThis UninitThis = refl
  same_moved UninitThis (Uninit q) = refl
  same_moved UninitThis (Object ty) = refl
  same_moved (Uninit a) Top = refl
  same_moved (Uninit a) Int = refl
  same_moved (Uninit a) Long = refl
  same_moved (Uninit a) Null = refl
  same_moved (Uninit a) UninitThis = refl
  same_moved (Uninit a) (Uninit b) = eq_moved a b
  same_moved (Uninit a) (Object ty) = refl
  same_moved Top b = refl
  same_moved Int b = refl
  same_moved Long b = refl
  same_moved Null b = refl
  same_moved (Object ty) b = refl

  one_moved : (b : Bool) (t new : VType) → one_replaced b (moved_type at t) (moved_type at new) ≡ moved_type at (one_replaced b t new)
  one_moved true t new = refl
  one_moved false t new = refl

  pub replaced_moved : (old new : VType) (ts : List VType) → replaced (moved_type at old) (moved_type at new) (map (moved_type at) ts) ≡ map (moved_type at) (replaced old new ts)
  replaced_moved old new [] = refl
  replaced_moved old new (t ∷ ts) =
      let a = ap (λ b. one_replaced b (moved_type at t) (moved_type at new)) (same_moved old t) ∙ one_moved (is_same old t) t new in
      let r = replaced_moved old new ts in
      rw (a, r) refl

  -- what is replaced was no Top, and stays none unless it becomes Top
  one_top : (b : Bool) (t new : VType) → is_top (one_replaced b t new) ≡ false → (is_same_as : (b ≡ true → is_top t ≡ false)) → is_top t ≡ false
  one_top true t new n s = s refl
  one_top false t new n s = n

  not_top : (old t : VType) → is_same old t ≡ true → is_top t ≡ false
  not_top UninitThis UninitThis h = refl
  not_top (Uninit a) (Uninit b) h = refl
  not_top old t h = absurd (false≢true h)

  pub covers_replaced : (S : ℕ → Type 0) (fl cl : List VType) (old new : VType) → Covers at S fl cl → Covers at S (replaced old new fl) (replaced (moved_type at old) (moved_type at new) cl)
  covers_replaced S fl cl old new c j s n =
      let pf = peek_replaced old new fl j in
      let t = peek fl j in
      let n1 : is_top (one_replaced (is_same old t) t new) ≡ false = ap is_top (sym pf) ∙ n in
      let n2 = one_top (is_same old t) t new n1 (λ e. not_top old t e) in
      let e = c j s n2 in
      peek_replaced (moved_type at old) (moved_type at new) cl j
      ∙ (ap (λ u. one_replaced (is_same (moved_type at old) u) u (moved_type at new)) e
      ∙ (ap (λ b. one_replaced b (moved_type at t) (moved_type at new)) (same_moved old t)
      ∙ (one_moved (is_same old t) t new ∙ ap (moved_type at) (sym pf))))
