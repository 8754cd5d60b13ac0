-- Entries of code by their places.
use Rattle.std.proofs.Common.{◌≡◌, ◌⊎◌, inl, inr, ◌≢◌, ℕ, zero, suc, ◌+◌, ◌<◌, Bool, true, false, cond, List, [], ◌∷◌, drop, slice_get, Some, refl, ap, sym, ◌∙◌, arith}
use Rattle.std.specs.Prelude.{◌==◌}
use Rattle.std.proofs.lemmas.Bool.{eqb-true}
use Rattle.kilim_program.specs.declared.instr.Instr.{Instr}
use Rattle.kilim_program.specs.Lengths.{fetched, first_place}
use Rattle.kilim_program.specs.lookups.Places.{Above, Rising}

above_at : (place : ℕ) (code : List (ℕ × Instr)) (i : ℕ) (entry : ℕ × Instr) → Above place code → slice_get code i ≡ Some entry → place < entry.0
above_at place [] i entry above found = absurd (cc)
above_at place (e ∷ es) zero entry above found = grind (arith, above.0, found)
above_at place (e ∷ es) (suc i) entry above found = above_at place es i entry above.1 found

first_is : (d e : ℕ × Instr) → Some d ≡ Some e → d.0 ≡ e.0
first_is d e is = ap (λ (x : ℕ × Instr). x.0) (let f : d ≡ e = cc in f)

-- a later entry has a higher place
pub rises : (code : List (ℕ × Instr)) (i j : ℕ) (d e : ℕ × Instr) → Rising code → slice_get code i ≡ Some d → slice_get code j ≡ Some e → i < j → d.0 < e.0
rises [] i j d e rising there behind less = absurd (cc)
rises (c ∷ cs) zero zero d e rising there behind less = absurd (omega arith)
rises (c ∷ cs) zero (suc j) d e rising there behind less = let above = above_at c.0 cs j e rising.0 behind in let same = first_is c d there in omega (arith, above, same)
rises (c ∷ cs) (suc i) zero d e rising there behind less = absurd (omega arith)
rises (c ∷ cs) (suc i) (suc j) d e rising there behind less = rises cs i j d e rising.1 there behind (omega arith)

entry_found : (code : List (ℕ × Instr)) (end i : ℕ) (entry : ℕ × Instr) → Rising code → slice_get code i ≡ Some entry → fetched code end entry.0 ≡ Some (entry.1, first_place (drop (suc i) code) end)
entry_found [] end i entry rising found = absurd (cc)
entry_found (e ∷ es) end zero entry rising found = grind (arith, found)
entry_found (e ∷ es) end (suc i) entry rising found =
    let above = above_at e.0 es i entry rising.0 found in
    let rest = entry_found es end i entry rising.1 found in
    grind (arith, above, rest)

-- an entry is what is found at its place
pub entry_fetched : (code : List (ℕ × Instr)) (end i : ℕ) (entry : ℕ × Instr) → Rising code → slice_get code i ≡ Some entry → fetched code end entry.0 ≡ Some (entry.1, first_place (drop (i + 1) code) end)
entry_fetched code end i entry rising found = let e : i + 1 ≡ suc i = omega arith in rw (e, entry_found code end i entry rising found)

-- what is found at a place is an entry
pub record Entry (code : List (ℕ × Instr)) (end p : ℕ) (i : Instr) (to : ℕ) : Type 0 where
  pub at : ℕ
  pub there : (let e : ℕ × Instr = (p, i) in slice_get code at ≡ Some e)
  pub behind : to ≡ first_place (drop (at + 1) code) end

found_here : (a b : Instr × ℕ) → Some a ≡ Some b → a ≡ b
found_here a b e = cc

entry_if : (e : ℕ × Instr) (es : List (ℕ × Instr)) (end p : ℕ) (i : Instr) (to : ℕ) (b : Bool) → (e.0 == p) ≡ b
    → cond b (Some (e.1, first_place es end)) (fetched es end p) ≡ Some (i, to) → (fetched es end p ≡ Some (i, to) → Entry es end p i to) → Entry (e ∷ es) end p i to
entry_if e es end p i to true is h later =
    let f = found_here (e.1, first_place es end) (i, to) h in
    record { at = 0; there = ap (λ (x : ℕ × Instr). Some x) (let a : e.0 ≡ p = eqb-true e.0 p is in let b : e.1 ≡ i = ap (λ (x : Instr × ℕ). x.0) f in ap (λ (n : ℕ). let x : ℕ × Instr = (n, e.1) in x) a ∙ ap (λ (j : Instr). let x : ℕ × Instr = (p, j) in x) b); behind = sym (ap (λ (x : Instr × ℕ). x.1) f) }
entry_if e es end p i to false is h later = let r = later h in let n : suc r.at + 1 ≡ suc (r.at + 1) = omega arith in record { at = suc r.at; there = r.there; behind = r.behind ∙ sym (ap (λ (k : ℕ). first_place (drop k (e ∷ es)) end) n) }

pub entry_of : (code : List (ℕ × Instr)) (end p : ℕ) (i : Instr) (to : ℕ) → fetched code end p ≡ Some (i, to) → Entry code end p i to
entry_of [] end p i to h = absurd (cc)
entry_of (e ∷ es) end p i to h = entry_if e es end p i to (e.0 == p) refl h (entry_of es end p i to)

pub same_entry : (code : List (ℕ × Instr)) (a b : ℕ) (d e : ℕ × Instr) → slice_get code a ≡ Some d → slice_get code b ≡ Some e → a ≡ b → d ≡ e
same_entry code a b d e x y same = let z : Some d ≡ Some e = sym x ∙ (ap (λ (n : ℕ). slice_get code n) same ∙ y) in cc

-- numbers are equal or not
pub same_or : (a b : ℕ) → (a ≡ b) ⊎ (a ≢ b)
same_or zero zero = inl refl
same_or zero (suc b) = inr (λ e. omega (arith, e))
same_or (suc a) zero = inr (λ e. omega (arith, e))
same_or (suc a) (suc b) = elim (same_or a b) [ inl e ↦ inl (ap suc e) | inr n ↦ inr (λ e. n (let f : a ≡ b = omega (arith, e) in f)) ]
