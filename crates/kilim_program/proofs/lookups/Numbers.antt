-- An entry is what a search finds, where the places increase.
use Rattle.std.proofs.Common.{◌≡◌, refl, ℕ, zero, suc, ◌+◌, ◌<◌, List, [], ◌∷◌, Option, Some, None, slice_get, drop, length, ◌≤◌, ◌==◌, false, arith}
use Rattle.kilim_program.specs.declared.instr.Instr.{Instr}
use Rattle.kilim_program.specs.Lengths.{fetched, first_place}
use Rattle.kilim_program.specs.lookups.Places.{Above, Rising}

above_at : (place : ℕ) (code : List (ℕ × Instr)) (i : ℕ) (entry : ℕ × Instr) → Above place code → slice_get code i ≡ Some entry → place < entry.0
above_at place [] i entry above found = absurd (cc)
above_at place (e ∷ es) zero entry above found = grind (arith, above.0, found)
above_at place (e ∷ es) (suc i) entry above found = above_at place es i entry above.1 found

entry_found : (code : List (ℕ × Instr)) (end i : ℕ) (entry : ℕ × Instr) → Rising code → slice_get code i ≡ Some entry →
    fetched code end entry.0 ≡ Some (entry.1, first_place (drop (suc i) code) end)
entry_found [] end i entry rising found = absurd (cc)
entry_found (e ∷ es) end zero entry rising found = grind (arith, found)
entry_found (e ∷ es) end (suc i) entry rising found =
    let above = above_at e.0 es i entry rising.0 found in
    let rest = entry_found es end i entry rising.1 found in
    grind (arith, above, rest)

pub entry_fetched : (code : List (ℕ × Instr)) (end i : ℕ) (entry : ℕ × Instr) → Rising code → slice_get code i ≡ Some entry →
    fetched code end entry.0 ≡ Some (entry.1, first_place (drop (i + 1) code) end)
entry_fetched code end i entry rising found = let e : i + 1 ≡ suc i = omega arith in rw (e, entry_found code end i entry rising found)

pub first_at : (code : List (ℕ × Instr)) (end i : ℕ) (entry : ℕ × Instr) → slice_get code i ≡ Some entry → first_place (drop i code) end ≡ entry.0
first_at [] end i entry found = absurd (cc)
first_at (e ∷ es) end zero entry found = grind (arith, found)
first_at (e ∷ es) end (suc i) entry found = first_at es end i entry found

pub first_past : (code : List (ℕ × Instr)) (end i : ℕ) → length code ≤ i → first_place (drop i code) end ≡ end
first_past [] end zero past = refl
first_past [] end (suc i) past = refl
first_past (e ∷ es) end zero past = absurd (omega (arith, past))
first_past (e ∷ es) end (suc i) past = first_past es end i (omega (arith, past))

passed_by : (code : List (ℕ × Instr)) (end place i : ℕ) (entry : ℕ × Instr) → slice_get code i ≡ Some entry → (entry.0 == place) ≡ false →
    fetched (drop (suc i) code) end place ≡ fetched (drop i code) end place
passed_by [] end place i entry found other = absurd (cc)
passed_by (e ∷ es) end place zero entry found other = grind (arith, found, other)
passed_by (e ∷ es) end place (suc i) entry found other = passed_by es end place i entry found other

pub passed : (code : List (ℕ × Instr)) (end place i : ℕ) (entry : ℕ × Instr) → slice_get code i ≡ Some entry → (entry.0 == place) ≡ false →
    fetched (drop (i + 1) code) end place ≡ fetched (drop i code) end place
passed code end place i entry found other = let e : i + 1 ≡ suc i = omega arith in rw (e, passed_by code end place i entry found other)

-- the entry at a number is what is found at the place of that number
pub here : (code : List (ℕ × Instr)) (end i : ℕ) (entry : ℕ × Instr) → Rising code → slice_get code i ≡ Some entry →
    fetched code end (first_place (drop i code) end) ≡ Some (entry.1, first_place (drop (i + 1) code) end)
here code end i entry rising found = rw (first_at code end i entry found, entry_fetched code end i entry rising found)
