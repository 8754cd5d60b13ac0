-- A lower frame has the place behind its call.
use Rattle.std.specs.Prelude.{◌≡◌, ℕ, Bool, true, ◌&&◌, nat_lt, List, [], ◌∷◌, Some}
use Rattle.kilim_program.specs.declared.instr.Instr.{Instr}
use Rattle.kilim_program.specs.Lengths.{first_place, fetched}
use Rattle.kilim_run_state.specs.Machine.{stands_behind}

-- each place comes before the next one, and the last before the end
abbrev pub places_rise : List (ℕ × Instr) → ℕ → Bool
places_rise [] end = true
places_rise (entry ∷ entries) end = nat_lt entry.0 (first_place entries end) && places_rise entries end

-- In such code, an instruction whose next place is this one is what stands behind it.
abbrev pub CallsStandBehind : Type 0
CallsStandBehind = (code : List (ℕ × Instr)) (end at place : ℕ) (i : Instr) → places_rise code end ≡ true → fetched code end at ≡ Some (i, place) → stands_behind code end place ≡ Some (at, i)
