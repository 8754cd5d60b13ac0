-- The units that bytes spell, all of the bytes, or none.
use Rattle.std.specs.Prelude.{◌≡◌, ◌⊎◌, ℕ, zero, suc, List, [], ◌∷◌, length, Option, Some, None, Result, Ok, Err}
use Rattle.kilim_class_mutf8.specs.declared.unit.UnitFault.{UnitFault}
use Rattle.kilim_class_mutf8.specs.declared.fault.TextFault.{TextFault}
use Rattle.kilim_class_mutf8.specs.declared.fault.TextFault.TheVariants.{Memory}
use Rattle.kilim_class_mutf8.specs.Spelling.{spelling, UnitsFit}
use Rattle.kilim_class_mutf8.specs.Reading.{unit_at}

abbrev pub and_unit : ℕ → Option (List ℕ) → Option (List ℕ)
and_unit u None = None
and_unit u (Some units) = Some (u ∷ units)

-- one unit, and what is read behind it
abbrev pub unit_then : (List ℕ → Option (List ℕ)) → Result (ℕ × List ℕ) UnitFault → Option (List ℕ)
unit_then read (Ok x) = and_unit x.0 (read x.1)
unit_then read (Err fault) = None

-- unit by unit; each takes a byte at least, so a number as great as that of the bytes is enough
unfoldable pub units_within : ℕ → List ℕ → Option (List ℕ)
units_within zero [] = Some []
units_within zero (b ∷ bytes) = None
units_within (suc n) [] = Some []
units_within (suc n) (b ∷ bytes) = unit_then (units_within n) (unit_at (b ∷ bytes))

unfoldable pub units_of : List ℕ → Option (List ℕ)
units_of bytes = units_within (length bytes) bytes

-- bytes have units exactly where they are the spelling of these units
pub record UnitsAreSpelled : Type 0 where
  pub takes : (bytes units : List ℕ) → units_of bytes ≡ Some units → (bytes ≡ spelling units) × UnitsFit units
  pub again : (units : List ℕ) → UnitsFit units → units_of (spelling units) ≡ Some units

-- what `read` answered are the units of the bytes; it refuses those that have none
abbrev pub ReadsUnits : Result (List ℕ) TextFault → Option (List ℕ) → Type 0
ReadsUnits (Ok units) read = read ≡ Some units
ReadsUnits (Err e) read = (e ≡ Memory) ⊎ (read ≡ None)
