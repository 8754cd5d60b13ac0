-- Which bytes are text, and what the first fault of others is.
use Rattle.std.specs.Prelude.{◌≡◌, ◌≢◌, ℕ, ◌+◌, List, [], ◌∷◌, ◌++◌, length, take, Result, Ok, Err, ◌⊎◌}
use Rattle.kilim_class_mutf8.specs.declared.unit.UnitFault.{UnitFault}
use Rattle.kilim_class_mutf8.specs.declared.unit.UnitFault.TheVariants as unit
use Rattle.kilim_class_mutf8.specs.declared.fault.TextFault.{TextFault}
use Rattle.kilim_class_mutf8.specs.declared.fault.TextFault.TheVariants.{BadByte, Cut, SecondSpelling, Memory}
use Rattle.kilim_class_mutf8.specs.Spelling.{spelling, UnitsFit}
use Rattle.kilim_class_mutf8.specs.Reading.{unit_at}

-- a fault of the unit that begins at a place
abbrev pub placed : ℕ → UnitFault → TextFault
placed at (unit.BadByte distance) = BadByte (at + distance)
placed at unit.Cut = Cut
placed at unit.SecondSpelling = SecondSpelling at

-- What stands before the place is the spelling of some units, and there begins, before the end of the bytes, a
-- unit with this fault.
pub record HasFault (bytes : List ℕ) (fault : TextFault) : Type 0 where
  pub units : List ℕ
  pub rest : List ℕ
  pub unit_fault : UnitFault
  pub fit : UnitsFit units
  pub parts : bytes ≡ spelling units ++ rest
  pub some : rest ≢ []
  pub there : unit_at rest ≡ Err unit_fault
  pub is : fault ≡ placed (length (spelling units)) unit_fault

-- want of memory, or just this fault
abbrev pub IsUnlessMemory : TextFault → TextFault → Type 0
IsUnlessMemory fault e = (e ≡ Memory) ⊎ (e ≡ fault)

-- no two lists of units have one spelling, and no other units are spelled by bytes that were written, whatever
-- follows in another part
pub record OneSpelling : Type 0 where
  pub apart : (a b : List ℕ) → UnitsFit a → UnitsFit b → spelling a ≡ spelling b → a ≡ b
  pub again : (units others rest : List ℕ) → UnitsFit units → UnitsFit others → take (length (spelling units)) (spelling units ++ rest) ≡ spelling others → others ≡ units
