-- What each fault of reading a class file says of its bytes.
use Rattle.std.specs.Prelude.{◌≡◌, ◌≢◌, ◌⊎◌, ℕ, ◌<◌, ◌≤◌, List, [], ◌++◌, length, Result, Ok, Err}
use Rattle.kilim_class_grammar.specs.Format.{IsBytes}
use Rattle.kilim_class_pool.specs.declared.fault.PoolFault.{PoolFault}
use Rattle.kilim_class_pool.specs.declared.fault.PoolFault.TheVariants as of_pool
use Rattle.kilim_class_attributes.specs.declared.parts.fault.AttributeFault.{AttributeFault}
use Rattle.kilim_class_attributes.specs.declared.parts.fault.AttributeFault.TheVariants as of_attribute
use Rattle.kilim_class_file.specs.declared.class_file.ClassFile.{ClassFile}
use Rattle.kilim_class_file.specs.declared.fault.ClassFault.{ClassFault}
use Rattle.kilim_class_file.specs.declared.fault.ClassFault.TheVariants as fault
use Rattle.kilim_class_file.specs.Text.{class_text, PartsFit, ClassFits, size_limit}
use Rattle.kilim_class_file.specs.Reading.{read_class}

-- ---- a Cut of a lower part is the file's own, and want of memory is the file's own

abbrev pub IsHeldOfPool : PoolFault → Type 0
IsHeldOfPool of_pool.Cut = ⊥
IsHeldOfPool of_pool.Memory = ⊥
IsHeldOfPool _ = Unit {0}

abbrev pub IsHeldOfAttribute : AttributeFault → Type 0
IsHeldOfAttribute of_attribute.Cut = ⊥
IsHeldOfAttribute of_attribute.Memory = ⊥
IsHeldOfAttribute _ = Unit {0}

-- a fault of a part, in a file of so many bytes; of want of memory nothing is said
abbrev pub IsOfPart : ℕ → ClassFault → Type 0
IsOfPart len (fault.Cut at) = at ≡ len
IsOfPart len (fault.Pool held) = IsHeldOfPool held
IsOfPart len (fault.Attribute held) = IsHeldOfAttribute held
IsOfPart len (fault.Extra at) = ⊥
IsOfPart len fault.TooLarge = ⊥
IsOfPart len _ = Unit {0}

-- ---- what each fault says

-- the parts of a file stand in front, of so many bytes, and others behind
pub record HasExtra (bytes : List ℕ) (at : ℕ) : Type 0 where
  pub file : ClassFile
  pub rest : List ℕ
  pub fits : PartsFit file
  pub parts : bytes ≡ class_text file ++ rest
  pub some : rest ≢ []
  pub place : at ≡ length (class_text file)

-- what a fault says of the bytes
unfoldable pub Says : List ℕ → ClassFault → Type 0
Says bytes fault.TooLarge = size_limit < length bytes
Says bytes (fault.Extra at) = HasExtra bytes at
Says bytes found = IsOfPart (length bytes) found

-- The faults, by what they say of the bytes and of those that may follow.
pub record FaultsAreTrue : Type 0 where
  pub says : (bytes : List ℕ) (found : ClassFault) → IsBytes bytes → read_class bytes ≡ Err found → Says bytes found
  -- more bytes than a file may have, whatever they are
  pub large : (bytes : List ℕ) → (size_limit < length bytes) → read_class bytes ≡ Err fault.TooLarge
  -- a file, and bytes behind its last attribute
  pub beyond : (bytes : List ℕ) (at : ℕ) → length bytes ≤ size_limit → HasExtra bytes at → read_class bytes ≡ Err (fault.Extra at)
  -- each proper front of a class file is cut, and its length is named
  pub fronts : (file : ClassFile) (front more : List ℕ) → ClassFits file → class_text file ≡ front ++ more → more ≢ [] → read_class front ≡ Err (fault.Cut (length front))
  -- a part that is broken stays so, whatever follows: nothing that follows could spell a class file
  pub broken : (bytes more : List ℕ) (found : ClassFault) → length (bytes ++ more) ≤ size_limit → read_class bytes ≡ Err found
      → (found ≡ fault.Cut (length bytes)) ⊎ (((at : ℕ) × (found ≡ fault.Extra at)) ⊎ (read_class (bytes ++ more) ≡ Err found))
