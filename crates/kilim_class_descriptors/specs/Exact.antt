-- What is answered for a text.
use Rattle.std.specs.Prelude.{◌≡◌, ℕ, ◌+◌, ◌<◌, ◌≤◌, List, ◌++◌, length, take, Option, Some, None, Result, Ok, Err}
use Rattle.kilim_class_descriptors.specs.declared.types.FieldText.{FieldText}
use Rattle.kilim_class_descriptors.specs.declared.types.MethodText.{MethodText}
use Rattle.kilim_class_descriptors.specs.declared.fault.DescriptorFault.{DescriptorFault}
use Rattle.kilim_class_descriptors.specs.declared.fault.DescriptorFault.TheVariants.{Malformed, TooManySlots, Memory}
use Rattle.kilim_class_descriptors.specs.Text.{slots_of}
use Rattle.kilim_class_descriptors.specs.Reading.{whole_field, whole_method}

-- reading stops at this place
abbrev pub StopsAt : {A : Type 0} → List ℕ → Result A ℕ → ℕ → Type 0
StopsAt text read at = (left : ℕ) × (read ≡ Err left) × (at + left ≡ length text)

abbrev pub FieldGives : List ℕ → Result FieldText DescriptorFault → Type 0
FieldGives text (Ok f) = whole_field text ≡ Ok f
FieldGives text (Err (Malformed at)) = StopsAt text (whole_field text) at
FieldGives text (Err (TooManySlots n)) = ⊥
FieldGives text (Err Memory) = Unit {0}

-- too many slots is a fault of a text that is a descriptor otherwise
abbrev pub MethodGives : List ℕ → Result MethodText DescriptorFault → Type 0
MethodGives text (Ok m) = (whole_method text ≡ Ok m) × (slots_of m ≤ 255)
MethodGives text (Err (Malformed at)) = StopsAt text (whole_method text) at
MethodGives text (Err (TooManySlots n)) = (m : MethodText) × (whole_method text ≡ Ok m) × (slots_of m ≡ n) × (255 < n)
MethodGives text (Err Memory) = Unit {0}

-- The first place where no text goes on like this: one begins with the units before it, and none with those up to it.
pub record IsFirstPlace {A : Type 0} (text : A → List ℕ) (Fits : A → Type 0) (units : List ℕ) (at : ℕ) : Type 0 where
  pub inside : at ≤ length units
  -- a text that begins with the units before the place
  pub begun : A
  pub fits : Fits begun
  pub rest : List ℕ
  pub begins : text begun ≡ take at units ++ rest
  -- no text begins with these and the unit at the place
  pub none : at < length units → (x : A) → Fits x → (rest : List ℕ) → text x ≡ take (at + 1) units ++ rest → ⊥
  -- nor are the units a text, which says more where the place is their end
  pub no_text : (x : A) → Fits x → units ≡ text x → ⊥

-- malformed units are so from the first such place on
abbrev pub AtFirstPlace : {A : Type 0} → (A → List ℕ) → (A → Type 0) → List ℕ → DescriptorFault → Type 0
AtFirstPlace text Fits units (Malformed at) = IsFirstPlace text Fits units at
AtFirstPlace text Fits units (TooManySlots n) = Unit {0}
AtFirstPlace text Fits units Memory = Unit {0}

-- what a text reads as, if it is a descriptor
abbrev pub spelled_by : {A : Type 0} → Result A ℕ → Option A
spelled_by (Ok x) = Some x
spelled_by (Err left) = None
