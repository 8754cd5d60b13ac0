-- The text of a descriptor (JVMS 4.3.2, 4.3.3), in UTF-16 units: each type has one. Of a class name it asks only that
-- it is not empty and has no semicolon (own).
use Rattle.std.specs.Prelude.{◌≡◌, ℕ, ◌^◌, ◌<◌, Bool, true, false, ◌==◌, not, if◌then◌else◌, List, [], ◌∷◌, ◌++◌, replicate, Option, Some, None, sum_by}
use Rattle.std.specs.List.{flat_map, list_all, AllByRecursion}
use Rattle.kilim_units.specs.Characters.{left_parenthesis, right_parenthesis, semicolon, upper_b, upper_c, upper_d, upper_f, upper_i, upper_j, upper_l, upper_s, upper_v, upper_z, left_bracket}
use Rattle.kilim_class_descriptors.specs.declared.types.BaseText.{BaseText}
use Rattle.kilim_class_descriptors.specs.declared.types.BaseText.TheVariants.{Bool as Boolean, Byte, Char, Short, Int, Long, Float, Double, Class}
use Rattle.kilim_class_descriptors.specs.declared.types.FieldText.{FieldText}
use Rattle.kilim_class_descriptors.specs.declared.types.MethodText.{MethodText}

-- Z B C S I J F D, and a class name between L and a semicolon
abbrev pub base_text : BaseText → List ℕ
base_text Boolean = upper_z ∷ []
base_text Byte = upper_b ∷ []
base_text Char = upper_c ∷ []
base_text Short = upper_s ∷ []
base_text Int = upper_i ∷ []
base_text Long = upper_j ∷ []
base_text Float = upper_f ∷ []
base_text Double = upper_d ∷ []
base_text (Class name) = upper_l ∷ (name ++ semicolon ∷ [])

-- an opening bracket for each dimension
abbrev pub field_text : FieldText → List ℕ
field_text f = replicate f.dims left_bracket ++ base_text f.base

-- V for void
abbrev pub result_text : Option FieldText → List ℕ
result_text None = upper_v ∷ []
result_text (Some f) = field_text f

-- the parameters in parentheses, and the result
abbrev pub method_text : MethodText → List ℕ
method_text m = left_parenthesis ∷ (flat_map field_text m.params ++ right_parenthesis ∷ result_text m.result)

-- ---- what has a text

abbrev pub is_some_name : List ℕ → Bool
is_some_name [] = false
is_some_name (u ∷ us) = true

-- a class name has no semicolon and isn't empty
abbrev pub BaseFits : BaseText → Type 0
BaseFits (Class name) = (is_some_name name ≡ true) × (list_all (λ u. not (u == semicolon)) name ≡ true)
BaseFits b = Unit {0}

abbrev pub FieldFits : FieldText → Type 0
FieldFits f = (f.dims < 2 ^ 8) × BaseFits f.base

abbrev pub ResultFits : Option FieldText → Type 0
ResultFits None = Unit {0}
ResultFits (Some f) = FieldFits f

abbrev pub MethodFits : MethodText → Type 0
MethodFits m = AllByRecursion FieldFits m.params × ResultFits m.result

-- ---- argument slots (JVMS 2.6.1, 4.3.3)

abbrev pub is_wide : BaseText → Bool
is_wide Long = true
is_wide Double = true
is_wide b = false

abbrev pub base_slots : Bool → ℕ
base_slots true = 2
base_slots false = 1

-- an array is one slot, whatever it holds
abbrev pub slots : FieldText → ℕ
slots f = if f.dims == 0 then base_slots (is_wide f.base) else 1

abbrev pub slots_of : MethodText → ℕ
slots_of m = sum_by slots m.params
