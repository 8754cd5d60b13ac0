-- Types by the texts of descriptors and class names, and what they are in a program.
use Rattle.std.specs.Prelude.{ℕ, ◌==◌, if◌then◌else◌, List, [], ◌∷◌, ◌++◌, Option, Some, None, option_map}
use Rattle.kilim_units.specs.Characters.{left_bracket}
use Rattle.kilim_class_descriptors.specs.declared.types.BaseText.{BaseText}
use Rattle.kilim_class_descriptors.specs.declared.types.BaseText.TheVariants as text
use Rattle.kilim_class_descriptors.specs.declared.types.FieldText.{FieldText}
use Rattle.kilim_class_descriptors.specs.declared.types.MethodText.{MethodText}
use Rattle.kilim_class_descriptors.specs.Exact.{spelled_by}
use Rattle.kilim_class_descriptors.specs.Reading.{whole_field, whole_method}
use Rattle.kilim_program.specs.declared.names.ClassId.{ClassId}
use Rattle.kilim_program.specs.declared.ty.Base.{Base}
use Rattle.kilim_program.specs.declared.ty.Base.TheVariants as base
use Rattle.kilim_program.specs.declared.ty.Ty.{Ty}
use Rattle.kilim_link_spec.specs.World.{World, class_of}
pub use Rattle.kilim_link_spec.specs.declared.named.Named.{Named}
pub use Rattle.kilim_link_spec.specs.declared.named.Named.TheVariants.{AClass, AnArray, Malformed}

-- the type that the descriptor of a field is (JVMS 4.3.2)
abbrev pub field_text : List ℕ → Option FieldText
field_text units = spelled_by (whole_field units)

-- the types of the descriptor of a method (JVMS 4.3.3)
abbrev pub method_text : List ℕ → Option MethodText
method_text units = spelled_by (whole_method units)

-- ---- what a class entry names (JVMS 4.4.1)

-- a text that begins with `[`, by what it reads as
abbrev pub array_or_malformed : List ℕ → Option FieldText → Named
array_or_malformed name None = Malformed name
array_or_malformed name (Some type) = AnArray type

-- what a text names: an array where it begins with `[`
abbrev pub named_by : List ℕ → Named
named_by [] = AClass []
named_by (u ∷ us) = if u == left_bracket then array_or_malformed (u ∷ us) (field_text (u ∷ us)) else AClass (u ∷ us)

-- ---- in a program; there are no float and double types in one

-- the type of an element in a program, where it is there
abbrev pub base_in : World → BaseText → Option Base
base_in w text.Bool = Some base.Bool
base_in w text.Byte = Some base.Byte
base_in w text.Char = Some base.Char
base_in w text.Short = Some base.Short
base_in w text.Int = Some base.Int
base_in w text.Long = Some base.Long
base_in w text.Float = None
base_in w text.Double = None
base_in w (text.Class name) = option_map base.Class (class_of w name)

-- an array of so many dimensions; without any of them the element itself
abbrev pub typed : ℕ → Base → Ty
typed dims b = record { dims = dims; base = b }

-- the type of a descriptor in a program, where it is there
abbrev pub type_in : World → FieldText → Option Ty
type_in w f = option_map (typed f.dims) (base_in w f.base)

-- all of them, where there are all
abbrev pub with_first : {A : Type 0} → Option A → Option (List A) → Option (List A)
with_first (Some x) (Some xs) = Some (x ∷ xs)
with_first _ _ = None

-- what is made of each, where it can be made of all
abbrev pub each_of : {A B : Type 0} → (A → Option B) → List A → Option (List B)
each_of make [] = Some []
each_of make (x ∷ xs) = with_first (make x) (each_of make xs)

-- what is there already: `each_of itself` asks that all are
abbrev pub itself : {A : Type 0} → A → A
itself x = x

-- the types of several descriptors, where all are there
abbrev pub types_in : World → List FieldText → Option (List Ty)
types_in w fs = each_of (type_in w) fs

-- the type of a result, or none for void
abbrev pub result_in : World → Option FieldText → Option (Option Ty)
result_in w None = Some None
result_in w (Some f) = option_map Some (type_in w f)

-- the type that a class entry names
abbrev pub type_named : World → Named → Option Ty
type_named w (AClass name) = option_map (λ c. typed 0 (base.Class c)) (class_of w name)
type_named w (AnArray type) = type_in w type
type_named w (Malformed name) = None

-- a class, and no array
abbrev pub class_named_by : World → Named → Option ClassId
class_named_by w (AClass name) = class_of w name
class_named_by w _ = None

-- ---- the class names in types

-- the name of the class of a type, where it has one
abbrev pub base_names : BaseText → List (List ℕ)
base_names (text.Class name) = name ∷ []
base_names b = []

-- the same of a type, which may be an array of them
abbrev pub type_names : FieldText → List (List ℕ)
type_names f = base_names f.base

-- the type of a result as a list
abbrev pub result_types : Option FieldText → List FieldText
result_types None = []
result_types (Some f) = f ∷ []

-- the types of a method's descriptor in order
abbrev pub method_types : MethodText → List FieldText
method_types m = m.params ++ result_types m.result

-- the type of a text that is a descriptor of a field
abbrev pub types_of_field : Option FieldText → List FieldText
types_of_field None = []
types_of_field (Some f) = f ∷ []

-- the types of a text that is a descriptor of a method
abbrev pub types_of_method : Option MethodText → List FieldText
types_of_method None = []
types_of_method (Some m) = method_types m
