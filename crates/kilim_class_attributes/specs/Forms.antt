-- In what form an attribute is read, by its place and its name (JVMS 4.7).
use Rattle.std.specs.Prelude.{ℕ, Bool, true, false, if◌then◌else◌, List, Option, Some, None, Result, Ok, Err}
use Rattle.kilim_class_pool.specs.declared.entry.Entry.{Entry}
use Rattle.kilim_class_pool.specs.declared.entry.Entry.TheVariants as entry
use Rattle.kilim_class_pool.specs.Entries.{entry_at}
use Rattle.kilim_class_attributes.specs.declared.parts.fault.AttributeFault.{AttributeFault}
use Rattle.kilim_class_attributes.specs.declared.parts.fault.AttributeFault.TheVariants as fault
use Rattle.kilim_class_attributes.specs.declared.parts.name.AttributeName.{AttributeName}
use Rattle.kilim_class_attributes.specs.declared.parts.name.AttributeName.TheVariants.{ConstantValue, Code, StackMapTable, Exceptions, RuntimeVisibleAnnotations, RuntimeInvisibleAnnotations, RuntimeVisibleParameterAnnotations, RuntimeInvisibleParameterAnnotations}
use Rattle.kilim_class_attributes.specs.parts.Names.{named}
use Rattle.kilim_class_attributes.specs.declared.attribute.Place.{Place}
use Rattle.kilim_class_attributes.specs.declared.attribute.Place.TheVariants as place

-- where the attributes that are read into parts stand
abbrev pub stands_in : Place → AttributeName → Bool
stands_in place.Class RuntimeVisibleAnnotations = true
stands_in place.Class RuntimeInvisibleAnnotations = true
stands_in place.Field ConstantValue = true
stands_in place.Field RuntimeVisibleAnnotations = true
stands_in place.Field RuntimeInvisibleAnnotations = true
stands_in place.Method Code = true
stands_in place.Method Exceptions = true
stands_in place.Method RuntimeVisibleAnnotations = true
stands_in place.Method RuntimeInvisibleAnnotations = true
stands_in place.Method RuntimeVisibleParameterAnnotations = true
stands_in place.Method RuntimeInvisibleParameterAnnotations = true
stands_in place.Code StackMapTable = true
stands_in _ _ = false

abbrev pub form_in : Place → Option AttributeName → Option AttributeName
form_in place None = None
form_in place (Some name) = if stands_in place name then Some name else None

-- the form of an attribute with these units as its name; none, where it is kept as its bytes
unfoldable pub form_of : Place → List ℕ → Option AttributeName
form_of place units = form_in place (named units)

-- the name has to be a Utf8
abbrev pub form_by : Place → ℕ → Option Entry → Result (Option AttributeName) AttributeFault
form_by place index (Some (entry.Utf8 units)) = Ok (form_of place units)
form_by place index _ = Err (fault.BadIndex index)

unfoldable pub form_at : List Entry → Place → ℕ → Result (Option AttributeName) AttributeFault
form_at pool place index = form_by place index (entry_at pool index)

-- those of which there may be one (JVMS 4.7.2 to 4.7.5)
abbrev pub stands_once : AttributeName → Bool
stands_once ConstantValue = true
stands_once Code = true
stands_once StackMapTable = true
stands_once Exceptions = true
stands_once _ = false

-- an attribute that may stand once has no other one of its form before it
abbrev pub unless_twice : {A : Type 0} → (AttributeName → List A → Bool) → Option AttributeName → List A → Result (Option AttributeName) AttributeFault
unless_twice repeats None before = Ok None
unless_twice repeats (Some form) before = if repeats form before then Err (fault.Twice form) else Ok (Some form)
