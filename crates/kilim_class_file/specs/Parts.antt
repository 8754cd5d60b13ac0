-- What the parts of a class file have to be beyond their numbers.
use Rattle.std.specs.Prelude.{◌≡◌, ℕ, ◌==◌, Bool, true, false, not, bit_and, List, [], Option, Some, None}
use Rattle.std.specs.List.{list_any}
use Rattle.kilim_class_pool.specs.declared.entry.Entry.{Entry}
use Rattle.kilim_class_pool.specs.declared.entry.Entry.TheVariants.{Utf8}
use Rattle.kilim_class_pool.specs.Entries.{entry_at}
use Rattle.kilim_class_attributes.specs.declared.attribute.Info.{Info}
use Rattle.kilim_class_attributes.specs.declared.attribute.Info.TheVariants.{Code}
use Rattle.kilim_class_attributes.specs.declared.attribute.Attribute.{Attribute}
use Rattle.kilim_class_file.specs.declared.class_file.MemberInfo.{MemberInfo}
use Rattle.kilim_class_file.specs.declared.fault.MemberName.{MemberName}

-- the units of a Utf8
abbrev pub units_in : Option Entry → List ℕ
units_in (Some (Utf8 units)) = units
units_in _ = []

unfoldable pub text_of : List Entry → ℕ → List ℕ
text_of pool index = units_in (entry_at pool index)

abbrev pub is_code : Info → Bool
is_code (Code code) = true
is_code _ = false

abbrev pub has_code : List Attribute → Bool
has_code attributes = list_any (λ a. is_code a.info) attributes

-- ACC_NATIVE or ACC_ABSTRACT (JVMS 4.6)
abbrev pub is_bodiless : ℕ → Bool
is_bodiless flags = not (bit_and flags 0x0500 == 0)

-- A method has Code exactly where it is neither abstract nor native (JVMS 4.7.3).
abbrev pub differs : Bool → Bool → Bool
differs true other = not other
differs false other = other

unfoldable pub has_its_code : MemberInfo → Bool
has_its_code method = differs (is_bodiless method.access_flags) (has_code method.attributes)

abbrev pub name_of : List Entry → MemberInfo → MemberName
name_of pool member = record { name = text_of pool member.name_index; descriptor = text_of pool member.descriptor_index }
