-- Names in reports: as in a journal, but `<init>` keeps its brackets as the name of a method, and a descriptor those
-- around its parameters.
use Rattle.std.specs.Prelude.{◌≡◌, ℕ, Bool, ◌||◌, ◌==◌, if◌then◌else◌, List, [], ◌∷◌, ◌++◌, codes}
use Rattle.std.specs.List.{flat_map}
use Rattle.std.specs.Str.{bytes_eq}
use Rattle.kilim_units.specs.Characters.{left_parenthesis, right_parenthesis}
use Rattle.kilim_units.specs.NameText.{name_unit, name_text}
use Rattle.kilim_class_file.specs.declared.fault.MemberName.{MemberName}

unfoldable pub member_name_text : List ℕ → List ℕ
member_name_text name = if bytes_eq name (codes "<init>") then codes "<init>" else name_text name

abbrev pub descriptor_unit : ℕ → List ℕ
descriptor_unit u = if u == left_parenthesis || u == right_parenthesis then u ∷ [] else name_unit u

abbrev pub descriptor_text : List ℕ → List ℕ
descriptor_text descriptor = flat_map descriptor_unit descriptor

-- name and descriptor, one behind the other
abbrev pub method_text : MemberName → List ℕ
method_text m = member_name_text m.name ++ descriptor_text m.descriptor
