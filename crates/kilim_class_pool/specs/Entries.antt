-- The indices of a constant pool, and which entries may name which (JVMS 4.4).
use Rattle.std.specs.Prelude.{ℕ, zero, suc, ◌+◌, ◌==◌, Bool, true, false, ◌&&◌, ◌||◌, not, if◌then◌else◌, List, [], ◌∷◌, length, slice_get, Option, Some, None}
use Rattle.std.specs.List.{flat_map, position}
use Rattle.kilim_class_pool.specs.declared.entry.Entry.{Entry}
use Rattle.kilim_class_pool.specs.declared.entry.Entry.TheVariants.{Utf8, Long, Double, Class, String, Fieldref, Methodref, InterfaceMethodref, NameAndType, MethodHandle, MethodType, InvokeDynamic}

-- a Long or a Double takes two indices (JVMS 4.4.5)
abbrev pub is_wide : Entry → Bool
is_wide (Long n) = true
is_wide (Double n) = true
is_wide _ = false

-- the number of indices that an entry takes
abbrev pub width_of : Entry → ℕ
width_of entry = if is_wide entry then 2 else 1

-- An index holds an entry, or is the second one of the entry before it. The first index is 1.
abbrev pub slots_of_entry : Entry → List (Option Entry)
slots_of_entry entry = if is_wide entry then Some entry ∷ None ∷ [] else Some entry ∷ []

abbrev pub slots_of : List Entry → List (Option Entry)
slots_of entries = flat_map slots_of_entry entries

abbrev pub entry_of : Option (Option Entry) → Option Entry
entry_of None = None
entry_of (Some slot) = slot

-- the entry at a place of the list of slots, counted from 0; none past the end and at a second index
abbrev pub slot : List (Option Entry) → ℕ → Option Entry
slot slots place = entry_of (slice_get slots place)

-- The entry of an index: none for 0, past the end, and at a second index.
abbrev pub entry_at : List Entry → ℕ → Option Entry
entry_at entries zero = None
entry_at entries (suc place) = slot (slots_of entries) place

-- the count that a file states: one more than the greatest index
abbrev pub count_of : List Entry → ℕ
count_of entries = length (slots_of entries) + 1

-- ---- what kind of entry stands at an index

abbrev pub is_utf8 : Option Entry → Bool
is_utf8 (Some (Utf8 units)) = true
is_utf8 _ = false

abbrev pub is_class : Option Entry → Bool
is_class (Some (Class name)) = true
is_class _ = false

abbrev pub is_name_and_type : Option Entry → Bool
is_name_and_type (Some (NameAndType name descriptor)) = true
is_name_and_type _ = false

abbrev pub is_fieldref : Option Entry → Bool
is_fieldref (Some (Fieldref class member)) = true
is_fieldref _ = false

abbrev pub is_methodref : Option Entry → Bool
is_methodref (Some (Methodref class member)) = true
is_methodref _ = false

abbrev pub is_interface_methodref : Option Entry → Bool
is_interface_methodref (Some (InterfaceMethodref class member)) = true
is_interface_methodref _ = false

-- What a method handle of a kind names (JVMS 4.4.8): kinds 1 to 4 a field, 5 and 8 a method of a class, 6 and 7 a
-- method of a class or an interface, 9 a method of an interface. There are no other kinds.
abbrev pub is_handled : ℕ → Option Entry → Bool
is_handled kind named =
    if kind == 1 || kind == 2 || kind == 3 || kind == 4 then is_fieldref named
    else (if kind == 5 || kind == 8 then is_methodref named
    else (if kind == 6 || kind == 7 then is_methodref named || is_interface_methodref named
    else (if kind == 9 then is_interface_methodref named
    else false)))

-- a class and a member of it
abbrev pub is_member : List Entry → ℕ → ℕ → Bool
is_member pool class member = is_class (entry_at pool class) && is_name_and_type (entry_at pool member)

-- whether each index in an entry names an entry of the kind that stands there
unfoldable pub refers_well : List Entry → Entry → Bool
refers_well pool (Class name) = is_utf8 (entry_at pool name)
refers_well pool (String text) = is_utf8 (entry_at pool text)
refers_well pool (Fieldref class member) = is_member pool class member
refers_well pool (Methodref class member) = is_member pool class member
refers_well pool (InterfaceMethodref class member) = is_member pool class member
refers_well pool (NameAndType name descriptor) = is_utf8 (entry_at pool name) && is_utf8 (entry_at pool descriptor)
refers_well pool (MethodHandle kind named) = is_handled kind (entry_at pool named)
refers_well pool (MethodType descriptor) = is_utf8 (entry_at pool descriptor)
refers_well pool (InvokeDynamic bootstrap member) = is_name_and_type (entry_at pool member)
refers_well pool _ = true

-- an entry that refers to another kind of entry than it has to, or to none
abbrev pub is_bad : List Entry → Option Entry → Bool
is_bad pool None = false
is_bad pool (Some entry) = not (refers_well pool entry)

-- the place of the first of them among the slots, counted from 0
unfoldable pub first_bad : List Entry → Option ℕ
first_bad pool = position (is_bad pool) (slots_of pool)
