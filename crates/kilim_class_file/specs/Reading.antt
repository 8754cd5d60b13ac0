-- Reading a class file from its first byte to its last: the parts in file order. A part that the bytes end in is cut,
-- and then the number of the bytes is named.
use Rattle.std.specs.Prelude.{◌≡◌, ℕ, ◌-◌, ◌<◌, ◌==◌, nat_lt, Bool, true, false, ◌&&◌, if◌then◌else◌, List, [], ◌∷◌, ◌++◌, length, Option, Result, Ok, Err}
use Rattle.std.specs.Int.{w16, w32}
use Rattle.kilim_class_grammar.specs.Reader.{Reader, ◌>>=◌, checked, number_at, both, followed, made, tested, refaulted, counted, is_empty}
use Rattle.kilim_class_pool.specs.declared.entry.Entry.{Entry}
use Rattle.kilim_class_pool.specs.declared.fault.PoolFault.{PoolFault}
use Rattle.kilim_class_pool.specs.declared.fault.PoolFault.TheVariants as of_pool
use Rattle.kilim_class_pool.specs.Entries.{entry_at, is_utf8, is_class}
use Rattle.kilim_class_pool.specs.Reading.{pool_at}
use Rattle.kilim_class_attributes.specs.declared.parts.fault.AttributeFault.{AttributeFault}
use Rattle.kilim_class_attributes.specs.declared.parts.fault.AttributeFault.TheVariants as of_attribute
use Rattle.kilim_class_attributes.specs.declared.attribute.Place.{Place}
use Rattle.kilim_class_attributes.specs.declared.attribute.Place.TheVariants as place
use Rattle.kilim_class_attributes.specs.declared.attribute.Attribute.{Attribute}
use Rattle.kilim_class_attributes.specs.Attributes.{attributes_at}
use Rattle.kilim_class_file.specs.declared.class_file.MemberInfo.{MemberInfo}
use Rattle.kilim_class_file.specs.declared.class_file.ClassFile.{ClassFile}
use Rattle.kilim_class_file.specs.declared.fault.ClassFault.{ClassFault}
use Rattle.kilim_class_file.specs.declared.fault.ClassFault.TheVariants as fault
use Rattle.kilim_class_file.specs.Parts.{has_its_code, name_of}
use Rattle.kilim_class_file.specs.Text.{size_limit}

-- ---- faults of lower parts: their Cut is that of the file

abbrev pub pool_fault : ℕ → PoolFault → ClassFault
pool_fault len of_pool.Cut = fault.Cut len
pool_fault len (of_pool.Tag index tag) = fault.Pool (of_pool.Tag index tag)
pool_fault len (of_pool.BadIndex index) = fault.Pool (of_pool.BadIndex index)
pool_fault len (of_pool.Text index) = fault.Pool (of_pool.Text index)
pool_fault len of_pool.Memory = fault.Memory

abbrev pub attribute_fault : ℕ → AttributeFault → ClassFault
attribute_fault len of_attribute.Cut = fault.Cut len
attribute_fault len (of_attribute.Length name) = fault.Attribute (of_attribute.Length name)
attribute_fault len (of_attribute.FrameTag tag) = fault.Attribute (of_attribute.FrameTag tag)
attribute_fault len (of_attribute.BadIndex index) = fault.Attribute (of_attribute.BadIndex index)
attribute_fault len (of_attribute.Twice name) = fault.Attribute (of_attribute.Twice name)
attribute_fault len of_attribute.Memory = fault.Memory

-- ---- parts, in a file of so many bytes

abbrev pub u2_at : ℕ → Reader ClassFault ℕ
u2_at len = number_at (fault.Cut len) w16

-- an index that has to name an entry of a kind
unfoldable pub index_at : ℕ → List Entry → (Option Entry → Bool) → Reader ClassFault ℕ
index_at len pool is_kind = tested (λ index. is_kind (entry_at pool index)) (λ index. fault.Pool (of_pool.BadIndex index)) (u2_at len)

abbrev pub class_index_at : ℕ → List Entry → Reader ClassFault ℕ
class_index_at len pool = index_at len pool is_class

abbrev pub utf8_index_at : ℕ → List Entry → Reader ClassFault ℕ
utf8_index_at len pool = index_at len pool is_utf8

abbrev pub attributes_in : ℕ → List Entry → Place → Reader ClassFault (List Attribute)
attributes_in len pool at = refaulted (attribute_fault len) (attributes_at pool at)

abbrev pub member_of : (ℕ × (ℕ × ℕ)) × List Attribute → MemberInfo
member_of x = record { access_flags = x.0.0; name_index = x.0.1.0; descriptor_index = x.0.1.1; attributes = x.1 }

unfoldable pub member_at : ℕ → List Entry → Place → Reader ClassFault MemberInfo
member_at len pool at = made member_of (both (both (u2_at len) (both (utf8_index_at len pool) (utf8_index_at len pool))) (attributes_in len pool at))

abbrev pub field_at : ℕ → List Entry → Reader ClassFault MemberInfo
field_at len pool = member_at len pool place.Field

-- whether a method has Code where it has to is asked behind all of its attributes
unfoldable pub method_at : ℕ → List Entry → Reader ClassFault MemberInfo
method_at len pool = tested has_its_code (λ method. fault.CodePresence (name_of pool method)) (member_at len pool place.Method)

abbrev pub list_at : {A : Type 0} → ℕ → Reader ClassFault A → Reader ClassFault (List A)
list_at len one = counted (fault.Cut len) w16 one

unfoldable pub magic_at : ℕ → Reader ClassFault ℕ
magic_at len = tested (λ magic. magic == 0xCAFEBABE) (λ magic. fault.Magic) (number_at (fault.Cut len) w32)

-- the minor number comes first
unfoldable pub version_at : ℕ → Reader ClassFault (ℕ × ℕ)
version_at len = tested (λ v. v.0 == 0 && v.1 == 52) (λ v. fault.Version v.1 v.0) (both (u2_at len) (u2_at len))

abbrev pub Front : Type 0
Front = (ℕ × (ℕ × ℕ)) × List Entry

-- magic number, version and pool
unfoldable pub front_at : ℕ → Reader ClassFault Front
front_at len = both (both (magic_at len) (version_at len)) (refaulted (pool_fault len) pool_at)

-- flags, this class and super class
unfoldable pub names_at : ℕ → List Entry → Reader ClassFault (ℕ × (ℕ × ℕ))
names_at len pool = both (u2_at len) (both (class_index_at len pool) (class_index_at len pool))

-- interfaces, fields, methods and attributes
abbrev pub Lists : Type 0
Lists = (List ℕ × List MemberInfo) × (List MemberInfo × List Attribute)

unfoldable pub lists_at : ℕ → List Entry → Reader ClassFault Lists
lists_at len pool = both (both (list_at len (class_index_at len pool)) (list_at len (field_at len pool))) (both (list_at len (method_at len pool)) (attributes_in len pool place.Class))

abbrev pub class_of : Front × ((ℕ × (ℕ × ℕ)) × Lists) → ClassFile
class_of x = record {
  minor_version = x.0.0.1.0;
  major_version = x.0.0.1.1;
  constant_pool = x.0.1;
  access_flags = x.1.0.0;
  this_class = x.1.0.1.0;
  super_class = x.1.0.1.1;
  interfaces = x.1.1.0.0;
  fields = x.1.1.0.1;
  methods = x.1.1.1.0;
  attributes = x.1.1.1.1;
}

-- the parts of a file, whatever follows
unfoldable pub class_at : ℕ → Reader ClassFault ClassFile
class_at len = made class_of (followed (front_at len) (λ front. both (names_at len front.1) (lists_at len front.1)))

-- all of the bytes, from the place behind the last attribute on
abbrev pub ended : List ℕ → ClassFile × List ℕ → Result ClassFile ClassFault
ended bytes x = checked (is_empty x.1) (fault.Extra (length bytes - length x.1)) (Ok x.0)

-- that there are too many bytes is asked before any part
unfoldable pub read_class : List ℕ → Result ClassFile ClassFault
read_class bytes = if nat_lt size_limit (length bytes) then Err fault.TooLarge else (class_at (length bytes) bytes >>= ended bytes)
