-- The bytes of a class file (JVMS 4.1, 4.5, 4.6): each file has one spelling.
use Rattle.std.specs.Prelude.{◌≡◌, ℕ, ◌<◌, ◌≤◌, ◌^◌, Bool, true, List, [], ◌++◌, length, Option}
use Rattle.std.specs.List.{flat_map, AllByRecursion}
use Rattle.kilim_class_grammar.specs.Spelling.{u2, u4, list_text}
use Rattle.kilim_class_pool.specs.declared.entry.Entry.{Entry}
use Rattle.kilim_class_pool.specs.Entries.{entry_at, is_utf8, is_class}
use Rattle.kilim_class_pool.specs.Spelling.{pool_text, PoolFits}
use Rattle.kilim_class_attributes.specs.declared.attribute.Place.{Place}
use Rattle.kilim_class_attributes.specs.declared.attribute.Place.TheVariants as place
use Rattle.kilim_class_attributes.specs.Attributes.{attributes_text, AttributesFit}
use Rattle.kilim_class_file.specs.declared.class_file.MemberInfo.{MemberInfo}
use Rattle.kilim_class_file.specs.declared.class_file.ClassFile.{ClassFile}
use Rattle.kilim_class_file.specs.Parts.{has_its_code}

abbrev pub member_text : MemberInfo → List ℕ
member_text m = u2 m.access_flags ++ (u2 m.name_index ++ (u2 m.descriptor_index ++ attributes_text m.attributes))

-- magic number, version, pool, flags, this class and super class, interfaces, fields, methods, attributes
abbrev pub class_text : ClassFile → List ℕ
class_text f =
    u4 0xCAFEBABE ++ (u2 f.minor_version ++ (u2 f.major_version ++ (pool_text f.constant_pool
    ++ (u2 f.access_flags ++ (u2 f.this_class ++ (u2 f.super_class
    ++ (list_text u2 f.interfaces ++ (list_text member_text f.fields ++ (list_text member_text f.methods ++ attributes_text f.attributes)))))))))

-- ---- what has a text

-- an index of two bytes that names an entry of its kind
abbrev pub Names : (Option Entry → Bool) → List Entry → ℕ → Type 0
Names is_kind pool index = (index < 2 ^ 16) × (is_kind (entry_at pool index) ≡ true)

pub record MemberFits (pool : List Entry) (at : Place) (member : MemberInfo) : Type 0 where
  pub flags : member.access_flags < 2 ^ 16
  pub name : Names is_utf8 pool member.name_index
  pub descriptor : Names is_utf8 pool member.descriptor_index
  pub attributes : AttributesFit pool at member.attributes

pub record MethodFits (pool : List Entry) (method : MemberInfo) : Type 0 where
  pub member : MemberFits pool place.Method method
  pub code : has_its_code method ≡ true

abbrev pub ListFits : {A : Type 0} → (A → Type 0) → List A → Type 0
ListFits Fits xs = (length xs < 2 ^ 16) × AllByRecursion Fits xs

-- the most bytes of a file
unfoldable pub size_limit : ℕ
size_limit = 16777216

-- a file whose parts have texts
pub record PartsFit (f : ClassFile) : Type 0 where
  pub minor : f.minor_version ≡ 0
  pub major : f.major_version ≡ 52
  pub pool : PoolFits f.constant_pool
  pub flags : f.access_flags < 2 ^ 16
  pub this_class : Names is_class f.constant_pool f.this_class
  pub super_class : Names is_class f.constant_pool f.super_class
  pub interfaces : ListFits (Names is_class f.constant_pool) f.interfaces
  pub fields : ListFits (MemberFits f.constant_pool place.Field) f.fields
  pub methods : ListFits (MethodFits f.constant_pool) f.methods
  pub attributes : AttributesFit f.constant_pool place.Class f.attributes

-- A file that has a text: version 52.0, each number fits its field, each index names an entry of its kind, the parts
-- have texts, each method has Code exactly where it has to, and the text isn't too long.
pub record ClassFits (f : ClassFile) : Type 0 where
  pub parts : PartsFit f
  pub size : length (class_text f) ≤ size_limit
