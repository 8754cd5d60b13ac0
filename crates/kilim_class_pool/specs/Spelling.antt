-- The bytes of a constant pool (JVMS 4.4): each pool has one spelling.
use Rattle.std.specs.Prelude.{◌≡◌, ℕ, ◌^◌, ◌<◌, List, ◌++◌, length, FitsSigned, None}
use Rattle.std.specs.List.{flat_map, AllByRecursion}
use Rattle.std.specs.Int.{w32, w64}
use Rattle.kilim_class_grammar.specs.Spelling.{u1, u2, u4, two_u4, signed}
use Rattle.kilim_class_mutf8.specs.Spelling.{spelling, UnitsFit}
use Rattle.kilim_class_pool.specs.declared.entry.Entry.{Entry}
use Rattle.kilim_class_pool.specs.declared.entry.Entry.TheVariants.{Utf8, Integer, Float, Long, Double, Class, String, Fieldref, Methodref, InterfaceMethodref, NameAndType, MethodHandle, MethodType, InvokeDynamic}
use Rattle.kilim_class_pool.specs.Entries.{count_of, first_bad}

-- two numbers of two bytes
abbrev pub pair_text : ℕ → ℕ → List ℕ
pair_text first second = u2 first ++ u2 second

-- a length in bytes, and a text
abbrev pub string_text : List ℕ → List ℕ
string_text units = u2 (length (spelling units)) ++ spelling units

-- the tag that says what an entry is (JVMS 4.4, table 4.4-A)
abbrev pub tag_of : Entry → ℕ
tag_of (Utf8 units) = 1
tag_of (Integer n) = 3
tag_of (Float bits) = 4
tag_of (Long n) = 5
tag_of (Double bits) = 6
tag_of (Class name) = 7
tag_of (String text) = 8
tag_of (Fieldref class member) = 9
tag_of (Methodref class member) = 10
tag_of (InterfaceMethodref class member) = 11
tag_of (NameAndType name descriptor) = 12
tag_of (MethodHandle kind named) = 15
tag_of (MethodType descriptor) = 16
tag_of (InvokeDynamic bootstrap member) = 18

-- what follows the tag
abbrev pub content_text : Entry → List ℕ
content_text (Utf8 units) = string_text units
content_text (Integer n) = signed w32 n
content_text (Float bits) = u4 bits
content_text (Long n) = signed w64 n
content_text (Double bits) = two_u4 bits
content_text (Class name) = u2 name
content_text (String text) = u2 text
content_text (Fieldref class member) = pair_text class member
content_text (Methodref class member) = pair_text class member
content_text (InterfaceMethodref class member) = pair_text class member
content_text (NameAndType name descriptor) = pair_text name descriptor
content_text (MethodHandle kind named) = u1 kind ++ u2 named
content_text (MethodType descriptor) = u2 descriptor
content_text (InvokeDynamic bootstrap member) = pair_text bootstrap member

abbrev pub entry_text : Entry → List ℕ
entry_text entry = u1 (tag_of entry) ++ content_text entry

-- a count that is one more than the greatest index, and the entries
abbrev pub pool_text : List Entry → List ℕ
pool_text entries = u2 (count_of entries) ++ flat_map entry_text entries

-- ---- what has a text: each number fits the field in which it stands, and each index names what it has to

abbrev pub PairFits : ℕ → ℕ → Type 0
PairFits first second = (first < 2 ^ 16) × (second < 2 ^ 16)

abbrev pub EntryFits : Entry → Type 0
EntryFits (Utf8 units) = UnitsFit units × (length (spelling units) < 2 ^ 16)
EntryFits (Integer n) = FitsSigned w32 n
EntryFits (Float bits) = bits < 2 ^ 32
EntryFits (Long n) = FitsSigned w64 n
EntryFits (Double bits) = bits < 2 ^ 64
EntryFits (Class name) = name < 2 ^ 16
EntryFits (String text) = text < 2 ^ 16
EntryFits (Fieldref class member) = PairFits class member
EntryFits (Methodref class member) = PairFits class member
EntryFits (InterfaceMethodref class member) = PairFits class member
EntryFits (NameAndType name descriptor) = PairFits name descriptor
EntryFits (MethodHandle kind named) = (kind < 2 ^ 8) × (named < 2 ^ 16)
EntryFits (MethodType descriptor) = descriptor < 2 ^ 16
EntryFits (InvokeDynamic bootstrap member) = PairFits bootstrap member

pub record PoolFits (entries : List Entry) : Type 0 where
  pub few : count_of entries < 2 ^ 16
  pub fit : AllByRecursion EntryFits entries
  pub refer : first_bad entries ≡ None
