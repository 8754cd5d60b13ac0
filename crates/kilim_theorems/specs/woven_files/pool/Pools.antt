-- What additions to a pool keep and give, and how many there are.
use Rattle.std.specs.Prelude.{◌≡◌, ◌⊎◌, ℕ, ◌+◌, ◌≤◌, true, List, [], ◌∷◌, ◌++◌, length, Some}
use Rattle.std.specs.List.{AllByRecursion}
use Rattle.kilim_class_pool.specs.declared.entry.Entry.{Entry}
use Rattle.kilim_class_pool.specs.declared.entry.Entry.TheVariants.{Utf8, Class, NameAndType, Methodref}
use Rattle.kilim_class_pool.specs.Entries.{count_of, entry_at, refers_well}
use Rattle.kilim_class_file.specs.Parts.{text_of}
use Rattle.kilim_link_spec.specs.World.{class_text}
use Rattle.kilim_link_spec.specs.Code.{class_ref, method_ref, index_operand}
use Rattle.kilim_link_spec.specs.Types.{named_by}
use Rattle.kilim_link_spec.specs.declared.named.Operand.{Operand}
use Rattle.kilim_class_making.specs.declared.pool_needs.need.Need.{Need}
use Rattle.kilim_class_making.specs.declared.pool_needs.need.Need.TheVariants.{AText, AClass, AMethod, ACall}
use Rattle.kilim_class_making.specs.pool_needs.Adding.{with_needs, index_of, text_index, class_index, pair_index}

-- each class names a text
abbrev pub ClassesAreNamed : List Entry → Type 0
ClassesAreNamed pool = (index name : ℕ) → entry_at pool index ≡ Some (Class name) → (units : List ℕ) × (entry_at pool name ≡ Some (Utf8 units))

-- what is needed stands at its index
abbrev pub Names : List Entry → Need → Type 0
Names pool (AText units) = entry_at pool (index_of pool (AText units)) ≡ Some (Utf8 units)
Names pool (AClass name) = (class_text pool (index_of pool (AClass name)) ≡ name) × (class_ref pool (entry_at pool (index_of pool (AClass name))) ≡ Some (named_by name))
Names pool (AMethod owner name descriptor) = method_ref pool (entry_at pool (index_of pool (AMethod owner name descriptor))) ≡ Some (record { owner = owner; name = name; descriptor = descriptor })
Names pool (ACall class name descriptor) = method_ref pool (entry_at pool (index_of pool (ACall class name descriptor))) ≡ Some (record { owner = class_text pool class; name = text_of pool name; descriptor = descriptor })

pub record PoolGrows (old : List Entry) (needs : List Need) (new : List Entry) : Type 0 where
  -- what an old index names stays
  pub keeps : (index : ℕ) (entry : Entry) → entry_at old index ≡ Some entry → entry_at new index ≡ Some entry
  pub classes : ClassesAreNamed new
  pub names : AllByRecursion (Names new) needs

-- each entry refers to entries of the kind that it has to
abbrev pub RefersWell : List Entry → Type 0
RefersWell pool = (index : ℕ) (entry : Entry) → entry_at pool index ≡ Some entry → refers_well pool entry ≡ true

-- what an old index names for an instruction, it names in the new pool
abbrev pub SameOperands : List Entry → List Entry → Type 0
SameOperands old new = (number index : ℕ) (operand : Operand) → index_operand old number (entry_at old index) ≡ Some operand → index_operand new number (entry_at new index) ≡ Some operand

abbrev pub OldOperandsStay : Type 0
OldOperandsStay = (old more : List Entry) → RefersWell old → SameOperands old (old ++ more)

abbrev pub NeedsAreNamed : Type 0
NeedsAreNamed = (old : List Entry) (needs : List Need) → ClassesAreNamed old → PoolGrows old needs (with_needs old needs)

-- ---- how many entries are added

abbrev pub In : Entry → List Entry → Type 0
In x [] = ⊥
In x (y ∷ ys) = (x ≡ y) ⊎ In x ys

-- what a need may add to a pool that becomes `new` is in the cover
abbrev pub CoversMember : (cover new : List Entry) → (class name descriptor : ℕ) → Type 0
CoversMember cover new c n d = In (NameAndType n d) cover × In (Methodref c (pair_index new n d)) cover

abbrev pub CoversCall : (cover new : List Entry) → (class name : ℕ) → (descriptor : List ℕ) → Type 0
CoversCall cover new c n d = In (Utf8 d) cover × CoversMember cover new c n (text_index new d)

abbrev pub CoversClass : (cover new : List Entry) → (name : List ℕ) → Type 0
CoversClass cover new name = In (Utf8 name) cover × In (Class (text_index new name)) cover

abbrev pub Covers : (cover new : List Entry) → Need → Type 0
Covers cover new (AText units) = In (Utf8 units) cover
Covers cover new (AClass name) = CoversClass cover new name
Covers cover new (AMethod owner name descriptor) = CoversClass cover new owner × In (Utf8 name) cover × CoversCall cover new (class_index new owner) (text_index new name) descriptor
Covers cover new (ACall class name descriptor) = CoversCall cover new class name descriptor

-- Not more indices are added than a list has entries that covers what is needed.
abbrev pub NeedsAreCounted : Type 0
NeedsAreCounted = (cover old : List Entry) (needs : List Need) → ClassesAreNamed old → AllByRecursion (Covers cover (with_needs old needs)) needs → count_of (with_needs old needs) ≤ count_of old + length cover
