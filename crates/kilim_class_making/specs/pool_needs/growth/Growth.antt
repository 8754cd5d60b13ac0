-- A constant pool that grows, and the parts of a class file over it.
use Rattle.std.specs.Prelude.{◌≡◌, ◌<◌, ◌^◌, true, ℕ, List, ◌++◌, Some}
use Rattle.std.specs.List.{AllByRecursion}
use Rattle.kilim_class_pool.specs.declared.entry.Entry.{Entry}
use Rattle.kilim_class_pool.specs.Entries.{count_of, entry_at, is_class, is_utf8, refers_well}
use Rattle.kilim_class_pool.specs.Spelling.{EntryFits, PoolFits}
use Rattle.kilim_class_attributes.specs.declared.parts.annotation.AnnotationPart.{AnnotationPart}
use Rattle.kilim_class_attributes.specs.declared.parts.annotation.PartKind.{PartKind}
use Rattle.kilim_class_attributes.specs.declared.parts.frame.Frame.{Frame}
use Rattle.kilim_class_attributes.specs.declared.parts.index.EntryKind.{EntryKind}
use Rattle.kilim_class_attributes.specs.parts.Annotations.{PartsFit as AnnotationsFit}
use Rattle.kilim_class_attributes.specs.parts.Frames.{FramesFit}
use Rattle.kilim_class_attributes.specs.parts.Indices.{IndexFits}
use Rattle.kilim_class_attributes.specs.declared.attribute.Attribute.{Attribute}
use Rattle.kilim_class_attributes.specs.declared.attribute.Code.{Code}
use Rattle.kilim_class_attributes.specs.declared.attribute.Place.{Place}
use Rattle.kilim_class_attributes.specs.Attributes.{AttributesFit}
use Rattle.kilim_class_attributes.specs.Codes.{CodeFits}
use Rattle.kilim_class_file.specs.declared.class_file.ClassFile.{ClassFile}
use Rattle.kilim_class_file.specs.declared.class_file.MemberInfo.{MemberInfo}
use Rattle.kilim_class_file.specs.Text.{ListFits, MemberFits, MethodFits, Names, PartsFit}

-- each index that names an entry names the same one in the new pool
abbrev pub Extends : (old new : List Entry) → Type 0
Extends old new = (index : ℕ) (entry : Entry) → entry_at old index ≡ Some entry → entry_at new index ≡ Some entry

-- what fits over the old pool fits over the new one
pub record FitsToo (old new : List Entry) : Type 0 where
  pub indices : (kind : EntryKind) (index : ℕ) → IndexFits old kind index → IndexFits new kind index
  pub frames : (frames : List Frame) → FramesFit old frames → FramesFit new frames
  pub annotations : (kind : PartKind) (parts : List AnnotationPart) → AnnotationsFit old kind parts → AnnotationsFit new kind parts
  pub code : (code : Code) → CodeFits old code → CodeFits new code
  pub attributes : (place : Place) (attributes : List Attribute) → AttributesFit old place attributes → AttributesFit new place attributes
  pub texts : (index : ℕ) → Names is_utf8 old index → Names is_utf8 new index
  pub classes : (index : ℕ) → Names is_class old index → Names is_class new index
  pub interfaces : (indices : List ℕ) → ListFits (Names is_class old) indices → ListFits (Names is_class new) indices
  pub fields : (place : Place) (fields : List MemberInfo) → ListFits (MemberFits old place) fields → ListFits (MemberFits new place) fields
  pub methods : (methods : List MemberInfo) → ListFits (MethodFits old) methods → ListFits (MethodFits new) methods

-- each part that fits over a pool fits over each that extends it
abbrev pub PartsStay : Type 0
PartsStay = (old new : List Entry) → Extends old new → FitsToo old new

-- the file over another pool
abbrev pub file_over : List Entry → ClassFile → ClassFile
file_over pool file = record file { constant_pool = pool }

-- The parts of a file fit over each pool that fits itself and extends that of the file.
abbrev pub FilesStay : Type 0
FilesStay = (file : ClassFile) (pool : List Entry) → PartsFit file → Extends file.constant_pool pool → PoolFits pool → PartsFit (file_over pool file)

-- entries that can be put behind those of a pool: each has a text, and names in the longer pool what it has to
pub record CanFollow (old more : List Entry) : Type 0 where
  pub few : count_of (old ++ more) < 2 ^ 16
  pub fit : AllByRecursion EntryFits more
  pub refer : AllByRecursion (λ entry. refers_well (old ++ more) entry ≡ true) more

pub record Grows (old new : List Entry) : Type 0 where
  pub extends : Extends old new
  pub fits : PoolFits new

-- A pool that fits still does with such entries behind it, and it extends the old one.
abbrev pub PoolsGrow : Type 0
PoolsGrow = (old more : List Entry) → PoolFits old → CanFollow old more → Grows old (old ++ more)
