-- Indices of the constant pool in attributes, and what they have to name.
use Rattle.std.specs.Prelude.{◌≡◌, ℕ, ◌==◌, ◌<◌, ◌^◌, Bool, true, false, if◌then◌else◌, List, Option, Some, None}
use Rattle.std.specs.Int.{w16}
use Rattle.kilim_class_grammar.specs.Reader.{Reader, number_at, tested}
use Rattle.kilim_class_pool.specs.declared.entry.Entry.{Entry}
use Rattle.kilim_class_pool.specs.declared.entry.Entry.TheVariants as entry
use Rattle.kilim_class_pool.specs.Entries.{entry_at}
use Rattle.kilim_class_attributes.specs.declared.parts.fault.AttributeFault.{AttributeFault}
use Rattle.kilim_class_attributes.specs.declared.parts.fault.AttributeFault.TheVariants.{BadIndex}
use Rattle.kilim_class_attributes.specs.declared.parts.index.EntryKind.{EntryKind}
use Rattle.kilim_class_attributes.specs.declared.parts.index.EntryKind.TheVariants.{Text, Class, CatchType, Constant, Integer, Float, Long, Double}

abbrev pub entry_is : EntryKind → Entry → Bool
entry_is Text (entry.Utf8 units) = true
entry_is Class (entry.Class name) = true
entry_is CatchType (entry.Class name) = true
entry_is Constant (entry.Integer n) = true
entry_is Constant (entry.Float n) = true
entry_is Constant (entry.Long n) = true
entry_is Constant (entry.Double n) = true
entry_is Constant (entry.String text) = true
entry_is Integer (entry.Integer n) = true
entry_is Float (entry.Float n) = true
entry_is Long (entry.Long n) = true
entry_is Double (entry.Double n) = true
entry_is _ _ = false

abbrev pub named_is : EntryKind → Option Entry → Bool
named_is kind None = false
named_is kind (Some e) = entry_is kind e

-- index 0 may stand for no class where one is caught
abbrev pub may_be_none : EntryKind → Bool
may_be_none CatchType = true
may_be_none _ = false

unfoldable pub has_kind : List Entry → EntryKind → ℕ → Bool
has_kind pool kind index = if index == 0 then may_be_none kind else named_is kind (entry_at pool index)

unfoldable pub index_at : List Entry → EntryKind → AttributeFault → Reader AttributeFault ℕ
index_at pool kind cut = tested (has_kind pool kind) BadIndex (number_at cut w16)

-- an index that has a text
pub record IndexFits (pool : List Entry) (kind : EntryKind) (index : ℕ) : Type 0 where
  pub below : index < 2 ^ 16
  pub there : has_kind pool kind index ≡ true
