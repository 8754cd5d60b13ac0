-- Old classes and names of calls are the same in the larger pool.
use Rattle.std.proofs.Common.{◌≡◌, ℕ, true, List, ◌++◌, Option, Some, refl, subst}
use Rattle.std.proofs.lemmas.Option.{none-some, same_Some}
use Rattle.kilim_class_pool.specs.declared.entry.Entry.{Entry}
use Rattle.kilim_class_pool.specs.declared.entry.Entry.TheVariants as entry
use Rattle.kilim_class_pool.specs.Entries.{entry_at, refers_well, is_member}
use Rattle.kilim_class_file.specs.Parts.{text_of}
use Rattle.kilim_link_spec.specs.World.{class_text}
use Rattle.kilim_class_making.specs.declared.pool_needs.need.Need.{Need}
use Rattle.kilim_class_making.specs.declared.pool_needs.need.Need.TheVariants.{ACall}
use Rattle.kilim_theorems.specs.woven_files.pool.Pools.{RefersWell}
use Rattle.kilim_weave_file_spec.specs.Raw.{call_need, call_by}
use Rattle.kilim_weave_file_spec.specs.Texts.{woven_descriptor}
use Rattle.kilim_theorems.proofs.woven_files.pool.Naming.{ref_texts}
use Rattle.kilim_theorems.specs.woven_files.Standing.{SameTexts}

-- what a call needs, by its parts
abbrev Needs : List Entry → ℕ → ℕ → List ℕ → Option Need → Type 0
Needs old class name descriptor need = need ≡ Some (ACall class name descriptor)

member_refers : (old : List Entry) (class member : ℕ) → refers_well old (entry.Methodref class member) ≡ true → is_member old class member ≡ true
unfolding refers_well
member_refers old class member h = h

interface_refers : (old : List Entry) (class member : ℕ) → refers_well old (entry.InterfaceMethodref class member) ≡ true → is_member old class member ≡ true
unfolding refers_well
interface_refers old class member h = h
