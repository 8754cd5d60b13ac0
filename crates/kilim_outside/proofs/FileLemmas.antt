-- Files by their names, as a list of named files.
use Rattle.std.proofs.Common.{◌≡◌, ℕ, Bool, true, false, cond, List, [], ◌∷◌, map, Option, Some, None, refl, ap, ◌∙◌, nat_eq}
use Rattle.std.specs.Prelude.{◌≢◌, find}
use Rattle.std.specs.Option.{option_map}
use Rattle.std.specs.Ordering.{nat_cmp, eq_by_cmp, is_eq}
use Rattle.std.specs.declared.cmp.Ordering.TheVariants.{Less, Equal, Greater}
use Rattle.std.specs.Cmp.{tied_itself}
use Rattle.std.specs.Cmp.Lexicographic.{slice_cmp, pointwise, nat_list_cmp_total, texts_ties}
use Rattle.std.specs.FinMap.{get, get-from_entries, get-insert, slice_cmp-IsAntisymmetric, nat_cmp-IsAntisymmetric}
use Rattle.std.specs.FinMap.Entries as entries
use Rattle.kilim_outside.specs.declared.memory_folder.NamedFile.{NamedFile}
use Rattle.kilim_outside.specs.Files.{files_of, entry_of, content_of}

-- the search of the list finds what the map has
found : (name : List ℕ) (files : List NamedFile) →
    entries.find (slice_cmp nat_cmp) name (map entry_of files) ≡ option_map (λ (file : NamedFile). file.bytes) (find (λ file. pointwise nat_eq name file.name) files)
found name [] = refl
found name (file ∷ files) =
    rw (texts_ties name file.name)
    (elim (eq_by_cmp (slice_cmp nat_cmp) name file.name) as (λ b. cond b (Some file.bytes) (entries.find (slice_cmp nat_cmp) name (map entry_of files)) ≡ option_map (λ (f : NamedFile). f.bytes) (cond b (Some file) (find (λ f. pointwise nat_eq name f.name) files))) [
      | true ↦ refl
      | false ↦ found name files
    ])

pub content_some : (name : List ℕ) (files : List NamedFile) (file : NamedFile) → find (λ f. pointwise nat_eq name f.name) files ≡ Some file → content_of (files_of files) name ≡ file.bytes
content_some name files file e =
    rw (get-from_entries nat_list_cmp_total (map entry_of files) name, found name files, e) refl

pub content_none : (name : List ℕ) (files : List NamedFile) → find (λ f. pointwise nat_eq name f.name) files ≡ None → content_of (files_of files) name ≡ []
content_none name files e =
    rw (get-from_entries nat_list_cmp_total (map entry_of files) name, found name files, e) refl

same_test : (b : Bool) (x y : Option (List ℕ)) → b ≡ true → cond b x y ≡ x
same_test b x y e = rw e refl

-- what was put is there
pub get_put : (name bytes : List ℕ) (files : List NamedFile) → get (files_of (record { name = name; bytes = bytes } ∷ files)) name ≡ Some bytes
get_put name bytes files =
    get-insert nat_list_cmp_total (files_of files) name bytes name ∙ same_test _ (Some bytes) _ (ap is_eq (tied_itself nat_list_cmp_total name))

not_tied : (a b : List ℕ) → a ≢ b → eq_by_cmp (slice_cmp nat_cmp) a b ≡ false
not_tied a b ne =
    elim (slice_cmp nat_cmp a b) as (λ r. slice_cmp nat_cmp a b ≡ r → is_eq r ≡ false) [
      | Less ↦ λ _. refl
      | Equal ↦ λ e. absurd (ne (slice_cmp-IsAntisymmetric nat_cmp-IsAntisymmetric a b e))
      | Greater ↦ λ _. refl
    ] refl

other_test : (b : Bool) (x y : Option (List ℕ)) → b ≡ false → cond b x y ≡ y
other_test b x y e = rw e refl

-- and nothing else changed
pub get_other : (name bytes other : List ℕ) (files : List NamedFile) → other ≢ name → get (files_of (record { name = name; bytes = bytes } ∷ files)) other ≡ get (files_of files) other
get_other name bytes other files ne =
    get-insert nat_list_cmp_total (files_of files) name bytes other ∙ other_test _ (Some bytes) _ (not_tied other name ne)
