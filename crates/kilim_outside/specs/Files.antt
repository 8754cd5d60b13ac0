-- What a folder holds, and what a call of it leaves. Names and contents are lists of bytes.
use Rattle.std.specs.Prelude.{◌≡◌, ◌≢◌, ℕ, List, [], ◌++◌, map, take, Option, Some, None, unwrap_or}
use Rattle.std.specs.Ordering.{nat_cmp}
use Rattle.std.specs.Cmp.Lexicographic.{slice_cmp}
use Rattle.std.specs.FinMap.{FinMap, get, from_entries}
use Rattle.kilim_outside.specs.declared.memory_folder.NamedFile.{NamedFile}

-- files by their names
abbrev pub Files : Type 0
Files = FinMap (slice_cmp nat_cmp) (List ℕ)

-- what a file holds; a name that isn't there counts as an empty file
abbrev pub content_of : Files → List ℕ → List ℕ
content_of files name = unwrap_or (get files name) []

-- how many bytes of a file are read at the most: one more than a class file may have
unfoldable pub file_limit : ℕ
file_limit = 16777217

-- where contents are told: what was read stands behind what was there
abbrev pub ReadsFile : Option Files → List ℕ → List ℕ → List ℕ → Type 0
ReadsFile None name old new = Unit {0}
ReadsFile (Some files) name old new = new ≡ old ++ take file_limit (content_of files name)

-- no file but that of this name changed, and it is told as before whether and what files there are
abbrev pub KeepsOthers : Option Files → Option Files → List ℕ → Type 0
KeepsOthers None new name = new ≡ None
KeepsOthers (Some old) None name = ⊥
KeepsOthers (Some old) (Some new) name = (other : List ℕ) → other ≢ name → get new other ≡ get old other

-- where contents are told: the file holds these bytes
abbrev pub HasFile : Option Files → List ℕ → List ℕ → Type 0
HasFile None name bytes = Unit {0}
HasFile (Some files) name bytes = get files name ≡ Some bytes

-- the files of a list of named files; of one name the first counts
abbrev pub entry_of : NamedFile → List ℕ × List ℕ
entry_of file = (file.name, file.bytes)

abbrev pub files_of : List NamedFile → Files
files_of files = from_entries (map entry_of files)
