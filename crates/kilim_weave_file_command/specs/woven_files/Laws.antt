-- Laws: no files are both woven and reported, and no two woven files have one path, which leads below the directory.
use Rattle.std.specs.Prelude.{◌≡◌, ◌≢◌, ◌≤◌, ℕ, true, List, [], ◌∷◌, length}
use Rattle.std.specs.List.{AllByRecursion}
use Rattle.std.specs.String.{string_bytes}
use Rattle.kilim_link_spec.specs.Faults.{is_class_name}
use Rattle.kilim_weave_file_command.specs.declared.woven_files.made.WovenFile.{WovenFile}
use Rattle.kilim_weave_file_command.specs.woven_files.Reports.{IsWeaveReport}
use Rattle.kilim_weave_file_command.specs.woven_files.WovenFiles.{AreWovenFiles, path_of}

abbrev pub NeverWovenAndReported : Type 0
NeverWovenAndReported = (names files : List (List ℕ)) (text : List ℕ) (outputs : List WovenFile) → AreWovenFiles files outputs → IsWeaveReport names files text → ⊥

-- no two of these files have one path below the directory
abbrev pub HaveOwnPaths : List ℕ → List WovenFile → Type 0
HaveOwnPaths to [] = Unit {0}
HaveOwnPaths to (file ∷ files) = AllByRecursion (λ (other : WovenFile). path_of to (string_bytes file.name) ≢ path_of to (string_bytes other.name)) files × HaveOwnPaths to files

abbrev pub OwnPaths : Type 0
OwnPaths = (files : List (List ℕ)) (outputs : List WovenFile) (to : List ℕ) → length files ≤ 1000 → AreWovenFiles files outputs → HaveOwnPaths to outputs

-- The name is one of a class: no part between slashes is empty, and no point stands in it (JVMS 4.2.1, 4.2.2).
abbrev pub StayBelow : Type 0
StayBelow = (files : List (List ℕ)) (outputs : List WovenFile) → AreWovenFiles files outputs → AllByRecursion (λ (o : WovenFile). is_class_name o.class ≡ true) outputs
