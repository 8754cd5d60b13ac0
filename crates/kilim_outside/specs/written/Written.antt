-- A list of files is written into a folder, in its order: what the folder then holds, and where the writing stopped.
use Rattle.std.specs.Prelude.{◌≡◌, ◌≢◌, ℕ, List, [], ◌∷◌, ◌++◌, Option, Some, None, ◌⊎◌}
use Rattle.std.specs.List.{AllByRecursion}
use Rattle.std.specs.FinMap.{get}
use Rattle.kilim_outside.specs.declared.folder.FailedCall.{FailedCall}
use Rattle.kilim_outside.specs.declared.folder.FailedCall.TheVariants.{Write}
use Rattle.kilim_outside.specs.Files.{Files, HasFile}
use Rattle.kilim_outside.specs.written.OutputFile.{OutputFile}

-- no two of the files have one path
abbrev pub HaveOwnPaths : List OutputFile → Type 0
HaveOwnPaths [] = Unit {0}
HaveOwnPaths (file ∷ files) = AllByRecursion (λ (other : OutputFile). file.path ≢ other.path) files × HaveOwnPaths files

-- where contents are told: each of these files is there with its bytes
abbrev pub HasFiles : Option Files → List OutputFile → Type 0
HasFiles contents files = AllByRecursion (λ (file : OutputFile). HasFile contents file.path file.bytes) files

-- no file changed but those with the paths of these, and it is told as before whether and what files there are
abbrev pub KeepsOtherFiles : Option Files → Option Files → List OutputFile → Type 0
KeepsOtherFiles None new files = new ≡ None
KeepsOtherFiles (Some old) None files = ⊥
KeepsOtherFiles (Some old) (Some new) files = (other : List ℕ) → AllByRecursion (λ (file : OutputFile). other ≢ file.path) files → get new other ≡ get old other

-- all of the files were written, and no other one changed
pub record WroteFiles (files : List OutputFile) (old new : Option Files) : Type 0 where
  pub has : HasFiles new files
  pub others : KeepsOtherFiles old new files

-- Those before one were written. The content of that one is open, and no other one changed. No call of the folder failed, or
-- that one's write.
pub record StoppedAtFile (files : List OutputFile) (old new : Option Files) (failed now_failed : List FailedCall) : Type 0 where
  pub before : List OutputFile
  pub file : OutputFile
  pub behind : List OutputFile
  pub are : files ≡ before ++ file ∷ behind
  pub has : HasFiles new before
  pub others : KeepsOtherFiles old new (before ++ file ∷ [])
  pub own : (now_failed ≡ failed) ⊎ (now_failed ≡ failed ++ Write file.path ∷ [])

-- the write of that one failed
abbrev pub HasFailed : (files : List OutputFile) (old new : Option Files) (failed now_failed : List FailedCall) → StoppedAtFile files old new failed now_failed → Type 0
HasFailed files old new failed now_failed stopped = now_failed ≡ failed ++ Write stopped.file.path ∷ []
