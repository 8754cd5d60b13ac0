-- Reading files in order.
use Rattle.std.specs.Prelude.{◌≡◌, ℕ, List, [], ◌∷◌, ◌++◌, take, Option, Some, None, Contains, Result, IsErrOf, OnOk, ◌⊎◌}
use Rattle.kilim_outside.specs.Files.{Files, content_of, file_limit}
use Rattle.kilim_outside.specs.declared.folder.FailedCall.{FailedCall}
use Rattle.kilim_outside.specs.declared.folder.FailedCall.TheVariants.{Read}
use Rattle.kilim_outside.specs.declared.folder.FolderFault.{FolderFault}
use Rattle.kilim_outside.specs.declared.folder.FolderFault.TheVariants as folder

-- Where the folder tells, what was read is what it held, of each file. Where it doesn't, this says only that there are
-- bytes for each name.
abbrev pub WasRead : Option Files → List ℕ → List ℕ → Type 0
WasRead None name bytes = Unit {0}
WasRead (Some held) name bytes = bytes ≡ take file_limit (content_of held name)

abbrev pub WereRead : Option Files → List (List ℕ) → List (List ℕ) → Type 0
WereRead contents [] [] = Unit {0}
WereRead contents (name ∷ names) (bytes ∷ files) = WasRead contents name bytes × WereRead contents names files
WereRead contents names files = ⊥

-- of these names more was read, behind what was read before
pub record WereReadBehind (contents : Option Files) (names before all : List (List ℕ)) : Type 0 where
  pub more : List (List ℕ)
  pub read : WereRead contents names more
  pub are : all ≡ before ++ more

-- the read of one of the names failed, and no other call
abbrev pub OneFailed : List (List ℕ) → List FailedCall → List FailedCall → Type 0
OneFailed names before now = (name : List ℕ) × Contains names name × (now ≡ before ++ Read name ∷ [])

-- Nothing was added to the list of failed calls, or the read of one name. Where the answer is Failed it was.
pub record ReadsCause {T : Type 0} (names : List (List ℕ)) (before now : List FailedCall) (result : Result T FolderFault) : Type 0 where
  pub own : (now ≡ before) ⊎ OneFailed names before now
  pub failed : IsErrOf result folder.Failed → OneFailed names before now
  pub ok : OnOk result (now ≡ before)
