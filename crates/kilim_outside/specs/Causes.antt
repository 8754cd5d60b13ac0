-- Why a call of the outside failed.
use Rattle.std.specs.Prelude.{◌≡◌, ℕ, ◌+◌, ◌-◌, ◌^◌, ◌≤◌, List, [], ◌∷◌, ◌++◌, min, Option, Some, None, Result, IsErrOf, OnOk, ◌⊎◌}
use Rattle.kilim_outside.specs.declared.folder.FailedCall.{FailedCall}
use Rattle.kilim_outside.specs.declared.folder.FolderFault.{FolderFault}
use Rattle.kilim_outside.specs.declared.folder.FolderFault.TheVariants as folder
use Rattle.kilim_outside.specs.declared.sink.SinkFault.{SinkFault}
use Rattle.kilim_outside.specs.declared.sink.SinkFault.TheVariants as sink

-- A call of a folder adds nothing to the list of failed calls, or itself. Where it answers Failed it
-- added itself.
pub record FolderCause {T : Type 0} (call : FailedCall) (before now : List FailedCall) (result : Result T FolderFault) : Type 0 where
  pub own : (now ≡ before) ⊎ (now ≡ before ++ call ∷ [])
  pub failed : IsErrOf result folder.Failed → now ≡ before ++ call ∷ []
  pub ok : OnOk result (now ≡ before)

-- a sink's count of faults rose, or stands at the last value of its type
abbrev pub Rose : ℕ → ℕ → Type 0
Rose before now = min (before + 1) (2 ^ 64 - 1) ≤ now

-- A sink's count never falls. Where it answers Failed the count rose.
pub record SinkCause {T : Type 0} (before now : ℕ) (result : Result T SinkFault) : Type 0 where
  pub later : before ≤ now
  pub failed : IsErrOf result sink.Failed → Rose before now

-- where it is told what was written: these bytes came to it; it is told as before
abbrev pub Appended : Option (List ℕ) → Option (List ℕ) → List ℕ → Type 0
Appended (Some old) new bytes = new ≡ Some (old ++ bytes)
Appended None new bytes = new ≡ None
