-- What was written for the bytes of files with these names.
use Rattle.std.specs.Prelude.{◌≡◌, ◌≤◌, ℕ, List, Some, ◌⊎◌}
use Rattle.kilim_outside.specs.Causes.{Appended}
use Rattle.kilim_command.specs.grammar.Words.{Request}
use Rattle.kilim_outside.specs.written.OutputFile.{OutputFile}
use Rattle.kilim_outside.specs.written.Written.{WroteFiles}
use Rattle.kilim_top.specs.Outcome.{AsksForFiles, HowFar, IsDone, IsFault, IsFitFor, IsBegun, IsLarge, IsReport, IsStageFault, IsToWrite, Outside}

pub record Wrote0 (work : Request) (files : List (List ℕ)) (old new : Outside) : Type 0 where
  pub made : List OutputFile
  pub text : List ℕ
  pub done : IsDone work files made text
  pub were_made : WroteFiles made old.contents new.contents
  pub written : Appended old.written new.written text

pub record Wrote1 (work : Request) (files : List (List ℕ)) (old new : Outside) : Type 0 where
  pub text : List ℕ
  pub report : IsReport work files text
  pub written : Appended old.written new.written text

pub record WroteFrontOf (work : Request) (files : List (List ℕ)) (old new : Outside) : Type 0 where
  pub made : List OutputFile
  pub text : List ℕ
  pub to_write : IsToWrite work files made text
  pub how_far : HowFar made text old new

-- What a status says of a reply that was made for the bytes, and of the outside before and after.
pub record Responded (work : Request) (files : List (List ℕ)) (old new : Outside) (status : ℕ) : Type 0 where
  pub known : status ≤ 5
  pub not_usage : status ≡ 2 → ⊥
  pub not_unread : status ≡ 3 → ⊥
  pub whole : status ≡ 0 → Wrote0 work files old new
  pub report : status ≡ 1 → Wrote1 work files old new
  pub write : status ≡ 4 → (front : WroteFrontOf work files old new) × IsFault front.made front.text old new front.how_far
  pub memory : status ≡ 5 → WroteFrontOf work files old new
  pub fit : status ≡ 1 → IsFitFor work files → ⊥
  pub large : status ≡ 1 → IsBegun work files → (text : List ℕ) × IsLarge work files text × Appended old.written new.written text
  pub unreported : status ≡ 0 → (text : List ℕ) → IsStageFault work files text → ⊥
  pub quiet : (status ≡ 0) ⊎ (status ≡ 1) → new.faults ≡ old.faults
  pub failed : (status ≡ 0) ⊎ (status ≡ 1) → new.failed ≡ old.failed
  pub contents : (AsksForFiles (Some work) → ⊥) ⊎ (status ≡ 1) → new.contents ≡ old.contents
