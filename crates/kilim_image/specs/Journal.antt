-- The journal of an image, and what each fault says of the bytes.
use Rattle.std.specs.Prelude.{◌≡◌, ℕ, ◌+◌, Bool, true, false, List, ◌∷◌, ◌++◌, length, Result, Ok, Err}
use Rattle.std.specs.List.{AllByRecursion}
use Rattle.kilim_run_journal.specs.declared.entry.Act.{Act}
use Rattle.kilim_run_journal.specs.declared.entry.Act.TheVariants as act
use Rattle.kilim_run_journal.specs.declared.entry.Entry.{Entry}
use Rattle.kilim_run_journal.specs.Read.{IsEntry, lines_of}
use Rattle.kilim_run_journal.specs.Text.{entry_text, journal_text}
use Rattle.kilim_image.specs.declared.image.Run.{Run}
use Rattle.kilim_image.specs.declared.fault.ImageFault.{ImageFault}
use Rattle.kilim_image.specs.declared.fault.ImageFault.TheVariants as fault
use Rattle.kilim_image.specs.Text.{RunFits}
use Rattle.kilim_image.specs.Reading.{Held, read_image}

-- the entry says that the run is over and its task waits
abbrev pub is_wait : Act → Bool
is_wait (act.Wait box) = true
is_wait a = false

-- an entry with a text, of what a task did
abbrev pub IsDeed : Entry → Type 0
IsDeed e = IsEntry e × (is_wait e.act ≡ false)

abbrev pub IsDeedLine : List ℕ → Type 0
IsDeedLine line = (e : Entry) × IsDeed e × (line ≡ entry_text e)

-- the line of that number, from 1 on, is the first that is no entry's, or says who waits
pub record IsBadEntry (text : List ℕ) (n : ℕ) : Type 0 where
  pub good : List (List ℕ)
  pub line : List ℕ
  pub others : List (List ℕ)
  pub lines : lines_of text ≡ good ++ (line ∷ others)
  pub number : n ≡ length good + 1
  pub each : AllByRecursion IsDeedLine good
  pub bad : IsDeedLine line → ⊥

-- an image with that journal
pub record ImageFits (run : Run) (journal : List Entry) : Type 0 where
  pub run_fits : RunFits run (journal_text journal)
  pub each : AllByRecursion IsDeed journal

-- what a fault of a journal's text says of it
abbrev pub IsDeedFault : List ℕ → ImageFault → Type 0
IsDeedFault text (fault.Journal n) = IsBadEntry text n
IsDeedFault text fault.Memory = Unit {0}
IsDeedFault text found = ⊥

-- what a fault says of the bytes; want of memory may always be
abbrev pub IsImageFault : List ℕ → ImageFault → Type 0
IsImageFault bytes fault.Memory = Unit {0}
IsImageFault bytes (fault.Journal n) = (held : Held) × (read_image bytes ≡ Ok held) × IsBadEntry held.1 n
IsImageFault bytes found = read_image bytes ≡ Err found
