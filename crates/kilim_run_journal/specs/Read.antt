-- Which bytes are a journal's text, and which line is no entry's.
use Rattle.std.specs.Prelude.{◌≡◌, ℕ, ◌+◌, ◌<◌, ◌^◌, ◌==◌, true, if◌then◌else◌, List, [], ◌∷◌, ◌++◌, length}
use Rattle.std.specs.List.{AllByRecursion}
use Rattle.kilim_run_journal.specs.declared.entry.Entry.{Entry}
use Rattle.kilim_run_journal.specs.declared.read.TextFault.{TextFault}
use Rattle.kilim_run_journal.specs.declared.read.TextFault.TheVariants.{BadLine, Memory}
use Rattle.kilim_run_journal.specs.Text.{entry_text, journal_text}
use Rattle.kilim_run_journal.specs.Readable.{is_readable_act, ActFits}

-- an entry with a text: a message and a task are objects, what is printed is one token, and each number is in the range of its type
abbrev pub IsEntry : Entry → Type 0
IsEntry e = (is_readable_act e.act ≡ true) × ((e.task < 2 ^ 32) × ActFits e.act)

-- the bytes are the text of these entries
pub record IsJournal (bytes : List ℕ) (es : List Entry) : Type 0 where
  pub each : AllByRecursion IsEntry es
  pub text : bytes ≡ journal_text es

-- a byte before the first of some lines
abbrev pub onto_line : ℕ → List (List ℕ) → List (List ℕ)
onto_line c [] = (c ∷ []) ∷ []
onto_line c (line ∷ lines) = (c ∷ line) ∷ lines

-- The lines of a text, each with the line feed at its end. Bytes behind the last line feed are a line of their own.
abbrev pub lines_of : List ℕ → List (List ℕ)
lines_of [] = []
lines_of (c ∷ cs) = if c == 10 then (c ∷ []) ∷ lines_of cs else onto_line c (lines_of cs)

-- a line that an entry is written as
abbrev pub IsEntryLine : List ℕ → Type 0
IsEntryLine line = (e : Entry) × IsEntry e × (line ≡ entry_text e)

-- the line of that number, from 1 on, is the first that is no entry's
pub record IsBadLine (bytes : List ℕ) (n : ℕ) : Type 0 where
  pub good : List (List ℕ)
  pub line : List ℕ
  pub others : List (List ℕ)
  pub lines : lines_of bytes ≡ good ++ (line ∷ others)
  pub number : n ≡ length good + 1
  pub each : AllByRecursion IsEntryLine good
  pub bad : IsEntryLine line → ⊥

-- want of memory may always be
abbrev pub IsTextFault : List ℕ → TextFault → Type 0
IsTextFault bytes (BadLine n) = IsBadLine bytes n
IsTextFault bytes Memory = Unit {0}
