-- The lines of an image's journal, one after the other. The inner calls of `read` cite this, and no clause of a public call does.
use Rattle.std.specs.Prelude.{◌≡◌, ◌≢◌, ℕ, ◌+◌, ◌≤◌, ◌<◌, Bool, true, not, ◌==◌, List, [], ◌∷◌, ◌++◌, length, take}
use Rattle.std.specs.List.{AllByRecursion, list_all}
use Rattle.kilim_run_journal.specs.declared.entry.Entry.{Entry}
use Rattle.kilim_run_journal.specs.Read.{lines_of}
use Rattle.kilim_run_journal.specs.Text.{journal_text}
use Rattle.kilim_image.specs.Journal.{IsDeed}

-- no line feed
abbrev pub is_inside : List ℕ → Bool
is_inside bytes = list_all (λ c. not (c == 10)) bytes

-- a line feed at its end alone
pub data IsLine : List ℕ → Type 0 where
  ended : (front : List ℕ) → is_inside front ≡ true → IsLine (front ++ 10 ∷ [])
  open_ended : (c : ℕ) (bytes : List ℕ) → is_inside (c ∷ bytes) ≡ true → IsLine (c ∷ bytes)

-- the first line of some bytes, and those behind it
pub record IsFirstLine (bytes line behind : List ℕ) : Type 0 where
  pub parts : bytes ≡ line ++ behind
  pub is_line : IsLine line
  pub lines : lines_of bytes ≡ line ∷ lines_of behind

-- the text is that of these entries, all of what tasks did
pub record AreDeeds (text : List ℕ) (entries : List Entry) : Type 0 where
  pub each : AllByRecursion IsDeed entries
  pub is_text : text ≡ journal_text entries
