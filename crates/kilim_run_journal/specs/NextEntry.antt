-- The entry at the front of a text. The inner calls of `read_text` cite this, and no clause of a public call but for `IsMemory`.
use Rattle.std.specs.Prelude.{◌≡◌, ℕ, List, ◌++◌, Option, Some, None}
use Rattle.std.specs.Borrow.{Bor}
use Rattle.kilim_run_journal.specs.declared.entry.Entry.{Entry}
use Rattle.kilim_run_journal.specs.declared.read.TextFault.{TextFault}
use Rattle.kilim_run_journal.specs.declared.read.TextFault.TheVariants.{BadLine, Memory}
use Rattle.kilim_run_journal.specs.Text.{entry_text}
use Rattle.kilim_run_journal.specs.Read.{IsEntry}

-- the entry and the bytes behind its line; or no entry's text stands there
abbrev pub IsNext : List ℕ → Option (Entry × Bor (List ℕ)) → Type 0
IsNext bytes (Some found) = IsEntry found.0 × (bytes ≡ entry_text found.0 ++ found.1.now)
IsNext bytes None = (e : Entry) (tail : List ℕ) → IsEntry e → bytes ≡ entry_text e ++ tail → ⊥

abbrev pub IsMemory : TextFault → Type 0
IsMemory (BadLine n) = ⊥
IsMemory Memory = Unit {0}
