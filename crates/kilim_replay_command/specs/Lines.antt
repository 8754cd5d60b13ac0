-- The lines of `replay`, each with its line feed (own).
use Rattle.std.specs.Prelude.{ℕ, List, ◌++◌, codes}
use Rattle.std.specs.Fmt.{decimal}
use Rattle.kilim_replay_laws.specs.declared.verdict.Verdict.{Verdict}
use Rattle.kilim_replay_laws.specs.declared.verdict.Verdict.TheVariants as verdict
use Rattle.kilim_run_journal.specs.Text.{entry_text}

-- the text of the journal has too many bytes
unfoldable pub too_large_line : List ℕ
too_large_line = codes "journal too-large\n"

-- that line is no entry's
unfoldable pub bad_line : ℕ → List ℕ
bad_line line = codes "journal " ++ (decimal line ++ codes "\n")

-- the journal is that of a whole run, and has so many lines
unfoldable pub whole_line : ℕ → List ℕ
whole_line lines = codes "whole " ++ (decimal lines ++ codes "\n")

-- what is wrong with that line, in a word
unfoldable pub at_line : ℕ → List ℕ → List ℕ
at_line line word = codes "replay " ++ (decimal line ++ (codes " " ++ (word ++ codes "\n")))

unfoldable pub goes_line : ℕ → ℕ → List ℕ
goes_line line task = codes "replay " ++ (decimal line ++ (codes " goes " ++ (decimal task ++ codes "\n")))

-- before the line of the entry that is made in its place
unfoldable pub made_front : ℕ → List ℕ
made_front line = codes "replay " ++ (decimal line ++ codes " made ")

-- what is so of a journal with so many lines
unfoldable pub verdict_line : ℕ → Verdict → List ℕ
verdict_line lines verdict.Whole = whole_line lines
verdict_line lines (verdict.Absent line) = at_line line (codes "absent")
verdict_line lines (verdict.Ended line) = at_line line (codes "ended")
verdict_line lines (verdict.Waits line) = at_line line (codes "waits")
verdict_line lines (verdict.Made line own) = made_front line ++ entry_text own
verdict_line lines (verdict.Goes line task) = goes_line line task
verdict_line lines (verdict.Rest line) = at_line line (codes "rest")
