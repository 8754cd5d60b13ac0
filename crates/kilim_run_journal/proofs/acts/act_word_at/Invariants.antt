use Rattle.std.proofs.Common.{◌≡◌, ℕ, ◌<◌, List, ◌++◌, get_or}
use Rattle.kilim_run_journal.specs.declared.acts.Word.TheVariants as word
use Rattle.kilim_run_journal.specs.Fronts.{word_text}
use Rattle.kilim_run_journal.proofs.ActsRead.{words}
use Rattle.kilim_run_journal.proofs.acts.act_word_at.Given as goal

abbrev pub invariant-loop-k : goal.invariant-loop-k
invariant-loop-k l = (j : ℕ) (x : List ℕ) → j < l.k → l.bytes ≡ word_text (get_or words j word.Put) ++ x → ⊥
