use Rattle.std.proofs.Common.{◌≡◌, ℕ, ◌<◌, get_or}
use Rattle.kilim_run_state.specs.declared.cause.EndCause.TheVariants.{Done}
use Rattle.kilim_run_state.specs.Cause.{word_of}
use Rattle.kilim_run_journal.proofs.Journals.{causes}
use Rattle.kilim_run_journal.proofs.acts.cause_named.Given as goal

abbrev pub invariant-loop-k : goal.invariant-loop-k
invariant-loop-k l = (j : ℕ) → j < l.k → l.word ≡ word_of (get_or causes j Done) → ⊥
