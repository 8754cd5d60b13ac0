use Rattle.std.proofs.Common.{◌∙◌, sym, ap, Some}
use Rattle.kilim_run_journal.proofs.ActsRead.{none_named}
use Rattle.kilim_run_journal.proofs.Journals.{same_cause}
use Rattle.kilim_run_journal.proofs.acts.cause_named.Goals as goal

pub returns : goal.returns
returns c cause e = absurd (none_named _ _ c.loop-k-test.false c.loop-k.invariant cause e)

pub returns-then-is_word_of : goal.returns-then-is_word_of
returns-then-is_word_of c cause e = ap Some (same_cause _ _ (sym (c.is_word_of.ensures.yes c.if-is_word_of.true) ∙ e))
