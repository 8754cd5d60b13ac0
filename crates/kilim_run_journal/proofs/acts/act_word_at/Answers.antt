use Rattle.std.proofs.Common.{arith}
use Rattle.kilim_run_journal.proofs.ActsRead.{no_word, same_word}
use Rattle.kilim_run_journal.proofs.acts.act_word_at.Goals as goal

pub returns : goal.returns
returns c w x e = absurd (no_word _ _ (omega arith) c.loop-k.invariant w x e)

pub returns-in-Some : goal.returns-in-Some
returns-in-Some c w x e = same_word _ w _ _ x c.in-Some.ensures.some e
