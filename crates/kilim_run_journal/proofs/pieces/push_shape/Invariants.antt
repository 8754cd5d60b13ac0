use Rattle.std.proofs.Common.{◌≡◌, ◌++◌, drop, false}
use Rattle.kilim_run_journal.specs.Text.{tokens_text}
use Rattle.kilim_run_journal.proofs.pieces.push_shape.Given as goal

abbrev pub invariant-loop-token : goal.invariant-loop-token
invariant-loop-token l = l.out.items ++ tokens_text l.follows (drop l.token-index l.shape) ≡ l.fn.out.items ++ tokens_text false l.shape
