use Rattle.std.proofs.Common.{drop}
use Rattle.kilim_run_journal.specs.Readable.{ShapeFits}
use Rattle.kilim_run_journal.proofs.fits.tokens_fit.Given as goal

-- where the rest fits, all does
abbrev pub invariant-loop-token : goal.invariant-loop-token
invariant-loop-token l = ShapeFits (drop l.token-index l.fn.tokens) → ShapeFits l.fn.tokens
