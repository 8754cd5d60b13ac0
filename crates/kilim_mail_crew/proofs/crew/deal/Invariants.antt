use Rattle.std.specs.Prelude.{length}
use Rattle.kilim_mail_crew.proofs.Deals.{Dealing, goes_on}
use Rattle.kilim_mail_crew.proofs.crew.deal.Given as goal

abbrev pub invariant-loop-pass : goal.invariant-loop-pass
invariant-loop-pass g l = Dealing l.fn.workers.items l.fn.passes.items l.workers.items l.passes.items

abbrev pub decreases-loop-pass : goal.decreases-loop-pass
decreases-loop-pass g l = length l.passes.items
