use Rattle.std.proofs.Common.{ap, subst, sym, ◌∙◌}
use Rattle.kilim_run_board.specs.Board.{IsQuiet}
use Rattle.kilim_run_board.specs.Seen.{seen}
use Rattle.kilim_run_workers.proofs.run.RunBoard.finish.Goals as goal

pub returns-clause-whole : goal.returns-clause-whole
returns-clause-whole g c =
    λ set is. c.finish.ensures.rest set (c.self.invariant.1 set is) (ap (λ b. b.stopped) c.self.view_is ∙ c.requires.running) (subst (λ b. IsQuiet (seen b)) (sym c.self.view_is) c.requires.quiet)
