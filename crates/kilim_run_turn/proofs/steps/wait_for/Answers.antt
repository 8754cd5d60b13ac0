use Rattle.std.proofs.Common.{length, arith, ◌∙◌, subst}
use Rattle.kilim_run_turn.specs.Rule.{Lies}
use Rattle.kilim_run_turn.specs.declared.kept.Kept.{Kept}
use Rattle.kilim_run_turn.specs.Steps.{Sat, IsInside}
use Rattle.kilim_run_turn.proofs.Keeps.{takes_turn}
use Rattle.kilim_run_turn.proofs.steps.wait_for.Goals as goal

pub compare_exchange-found-requires : goal.compare_exchange-found-requires
compare_exchange-found-requires g c = let w = c.requires.at.words in (
  c.loop.invariant.0 ∙ c.requires.at.same,
  omega arith,
  takes_turn (Lies g.B.Cells.cells) (length (g.B.Cells.cells c.args.shelf.now.key.value)) _ _ _ _ _ _ _ (c.loop.invariant.1 ∙ c.requires.outside),
)

pub returns-then-found-eq0-clause-inside : goal.returns-then-found-eq0-clause-inside
returns-then-found-eq0-clause-inside g c = subst (λ (m : Sat (Kept g.row.B.Denot)). IsInside (Lies g.B.Cells.cells) m c.compare_exchange-found.new.seat.me) c.loop.invariant.1 (c.compare_exchange-found.ensures.2.0 c.if-found-eq0.true)
