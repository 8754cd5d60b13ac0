use Rattle.std.proofs.Common.{length, arith, ap, ◌∙◌, ℕ, List}
use Rattle.kilim_run_turn.specs.Rule.{Lies}
use Rattle.kilim_run_turn.specs.Views.{posted}
use Rattle.kilim_run_turn.proofs.Keeps.{posts}
use Rattle.kilim_run_turn.proofs.steps.post.Goals as goal

pub load-requires : goal.load-requires
load-requires g c = let w = c.requires.at.words in (
  c.requires.at.same,
  omega arith,
  posts (Lies g.B.Cells.cells) (length (g.B.Cells.cells c.args.shelf.now.key.value)) _ _ _ _ _ _ _ _ _ _ c.requires.inside,
)

pub returns-clause-posted : goal.returns-clause-posted
returns-clause-posted g c = c.load.ensures.2 ∙ ap (λ (cell : List ℕ). (posted cell c.args.seat.now.me.0, c.args.seat.now.me.1)) c.requires.cell
