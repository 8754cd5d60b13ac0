use Rattle.std.proofs.Common.{length, arith, refl, ◌∙◌}
use Rattle.kilim_run_turn.specs.Rule.{Lies}
use Rattle.kilim_run_turn.specs.Views.{as_opener}
use Rattle.kilim_run_turn.proofs.Keeps.{names}
use Rattle.kilim_run_turn.proofs.opening.name.Goals as goal

pub load-requires : goal.load-requires
load-requires g c = let w = c.requires.at.words in (
  c.requires.at.same,
  omega arith,
  names (Lies g.B.Cells.cells) (length (g.B.Cells.cells c.args.shelf.now.key.value)) _ _ g.W.TableName.table _ _ c.requires.fresh refl c.requires.some,
)

pub returns-clause-opening : goal.returns-clause-opening
returns-clause-opening g c = c.load.ensures.2 ∙ (λ i. (as_opener (c.requires.table i) (c.requires.fresh i).0, (c.requires.fresh i).1))
