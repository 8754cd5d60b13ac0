use Rattle.std.proofs.Common.{length, arith, ap, ◌∙◌, ◌∷◌, None}
use Rattle.kilim_run_turn.specs.Rule.{Lies}
use Rattle.kilim_run_turn.specs.Views.{begun}
use Rattle.kilim_run_turn.specs.Steps.{Sat}
use Rattle.kilim_run_turn.proofs.Keeps.{opens}
use Rattle.kilim_run_turn.proofs.opening.begin.Goals as goal

pub store-requires : goal.store-requires
store-requires g c = let w = c.requires.at.words in (
  c.requires.at.same,
  omega arith,
  opens (Lies g.B.Cells.cells) (length (g.B.Cells.cells c.args.shelf.now.key.value)) _ _ _ _ _ _ _ c.requires.opening,
)

pub returns-clause-inside : goal.returns-clause-inside
returns-clause-inside g c = c.store.ensures.2 ∙ ap (λ (p : Sat _). (begun p.0, (0, None) ∷ p.1)) c.requires.opening
