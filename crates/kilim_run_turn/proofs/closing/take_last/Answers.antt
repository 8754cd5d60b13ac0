use Rattle.std.proofs.Common.{length, arith}
use Rattle.kilim_run_turn.specs.Rule.{Lies}
use Rattle.kilim_run_turn.proofs.Keeps.{takes_last}
use Rattle.kilim_run_turn.proofs.closing.take_last.Goals as goal

pub compare_exchange-requires : goal.compare_exchange-requires
compare_exchange-requires g c = let w = c.requires.at.words in (
  c.requires.at.same,
  omega arith,
  takes_last (Lies g.B.Cells.cells) (length (g.B.Cells.cells c.args.shelf.now.key.value)) _ _ _ _ _ _ c.requires.outside c.requires.all,
)
