use Rattle.std.proofs.Common.{ap, ◌∙◌, subst, sym}
use Rattle.kilim_run_workers.specs.Codes.{board_cells}
use Rattle.kilim_run_workers.proofs.many_workers.go_on_of.Goals as goal

pub run_rounds-requires-clause-may : goal.run_rounds-requires-clause-may
run_rounds-requires-clause-may g c κs _ = record {
  workers = c.requires.workers;
  some = c.requires.some;
  run = λ set is. let r = c.requires.run set is in (r.run.served, r.is-limits);
  free = ap (λ b. board_cells b) c.of_board-board.ensures ∙ c.requires.free;
}
