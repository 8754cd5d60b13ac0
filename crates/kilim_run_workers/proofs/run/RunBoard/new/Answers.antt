use Rattle.std.proofs.Common.{ap, sym, [], ◌++◌}
use Rattle.kilim_run_board.specs.Seen.{seen}
use Rattle.kilim_run_workers.proofs.Effects.{cells_new}
use Rattle.kilim_run_workers.proofs.Given.{same_begins}
use Rattle.kilim_run_workers.proofs.run.RunBoard.new.Goals as goal

pub returns-in-Ok : goal.returns-in-Ok
returns-in-Ok g c = cells_new (seen c.in-Ok.board) c.args.main c.args.seats c.in-Ok.ensures.board

pub invariant_of-result : goal.invariant_of-result
invariant_of-result g c = (c.in-Ok.ensures.roomy, λ set is. c.in-Ok.ensures.stands set c.requires.task c.requires.course (c.requires.stands set is), same_begins g.K.Run.given [] (seen c.in-Ok.board).journal c.in-Ok.ensures.board.journal ([], sym (ap (λ xs. xs ++ []) c.requires.none)))
