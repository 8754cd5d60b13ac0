use Rattle.std.proofs.Common.{Some, ap}
use Rattle.kilim_run_board.specs.fibers.Wishes.{ToStart}
use Rattle.kilim_fiber.proofs.Beginning.{wants_start}
use Rattle.kilim_fiber.proofs.fiber.wanted.Goals as goal

pub returns-in-Ok : goal.returns-in-Ok
returns-in-Ok c =
    wants_start c.args.program.now c.args.main c.args.came c.in-Starts.tree c.in-Starts.shape c.in-Ok.shape c.in-Ok.fiber _ c.in-Starts.is c.in-Ok.ensures.shape
    (ap (λ z. Some (ToStart z)) c.of-kept-in-Starts.ensures) c.in-Ok.ensures.fiber
