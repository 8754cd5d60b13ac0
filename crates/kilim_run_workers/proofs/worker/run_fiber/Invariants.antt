use Rattle.std.proofs.Common.{◌≡◌}
use Rattle.kilim_run_turn.specs.Turns.{seat_of, shows, IsPassOf}
use Rattle.kilim_run_workers.specs.Codes.{board_cells}
use Rattle.kilim_run_workers.specs.Runs.{fiber_numbers, AllStand}
use Rattle.kilim_run_workers.proofs.worker.run_fiber.Given as goal

abbrev pub invariant-loop : goal.invariant-loop
invariant-loop g l =
    IsPassOf board_cells l.turn l.pass × (seat_of l.pass ≡ seat_of l.initial.pass)
    × (shows l.pass ≡ fiber_numbers g.F.Fibers.task_of g.F.Fibers.course_of l.fiber) × AllStand g.F.Fibers.task_of g.F.Fibers.course_of g.F.Fibers.holds g.K.Run.of l.fiber
