use Rattle.std.proofs.Common.{ap, ◌∙◌}
use Rattle.kilim_run_board.specs.Board.{lent_of}
use Rattle.kilim_run_board.specs.Seen.{seen}
use Rattle.kilim_run_workers.specs.Codes.{board_cells, cells_of}
use Rattle.kilim_run_workers.proofs.Rounds.{first_free, still_free, none_lent}
use Rattle.kilim_run_workers.proofs.many_workers.is_quiet.Goals as goal

pub lend-requires : goal.lend-requires
lend-requires g c =
    let first = first_free c.args.workers (board_cells c.args.board.now) c.requires.workers c.requires.free in
    record { some = c.requires.some; there = first.0; free = first.1 }

pub give_back-requires : goal.give_back-requires
give_back-requires g c = record { lent = c.in-Fiber.ensures.taken.0; rests = c.in-Fiber.ensures.taken.1 }

pub returns-in-Fiber-clause-free : goal.returns-in-Fiber-clause-free
returns-in-Fiber-clause-free g c =
    still_free c.args.workers 0 (board_cells c.args.board.now) (board_cells c.lend.new.self) (board_cells c.give_back.new.self) c.requires.free c.in-Fiber.ensures.others c.give_back.ensures.others c.give_back.ensures.empty

pub unreachable-requires : goal.unreachable-requires
unreachable-requires g c = c.in-Idle.ensures.effect.3 (none_lent (seen c.args.board.now) c.args.workers c.requires.free)

pub returns-in-Quiet-clause-free : goal.returns-in-Quiet-clause-free
returns-in-Quiet-clause-free g c = ap cells_of c.in-Quiet.ensures.effect.1 ∙ c.requires.free

pub returns-in-Quiet-clause-quiet : goal.returns-in-Quiet-clause-quiet
returns-in-Quiet-clause-quiet g c = λ is.
    let e = c.in-Quiet.ensures.effect in
    (ap (λ b. b.stopped) e.1 ∙ e.0, (ap (λ b. b.ready) e.1 ∙ e.2, ap (λ b. lent_of b.cells) e.1 ∙ e.3))

pub returns-in-Stopped-clause-free : goal.returns-in-Stopped-clause-free
returns-in-Stopped-clause-free g c = ap cells_of c.in-Stopped.ensures.effect.1 ∙ c.requires.free
