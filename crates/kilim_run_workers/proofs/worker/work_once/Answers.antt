use Rattle.std.proofs.Common.{ap, sym, subst, ◌∙◌}
use Rattle.kilim_run_turn.specs.declared.pass.Pass.{Pass}
use Rattle.kilim_run_turn.specs.Turns.{seat_of, shows, IsPassOf}
use Rattle.kilim_run_workers.specs.Codes.{board_cells}
use Rattle.kilim_run_workers.proofs.worker.work_once.Goals as goal

pub take_one-requires : goal.take_one-requires
take_one-requires g c = record { some = c.requires.may.some; pass = c.requires.may.pass; free = c.requires.may.free }

pub run_fiber-requires : goal.run_fiber-requires
run_fiber-requires g c = record {
  some = c.requires.may.some;
  run = c.requires.may.run;
  pass = c.in-Fiber.ensures.pass;
  lent = c.in-Fiber.ensures.taken.0;
  stands = c.in-Fiber.ensures.taken.1;
}

pub returns-in-Fiber : goal.returns-in-Fiber
returns-in-Fiber g c = record { pass = c.run_fiber.ensures.pass; seat = c.run_fiber.ensures.seat ∙ c.in-Fiber.ensures.seat; empty = c.run_fiber.ensures.empty }

pub returns-in-Idle : goal.returns-in-Idle
returns-in-Idle g c = record {
  pass = subst (λ (p : Pass). IsPassOf board_cells c.args.turn.now p) (sym c.rest.ensures) c.in-Idle.ensures.pass;
  seat = ap seat_of c.rest.ensures ∙ c.in-Idle.ensures.seat;
  empty = ap shows c.rest.ensures ∙ c.in-Idle.ensures.taken;
}

pub returns-in-Quiet : goal.returns-in-Quiet
returns-in-Quiet g c = record { pass = c.in-Quiet.ensures.pass; seat = c.in-Quiet.ensures.seat; empty = c.in-Quiet.ensures.taken }

pub returns-in-Stopped : goal.returns-in-Stopped
returns-in-Stopped g c = record { pass = c.in-Stopped.ensures.pass; seat = c.in-Stopped.ensures.seat; empty = c.in-Stopped.ensures.taken }
