use Rattle.std.proofs.Common.{◌∙◌, subst}
use Rattle.kilim_run_turn.specs.Turns.{shows}
use Rattle.kilim_run_workers.specs.Runs.{NextIs}
use Rattle.kilim_run_workers.proofs.worker.run_fiber.Goals as goal

pub advance-requires : goal.advance-requires
advance-requires g c = record { some = c.requires.some; run = c.requires.run; pass = c.loop.invariant.0; lent = c.loop.invariant.2; stands = c.loop.invariant.3 }

pub loop-preserved : goal.loop-preserved
loop-preserved g c = let next = subst (λ n. NextIs g.F.Fibers.task_of g.F.Fibers.course_of g.F.Fibers.holds g.K.Run.of (shows c.advance.new.pass) c.advance.new.fiber n) c.in-Ok-On.field-0-is c.in-Ok-On.ensures.next in (c.in-Ok-On.ensures.pass, c.in-Ok-On.ensures.seat ∙ c.loop.invariant.1, next.0, next.1)

pub returns-in-Ok-Over : goal.returns-in-Ok-Over
returns-in-Ok-Over g c = record { pass = c.in-Ok-Over.ensures.pass; seat = c.in-Ok-Over.ensures.seat ∙ c.loop.invariant.1; empty = subst (λ n. NextIs g.F.Fibers.task_of g.F.Fibers.course_of g.F.Fibers.holds g.K.Run.of (shows c.advance.new.pass) c.advance.new.fiber n) c.in-Ok-Over.field-0-is c.in-Ok-Over.ensures.next }

pub hand_back-requires : goal.hand_back-requires
hand_back-requires g c = let next = subst (λ n. NextIs g.F.Fibers.task_of g.F.Fibers.course_of g.F.Fibers.holds g.K.Run.of (shows c.advance.new.pass) c.advance.new.fiber n) c.in-Ok-Rests.field-0-is c.in-Ok-Rests.ensures.next in record { pass = c.in-Ok-Rests.ensures.pass; lent = next.0; rests = next.1 }

pub returns-in-Ok-Rests : goal.returns-in-Ok-Rests
returns-in-Ok-Rests g c = record { pass = c.hand_back.ensures.pass; seat = c.hand_back.ensures.seat ∙ (c.in-Ok-Rests.ensures.seat ∙ c.loop.invariant.1); empty = c.hand_back.ensures.empty }

pub quit-requires : goal.quit-requires
quit-requires g c = record { pass = c.in-Err.ensures.pass; lent = c.in-Err.ensures.refused }

pub returns-in-Err : goal.returns-in-Err
returns-in-Err g c = record { pass = c.quit.ensures.pass; seat = c.quit.ensures.seat ∙ (c.in-Err.ensures.seat ∙ c.loop.invariant.1); empty = c.quit.ensures.empty }
