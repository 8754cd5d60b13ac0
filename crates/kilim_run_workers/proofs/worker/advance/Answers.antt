use Rattle.std.proofs.Common.{◌≡◌, refl, subst, sym}
use Rattle.kilim_run_board.specs.fibers.Fibers.{course_after, Resumed}
use Rattle.kilim_run_workers.proofs.one_worker.Steps.{going, meets}
use Rattle.kilim_run_board.specs.Seen.{wish_in}
use Rattle.kilim_run_turn.specs.Turns.{shows}
use Rattle.kilim_run_workers.specs.Codes.{lent_numbers}
use Rattle.kilim_run_board.specs.declared.board.Acted.TheVariants as acted
use Rattle.kilim_run_workers.specs.Runs.{ActedAs}
use Rattle.kilim_run_workers.proofs.Steps.{asked_in, is_over, rested, went_on}
use Rattle.kilim_run_workers.proofs.worker.advance.Goals as goal

pub resume-requires : goal.resume-requires
resume-requires g c =
    let set = c.requires.some.0 in
    let r = c.requires.run set c.requires.some.1 in
    record { set = set; served = r.0; is-limits = r.1; stands = c.requires.stands set c.requires.some.1 }

pub act-requires-clause-meets : goal.act-requires-clause-meets
act-requires-clause-meets g c = λ set is.
    let r = c.requires.run set is in
    subst (λ w. Resumed g.F.Fibers.task_of g.F.Fibers.course_of g.F.Fibers.holds g.F.Fibers.asked set c.resume.new.self w) c.in-End.is (c.in-Ok.ensures.wants set r.0 r.1 (c.requires.stands set is))

pub act-requires-in_default-wants-clause-meets : goal.act-requires-in_default-wants-clause-meets
act-requires-in_default-wants-clause-meets g c = λ set is.
    let r = c.requires.run set is in
    meets g.F.Fibers.task_of g.F.Fibers.course_of g.F.Fibers.holds g.F.Fibers.asked set c.resume.new.self c.in-Ok.wants (going c.in-Ok.wants c.in_default-wants.not-Rest c.in_default-wants.not-End) (c.in-Ok.ensures.wants set r.0 r.1 (c.requires.stands set is))

pub answer-requires : goal.answer-requires
answer-requires g c =
    let set = c.requires.some.0 in
    let is = c.requires.some.1 in
    let r = c.requires.run set is in
    let k =
    asked_in g.F.Fibers.task_of g.F.Fibers.course_of g.F.Fibers.holds g.F.Fibers.asked g.F.Fibers.serves g.K.Run.of c.args.code.now c.args.limits.now set is c.resume.new.self c.in-Ok.wants c.in-Answer.answer (shows c.act-in_default-wants.new.pass)
    (going c.in-Ok.wants c.in_default-wants.not-Rest c.in_default-wants.not-End) (c.in-Ok.ensures.wants set r.0 r.1 (c.requires.stands set is))
    (subst (λ a. ActedAs g.K.Run.of (g.F.Fibers.task_of c.resume.new.self) (g.F.Fibers.course_of c.resume.new.self) (shows c.act-in_default-wants.new.pass) (wish_in c.in-Ok.wants) a) c.in-Answer.is c.in-Ok-act-2.ensures.acted) in
    record { set = set; served = r.0; wish = k.wish; deed = k.deed; asks = k.asks; fits = k.fits }

pub returns-in_default : goal.returns-in_default
returns-in_default g c = record {
  pass = c.requires.pass;
  seat = refl;
  next = tt;
  refused = (g.F.Fibers.task_of c.args.fiber.now, g.F.Fibers.course_of c.args.fiber.now, c.requires.lent);
}

pub returns-in-Rest : goal.returns-in-Rest
returns-in-Rest g c = record {
  pass = c.requires.pass;
  seat = refl;
  next = (
    subst (λ t. shows c.args.pass.now ≡ lent_numbers t (g.F.Fibers.course_of c.resume.new.self)) (sym c.in-Ok.ensures.task) (subst (λ d. shows c.args.pass.now ≡ lent_numbers (g.F.Fibers.task_of c.args.fiber.now) d) (sym c.in-Ok.ensures.course) c.requires.lent),
    λ set is.
        let r = c.requires.run set is in
        rested g.F.Fibers.task_of g.F.Fibers.course_of g.F.Fibers.holds g.F.Fibers.asked set c.resume.new.self c.in-Rest.waits
        (subst (λ w. Resumed g.F.Fibers.task_of g.F.Fibers.course_of g.F.Fibers.holds g.F.Fibers.asked set c.resume.new.self w) c.in-Rest.is (c.in-Ok.ensures.wants set r.0 r.1 (c.requires.stands set is))),
  );
  refused = tt;
}

pub returns-in-Err-act : goal.returns-in-Err-act
returns-in-Err-act g c = record {
  pass = c.in-Err-act.ensures.pass;
  seat = c.in-Err-act.ensures.seat;
  next = tt;
  refused = (g.F.Fibers.task_of c.resume.new.self, g.F.Fibers.course_of c.resume.new.self, c.in-Err-act.ensures.refused);
}

pub returns-in-Err-answer : goal.returns-in-Err-answer
returns-in-Err-answer g c = record {
  pass = c.in-Ok-act-2.ensures.pass;
  seat = c.in-Ok-act-2.ensures.seat;
  next = tt;
  refused = let set = c.requires.some.0 in
      let is = c.requires.some.1 in
      let r = c.requires.run set is in
      let k =
      asked_in g.F.Fibers.task_of g.F.Fibers.course_of g.F.Fibers.holds g.F.Fibers.asked g.F.Fibers.serves g.K.Run.of c.args.code.now c.args.limits.now set is c.resume.new.self c.in-Ok.wants c.in-Answer.answer (shows c.act-in_default-wants.new.pass)
      (going c.in-Ok.wants c.in_default-wants.not-Rest c.in_default-wants.not-End) (c.in-Ok.ensures.wants set r.0 r.1 (c.requires.stands set is))
      (subst (λ a. ActedAs g.K.Run.of (g.F.Fibers.task_of c.resume.new.self) (g.F.Fibers.course_of c.resume.new.self) (shows c.act-in_default-wants.new.pass) (wish_in c.in-Ok.wants) a) c.in-Answer.is c.in-Ok-act-2.ensures.acted) in
      (g.F.Fibers.task_of c.resume.new.self, course_after (g.F.Fibers.course_of c.resume.new.self) k.deed, k.now);
}

pub returns-in-Ok-answer : goal.returns-in-Ok-answer
returns-in-Ok-answer g c = record {
  pass = c.in-Ok-act-2.ensures.pass;
  seat = c.in-Ok-act-2.ensures.seat;
  next = went_on g.F.Fibers.task_of g.F.Fibers.course_of g.F.Fibers.holds g.F.Fibers.asked g.F.Fibers.serves g.K.Run.of c.args.code.now c.args.limits.now c.resume.new.self c.answer.new.self c.in-Ok.wants c.in-Answer.answer (shows c.act-in_default-wants.new.pass) c.requires.some c.requires.run
      (going c.in-Ok.wants c.in_default-wants.not-Rest c.in_default-wants.not-End)
      (λ set is. let r = c.requires.run set is in c.in-Ok.ensures.wants set r.0 r.1 (c.requires.stands set is))
      (subst (λ a. ActedAs g.K.Run.of (g.F.Fibers.task_of c.resume.new.self) (g.F.Fibers.course_of c.resume.new.self) (shows c.act-in_default-wants.new.pass) (wish_in c.in-Ok.wants) a) c.in-Answer.is c.in-Ok-act-2.ensures.acted)
      c.in-Ok-answer.ensures.task
      (λ set wish deed served asks fits. let r = c.in-Ok-answer.ensures.goes set wish deed served asks fits in (r.0, r.1));
  refused = tt;
}

pub returns-in-OutOfTasks : goal.returns-in-OutOfTasks
returns-in-OutOfTasks g c = record {
  pass = c.in-Ok-act-2.ensures.pass;
  seat = c.in-Ok-act-2.ensures.seat;
  next = is_over g.K.Run.of (g.F.Fibers.task_of c.resume.new.self) (g.F.Fibers.course_of c.resume.new.self) (shows c.act-in_default-wants.new.pass) (wish_in c.in-Ok.wants) _ acted.OutOfTasks c.in-OutOfTasks.is tt c.in-Ok-act-2.ensures.acted;
  refused = tt;
}

pub returns-in-OutOfRoom : goal.returns-in-OutOfRoom
returns-in-OutOfRoom g c = record {
  pass = c.in-Ok-act-2.ensures.pass;
  seat = c.in-Ok-act-2.ensures.seat;
  next = is_over g.K.Run.of (g.F.Fibers.task_of c.resume.new.self) (g.F.Fibers.course_of c.resume.new.self) (shows c.act-in_default-wants.new.pass) (wish_in c.in-Ok.wants) _ acted.OutOfRoom c.in-OutOfRoom.is tt c.in-Ok-act-2.ensures.acted;
  refused = tt;
}
