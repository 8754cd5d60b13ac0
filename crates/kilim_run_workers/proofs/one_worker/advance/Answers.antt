use Rattle.kilim_run_board.specs.declared.fibers.Wants.TheVariants as wants
use Rattle.std.proofs.Common.{ap, ◌∙◌, subst, refl}
use Rattle.kilim_run_workers.proofs.Given.{acted_alone, acted_end, acted_on, acted_over}
use Rattle.std.specs.Prelude.{slice_get}
use Rattle.kilim_run_board.specs.Seen.{IsNumbered}
use Rattle.kilim_run_workers.proofs.one_worker.Steps.{going, actable, resumed, lent_now, may_now, done_now, asked_by, can_answer, goes_on, is_over, is_ended, counted, going_none, falls_on, falls_over, falls_rest, rests_now, rests_waiting}
use Rattle.kilim_run_workers.proofs.one_worker.Measures.{over_left, act_calm, same_calm}
use Rattle.std.proofs.Common.{◌≤◌}
use Rattle.kilim_run_state.specs.declared.run.Limits.{Limits}
use Rattle.kilim_run_board.specs.declared.board.Acted.TheVariants as acted
use Rattle.kilim_run_board.specs.Seen.{seen}
use Rattle.kilim_run_board.specs.fibers.Fibers.{RestsRightly}
use Rattle.kilim_run_workers.proofs.one_worker.advance.Goals as goal

pub act-requires-clause-lent : goal.act-requires-clause-lent
act-requires-clause-lent g c = (_, ap (λ cs. slice_get cs 0) (c.in-Ok-reserve.ensures.same.spots.cells ∙ c.requires.lending.cells))

pub act-requires-in_default-wants : goal.act-requires-in_default-wants
act-requires-in_default-wants g c =
    let now = (resumed g.F.Fibers.task_of g.F.Fibers.course_of g.F.Fibers.holds g.F.Fibers.asked g.F.Fibers.serves c.args.code.now c.args.main c.args.limits.now c.args.board.now c.reserve-in_default-wants.new.self c.args.fiber.now c.resume.new.self c.in-Ok.wants c.requires.lending c.in-Ok-reserve-2.ensures.same c.in-Ok-reserve-2.ensures.roomy c.in-Ok-reserve-2.ensures.stands c.in-Ok.ensures.task c.in-Ok.ensures.course c.in-Ok.ensures.wants) in
    record {
      lent = (_, lent_now g.F.Fibers.task_of g.F.Fibers.course_of g.F.Fibers.holds g.F.Fibers.asked g.F.Fibers.serves c.args.code.now c.args.main c.args.limits.now c.reserve-in_default-wants.new.self c.resume.new.self c.in-Ok.wants now);
      roomy = c.in-Ok-reserve-2.ensures.roomy;
      room = c.in-Ok-reserve-2.ensures.room;
      acts = actable g.F.Fibers.task_of g.F.Fibers.course_of g.F.Fibers.holds g.F.Fibers.asked c.requires.some.0 g.F.Fibers.count_of c.resume.new.self c.in-Ok.wants (going c.in-Ok.wants c.in_default-wants.not-Rest c.in_default-wants.not-End) (now.stands c.requires.some.0 c.requires.some.1).2 c.in-Ok.ensures.none;
      bounds = may_now g.F.Fibers.task_of g.F.Fibers.course_of g.F.Fibers.holds g.F.Fibers.asked g.F.Fibers.serves c.args.code.now c.args.main c.args.limits.now c.reserve-in_default-wants.new.self c.resume.new.self c.in-Ok.wants now g.F.Fibers.count_of g.F.Fibers.refused (going c.in-Ok.wants c.in_default-wants.not-Rest c.in_default-wants.not-End) c.requires.some;
    }

pub answer-requires : goal.answer-requires
answer-requires g c =
    can_answer g.F.Fibers.task_of g.F.Fibers.course_of g.F.Fibers.holds g.F.Fibers.asked g.F.Fibers.serves c.args.code.now c.args.main c.args.limits.now c.reserve-in_default-wants.new.self c.resume.new.self c.in-Ok.wants (resumed g.F.Fibers.task_of g.F.Fibers.course_of g.F.Fibers.holds g.F.Fibers.asked g.F.Fibers.serves c.args.code.now c.args.main c.args.limits.now c.args.board.now c.reserve-in_default-wants.new.self c.args.fiber.now c.resume.new.self c.in-Ok.wants c.requires.lending c.in-Ok-reserve-2.ensures.same c.in-Ok-reserve-2.ensures.roomy c.in-Ok-reserve-2.ensures.stands c.in-Ok.ensures.task c.in-Ok.ensures.course c.in-Ok.ensures.wants) c.act-in_default-wants.new.self c.in-Answer.answer (going c.in-Ok.wants c.in_default-wants.not-Rest c.in_default-wants.not-End) c.in-Answer.ensures.stands c.requires.some

pub returns-in-Ok-reserve-clause-next : goal.returns-in-Ok-reserve-clause-next
returns-in-Ok-reserve-clause-next g c =
    is_ended g.F.Fibers.task_of g.F.Fibers.course_of g.F.Fibers.holds g.F.Fibers.asked g.F.Fibers.serves c.args.code.now c.args.main c.args.limits.now (IsNumbered g.F.Fibers.task_of g.F.Fibers.course_of g.F.Fibers.count_of g.F.Fibers.refused g.F.Fibers.holds) c.reserve.new.self c.act.new.self c.resume.new.self c.in-Ok.wants c.in-End.cause c.act.result c.in-End.is (resumed g.F.Fibers.task_of g.F.Fibers.course_of g.F.Fibers.holds g.F.Fibers.asked g.F.Fibers.serves c.args.code.now c.args.main c.args.limits.now c.args.board.now c.reserve.new.self c.args.fiber.now c.resume.new.self c.in-Ok.wants c.requires.lending c.in-Ok-reserve.ensures.same c.in-Ok-reserve.ensures.roomy c.in-Ok-reserve.ensures.stands c.in-Ok.ensures.task c.in-Ok.ensures.course c.in-Ok.ensures.wants) c.act.ensures.stands c.act.ensures.roomy c.act.ensures.effect

pub returns-in-Ok-answer-clause-next : goal.returns-in-Ok-answer-clause-next
returns-in-Ok-answer-clause-next g c =
    let now = (resumed g.F.Fibers.task_of g.F.Fibers.course_of g.F.Fibers.holds g.F.Fibers.asked g.F.Fibers.serves c.args.code.now c.args.main c.args.limits.now c.args.board.now c.reserve-in_default-wants.new.self c.args.fiber.now c.resume.new.self c.in-Ok.wants c.requires.lending c.in-Ok-reserve-2.ensures.same c.in-Ok-reserve-2.ensures.roomy c.in-Ok-reserve-2.ensures.stands c.in-Ok.ensures.task c.in-Ok.ensures.course c.in-Ok.ensures.wants) in
    goes_on g.F.Fibers.task_of g.F.Fibers.course_of g.F.Fibers.holds g.F.Fibers.asked g.F.Fibers.serves c.args.code.now c.args.main c.args.limits.now c.reserve-in_default-wants.new.self c.resume.new.self c.in-Ok.wants now (IsNumbered g.F.Fibers.task_of g.F.Fibers.course_of g.F.Fibers.count_of g.F.Fibers.refused g.F.Fibers.holds) c.act-in_default-wants.new.self c.answer.new.self c.in-Answer.answer (going c.in-Ok.wants c.in_default-wants.not-Rest c.in_default-wants.not-End) c.in-Answer.ensures.stands c.in-Answer.ensures.roomy
    (c.in-Answer.ensures.effect (g.F.Fibers.task_of c.resume.new.self) (lent_now g.F.Fibers.task_of g.F.Fibers.course_of g.F.Fibers.holds g.F.Fibers.asked g.F.Fibers.serves c.args.code.now c.args.main c.args.limits.now c.reserve-in_default-wants.new.self c.resume.new.self c.in-Ok.wants now))
    c.in-Ok-answer.ensures.task
    (λ set wish deed served asks fits. let r = c.in-Ok-answer.ensures.goes set wish deed served asks fits in (r.0, r.1))

pub returns-in-OutOfTasks-clause-next : goal.returns-in-OutOfTasks-clause-next
returns-in-OutOfTasks-clause-next g c =
    let now = (resumed g.F.Fibers.task_of g.F.Fibers.course_of g.F.Fibers.holds g.F.Fibers.asked g.F.Fibers.serves c.args.code.now c.args.main c.args.limits.now c.args.board.now c.reserve-in_default-wants.new.self c.args.fiber.now c.resume.new.self c.in-Ok.wants c.requires.lending c.in-Ok-reserve-2.ensures.same c.in-Ok-reserve-2.ensures.roomy c.in-Ok-reserve-2.ensures.stands c.in-Ok.ensures.task c.in-Ok.ensures.course c.in-Ok.ensures.wants) in
    is_over g.F.Fibers.task_of g.F.Fibers.course_of g.F.Fibers.holds g.F.Fibers.asked g.F.Fibers.serves c.args.code.now c.args.main c.args.limits.now c.reserve-in_default-wants.new.self c.resume.new.self c.in-Ok.wants now (IsNumbered g.F.Fibers.task_of g.F.Fibers.course_of g.F.Fibers.count_of g.F.Fibers.refused g.F.Fibers.holds) c.act-in_default-wants.new.self acted.OutOfTasks (going c.in-Ok.wants c.in_default-wants.not-Rest c.in_default-wants.not-End) tt c.in-OutOfTasks.ensures.stands c.in-OutOfTasks.ensures.roomy
    (c.in-OutOfTasks.ensures.effect (g.F.Fibers.task_of c.resume.new.self) (lent_now g.F.Fibers.task_of g.F.Fibers.course_of g.F.Fibers.holds g.F.Fibers.asked g.F.Fibers.serves c.args.code.now c.args.main c.args.limits.now c.reserve-in_default-wants.new.self c.resume.new.self c.in-Ok.wants now))

pub returns-in-OutOfRoom-clause-next : goal.returns-in-OutOfRoom-clause-next
returns-in-OutOfRoom-clause-next g c =
    let now = (resumed g.F.Fibers.task_of g.F.Fibers.course_of g.F.Fibers.holds g.F.Fibers.asked g.F.Fibers.serves c.args.code.now c.args.main c.args.limits.now c.args.board.now c.reserve-in_default-wants.new.self c.args.fiber.now c.resume.new.self c.in-Ok.wants c.requires.lending c.in-Ok-reserve-2.ensures.same c.in-Ok-reserve-2.ensures.roomy c.in-Ok-reserve-2.ensures.stands c.in-Ok.ensures.task c.in-Ok.ensures.course c.in-Ok.ensures.wants) in
    is_over g.F.Fibers.task_of g.F.Fibers.course_of g.F.Fibers.holds g.F.Fibers.asked g.F.Fibers.serves c.args.code.now c.args.main c.args.limits.now c.reserve-in_default-wants.new.self c.resume.new.self c.in-Ok.wants now (IsNumbered g.F.Fibers.task_of g.F.Fibers.course_of g.F.Fibers.count_of g.F.Fibers.refused g.F.Fibers.holds) c.act-in_default-wants.new.self acted.OutOfRoom (going c.in-Ok.wants c.in_default-wants.not-Rest c.in_default-wants.not-End) tt c.in-OutOfRoom.ensures.stands c.in-OutOfRoom.ensures.roomy
    (c.in-OutOfRoom.ensures.effect (g.F.Fibers.task_of c.resume.new.self) (lent_now g.F.Fibers.task_of g.F.Fibers.course_of g.F.Fibers.holds g.F.Fibers.asked g.F.Fibers.serves c.args.code.now c.args.main c.args.limits.now c.reserve-in_default-wants.new.self c.resume.new.self c.in-Ok.wants now))

pub returns-in-Ok-answer-clause-falls : goal.returns-in-Ok-answer-clause-falls
returns-in-Ok-answer-clause-falls g c =
    let now = (resumed g.F.Fibers.task_of g.F.Fibers.course_of g.F.Fibers.holds g.F.Fibers.asked g.F.Fibers.serves c.args.code.now c.args.main c.args.limits.now c.args.board.now c.reserve-in_default-wants.new.self c.args.fiber.now c.resume.new.self c.in-Ok.wants c.requires.lending c.in-Ok-reserve-2.ensures.same c.in-Ok-reserve-2.ensures.roomy c.in-Ok-reserve-2.ensures.stands c.in-Ok.ensures.task c.in-Ok.ensures.course c.in-Ok.ensures.wants) in
    let goes = (going c.in-Ok.wants c.in_default-wants.not-Rest c.in_default-wants.not-End) in
    let set = c.requires.some.0 in
    let s = now.stands set c.requires.some.1 in
    let d = done_now g.F.Fibers.task_of g.F.Fibers.course_of g.F.Fibers.holds g.F.Fibers.asked g.F.Fibers.serves c.args.code.now c.args.main c.args.limits.now c.reserve-in_default-wants.new.self c.resume.new.self c.in-Ok.wants now c.act-in_default-wants.new.self (acted.Answer c.in-Answer.answer) goes c.in-Answer.ensures.stands set c.requires.some.1 in
    let q = asked_by g.F.Fibers.task_of g.F.Fibers.course_of g.F.Fibers.holds g.F.Fibers.asked c.requires.some.0 (seen c.act-in_default-wants.new.self) c.resume.new.self c.in-Ok.wants c.in-Answer.answer goes s.2 d.1 in
    let most = (c.in-Ok-answer.ensures.goes set q.wish q.deed c.requires.some.1.run.served q.asks q.fits).3 in
    let most2 : g.F.Fibers.count_of c.answer.new.self ≤ c.args.limits.now.steps = subst (λ (x : Limits). g.F.Fibers.count_of c.answer.new.self ≤ x.steps) c.requires.some.1.is-limits most in
    falls_on g.F.Fibers.task_of g.F.Fibers.count_of g.F.Fibers.rests g.F.Fibers.refused c.args.limits.now.steps (IsNumbered g.F.Fibers.task_of g.F.Fibers.course_of g.F.Fibers.count_of g.F.Fibers.refused g.F.Fibers.holds) (λ f f' k num. num.refuses) c.args.board.now c.reserve-in_default-wants.new.self c.act-in_default-wants.new.self c.args.fiber.now c.resume.new.self c.answer.new.self c.in-Ok.wants c.in-Answer.answer
    c.in-Ok-reserve-2.ensures.same (c.in-Answer.ensures.effect (g.F.Fibers.task_of c.resume.new.self) (lent_now g.F.Fibers.task_of g.F.Fibers.course_of g.F.Fibers.holds g.F.Fibers.asked g.F.Fibers.serves c.args.code.now c.args.main c.args.limits.now c.reserve-in_default-wants.new.self c.resume.new.self c.in-Ok.wants now)) c.in-Ok.ensures.fresh c.requires.calm
    (going_none c.in-Ok.wants _ (g.F.Fibers.refused c.args.fiber.now) _ _ goes c.in-Ok.ensures.rest) c.in-Ok.ensures.counted c.in-Ok.ensures.bounded most2
    (counted g.F.Fibers.task_of g.F.Fibers.course_of g.F.Fibers.holds g.F.Fibers.asked c.requires.some.0 (seen c.act-in_default-wants.new.self) c.resume.new.self c.in-Ok.wants c.in-Answer.answer (g.F.Fibers.count_of c.resume.new.self) (g.F.Fibers.count_of c.answer.new.self) (g.F.Fibers.refused c.answer.new.self) goes s.2 d.1
    (λ wish deed asks fits. (c.in-Ok-answer.ensures.goes set wish deed c.requires.some.1.run.served asks fits).2))

pub returns-in-OutOfTasks-clause-falls : goal.returns-in-OutOfTasks-clause-falls
returns-in-OutOfTasks-clause-falls g c =
    let now = (resumed g.F.Fibers.task_of g.F.Fibers.course_of g.F.Fibers.holds g.F.Fibers.asked g.F.Fibers.serves c.args.code.now c.args.main c.args.limits.now c.args.board.now c.reserve-in_default-wants.new.self c.args.fiber.now c.resume.new.self c.in-Ok.wants c.requires.lending c.in-Ok-reserve-2.ensures.same c.in-Ok-reserve-2.ensures.roomy c.in-Ok-reserve-2.ensures.stands c.in-Ok.ensures.task c.in-Ok.ensures.course c.in-Ok.ensures.wants) in
    let did = c.in-OutOfTasks.ensures.effect (g.F.Fibers.task_of c.resume.new.self) (lent_now g.F.Fibers.task_of g.F.Fibers.course_of g.F.Fibers.holds g.F.Fibers.asked g.F.Fibers.serves c.args.code.now c.args.main c.args.limits.now c.reserve-in_default-wants.new.self c.resume.new.self c.in-Ok.wants now) in
    let same = c.in-Ok-reserve-2.ensures.same in
    falls_over g.F.Fibers.task_of g.F.Fibers.count_of g.F.Fibers.rests g.F.Fibers.refused c.args.limits.now.steps (IsNumbered g.F.Fibers.task_of g.F.Fibers.course_of g.F.Fibers.count_of g.F.Fibers.refused g.F.Fibers.holds) (λ f f' k num. num.refuses) c.args.board.now c.reserve-in_default-wants.new.self c.act-in_default-wants.new.self c.args.fiber.now same
    (over_left g.F.Fibers.task_of g.F.Fibers.count_of c.args.limits.now.steps (IsNumbered g.F.Fibers.task_of g.F.Fibers.course_of g.F.Fibers.count_of g.F.Fibers.refused g.F.Fibers.holds) (seen c.reserve-in_default-wants.new.self) (seen c.act-in_default-wants.new.self) 0 (g.F.Fibers.task_of c.resume.new.self) c.in-Ok.wants acted.OutOfTasks tt did)
    (act_calm g.F.Fibers.refused g.F.Fibers.rests (IsNumbered g.F.Fibers.task_of g.F.Fibers.course_of g.F.Fibers.count_of g.F.Fibers.refused g.F.Fibers.holds) (λ f f' k num. num.refuses) (seen c.reserve-in_default-wants.new.self) (seen c.act-in_default-wants.new.self) 0 (g.F.Fibers.task_of c.resume.new.self) c.in-Ok.wants acted.OutOfTasks did c.in-Ok.ensures.fresh (same_calm g.F.Fibers.refused (seen c.args.board.now) (seen c.reserve-in_default-wants.new.self) same.spots.ready same.spots.parked c.requires.calm))

pub returns-in-OutOfRoom-clause-falls : goal.returns-in-OutOfRoom-clause-falls
returns-in-OutOfRoom-clause-falls g c =
    let now = (resumed g.F.Fibers.task_of g.F.Fibers.course_of g.F.Fibers.holds g.F.Fibers.asked g.F.Fibers.serves c.args.code.now c.args.main c.args.limits.now c.args.board.now c.reserve-in_default-wants.new.self c.args.fiber.now c.resume.new.self c.in-Ok.wants c.requires.lending c.in-Ok-reserve-2.ensures.same c.in-Ok-reserve-2.ensures.roomy c.in-Ok-reserve-2.ensures.stands c.in-Ok.ensures.task c.in-Ok.ensures.course c.in-Ok.ensures.wants) in
    let did = c.in-OutOfRoom.ensures.effect (g.F.Fibers.task_of c.resume.new.self) (lent_now g.F.Fibers.task_of g.F.Fibers.course_of g.F.Fibers.holds g.F.Fibers.asked g.F.Fibers.serves c.args.code.now c.args.main c.args.limits.now c.reserve-in_default-wants.new.self c.resume.new.self c.in-Ok.wants now) in
    let same = c.in-Ok-reserve-2.ensures.same in
    falls_over g.F.Fibers.task_of g.F.Fibers.count_of g.F.Fibers.rests g.F.Fibers.refused c.args.limits.now.steps (IsNumbered g.F.Fibers.task_of g.F.Fibers.course_of g.F.Fibers.count_of g.F.Fibers.refused g.F.Fibers.holds) (λ f f' k num. num.refuses) c.args.board.now c.reserve-in_default-wants.new.self c.act-in_default-wants.new.self c.args.fiber.now same
    (over_left g.F.Fibers.task_of g.F.Fibers.count_of c.args.limits.now.steps (IsNumbered g.F.Fibers.task_of g.F.Fibers.course_of g.F.Fibers.count_of g.F.Fibers.refused g.F.Fibers.holds) (seen c.reserve-in_default-wants.new.self) (seen c.act-in_default-wants.new.self) 0 (g.F.Fibers.task_of c.resume.new.self) c.in-Ok.wants acted.OutOfRoom tt did)
    (act_calm g.F.Fibers.refused g.F.Fibers.rests (IsNumbered g.F.Fibers.task_of g.F.Fibers.course_of g.F.Fibers.count_of g.F.Fibers.refused g.F.Fibers.holds) (λ f f' k num. num.refuses) (seen c.reserve-in_default-wants.new.self) (seen c.act-in_default-wants.new.self) 0 (g.F.Fibers.task_of c.resume.new.self) c.in-Ok.wants acted.OutOfRoom did c.in-Ok.ensures.fresh (same_calm g.F.Fibers.refused (seen c.args.board.now) (seen c.reserve-in_default-wants.new.self) same.spots.ready same.spots.parked c.requires.calm))

pub returns-in-Rest-clause-falls : goal.returns-in-Rest-clause-falls
returns-in-Rest-clause-falls g c = λ after gives.
    falls_rest g.F.Fibers.task_of g.F.Fibers.count_of g.F.Fibers.rests g.F.Fibers.refused c.args.limits.now.steps (IsNumbered g.F.Fibers.task_of g.F.Fibers.course_of g.F.Fibers.count_of g.F.Fibers.refused g.F.Fibers.holds) (λ f f' k num. num.refuses) c.args.board.now after c.args.fiber.now c.resume.new.self c.in-Rest.waits (g.F.Fibers.rests c.resume.new.self)
    gives (subst (RestsRightly (g.F.Fibers.rests c.resume.new.self) (g.F.Fibers.refused c.args.fiber.now) (g.F.Fibers.count_of c.args.fiber.now) (g.F.Fibers.count_of c.resume.new.self)) c.in-Rest.is c.in-Ok.ensures.rest)
    c.in-Ok.ensures.refused c.in-Ok.ensures.counted c.in-Ok.ensures.bounded c.requires.waits c.requires.calm

pub returns-in-Rest-clause-next : goal.returns-in-Rest-clause-next
returns-in-Rest-clause-next g c =
    rests_now g.F.Fibers.task_of g.F.Fibers.course_of g.F.Fibers.holds g.F.Fibers.asked g.F.Fibers.serves c.args.code.now c.args.main c.args.limits.now c.args.board.now c.args.fiber.now c.resume.new.self c.in-Ok.wants c.in-Rest.waits c.in-Rest.is
    c.requires.lending c.in-Ok.ensures.task c.in-Ok.ensures.course c.in-Ok.ensures.wants

pub resume-requires : goal.resume-requires
resume-requires g c = let r = c.requires.some in record { set = r.0; served = r.1.run.served; is-limits = r.1.is-limits; stands = (c.requires.lending.stands r.0 r.1).1 }

pub reserve-requires : goal.reserve-requires
reserve-requires g c = record { roomy = c.requires.lending.roomy }

pub reserve-requires-in_default-wants : goal.reserve-requires-in_default-wants
reserve-requires-in_default-wants g c = record { roomy = c.requires.lending.roomy }

pub act-requires-clause-room : goal.act-requires-clause-room
act-requires-clause-room g c = c.in-Ok-reserve.ensures.room

pub returns-in_default : goal.returns-in_default
returns-in_default g c = record { next = tt; falls = tt; task = tt; made = tt; waiting = tt; alone = tt }

pub returns-in_default-reserve : goal.returns-in_default-reserve
returns-in_default-reserve g c = record { next = tt; falls = tt; task = tt; made = tt; waiting = tt; alone = tt }

pub returns-in_default-reserve-2 : goal.returns-in_default-reserve-2
returns-in_default-reserve-2 g c = record { next = tt; falls = tt; task = tt; made = tt; waiting = tt; alone = tt }

pub returns-in-Err : goal.returns-in-Err
returns-in-Err g c = record { next = tt; falls = tt; task = tt; made = tt; waiting = tt; alone = tt }

pub returns-in-Rest-clause-made : goal.returns-in-Rest-clause-made
returns-in-Rest-clause-made g c = refl

pub returns-in-Rest-clause-waiting : goal.returns-in-Rest-clause-waiting
returns-in-Rest-clause-waiting g c =
    rests_waiting g.F.Fibers.refused c.args.board.now c.args.fiber.now (g.F.Fibers.rests c.resume.new.self) (g.F.Fibers.count_of c.args.fiber.now) (g.F.Fibers.count_of c.resume.new.self) c.in-Rest.waits c.requires.waits
    (subst (RestsRightly (g.F.Fibers.rests c.resume.new.self) (g.F.Fibers.refused c.args.fiber.now) (g.F.Fibers.count_of c.args.fiber.now) (g.F.Fibers.count_of c.resume.new.self)) c.in-Rest.is c.in-Ok.ensures.rest)

pub returns-in-Ok-reserve-clause-made : goal.returns-in-Ok-reserve-clause-made
returns-in-Ok-reserve-clause-made g c = acted_end (IsNumbered g.F.Fibers.task_of g.F.Fibers.course_of g.F.Fibers.count_of g.F.Fibers.refused g.F.Fibers.holds) (seen c.args.board.now) (seen c.reserve.new.self) (seen c.act.new.self) 0 (g.F.Fibers.task_of c.args.fiber.now) c.in-Ok-reserve.ensures.same c.in-End.cause c.act.result (c.act.ensures.effect (g.F.Fibers.task_of c.args.fiber.now) (ap (λ cs. slice_get cs 0) (c.in-Ok-reserve.ensures.same.spots.cells ∙ c.requires.lending.cells)))

pub returns-in-Ok-reserve-clause-alone : goal.returns-in-Ok-reserve-clause-alone
returns-in-Ok-reserve-clause-alone g c = acted_alone (IsNumbered g.F.Fibers.task_of g.F.Fibers.course_of g.F.Fibers.count_of g.F.Fibers.refused g.F.Fibers.holds) (seen c.args.board.now) (seen c.reserve.new.self) (seen c.act.new.self) 0 (g.F.Fibers.task_of c.args.fiber.now) c.in-Ok-reserve.ensures.same (wants.End c.in-End.cause) c.act.result (c.act.ensures.effect (g.F.Fibers.task_of c.args.fiber.now) (ap (λ cs. slice_get cs 0) (c.in-Ok-reserve.ensures.same.spots.cells ∙ c.requires.lending.cells)))

pub returns-in-Ok-answer-clause-made : goal.returns-in-Ok-answer-clause-made
returns-in-Ok-answer-clause-made g c =
    let now = (resumed g.F.Fibers.task_of g.F.Fibers.course_of g.F.Fibers.holds g.F.Fibers.asked g.F.Fibers.serves c.args.code.now c.args.main c.args.limits.now c.args.board.now c.reserve-in_default-wants.new.self c.args.fiber.now c.resume.new.self c.in-Ok.wants c.requires.lending c.in-Ok-reserve-2.ensures.same c.in-Ok-reserve-2.ensures.roomy c.in-Ok-reserve-2.ensures.stands c.in-Ok.ensures.task c.in-Ok.ensures.course c.in-Ok.ensures.wants) in
    let goes = (going c.in-Ok.wants c.in_default-wants.not-Rest c.in_default-wants.not-End) in
    let set = c.requires.some.0 in
    let s = now.stands set c.requires.some.1 in
    let d = done_now g.F.Fibers.task_of g.F.Fibers.course_of g.F.Fibers.holds g.F.Fibers.asked g.F.Fibers.serves c.args.code.now c.args.main c.args.limits.now c.reserve-in_default-wants.new.self c.resume.new.self c.in-Ok.wants now c.act-in_default-wants.new.self (acted.Answer c.in-Answer.answer) goes c.in-Answer.ensures.stands set c.requires.some.1 in
    acted_on (IsNumbered g.F.Fibers.task_of g.F.Fibers.course_of g.F.Fibers.count_of g.F.Fibers.refused g.F.Fibers.holds) (seen c.args.board.now) (seen c.reserve-in_default-wants.new.self) (seen c.act-in_default-wants.new.self) 0 (g.F.Fibers.task_of c.args.fiber.now) (g.F.Fibers.task_of c.resume.new.self) (g.F.Fibers.count_of c.resume.new.self) (g.F.Fibers.count_of c.answer.new.self) (g.F.Fibers.refused c.answer.new.self) c.in-Ok.wants c.in-Answer.answer c.in-Ok.ensures.task c.in-Ok-reserve-2.ensures.same
    (c.in-Answer.ensures.effect (g.F.Fibers.task_of c.resume.new.self) (lent_now g.F.Fibers.task_of g.F.Fibers.course_of g.F.Fibers.holds g.F.Fibers.asked g.F.Fibers.serves c.args.code.now c.args.main c.args.limits.now c.reserve-in_default-wants.new.self c.resume.new.self c.in-Ok.wants now))
    (counted g.F.Fibers.task_of g.F.Fibers.course_of g.F.Fibers.holds g.F.Fibers.asked c.requires.some.0 (seen c.act-in_default-wants.new.self) c.resume.new.self c.in-Ok.wants c.in-Answer.answer (g.F.Fibers.count_of c.resume.new.self) (g.F.Fibers.count_of c.answer.new.self) (g.F.Fibers.refused c.answer.new.self) goes s.2 d.1
    (λ wish deed asks fits. (c.in-Ok-answer.ensures.goes set wish deed c.requires.some.1.run.served asks fits).2))

pub returns-in-Ok-answer-clause-alone : goal.returns-in-Ok-answer-clause-alone
returns-in-Ok-answer-clause-alone g c = acted_alone (IsNumbered g.F.Fibers.task_of g.F.Fibers.course_of g.F.Fibers.count_of g.F.Fibers.refused g.F.Fibers.holds) (seen c.args.board.now) (seen c.reserve-in_default-wants.new.self) (seen c.act-in_default-wants.new.self) 0 (g.F.Fibers.task_of c.args.fiber.now) c.in-Ok-reserve-2.ensures.same c.in-Ok.wants (acted.Answer c.in-Answer.answer) (c.in-Answer.ensures.effect (g.F.Fibers.task_of c.args.fiber.now) (ap (λ cs. slice_get cs 0) (c.in-Ok-reserve-2.ensures.same.spots.cells ∙ c.requires.lending.cells)))

pub returns-in-OutOfTasks-clause-made : goal.returns-in-OutOfTasks-clause-made
returns-in-OutOfTasks-clause-made g c = acted_over (IsNumbered g.F.Fibers.task_of g.F.Fibers.course_of g.F.Fibers.count_of g.F.Fibers.refused g.F.Fibers.holds) (seen c.args.board.now) (seen c.reserve-in_default-wants.new.self) (seen c.act-in_default-wants.new.self) 0 (g.F.Fibers.task_of c.args.fiber.now) c.in-Ok-reserve-2.ensures.same c.in-Ok.wants acted.OutOfTasks tt (c.in-OutOfTasks.ensures.effect (g.F.Fibers.task_of c.args.fiber.now) (ap (λ cs. slice_get cs 0) (c.in-Ok-reserve-2.ensures.same.spots.cells ∙ c.requires.lending.cells)))

pub returns-in-OutOfTasks-clause-alone : goal.returns-in-OutOfTasks-clause-alone
returns-in-OutOfTasks-clause-alone g c = acted_alone (IsNumbered g.F.Fibers.task_of g.F.Fibers.course_of g.F.Fibers.count_of g.F.Fibers.refused g.F.Fibers.holds) (seen c.args.board.now) (seen c.reserve-in_default-wants.new.self) (seen c.act-in_default-wants.new.self) 0 (g.F.Fibers.task_of c.args.fiber.now) c.in-Ok-reserve-2.ensures.same c.in-Ok.wants acted.OutOfTasks (c.in-OutOfTasks.ensures.effect (g.F.Fibers.task_of c.args.fiber.now) (ap (λ cs. slice_get cs 0) (c.in-Ok-reserve-2.ensures.same.spots.cells ∙ c.requires.lending.cells)))

pub returns-in-OutOfRoom-clause-made : goal.returns-in-OutOfRoom-clause-made
returns-in-OutOfRoom-clause-made g c = acted_over (IsNumbered g.F.Fibers.task_of g.F.Fibers.course_of g.F.Fibers.count_of g.F.Fibers.refused g.F.Fibers.holds) (seen c.args.board.now) (seen c.reserve-in_default-wants.new.self) (seen c.act-in_default-wants.new.self) 0 (g.F.Fibers.task_of c.args.fiber.now) c.in-Ok-reserve-2.ensures.same c.in-Ok.wants acted.OutOfRoom tt (c.in-OutOfRoom.ensures.effect (g.F.Fibers.task_of c.args.fiber.now) (ap (λ cs. slice_get cs 0) (c.in-Ok-reserve-2.ensures.same.spots.cells ∙ c.requires.lending.cells)))

pub returns-in-OutOfRoom-clause-alone : goal.returns-in-OutOfRoom-clause-alone
returns-in-OutOfRoom-clause-alone g c = acted_alone (IsNumbered g.F.Fibers.task_of g.F.Fibers.course_of g.F.Fibers.count_of g.F.Fibers.refused g.F.Fibers.holds) (seen c.args.board.now) (seen c.reserve-in_default-wants.new.self) (seen c.act-in_default-wants.new.self) 0 (g.F.Fibers.task_of c.args.fiber.now) c.in-Ok-reserve-2.ensures.same c.in-Ok.wants acted.OutOfRoom (c.in-OutOfRoom.ensures.effect (g.F.Fibers.task_of c.args.fiber.now) (ap (λ cs. slice_get cs 0) (c.in-Ok-reserve-2.ensures.same.spots.cells ∙ c.requires.lending.cells)))
