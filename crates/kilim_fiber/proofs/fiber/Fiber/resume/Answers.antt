use Rattle.std.proofs.Common.{◌≤◌, Ok, refl, subst}
use Rattle.kilim_run_state.specs.declared.run.Limits.{Limits}
use Rattle.kilim_fiber_body.specs.Body.{standing_at}
use Rattle.kilim_fiber_body.specs.Steps.{setting_of}
use Rattle.kilim_fiber.proofs.Rested.{idle_rests, refused_rests, wants_rests}
use Rattle.kilim_fiber.proofs.Resting.{none_is_left}
use Rattle.kilim_fiber.proofs.Resuming.{came_by, idle_gives, idle_unasked, may_ask, ready, rest_ok, want_ok}
use Rattle.kilim_fiber.proofs.fiber.Fiber.resume.Goals as goal

pub end_idle-requires-clause-none : goal.end_idle-requires-clause-none
end_idle-requires-clause-none c = idle_unasked c.args.code.now c.args.limits.now c.args.self.now c.if-self.true c.requires

pub end_idle-requires-clause-most : goal.end_idle-requires-clause-most
end_idle-requires-clause-most c = subst (λ (l : Limits). c.args.self.now.body.count ≤ l.steps) c.requires.is-limits c.requires.stands.held.most

pub returns-then-self-clause-gives : goal.returns-then-self-clause-gives
returns-then-self-clause-gives c = idle_gives c.args.code.now c.args.limits.now c.args.self.now c.end_idle.new.self c.end_idle.result c.if-self.true c.end_idle.ensures

pub returns-then-self-clause-rests : goal.returns-then-self-clause-rests
returns-then-self-clause-rests c = idle_rests c.args.code.now c.args.limits.now c.args.self.now c.end_idle.new.self c.end_idle.result c.end_idle.ensures

pub reach-requires-clause-ready : goal.reach-requires-clause-ready
reach-requires-clause-ready c = ready c.args.code.now c.args.limits.now c.args.self.now c.if-self.false c.requires

pub reach-requires-clause-roomy : goal.reach-requires-clause-roomy
reach-requires-clause-roomy c = c.requires.stands.held.roomy

pub reach-requires-clause-most : goal.reach-requires-clause-most
reach-requires-clause-most c = subst (λ (l : Limits). c.args.self.now.body.count ≤ l.steps) c.requires.is-limits c.requires.stands.held.most

pub returns-in-Some-clause-gives : goal.returns-in-Some-clause-gives
returns-in-Some-clause-gives c =
    let f = c.args.self.now in
    let reached = c.in-Ok.ensures in
    rest_ok c.args.code.now c.args.limits.now f (record f { body = c.reach.new.body }) c.rest_at.new.self c.in-Some.waits c.in-Ok.came c.rest_at.result c.if-self.false refl reached.roomy reached.counted reached.most c.in-Some.is
    (came_by c.args.code.now c.args.limits.now f c.if-self.false c.reach.new.body (Ok c.in-Ok.came) reached.reaches reached.wanting reached.room) c.rest_at.ensures

pub returns-in-Some-clause-rests : goal.returns-in-Some-clause-rests
returns-in-Some-clause-rests c =
    let f = c.args.self.now in
    let reached = c.in-Ok.ensures in
    refused_rests c.args.code.now c.args.limits.now f (record f { body = c.reach.new.body }) c.rest_at.new.self c.in-Some.waits c.in-Ok.came c.rest_at.result c.if-self.false refl c.requires
    (none_is_left (setting_of c.args.code.now c.args.limits.now f.main) c.args.code.now.program c.args.code.now.counted f.task (standing_at 0 f.body) c.reach.new.body (Ok c.in-Ok.came) reached.reaches)
    (came_by c.args.code.now c.args.limits.now f c.if-self.false c.reach.new.body (Ok c.in-Ok.came) reached.reaches reached.wanting reached.room) c.rest_at.ensures

pub want-requires-clause-may : goal.want-requires-clause-may
want-requires-clause-may c =
    let reached = c.in-Ok.ensures in
    may_ask c.args.code.now c.args.limits.now c.args.self.now c.if-self.false c.requires c.reach.new.body c.in-Ok.came reached.reaches reached.room reached.limit reached.wanting

pub returns-in-None-clause-gives : goal.returns-in-None-clause-gives
returns-in-None-clause-gives c =
    let f = c.args.self.now in
    let reached = c.in-Ok.ensures in
    want_ok c.args.code.now c.args.limits.now f (record f { body = c.reach.new.body }) c.want.new.self c.in-Ok.came c.want.result c.if-self.false refl reached.roomy reached.counted reached.most c.in-None.is
    (came_by c.args.code.now c.args.limits.now f c.if-self.false c.reach.new.body (Ok c.in-Ok.came) reached.reaches reached.wanting reached.room) c.want.ensures

pub returns-in-None-clause-rests : goal.returns-in-None-clause-rests
returns-in-None-clause-rests c =
    let f = c.args.self.now in
    let reached = c.in-Ok.ensures in
    wants_rests c.args.code.now c.args.limits.now f (record f { body = c.reach.new.body }) c.want.new.self c.in-Ok.came c.want.result c.if-self.false refl c.requires
    (none_is_left (setting_of c.args.code.now c.args.limits.now f.main) c.args.code.now.program c.args.code.now.counted f.task (standing_at 0 f.body) c.reach.new.body (Ok c.in-Ok.came) reached.reaches)
    (came_by c.args.code.now c.args.limits.now f c.if-self.false c.reach.new.body (Ok c.in-Ok.came) reached.reaches reached.wanting reached.room) c.want.ensures
