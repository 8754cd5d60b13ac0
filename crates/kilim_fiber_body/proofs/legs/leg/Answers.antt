use Rattle.std.proofs.Common.{refl, ap, subst}
use Rattle.kilim_run_state.specs.declared.cause.EndCause.TheVariants as cause
use Rattle.kilim_fiber_steps.specs.declared.runs.Halted.{Halted}
use Rattle.kilim_fiber_body.specs.Body.{calls_in, standing_at}
use Rattle.kilim_fiber_body.specs.Legs.{HasGone}
use Rattle.kilim_fiber_body.specs.Reach.{AtFirst}
use Rattle.kilim_fiber_body.specs.Steps.{setting_of}
use Rattle.kilim_fiber_body.specs.declared.body.Came.TheVariants as came
use Rattle.kilim_fiber_body.proofs.Reaching.{asked_ok, came_next, came_ok, rests_made, rests_next}
use Rattle.kilim_fiber_body.proofs.legs.leg.Goals as goal

-- ---- where it rests

pub rewind-requires : goal.rewind-requires
rewind-requires c = record {
  there = (c.requires.ready (standing_at 0 c.args.body.now) (AtFirst refl)).rests (ap calls_in c.in_default.is);
  made = rests_made (setting_of c.args.code.now c.args.limits.now c.args.main) c.args.code.now.program c.args.code.now.counted c.args.task c.args.body.now c.in_default.is c.requires.ready;
}

pub returns-in_default-clause-reached : goal.returns-in_default-clause-reached
returns-in_default-clause-reached c =
    came_ok (setting_of c.args.code.now c.args.limits.now c.args.main) c.args.code.now.program c.args.code.now.counted c.args.task (standing_at 0 c.args.body.now) _ c.rewind.new.body
    (rests_next (setting_of c.args.code.now c.args.limits.now c.args.main) c.args.code.now.program c.args.code.now.counted c.args.task c.args.body.now c.in_default.is) c.rewind.result c.rewind.ensures.comes

-- ---- where a run ended

pub returns-in-Stops-clause-reached : goal.returns-in-Stops-clause-reached
returns-in-Stops-clause-reached c =
    (subst (λ (halted : Halted). HasGone (setting_of c.args.code.now c.args.limits.now c.args.main) c.args.code.now.program c.args.code.now.counted c.args.task (standing_at 0 c.args.body.now) c.go.new.body c.in-Ok.gone.0 halted) c.in-Stops.is c.in-Ok.ensures.gone)

pub returns-in-Spent-clause-reached : goal.returns-in-Spent-clause-reached
returns-in-Spent-clause-reached c =
    came_next (setting_of c.args.code.now c.args.limits.now c.args.main) c.args.code.now.program c.args.code.now.counted c.args.task (standing_at 0 c.args.body.now) _ c.go.new.body
    (subst (λ (halted : Halted). HasGone (setting_of c.args.code.now c.args.limits.now c.args.main) c.args.code.now.program c.args.code.now.counted c.args.task (standing_at 0 c.args.body.now) c.go.new.body c.in-Ok.gone.0 halted) c.in-Spent.is c.in-Ok.ensures.gone) (came.Ends cause.Spent) refl

pub open-requires-clause-room : goal.open-requires-clause-room
open-requires-clause-room c =
    (subst (λ (halted : Halted). HasGone (setting_of c.args.code.now c.args.limits.now c.args.main) c.args.code.now.program c.args.code.now.counted c.args.task (standing_at 0 c.args.body.now) c.go.new.body c.in-Ok.gone.0 halted) c.in-NewBox.is c.in-Ok.ensures.gone).0

pub returns-in-NewBox-clause-reached : goal.returns-in-NewBox-clause-reached
returns-in-NewBox-clause-reached c =
    came_next (setting_of c.args.code.now c.args.limits.now c.args.main) c.args.code.now.program c.args.code.now.counted c.args.task (standing_at 0 c.args.body.now) _ c.open.new.body
    (subst (λ (halted : Halted). HasGone (setting_of c.args.code.now c.args.limits.now c.args.main) c.args.code.now.program c.args.code.now.counted c.args.task (standing_at 0 c.args.body.now) c.go.new.body c.in-Ok.gone.0 halted) c.in-NewBox.is c.in-Ok.ensures.gone).1 _ c.open.ensures.comes

pub ask-requires-clause-operands : goal.ask-requires-clause-operands
ask-requires-clause-operands c =
    (subst (λ (halted : Halted). HasGone (setting_of c.args.code.now c.args.limits.now c.args.main) c.args.code.now.program c.args.code.now.counted c.args.task (standing_at 0 c.args.body.now) c.go.new.body c.in-Ok.gone.0 halted) c.in-Asks.is c.in-Ok.ensures.gone).operands

pub ask-requires-clause-can : goal.ask-requires-clause-can
ask-requires-clause-can c =
    (subst (λ (halted : Halted). HasGone (setting_of c.args.code.now c.args.limits.now c.args.main) c.args.code.now.program c.args.code.now.counted c.args.task (standing_at 0 c.args.body.now) c.go.new.body c.in-Ok.gone.0 halted) c.in-Asks.is c.in-Ok.ensures.gone).can

pub returns-in-Asks-clause-reached : goal.returns-in-Asks-clause-reached
returns-in-Asks-clause-reached c =
    let set = setting_of c.args.code.now c.args.limits.now c.args.main in
    asked_ok (setting_of c.args.code.now c.args.limits.now c.args.main) c.args.code.now.program c.args.code.now.counted c.args.task (standing_at 0 c.args.body.now) c.go.new.body.heap _ c.ask.new.body
    (subst (λ (halted : Halted). HasGone (setting_of c.args.code.now c.args.limits.now c.args.main) c.args.code.now.program c.args.code.now.counted c.args.task (standing_at 0 c.args.body.now) c.go.new.body c.in-Ok.gone.0 halted) c.in-Asks.is c.in-Ok.ensures.gone).comes c.ask.result (c.ask.ensures.comes set refl refl)

pub returns-in-Returned-clause-reached : goal.returns-in-Returned-clause-reached
returns-in-Returned-clause-reached c =
    let set = setting_of c.args.code.now c.args.limits.now c.args.main in
    came_ok (setting_of c.args.code.now c.args.limits.now c.args.main) c.args.code.now.program c.args.code.now.counted c.args.task (standing_at 0 c.args.body.now) _ c.leave.new.body
    (subst (λ (halted : Halted). HasGone (setting_of c.args.code.now c.args.limits.now c.args.main) c.args.code.now.program c.args.code.now.counted c.args.task (standing_at 0 c.args.body.now) c.go.new.body c.in-Ok.gone.0 halted) c.in-Returned.is c.in-Ok.ensures.gone) c.leave.result (c.leave.ensures.comes set refl)

pub returns-in-Ended-clause-reached : goal.returns-in-Ended-clause-reached
returns-in-Ended-clause-reached c =
    came_next (setting_of c.args.code.now c.args.limits.now c.args.main) c.args.code.now.program c.args.code.now.counted c.args.task (standing_at 0 c.args.body.now) _ c.go.new.body
    (subst (λ (halted : Halted). HasGone (setting_of c.args.code.now c.args.limits.now c.args.main) c.args.code.now.program c.args.code.now.counted c.args.task (standing_at 0 c.args.body.now) c.go.new.body c.in-Ok.gone.0 halted) c.in-Ended.is c.in-Ok.ensures.gone) (came.Ends c.in-Ended.cause) refl
