use Rattle.std.proofs.Common.{arith, refl, subst, sym}
use Rattle.kilim_run_machine.specs.Natives.{native_of}
use Rattle.kilim_run_model.specs.Lone.{asks_next, finish_next, opens_next}
use Rattle.kilim_replay_thread.specs.Comes.{Comes, HasRunOn, IsNear, IsOnOrEnd, IsOther, SuitsCall}
use Rattle.kilim_replay_thread.specs.Live.{HasFrames, answered_in, behind_at, calls_in, kept_for, lone_at, operands_in}
use Rattle.kilim_replay_thread.specs.Raises.{raised_at, thrown_at}
use Rattle.kilim_replay_thread.specs.Reach.{Reaches, setting_of}
use Rattle.kilim_replay_thread.specs.declared.runs.Halted.{Halted}
use Rattle.kilim_replay_thread.proofs.Arms.{asked_arm, ended_arm, opened_arm, raised_arm, returned_arm, spent_arm, thrown_arm}
use Rattle.kilim_replay_thread.proofs.Reaching.{both_ok, came_by, done_now, led_by, none_there, safe_on, serves_here, spent_now, suits_call, suits_other}
use Rattle.kilim_replay_thread.proofs.advance.advance.Goals as goal

pub returns-then-live-limits-clause-reaches : goal.returns-then-live-limits-clause-reaches
returns-then-live-limits-clause-reaches c = spent_now (setting_of c.args.program.now c.args.main c.args.limits.now) c.args.task c.args.world.now c.args.live.now (omega arith)

pub returns-then-is_none-clause-reaches : goal.returns-then-is_none-clause-reaches
returns-then-is_none-clause-reaches c = done_now (setting_of c.args.program.now c.args.main c.args.limits.now) c.args.task c.args.world.now c.args.live.now c.if-live-limits.false (none_there c.args.live.now.frames c.if-is_none.ensures)

pub run_on-requires-clause-safe : goal.run_on-requires-clause-safe
run_on-requires-clause-safe c = safe_on (setting_of c.args.program.now c.args.main c.args.limits.now) c.args.task c.args.world.now c.args.live.now c.requires.can c.if-live-limits.false

pub returns-in-Spent-clause-reaches : goal.returns-in-Spent-clause-reaches
returns-in-Spent-clause-reaches c =
    spent_arm (setting_of c.args.program.now c.args.main c.args.limits.now) c.args.task c.args.world.now c.args.live.now c.run_on.new.world c.run_on.new.live c.requires.can c.if-live-limits.false
    (subst (λ (h : Halted). HasRunOn c.args.program.now c.args.limits.now.steps c.args.world.now c.args.live.now c.run_on.new.world c.run_on.new.live h) c.in-Spent.is c.in-Ok.ensures.run)

pub open-requires-clause-room : goal.open-requires-clause-room
open-requires-clause-room c =
    (opened_arm (setting_of c.args.program.now c.args.main c.args.limits.now) c.args.task c.args.world.now c.args.live.now c.run_on.new.world c.run_on.new.live c.requires.can c.if-live-limits.false
    (subst (λ (h : Halted). HasRunOn c.args.program.now c.args.limits.now.steps c.args.world.now c.args.live.now c.run_on.new.world c.run_on.new.live h) c.in-NewBox.is c.in-Ok.ensures.run)).1

pub returns-in-NewBox-clause-reaches : goal.returns-in-NewBox-clause-reaches
returns-in-NewBox-clause-reaches c =
    let set = setting_of c.args.program.now c.args.main c.args.limits.now in
    let w' = c.run_on.new.world in
    let mid = c.run_on.new.live in
    let opened =
    opened_arm set c.args.task c.args.world.now c.args.live.now w' mid c.requires.can c.if-live-limits.false
    (subst (λ (h : Halted). HasRunOn c.args.program.now c.args.limits.now.steps c.args.world.now c.args.live.now w' mid h) c.in-NewBox.is c.in-Ok.ensures.run) in
    came_by set c.args.task (lone_at c.args.task c.args.world.now c.args.live.now) c.args.live.now.done w' mid (omega (arith, c.in-Ok.ensures.run.counted)) (opens_next c.args.task (lone_at c.args.task w' mid) (answered_in mid.frames) mid.done mid.boxes)
    w' c.open.new.live c.open.result opened.0 (suits_other set c.args.task w' mid c.open.result c.open.ensures.other opened.2) c.open.ensures.counted c.open.ensures.comes

pub ask-requires-clause-operands : goal.ask-requires-clause-operands
ask-requires-clause-operands c =
    (asked_arm (setting_of c.args.program.now c.args.main c.args.limits.now) c.args.task c.args.world.now c.args.live.now c.run_on.new.world c.run_on.new.live c.requires.can c.if-live-limits.false c.in-Asks.method
    (subst (λ (h : Halted). HasRunOn c.args.program.now c.args.limits.now.steps c.args.world.now c.args.live.now c.run_on.new.world c.run_on.new.live h) c.in-Asks.is c.in-Ok.ensures.run)).operands

pub ask-requires-clause-can : goal.ask-requires-clause-can
ask-requires-clause-can c =
    (asked_arm (setting_of c.args.program.now c.args.main c.args.limits.now) c.args.task c.args.world.now c.args.live.now c.run_on.new.world c.run_on.new.live c.requires.can c.if-live-limits.false c.in-Asks.method
    (subst (λ (h : Halted). HasRunOn c.args.program.now c.args.limits.now.steps c.args.world.now c.args.live.now c.run_on.new.world c.run_on.new.live h) c.in-Asks.is c.in-Ok.ensures.run)).knows

pub returns-in-Asks-clause-reaches : goal.returns-in-Asks-clause-reaches
returns-in-Asks-clause-reaches c =
    let set = setting_of c.args.program.now c.args.main c.args.limits.now in
    let w' = c.run_on.new.world in
    let mid = c.run_on.new.live in
    let next = asks_next set (behind_at c.args.task w' mid) (operands_in mid.frames) (native_of c.args.program.now c.in-Asks.method) in
    let at =
    asked_arm set c.args.task c.args.world.now c.args.live.now w' mid c.requires.can c.if-live-limits.false c.in-Asks.method
    (subst (λ (h : Halted). HasRunOn c.args.program.now c.args.limits.now.steps c.args.world.now c.args.live.now w' mid h) c.in-Asks.is c.in-Ok.ensures.run) in
    let native = native_of c.args.program.now c.in-Asks.method in
    let args = operands_in mid.frames in
    both_ok (λ came. Comes c.args.task next w' mid c.ask.new.world c.ask.new.live came) (SuitsCall native args)
    (λ came. Reaches set c.args.task (lone_at c.args.task c.args.world.now c.args.live.now) c.args.live.now.done c.ask.new.world c.ask.new.live came) (IsNear mid.done c.ask.new.live.done) c.ask.result (c.ask.ensures.comes set refl refl)
    c.ask.ensures.suits c.ask.ensures.counted
    (λ came comes suits near.
    came_by set c.args.task (lone_at c.args.task c.args.world.now c.args.live.now) c.args.live.now.done w' mid (omega (arith, c.in-Ok.ensures.run.counted)) next c.ask.new.world c.ask.new.live came at.stood
    (suits_call set c.args.task w' mid native args came suits at.other at.puts) near comes)

pub leave-requires-clause-begins : goal.leave-requires-clause-begins
leave-requires-clause-begins c =
    (serves_here (setting_of c.args.program.now c.args.main c.args.limits.now) c.args.task (lone_at c.args.task c.args.world.now c.args.live.now) c.requires.can).executes

pub returns-in-Returned-clause-reaches : goal.returns-in-Returned-clause-reaches
returns-in-Returned-clause-reaches c =
    let set = setting_of c.args.program.now c.args.main c.args.limits.now in
    let w' = c.run_on.new.world in
    let mid = c.run_on.new.live in
    let next = finish_next set (lone_at c.args.task w' mid) mid.done mid.boxes (kept_for c.args.task w'.kept) in
    let returned =
    returned_arm set c.args.task c.args.world.now c.args.live.now w' mid c.requires.can c.if-live-limits.false
    (subst (λ (h : Halted). HasRunOn c.args.program.now c.args.limits.now.steps c.args.world.now c.args.live.now w' mid h) c.in-Returned.is c.in-Ok.ensures.run) in
    both_ok (λ came. Comes c.args.task next w' mid c.leave.new.world c.leave.new.live came) IsOther (λ came. Reaches set c.args.task (lone_at c.args.task c.args.world.now c.args.live.now) c.args.live.now.done c.leave.new.world c.leave.new.live came)
    (IsNear mid.done c.leave.new.live.done) c.leave.result (c.leave.ensures.comes set refl refl) c.leave.ensures.other c.leave.ensures.counted
    (λ came comes other near.
    came_by set c.args.task (lone_at c.args.task c.args.world.now c.args.live.now) c.args.live.now.done w' mid (omega (arith, c.in-Ok.ensures.run.counted)) next c.leave.new.world c.leave.new.live came returned.0
    (suits_other set c.args.task w' mid came other returned.1) near comes)

pub returns-in-Ended-clause-reaches : goal.returns-in-Ended-clause-reaches
returns-in-Ended-clause-reaches c =
    ended_arm (setting_of c.args.program.now c.args.main c.args.limits.now) c.args.task c.args.world.now c.args.live.now c.run_on.new.world c.run_on.new.live c.requires.can c.if-live-limits.false c.in-Ended.cause
    (subst (λ (h : Halted). HasRunOn c.args.program.now c.args.limits.now.steps c.args.world.now c.args.live.now c.run_on.new.world c.run_on.new.live h) c.in-Ended.is c.in-Ok.ensures.run)

pub raise_on-requires-clause-frames : goal.raise_on-requires-clause-frames
raise_on-requires-clause-frames c = subst HasFrames (sym c.in-Ok.ensures.run.are) tt

pub throw_on-requires-clause-frames : goal.throw_on-requires-clause-frames
throw_on-requires-clause-frames c = subst HasFrames (sym c.in-Ok.ensures.run.are) tt

pub returns-in-Raised-clause-reaches : goal.returns-in-Raised-clause-reaches
returns-in-Raised-clause-reaches c =
    let set = setting_of c.args.program.now c.args.main c.args.limits.now in
    let w' = c.run_on.new.world in
    let mid = c.run_on.new.live in
    let next = raised_at c.args.program.now (lone_at c.args.task w' mid) (calls_in mid.frames) mid.done mid.boxes c.in-Raised.cause in
    both_ok (λ came. Comes c.args.task next w' mid c.raise_on.new.world c.raise_on.new.live came) IsOnOrEnd (λ came. Reaches set c.args.task (lone_at c.args.task c.args.world.now c.args.live.now) c.args.live.now.done c.raise_on.new.world c.raise_on.new.live came)
    (IsNear mid.done c.raise_on.new.live.done) c.raise_on.result c.raise_on.ensures.comes c.raise_on.ensures.ends c.raise_on.ensures.counted
    (λ came comes one near.
    led_by set c.args.task (lone_at c.args.task c.args.world.now c.args.live.now) c.args.live.now.done w' mid (omega (arith, c.in-Ok.ensures.run.counted)) next c.raise_on.new.world c.raise_on.new.live came one
    (raised_arm set c.args.task c.args.world.now c.args.live.now w' mid c.requires.can c.if-live-limits.false c.in-Raised.cause
    (subst (λ (h : Halted). HasRunOn c.args.program.now c.args.limits.now.steps c.args.world.now c.args.live.now w' mid h) c.in-Raised.is c.in-Ok.ensures.run)) near comes)

pub returns-in-Thrown-clause-reaches : goal.returns-in-Thrown-clause-reaches
returns-in-Thrown-clause-reaches c =
    let set = setting_of c.args.program.now c.args.main c.args.limits.now in
    let w' = c.run_on.new.world in
    let mid = c.run_on.new.live in
    let next = thrown_at c.args.program.now (lone_at c.args.task w' mid) (calls_in mid.frames) mid.done mid.boxes c.in-Thrown.object c.in-Thrown.class c.in-Thrown.cause in
    both_ok (λ came. Comes c.args.task next w' mid w' c.throw_on.new.live came) IsOnOrEnd (λ came. Reaches set c.args.task (lone_at c.args.task c.args.world.now c.args.live.now) c.args.live.now.done w' c.throw_on.new.live came)
    (IsNear mid.done c.throw_on.new.live.done) c.throw_on.result c.throw_on.ensures.comes c.throw_on.ensures.ends c.throw_on.ensures.counted
    (λ came comes one near.
    led_by set c.args.task (lone_at c.args.task c.args.world.now c.args.live.now) c.args.live.now.done w' mid (omega (arith, c.in-Ok.ensures.run.counted)) next w' c.throw_on.new.live came one
    (thrown_arm set c.args.task c.args.world.now c.args.live.now w' mid c.requires.can c.if-live-limits.false c.in-Thrown.object c.in-Thrown.class c.in-Thrown.cause
    (subst (λ (h : Halted). HasRunOn c.args.program.now c.args.limits.now.steps c.args.world.now c.args.live.now w' mid h) c.in-Thrown.is c.in-Ok.ensures.run)) near comes)
