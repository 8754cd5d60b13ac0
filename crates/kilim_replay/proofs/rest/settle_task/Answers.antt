use Rattle.std.proofs.Common.{Some, ◌∙◌, ap, refl}
use Rattle.kilim_run_state.specs.declared.cause.EndCause.TheVariants as cause
use Rattle.kilim_replay_thread.specs.Reach.{setting_of}
use Rattle.kilim_replay.specs.Rest.{HasCome}
use Rattle.kilim_replay.specs.declared.machine.Task.TheVariants as a_task
use Rattle.kilim_replay_thread.specs.Live.{lone_at}
use Rattle.kilim_replay.proofs.Closing.{can_go, settled_live, settled_over}
use Rattle.kilim_replay.proofs.Folding.{over_ok, roomy_got}
use Rattle.kilim_replay.proofs.rest.settle_task.Goals as goal

pub settle_live-requires-clause-can : goal.settle_live-requires-clause-can
settle_live-requires-clause-can c =
    let some = c.requires.some in
    can_go (setting_of c.args.program.now c.args.main c.args.limits.now) c.args.task c.args.machine.now some.0 some.1 c.in-Live.live (c.exchange.ensures.was ∙ ap (λ t. Some t) c.in-Live.is)

pub settle_live-requires-clause-roomy : goal.settle_live-requires-clause-roomy
settle_live-requires-clause-roomy c = roomy_got c.args.program.now c.args.machine.now.tasks.items c.args.task (a_task.Live c.in-Live.live) (c.exchange.ensures.was ∙ ap (λ t. Some t) c.in-Live.is) c.requires.all

pub returns-in-Live-clause-settled : goal.returns-in-Live-clause-settled
returns-in-Live-clause-settled c = λ s from.
    let set = setting_of c.args.program.now c.args.main c.args.limits.now in
    let m = c.args.machine.now in
    let at = c.exchange.ensures.was ∙ ap (λ t. Some t) c.in-Live.is in
    over_ok (HasCome set c.args.task (lone_at c.args.task m.world c.in-Live.live) c.settle_live.new.world) _ c.settle_live.result c.settle_live.ensures.come (λ st come. settled_live set c.args.task m s from c.in-Live.live at (a_task.Ended cause.Done) _ c.exchange.ensures.tasks refl st come)

pub returns-in-Ended-clause-settled : goal.returns-in-Ended-clause-settled
returns-in-Ended-clause-settled c = λ s from.
    let set = setting_of c.args.program.now c.args.main c.args.limits.now in
    let m = c.args.machine.now in
    settled_over set c.args.task m s from _ (c.exchange.ensures.was ∙ ap (λ t. Some t) c.in-Ended.is) (a_task.Ended cause.Done) _ c.exchange.ensures.tasks refl refl
