use Rattle.std.proofs.Common.{Some, ◌∙◌, ap, arith}
use Rattle.kilim_run_state.specs.declared.cause.EndCause.TheVariants as cause
use Rattle.kilim_replay.specs.declared.machine.Task.TheVariants as a_task
use Rattle.kilim_replay.proofs.Folding.{absent, has_ended, roomy_got, views_out}
use Rattle.kilim_replay.proofs.fold.do_entry.Goals as goal

pub returns-then-at-len-clause-stepped : goal.returns-then-at-len-clause-stepped
returns-then-at-len-clause-stepped c = λ s at.
    let past = c.if-at-len.true in
    let len = c.len.ensures in
    absent c.args.machine.now s c.args.entry.now.task at.views (omega (arith, past, len))

pub step_live-requires-clause-some : goal.step_live-requires-clause-some
step_live-requires-clause-some c =
    let some = c.requires.some in
    let m = c.args.machine.now in (
      some.0,
      some.1.typed,
      views_out m.world m.mailboxes m.tasks.items c.exchange.new.tasks.items c.args.entry.now.task (a_task.Live c.in-Live.live) (a_task.Ended cause.Done) some.0 (c.exchange.ensures.was ∙ ap (λ t. Some t) c.in-Live.is) c.exchange.ensures.tasks some.1.views,
    )

pub step_live-requires-clause-roomy : goal.step_live-requires-clause-roomy
step_live-requires-clause-roomy c = roomy_got c.args.program.now c.args.machine.now.tasks.items c.args.entry.now.task (a_task.Live c.in-Live.live) (c.exchange.ensures.was ∙ ap (λ t. Some t) c.in-Live.is) c.requires.all

pub returns-in-Live-clause-stepped : goal.returns-in-Live-clause-stepped
returns-in-Live-clause-stepped c = λ s at.
    let m = c.args.machine.now in
    c.step_live.ensures.stepped s at.typed
    (views_out m.world m.mailboxes m.tasks.items c.exchange.new.tasks.items c.args.entry.now.task (a_task.Live c.in-Live.live) (a_task.Ended cause.Done) s (c.exchange.ensures.was ∙ ap (λ t. Some t) c.in-Live.is) c.exchange.ensures.tasks at.views)

pub returns-in-Ended-clause-stepped : goal.returns-in-Ended-clause-stepped
returns-in-Ended-clause-stepped c = λ s at. (_, has_ended c.args.machine.now s c.args.entry.now.task _ at.views (c.exchange.ensures.was ∙ ap (λ t. Some t) c.in-Ended.is))
