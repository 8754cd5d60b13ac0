use Rattle.std.proofs.Common.{◌<◌, ◌≤◌, ◌∙◌, Ok, ap, arith, subst, sym}
use Rattle.kilim_program.specs.Program.{Program}
use Rattle.kilim_run_state.specs.declared.run.Limits.{Limits}
use Rattle.kilim_run_state.specs.declared.cause.EndCause.TheVariants as cause
use Rattle.kilim_fiber_laws.specs.woven_kin.Nexts.{putw_next, wait_next}
use Rattle.kilim_fiber_spec.specs.Fibers.{is_rewinding}
use Rattle.kilim_fiber_body.specs.Body.{behind_at}
use Rattle.kilim_fiber_body.specs.declared.body.Came.TheVariants as came
use Rattle.kilim_fiber_body.proofs.Asking.{any_name, first_made, name_by, put_spent, put_waits, wait_given}
use Rattle.kilim_fiber_body.proofs.asks.put_first.Goals as goal

pub put_wait-requires-clause-gives : goal.put_wait-requires-clause-gives
put_wait-requires-clause-gives c = wait_given c.args.plain.now c.args.program.now c.args.limits.now c.args.body.now c.args.receiver.now c.args.message.now c.requires.can c.in-Box.mailbox c.in-Box.is

pub put_wait-requires-clause-made : goal.put_wait-requires-clause-made
put_wait-requires-clause-made c = first_made c.args.plain.now c.args.program.now c.args.limits.now c.args.body.now c.args.receiver.now c.args.message.now c.requires.can c.requires.forward c.in-Box.mailbox c.in-Box.is (omega (arith, c.if-body-limits.false))

pub returns-then-body-limits-clause-comes : goal.returns-then-body-limits-clause-comes
returns-then-body-limits-clause-comes c = λ set is-program is-limits.
    any_name c.args.body.now.heap (λ x. putw_next set c.args.program.now (is_rewinding c.args.body.now.records) (behind_at x c.args.body.now) c.args.receiver.now c.args.message.now) c.args.body.now (Ok (came.Ends cause.Spent))
    (put_spent c.args.plain.now c.args.program.now c.args.limits.now c.args.body.now c.args.receiver.now c.args.message.now c.requires.can c.requires.forward set 0
    (subst (λ (z : Limits). z.steps ≤ c.args.body.now.count) (sym is-limits) c.if-body-limits.true))

pub returns-clause-comes : goal.returns-clause-comes
returns-clause-comes c = λ set is-program is-limits.
    name_by c.args.body.now.heap c.put_wait.new.body c.put_wait.result _ _ c.put_wait.ensures.comes
    (λ x. ap (λ (p : Program). wait_next p c.args.program.now (behind_at x c.args.body.now) c.in-Box.mailbox c.args.message.now) (sym is-program)
    ∙ sym (put_waits c.args.plain.now c.args.program.now c.args.limits.now c.args.body.now c.args.receiver.now c.args.message.now c.requires.can c.requires.forward set x c.in-Box.mailbox c.in-Box.is
    (subst (λ (z : Limits). c.args.body.now.count < z.steps) (sym is-limits) (omega (arith, c.if-body-limits.false)))))
