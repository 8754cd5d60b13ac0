use Rattle.std.proofs.Common.{Ok, subst, sym, ◌∙◌}
use Rattle.kilim_fiber_laws.specs.woven_kin.Nexts.{Next, putw_next}
use Rattle.kilim_fiber_spec.specs.Fibers.{is_rewinding}
use Rattle.kilim_fiber_body.specs.Body.{behind_at}
use Rattle.kilim_fiber_body.specs.Comes.{Comes}
use Rattle.kilim_fiber_body.proofs.Asking.{again_apart, again_boxed, again_next, any_name}
use Rattle.kilim_fiber_body.proofs.asks.put_or_wait.Goals as goal

pub put_again-requires-clause-waits : goal.put_again-requires-clause-waits
put_again-requires-clause-waits c = again_apart c.args.plain.now c.args.program.now c.args.limits.now c.args.body.now c.args.receiver.now c.args.message.now c.requires.can (sym c.is_rewinding.ensures ∙ c.if-not-is_rewinding.false) c.in-Box.mailbox c.in-Box.is

pub unreachable-requires : goal.unreachable-requires
unreachable-requires c = again_boxed c.args.plain.now c.args.program.now c.args.limits.now c.args.body.now c.args.receiver.now c.args.message.now c.requires.can (sym c.is_rewinding.ensures ∙ c.if-not-is_rewinding.false) c.in_default.not-Box

pub returns-clause-comes : goal.returns-clause-comes
returns-clause-comes c = λ set is-program is-limits.
    any_name c.args.body.now.heap (λ x. putw_next set c.args.program.now (is_rewinding c.args.body.now.records) (behind_at x c.args.body.now) c.args.receiver.now c.args.message.now) c.put_again.new.body (Ok c.put_again.result)
    (subst (λ (n : Next). Comes 0 n c.put_again.new.body c.put_again.result)
    (again_next c.args.plain.now c.args.program.now c.args.limits.now c.args.body.now c.args.receiver.now c.args.message.now c.requires.can (sym c.is_rewinding.ensures ∙ c.if-not-is_rewinding.false) set c.in-Box.mailbox c.in-Box.is)
    (c.put_again.ensures.comes set is-limits))
