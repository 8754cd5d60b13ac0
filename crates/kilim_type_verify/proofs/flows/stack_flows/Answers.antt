use Rattle.std.proofs.Common.{◌∙◌, sym, arith, refl}
use Rattle.kilim_type_verify.proofs.Flowing.{stack_on, stack_fails, lengths_differ, stack_end}
use Rattle.kilim_type_verify.proofs.flows.stack_flows.Goals as goal

pub returns-then-from-to : goal.returns-then-from-to
returns-then-from-to c = sym (lengths_differ c.args.program.now c.args.from.now c.args.to.now c.if-from-to.true)

pub returns-then-not-assignable : goal.returns-then-not-assignable
returns-then-not-assignable c =
    sym (sym c.loop-at.invariant
    ∙ stack_fails c.args.program.now c.args.from.now c.args.to.now c.loop-at.at _ _ _ _ c.loop-at-test.true (omega arith) refl refl (sym c.if-not-assignable.ensures))

pub loop-at-preserved : goal.loop-at-preserved
loop-at-preserved c =
    stack_on c.args.program.now c.args.from.now c.args.to.now c.loop-at.at _ _ _ _ c.loop-at-test.true (omega arith) refl refl (sym c.if-not-assignable.ensures) ∙ c.loop-at.invariant

pub returns : goal.returns
returns c = sym (stack_end c.args.program.now c.args.from.now c.args.to.now c.loop-at.at (omega arith) (omega arith)) ∙ c.loop-at.invariant
