use Rattle.std.proofs.Common.{◌∙◌, sym, arith, refl}
use Rattle.kilim_type_verify.proofs.Flowing.{flow_on, flow_fails, flow_end}
use Rattle.kilim_type_verify.proofs.flows.locals_flow.Goals as goal

pub returns-then-not-assignable : goal.returns-then-not-assignable
returns-then-not-assignable c =
    sym (sym c.loop-slot.invariant
    ∙ flow_fails c.args.program.now c.args.from.now c.args.to.now c.loop-slot.slot _ c.type_at.result _ c.loop-slot-test.true c.type_at.ensures refl (sym c.if-not-assignable.ensures))

pub loop-slot-preserved : goal.loop-slot-preserved
loop-slot-preserved c =
    flow_on c.args.program.now c.args.from.now c.args.to.now c.loop-slot.slot _ c.type_at.result _ c.loop-slot-test.true c.type_at.ensures refl (sym c.if-not-assignable.ensures) ∙ c.loop-slot.invariant

pub returns : goal.returns
returns c = sym (flow_end c.args.program.now c.args.from.now c.args.to.now c.loop-slot.slot (omega arith)) ∙ c.loop-slot.invariant
