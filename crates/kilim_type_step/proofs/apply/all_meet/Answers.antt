use Rattle.std.proofs.Common.{◌∙◌, sym}
use Rattle.kilim_type_step.specs.declared.operands.Taken.TheVariants as taken
use Rattle.kilim_type_step.proofs.Rows.{meet_on, meet_fails, meet_lacks}
use Rattle.kilim_type_step.proofs.apply.all_meet.Goals as goal

pub loop-at-preserved : goal.loop-at-preserved
loop-at-preserved c =
    meet_on c.args.program.now c.args.takes.now c.args.state.now.stack c.loop-at.at _ c.in-Some.t c.loop-at-test.true (sym c.in-Some.ensures) (sym c.if-not-meets.ensures) ∙ c.loop-at.invariant

pub returns-then-not-meets : goal.returns-then-not-meets
returns-then-not-meets c =
    sym (sym c.loop-at.invariant ∙ meet_fails c.args.program.now c.args.takes.now c.args.state.now.stack c.loop-at.at _ c.in-Some.t c.loop-at-test.true (sym c.in-Some.ensures) (sym c.if-not-meets.ensures))

pub returns-in-None : goal.returns-in-None
returns-in-None c =
    sym (sym c.loop-at.invariant ∙ meet_lacks c.args.program.now c.args.takes.now c.args.state.now.stack c.loop-at.at taken.Reference c.loop-at-test.true (sym c.in-None.ensures))
