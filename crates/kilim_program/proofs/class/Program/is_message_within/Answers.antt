use Rattle.std.proofs.Common.{sym, ◌∙◌, ap}
use Rattle.kilim_program.specs.Kinds.{is_message, is_marked}
use Rattle.kilim_program.proofs.Upward.{any_above}
use Rattle.kilim_program.proofs.class.Program.is_message_within.Goals as goal

pub loop-left-preserved : goal.loop-left-preserved
loop-left-preserved c =
    any_above (is_message c.args.self.now) c.args.self.now c.loop-left.left c.loop-left.at c.in-Some-superclass.up c.in-Some.found.now c.loop-left-test.true (sym c.in-Some.ensures)
    c.in-Some-superclass.is (ap is_marked (sym c.in-Some.ensures) ∙ c.if-found.false)
    ∙ c.loop-left.invariant
