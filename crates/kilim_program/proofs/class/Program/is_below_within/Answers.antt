use Rattle.std.proofs.Common.{sym, ◌∙◌, ◌==◌, ne_eqb}
use Rattle.kilim_program.specs.declared.names.ClassId.{ClassId}
use Rattle.kilim_program.proofs.Upward.{any_above}
use Rattle.kilim_program.proofs.class.Program.is_below_within.Goals as goal

pub loop-left-preserved : goal.loop-left-preserved
loop-left-preserved c =
    any_above (λ (d : ClassId). d.0 == c.args.up.0) c.args.self.now c.loop-left.left c.loop-left.at c.in-Some-superclass.next c.in-Some.found.now c.loop-left-test.true (sym c.in-Some.ensures)
    c.in-Some-superclass.is (ne_eqb _ _ c.if-at-up.false)
    ∙ c.loop-left.invariant
