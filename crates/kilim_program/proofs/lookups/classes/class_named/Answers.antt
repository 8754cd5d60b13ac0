use Rattle.std.proofs.Common.{◌∙◌, ap, sym}
use Rattle.kilim_program.specs.Program.{Program}
use Rattle.kilim_program.proofs.lookups.ByName.{goes_past}
use Rattle.kilim_program.proofs.lookups.classes.class_named.Goals as goal

pub loop-at-preserved : goal.loop-at-preserved
loop-at-preserved c =
    goes_past c.as_slice-class-items.result.now c.args.program.now.classes c.args.name.now c.loop-at.at c.class-item.result _ _ (c.as_slice-class-items.ensures ∙ ap (λ (p : Program). p.classes) c.program.view_is) c.loop-at-test.true c.class-item.is
    (sym c.is_text.ensures ∙ c.if-is_text.false) c.loop-at.invariant
