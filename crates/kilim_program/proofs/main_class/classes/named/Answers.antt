use Rattle.std.proofs.Common.{List, ℕ, ◌∙◌, ap, sym}
use Rattle.std.specs.Str.{bytes_eq}
use Rattle.kilim_program.specs.Program.{Program}
use Rattle.kilim_program.proofs.lookups.ByName.{goes_past}
use Rattle.kilim_program.proofs.main_class.classes.named.Goals as goal

pub loop-at-preserved : goal.loop-at-preserved
loop-at-preserved c =
    goes_past c.as_slice-class-items.result.now c.args.program.now.classes c.args.name.now c.loop-at.at c.class-item.result _ _ (c.as_slice-class-items.ensures ∙ ap (λ (p : Program). p.classes) c.program.view_is) c.loop-at-test.true c.class-item.is
    (sym (ap (λ (units : List ℕ). bytes_eq units c.args.name.now) c.as_slice.ensures) ∙ (sym c.is_named.ensures ∙ c.if-is_named.false)) c.loop-at.invariant
