use Rattle.std.proofs.Common.{◌∙◌, sym, ap, arith, length}
use Rattle.std.proofs.lemmas.List.{set-get_or}
use Rattle.kilim_program.specs.declared.verified.VType.TheVariants.{Top}
use Rattle.kilim_type_step.proofs.Types.{step_set, step_kept}
use Rattle.kilim_type_step.proofs.state.replace.Goals as goal
use Rattle.kilim_type_step.proofs.state.replace.Goals.{then-is_same, else-is_same}

pub loop-t-preserved : goal.loop-t-preserved
loop-t-preserved c = elim c.if-is_same.branch [
  | then-is_same w ↦ w.t-items-is ∙ step_set c.args.old c.args.new c.args.types.now.items c.loop-t.t-items c.loop-t.t-index c.loop-t.invariant (omega (arith, ap length c.deref_mut-t-items.ensures.value)) (sym c.is_same.ensures ∙ w.if-is_same.true)
  | else-is_same w ↦ w.t-items-is ∙ set-get_or c.loop-t.t-items c.loop-t.t-index Top ∙ step_kept c.args.old c.args.new c.args.types.now.items c.loop-t.t-items c.loop-t.t-index c.loop-t.invariant (omega (arith, ap length c.deref_mut-t-items.ensures.value)) (sym c.is_same.ensures ∙ w.if-is_same.false)
]
