use Rattle.std.proofs.Common.{◌∙◌, get_or, sym, refl, arith}
use Rattle.std.specs.List.{list_any}
use Rattle.kilim_type_spec.specs.Step.{is_unset}
use Rattle.kilim_isolation_pauses.proofs.Loops.{any_more, any_here, any_end}
use Rattle.kilim_isolation_pauses.proofs.call.any_unset.Goals as goal

pub returns-then-is_unset : goal.returns-then-is_unset
returns-then-is_unset c =
    any_here is_unset c.args.types.now c.loop-ty.ty-index (get_or c.args.types.now c.loop-ty.ty-index _) _ (list_any is_unset c.args.types.now) c.loop-ty-test.true refl (sym c.is_unset.ensures ∙ c.if-is_unset.true) c.loop-ty.invariant

pub loop-ty-preserved : goal.loop-ty-preserved
loop-ty-preserved c =
    any_more is_unset c.args.types.now c.loop-ty.ty-index (get_or c.args.types.now c.loop-ty.ty-index _) _ (list_any is_unset c.args.types.now) c.loop-ty-test.true refl (sym c.is_unset.ensures ∙ c.if-is_unset.false) c.loop-ty.invariant

pub returns : goal.returns
returns c = any_end is_unset c.args.types.now c.loop-ty.ty-index (list_any is_unset c.args.types.now) (omega arith) c.loop-ty.invariant
