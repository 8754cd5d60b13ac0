use Rattle.std.proofs.Common.{◌∙◌, sym, ap, arith, refl}
use Rattle.std.proofs.lemmas.List.{drop_all}
use Rattle.std.specs.List.{list_any}
use Rattle.kilim_type_spec.specs.Step.{is_top}
use Rattle.kilim_type_verify.proofs.Every.{found_at, passed_at}
use Rattle.kilim_type_verify.proofs.frames.has_top.Goals as goal

pub returns-then-is_top : goal.returns-then-is_top
returns-then-is_top c = found_at is_top c.args.types.now c.loop-t.t-index _ _ c.loop-t-test.true refl (sym c.if-is_top.true ∙ c.is_top.ensures) c.loop-t.invariant

pub loop-t-preserved : goal.loop-t-preserved
loop-t-preserved c = passed_at is_top c.args.types.now c.loop-t.t-index _ _ c.loop-t-test.true refl (sym c.if-is_top.false ∙ c.is_top.ensures) c.loop-t.invariant

pub returns : goal.returns
returns c = ap (list_any is_top) (sym (drop_all c.loop-t.t-index c.args.types.now (omega arith))) ∙ c.loop-t.invariant
