use Rattle.std.proofs.Common.{◌∙◌, sym, ap, arith, refl}
use Rattle.std.specs.Prelude.{codes}
use Rattle.std.proofs.lemmas.List.{drop_all}
use Rattle.std.specs.List.{list_any}
use Rattle.kilim_program.specs.Fits.{is_named}
use Rattle.kilim_type_verify.proofs.Every.{found_at, passed_at}
use Rattle.kilim_type_verify.proofs.handlers.any_throwable.Goals as goal

pub returns-then-is_throwable_itself : goal.returns-then-is_throwable_itself
returns-then-is_throwable_itself c = found_at (is_named c.args.program.now (codes "java/lang/Throwable")) c.args.line.now c.loop-class.class-index _ _ c.loop-class-test.true refl c.if-is_throwable_itself.ensures c.loop-class.invariant

pub loop-class-preserved : goal.loop-class-preserved
loop-class-preserved c = passed_at (is_named c.args.program.now (codes "java/lang/Throwable")) c.args.line.now c.loop-class.class-index _ _ c.loop-class-test.true refl c.if-is_throwable_itself.ensures c.loop-class.invariant

pub returns : goal.returns
returns c = ap (list_any (is_named c.args.program.now (codes "java/lang/Throwable"))) (sym (drop_all c.loop-class.class-index c.args.line.now (omega arith))) ∙ c.loop-class.invariant
