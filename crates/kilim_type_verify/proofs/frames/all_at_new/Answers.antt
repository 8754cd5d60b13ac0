use Rattle.std.proofs.Common.{◌∙◌, sym, ap, arith, refl}
use Rattle.std.proofs.lemmas.List.{drop_all}
use Rattle.std.specs.List.{list_all}
use Rattle.kilim_type_spec.specs.Typed.{stands_at_new}
use Rattle.kilim_type_verify.proofs.Every.{fails_at, holds_at}
use Rattle.kilim_type_verify.proofs.frames.all_at_new.Goals as goal

pub returns-then-not-stands_at_new : goal.returns-then-not-stands_at_new
returns-then-not-stands_at_new c = fails_at (stands_at_new c.args.method.now) c.args.types.now c.loop-t.t-index _ _ c.loop-t-test.true refl c.if-not-stands_at_new.ensures c.loop-t.invariant

pub loop-t-preserved : goal.loop-t-preserved
loop-t-preserved c = holds_at (stands_at_new c.args.method.now) c.args.types.now c.loop-t.t-index _ _ c.loop-t-test.true refl c.if-not-stands_at_new.ensures c.loop-t.invariant

pub returns : goal.returns
returns c = ap (list_all (stands_at_new c.args.method.now)) (sym (drop_all c.loop-t.t-index c.args.types.now (omega arith))) ∙ c.loop-t.invariant
