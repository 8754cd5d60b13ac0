use Rattle.std.proofs.Common.{◌∙◌, sym, ap, arith, refl}
use Rattle.std.proofs.lemmas.List.{drop_all}
use Rattle.std.specs.List.{list_all}
use Rattle.kilim_type_spec.specs.Typed.{is_proper}
use Rattle.kilim_type_verify.proofs.Every.{fails_at, holds_at}
use Rattle.kilim_type_verify.proofs.frames.all_proper.Goals as goal

pub returns-then-not-is_proper : goal.returns-then-not-is_proper
returns-then-not-is_proper c = fails_at is_proper c.args.types.now c.loop-t.t-index _ _ c.loop-t-test.true refl c.if-not-is_proper.ensures c.loop-t.invariant

pub loop-t-preserved : goal.loop-t-preserved
loop-t-preserved c = holds_at is_proper c.args.types.now c.loop-t.t-index _ _ c.loop-t-test.true refl c.if-not-is_proper.ensures c.loop-t.invariant

pub returns : goal.returns
returns c = ap (list_all is_proper) (sym (drop_all c.loop-t.t-index c.args.types.now (omega arith))) ∙ c.loop-t.invariant
