use Rattle.std.proofs.Common.{subst, sym}
use Rattle.std.specs.Prelude.{FitsSigned}
use Rattle.std.specs.Int.{w32}
use Rattle.std.proofs.lemmas.Int.{to_z-of_z}
use Rattle.kilim_class_making.proofs.code_bytes.Lists.{pairs_step}
use Rattle.kilim_class_making.proofs.code_bytes.writing.pairs_fit.Goals as goal

pub loop-at-preserved : goal.loop-at-preserved
loop-at-preserved c =
    let fits : FitsSigned w32 c.key_of-key.result = subst (FitsSigned w32) (sym c.key_of-key.ensures.key) c.key_of-key.ensures.range in
    λ rest. pairs_step c.args.place c.args.pairs.now c.loop-at.at c.loop-at.least c.pair_at-pair.result.now c.key_of-key.result c.pair_at-pair.ensures c.key_of-key.ensures.key (c.is_above.ensures c.if-not-is_above.false)
    c.key_of-key.ensures.range (c.has_far.ensures c.if-not-has_far.false) c.loop-at.invariant (simp to_z-of_z at rest)
