use Rattle.std.proofs.Common.{◌∙◌}
use Rattle.kilim_type_verify.proofs.Framed.{place_on}
use Rattle.kilim_type_verify.proofs.frames.is_code_place.Goals as goal

pub loop-index-preserved : goal.loop-index-preserved
loop-index-preserved c = place_on c.args.code.now c.loop-index.index c.args.at c.code_at-entry.result.now c.code_at-entry.ensures c.if-entry-at.false ∙ c.loop-index.invariant
