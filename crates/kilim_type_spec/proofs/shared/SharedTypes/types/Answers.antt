use Rattle.std.proofs.Common.{◌∙◌}
use Rattle.kilim_type_spec.proofs.Joined.{types_on}
use Rattle.kilim_type_spec.proofs.shared.SharedTypes.types.Goals as goal

pub loop-part-preserved : goal.loop-part-preserved
loop-part-preserved c = c.in-Ok.ensures.items ∙ types_on c.as_slice-parts.result.now c.loop-part.part-index c.loop-part.types.items c.types.result.now _ c.loop-part-test.true (c.types.ensures ∙ c.part-item.is) c.loop-part.invariant
