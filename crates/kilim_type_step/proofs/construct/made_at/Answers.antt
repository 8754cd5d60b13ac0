use Rattle.std.proofs.Common.{◌∙◌}
use Rattle.kilim_type_step.proofs.Constructing.{made_on}
use Rattle.kilim_type_step.proofs.construct.made_at.Goals as goal

pub loop-index-preserved : goal.loop-index-preserved
loop-index-preserved c = made_on c.args.code.now c.loop-index.index c.args.at c.entry_at-entry.result.now c.entry_at-entry.ensures c.if-entry-at.false ∙ c.loop-index.invariant
