use Rattle.std.proofs.Common.{◌∙◌}
use Rattle.kilim_weave_code.proofs.Showing.{type_there}
use Rattle.kilim_weave_code.proofs.frames.peek.Goals as goal

pub returns : goal.returns
returns c = c.type_or_top.ensures ∙ type_there c.args.types.now c.args.slot
