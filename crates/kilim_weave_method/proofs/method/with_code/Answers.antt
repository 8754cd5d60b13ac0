use Rattle.kilim_weave_method.proofs.Parts.{with_same_outside}
use Rattle.kilim_weave_method.proofs.method.with_code.Goals as goal

pub returns-in-Ok-clause-method : goal.returns-in-Ok-clause-method
returns-in-Ok-clause-method c = with_same_outside c.args.method.now c.made.result.0 c.args.laid c.in-Ok.outside _ c.made.ensures.method c.in-Ok.ensures
