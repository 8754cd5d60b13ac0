use Rattle.kilim_weave_laws.proofs.woven_program.Made.{there}
use Rattle.kilim_weave_laws.proofs.woven_program.woven_form_is_there.Goals as goal

pub returns : goal.returns
returns c = there
