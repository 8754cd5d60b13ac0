use Rattle.std.proofs.Common.{◌∙◌}
use Rattle.kilim_type_verify.proofs.place.step.Goals as goal

pub step_to-found-requires : goal.step_to-found-requires
step_to-found-requires c = c.deref.ensures.value ∙ c.in-Ok.ensures

pub returns : goal.returns
returns c = c.step_to-found.ensures
