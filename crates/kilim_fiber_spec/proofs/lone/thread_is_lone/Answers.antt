use Rattle.kilim_fiber_spec.proofs.lone.Steps.{steps}
use Rattle.kilim_fiber_spec.proofs.lone.thread_is_lone.Goals as goal

pub returns : goal.returns
returns c = λ set m p l s x b w. steps set m p l s x b w
