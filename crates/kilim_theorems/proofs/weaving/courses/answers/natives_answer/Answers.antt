use Rattle.kilim_fiber_laws.proofs.courses.answers.Answers.{natives_answer}
use Rattle.kilim_theorems.proofs.weaving.courses.answers.natives_answer.Goals as goal

pub returns : goal.returns
returns c = natives_answer
