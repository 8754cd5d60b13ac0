use Rattle.kilim_weave_laws.proofs.woven_program.labels.Labels.{labelled}
use Rattle.kilim_weave_laws.proofs.woven_program.labels.labels_are_found.Goals as goal

pub returns : goal.returns
returns c = labelled
