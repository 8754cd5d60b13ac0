use Rattle.kilim_image_command.proofs.Served.{served}
use Rattle.kilim_image_command.proofs.laws.woven_is_served.Goals as goal

pub returns : goal.returns
returns c = served c.links_keep.ensures c.accepted_is_run.ensures c.runs_serve.ensures
