use Rattle.kilim_outside.proofs.Started.{same_start}
use Rattle.kilim_outside.proofs.memory_folder.SteadyFolderFolder.read.Goals as goal

pub returns-in-Err-clause-front : goal.returns-in-Err-clause-front
returns-in-Err-clause-front c = same_start _ _ c.in-Err.ensures.err
