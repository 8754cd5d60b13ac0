use Rattle.kilim_type_laws.proofs.Listed.{listed_frames_show}
use Rattle.kilim_type_laws.proofs.listed_frames_show.Goals as goal

pub returns : goal.returns
returns c = listed_frames_show
