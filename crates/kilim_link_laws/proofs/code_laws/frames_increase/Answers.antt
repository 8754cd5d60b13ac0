use Rattle.kilim_link_laws.proofs.code_laws.Frames as frames
use Rattle.kilim_link_laws.proofs.code_laws.frames_increase.Goals as goal

pub returns : goal.returns
returns c = frames.frames_increase c.linked_in_parts.ensures
