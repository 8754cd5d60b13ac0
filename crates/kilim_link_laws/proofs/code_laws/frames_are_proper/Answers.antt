use Rattle.kilim_link_laws.proofs.code_laws.ProperFrames as frames
use Rattle.kilim_link_laws.proofs.code_laws.frames_are_proper.Goals as goal

pub returns : goal.returns
returns c = frames.frames_are_proper_there c.linked_in_parts.ensures
