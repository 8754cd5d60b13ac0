use Rattle.kilim_class_attributes.proofs.parts.Indices.{index_format}
use Rattle.kilim_class_attributes.proofs.parts.FrameFormats.{frames_format, frames_sized}
use Rattle.kilim_class_attributes.proofs.parts.PartsFormat.{parts_format}
use Rattle.kilim_class_attributes.proofs.parts.laws.parts_are_spelled.Goals as goal

pub returns : goal.returns
returns c = record { indices = index_format; frames = frames_format; parts = parts_format; sized = frames_sized }
