use Rattle.kilim_class_attributes.proofs.Sized.{fit_is_sized}
use Rattle.kilim_class_attributes.proofs.reading.read_again.Goals as goal

pub returns : goal.returns
returns c = record { again = λ pool place attributes rest fit. (c.attributes_are_spelled.ensures pool place).again attributes rest fit; sized = fit_is_sized c.parts_are_spelled.ensures }
