use Rattle.kilim_weave_laws.proofs.shape.Shape.{same_places}
use Rattle.kilim_weave_laws.proofs.shape.places_dont_matter.Goals as goal

pub returns : goal.returns
returns c = same_places
