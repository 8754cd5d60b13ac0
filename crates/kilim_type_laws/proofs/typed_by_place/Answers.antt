use Rattle.kilim_type_laws.proofs.ByPlace.{typed_by_place}
use Rattle.kilim_type_laws.proofs.typed_by_place.Goals as goal

pub returns : goal.returns
returns c = typed_by_place
