use Rattle.kilim_weave_laws.proofs.woven_programs.places.Together.{woven_places}
use Rattle.kilim_weave_laws.proofs.woven_programs.places.woven_places_keep.Goals as goal

pub returns : goal.returns
returns c = woven_places
