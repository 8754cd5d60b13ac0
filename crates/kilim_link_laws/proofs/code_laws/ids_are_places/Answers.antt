use Rattle.kilim_link_laws.proofs.code_laws.IdsArePlaces as places
use Rattle.kilim_link_laws.proofs.code_laws.ids_are_places.Goals as goal

pub returns : goal.returns
returns c = places.ids_are_places_there c.linked_in_parts.ensures
