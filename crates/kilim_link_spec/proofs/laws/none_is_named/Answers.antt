use Rattle.kilim_link_spec.proofs.First as first
use Rattle.kilim_link_spec.proofs.laws.none_is_named.Goals as goal

pub returns : goal.returns
returns c = first.none_is_named
