use Rattle.kilim_link_spec.proofs.Decoding as decoding
use Rattle.kilim_link_spec.proofs.laws.decoded_is_decode.Goals as goal

pub returns : goal.returns
returns c = decoding.decoded_is_decode c.one_spelling.ensures c.lengths.ensures
