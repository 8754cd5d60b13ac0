-- Texts as bytes, characters and units.
use Rattle.std.proofs.lemmas.Str.{chars_from_encodes}

pub ruleset of_text = (chars_from_encodes)
