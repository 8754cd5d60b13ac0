-- Parts of the definitions of woven files, named for the functions that make them.
use Rattle.std.specs.Prelude.{Bool, true, false, List, [], ◌∷◌}
use Rattle.kilim_program.specs.declared.verified.VType.{VType}
use Rattle.kilim_type_spec.specs.Step.{is_long}

-- the locals of a frame, one by one: the next one is the half of a long, or it isn't
abbrev pub entries_from : Bool → List VType → List VType
entries_from skips [] = []
entries_from true (t ∷ ts) = entries_from false ts
entries_from false (t ∷ ts) = t ∷ entries_from (is_long t) ts
