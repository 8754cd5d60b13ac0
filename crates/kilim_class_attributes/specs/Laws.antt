-- What reading and writing come to.
use Rattle.std.specs.Prelude.{◌≡◌, ℕ, List, ◌++◌, Ok}
use Rattle.kilim_class_pool.specs.declared.entry.Entry.{Entry}
use Rattle.kilim_class_attributes.specs.declared.attribute.Place.{Place}
use Rattle.kilim_class_attributes.specs.declared.attribute.Attribute.{Attribute}
use Rattle.kilim_class_grammar.specs.Format.{Format}
use Rattle.kilim_class_attributes.specs.Attributes.{attributes_text, AttributesAreSized, AttributesFit, attributes_at}

-- what was written is read again, whatever follows
abbrev pub IsReadAgain : Type 0
IsReadAgain = (pool : List Entry) (place : Place) (attributes : List Attribute) (rest : List ℕ) → AttributesFit pool place attributes → attributes_at pool place (attributes_text attributes ++ rest) ≡ Ok (attributes, rest)

-- at each place and over each pool, what is read is spelled so and has a text, and what is spelled is read again
abbrev pub AttributesAreSpelled : Type 0
AttributesAreSpelled = (pool : List Entry) (place : Place) → Format attributes_text (attributes_at pool place) (AttributesFit pool place)

-- attributes that have a text can be written
abbrev pub FitIsSized : Type 0
FitIsSized = (pool : List Entry) (place : Place) (attributes : List Attribute) → AttributesFit pool place attributes → AttributesAreSized attributes
