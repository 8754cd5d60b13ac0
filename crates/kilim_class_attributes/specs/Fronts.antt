-- Attributes that are cut, and those that are broken.
use Rattle.std.specs.Prelude.{◌≡◌, List}
use Rattle.kilim_class_grammar.specs.Fronts.{StaysRead, CutOrBroken}
use Rattle.kilim_class_pool.specs.declared.entry.Entry.{Entry}
use Rattle.kilim_class_attributes.specs.declared.parts.fault.AttributeFault.{AttributeFault}
use Rattle.kilim_class_attributes.specs.declared.parts.fault.AttributeFault.TheVariants as fault
use Rattle.kilim_class_attributes.specs.declared.attribute.Place.{Place}
use Rattle.kilim_class_attributes.specs.Attributes.{attributes_text, AttributesFit, attributes_at}

abbrev pub IsCut : AttributeFault → Type 0
IsCut found = found ≡ fault.Cut

-- what was read stays read, and each fault but that the bytes are cut stays, whatever follows
abbrev pub AttributesStay : Type 0
AttributesStay = (pool : List Entry) (place : Place) → StaysRead IsCut (attributes_at pool place) (attributes_at pool place)

-- Each proper front of the text of attributes is cut; attributes that are broken can't be spelled, whatever follows.
abbrev pub AttributesAreCutOrBroken : Type 0
AttributesAreCutOrBroken = (pool : List Entry) (place : Place) → CutOrBroken attributes_text (attributes_at pool place) (AttributesFit pool place) fault.Cut
