use Rattle.std.proofs.Common.{◌≡◌, drop}
use Rattle.std.specs.List.{list_any}
use Rattle.kilim_class_attributes.specs.Attributes.{info_is}
use Rattle.kilim_class_attributes.proofs.reading.stands.Given as goal

abbrev pub invariant-loop-attribute : goal.invariant-loop-attribute
invariant-loop-attribute l = list_any (λ a. info_is l.form a.info) (drop l.attribute-index l.before) ≡ list_any (λ a. info_is l.form a.info) l.before
