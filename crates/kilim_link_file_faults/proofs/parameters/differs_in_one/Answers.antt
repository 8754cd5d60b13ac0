use Rattle.std.proofs.Common.{List, length, sym, ◌∙◌}
use Rattle.std.specs.List.{filter_map, list_any}
use Rattle.std.specs.Option.{option_copied}
use Rattle.std.proofs.lemmas.List.{at_drop_all}
use Rattle.kilim_class_attributes.specs.declared.attribute.Attribute.{Attribute}
use Rattle.kilim_link_spec.specs.Annotations.{params_in}
use Rattle.kilim_link_spec.specs.LeftOut.{differs_in}
use Rattle.kilim_link_spec.specs.World.{parameter_parts}
use Rattle.kilim_link_file_faults.proofs.parameters.differs_in_one.Goals as goal

pub returns : goal.returns
returns c =
    sym (at_drop_all (λ (xs : List Attribute). list_any (λ parts. differs_in (option_copied c.args.found) (length (params_in parts))) (filter_map (λ (a : Attribute). parameter_parts a.info) xs)) c.args.attributes.now c.loop-attribute.attribute-index c.loop-attribute-test.false)
    ∙ c.loop-attribute.invariant
