use Rattle.std.proofs.Common.{◌≡◌, drop, length}
use Rattle.std.specs.List.{filter_map, list_any}
use Rattle.std.specs.Option.{option_copied}
use Rattle.kilim_link_spec.specs.Annotations.{params_in}
use Rattle.kilim_link_spec.specs.LeftOut.{differs_in}
use Rattle.kilim_link_spec.specs.World.{parameter_parts}
use Rattle.kilim_link_file_faults.proofs.parameters.differs_in_one.Given as goal

abbrev pub invariant-loop-attribute : goal.invariant-loop-attribute
invariant-loop-attribute l =
    list_any (λ parts. differs_in (option_copied l.found) (length (params_in parts))) (filter_map (λ a. parameter_parts a.info) (drop l.attribute-index l.attributes))
    ≡ list_any (λ parts. differs_in (option_copied l.found) (length (params_in parts))) (filter_map (λ a. parameter_parts a.info) l.attributes)
