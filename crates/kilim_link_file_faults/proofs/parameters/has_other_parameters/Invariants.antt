use Rattle.std.proofs.Common.{◌≡◌, drop, length}
use Rattle.std.specs.List.{filter_map, list_any}
use Rattle.kilim_link_spec.specs.Annotations.{params_in}
use Rattle.kilim_link_spec.specs.LeftOut.{differs_in, has_other_parameters}
use Rattle.kilim_link_spec.specs.Types.{method_text}
use Rattle.kilim_link_spec.specs.World.{member_descriptor, parameter_parts}
use Rattle.kilim_link_file_faults.proofs.parameters.has_other_parameters.Given as goal

abbrev pub invariant-loop-method : goal.invariant-loop-method
invariant-loop-method l =
    list_any (λ m. list_any (λ parts. differs_in (method_text (member_descriptor l.file m)) (length (params_in parts))) (filter_map (λ a. parameter_parts a.info) m.attributes)) (drop l.method-index l.file.methods)
    ≡ has_other_parameters l.file
