use Rattle.std.proofs.Common.{◌≡◌, map, take}
use Rattle.std.specs.List.{filter_map}
use Rattle.kilim_class_file.specs.Parts.{text_of}
use Rattle.kilim_link_spec.specs.Annotations.{params_in}
use Rattle.kilim_link_spec.specs.World.{parameter_parts}
use Rattle.kilim_link_views.proofs.marks.parameter_types.Given as goal

abbrev pub invariant-loop-attribute : goal.invariant-loop-attribute
invariant-loop-attribute l = l.types ≡ map (λ parts. map (λ types. map (text_of l.pool) types) (params_in parts)) (filter_map (λ a. parameter_parts a.info) (take l.attribute-index l.attribute-items))
