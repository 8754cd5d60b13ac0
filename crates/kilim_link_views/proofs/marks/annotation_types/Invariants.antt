use Rattle.std.proofs.Common.{◌≡◌, map, take}
use Rattle.std.specs.List.{flat_map}
use Rattle.kilim_class_file.specs.Parts.{text_of}
use Rattle.kilim_link_spec.specs.Annotations.{types_on_member}
use Rattle.kilim_link_spec.specs.World.{annotation_parts}
use Rattle.kilim_link_views.proofs.marks.annotation_types.Given as goal

abbrev pub invariant-loop-attribute : goal.invariant-loop-attribute
invariant-loop-attribute l = l.types ≡ flat_map (λ a. map (text_of l.pool) (types_on_member (annotation_parts a.info))) (take l.attribute-index l.member.attributes)
