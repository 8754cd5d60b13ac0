use Rattle.std.proofs.Common.{◌≡◌, ◌++◌, map, take}
use Rattle.std.specs.List.{flat_map}
use Rattle.kilim_class_file.specs.Parts.{text_of}
use Rattle.kilim_link_spec.specs.Annotations.{annotation_type}
use Rattle.kilim_link_views.proofs.marks.push_types.Given as goal

abbrev pub invariant-loop-part : goal.invariant-loop-part
invariant-loop-part l = l.types ≡ l.fn.types ++ map (text_of l.pool) (flat_map annotation_type (take l.part-index l.outer))
