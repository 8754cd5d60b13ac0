use Rattle.std.proofs.Common.{List, ◌++◌, map, ap, ◌∙◌}
use Rattle.std.specs.List.{flat_map}
use Rattle.std.proofs.lemmas.List.{take_all}
use Rattle.kilim_class_attributes.specs.declared.parts.annotation.AnnotationPart.{AnnotationPart}
use Rattle.kilim_class_file.specs.Parts.{text_of}
use Rattle.kilim_link_spec.specs.Annotations.{annotation_type}
use Rattle.kilim_link_views.proofs.marks.push_types.Goals as goal

pub returns : goal.returns
returns c = c.loop-part.invariant ∙ ap (λ (parts : List AnnotationPart). c.args.types.now ++ map (text_of c.args.pool.now) (flat_map annotation_type parts)) (take_all c.loop-part.part-index c.args.outer.now c.loop-part-test.false)
