use Rattle.std.proofs.Common.{List, ℕ, ◌++◌, map, ap, ◌∙◌}
use Rattle.std.specs.Prelude.{option_to_list}
use Rattle.kilim_class_attributes.specs.declared.parts.annotation.AnnotationPart.{AnnotationPart}
use Rattle.kilim_class_attributes.specs.declared.attribute.Attribute.{Attribute}
use Rattle.kilim_class_file.specs.Parts.{text_of}
use Rattle.kilim_link_spec.specs.Annotations.{params_in}
use Rattle.kilim_link_spec.specs.World.{parameter_parts}
use Rattle.kilim_link_views.proofs.Found.{found_step}
use Rattle.std.proofs.lemmas.List.{take_all}
use Rattle.std.specs.List.{filter_map}
use Rattle.kilim_link_views.proofs.marks.parameter_types.Goals as goal

pub loop-attribute-preserved : goal.loop-attribute-preserved
loop-attribute-preserved c =
    let make = λ (parts : List AnnotationPart). map (λ (types : List ℕ). map (text_of c.args.pool.now) types) (params_in parts) in
    let search = λ (a : Attribute). parameter_parts a.info in
    found_step make search c.as_slice-attribute-items.result.now c.loop-attribute.attribute-index c.attribute-item.result c.loop-attribute.types c.push_parameter_types.new.types c.loop-attribute-test.true c.loop-attribute.invariant
    (c.in-Ok.ensures ∙ ap (λ (a : Attribute). c.loop-attribute.types ++ map make (option_to_list (search a))) c.attribute-item.is)

pub returns : goal.returns
returns c =
    let make = λ (parts : List AnnotationPart). map (λ (types : List ℕ). map (text_of c.args.pool.now) types) (params_in parts) in
    let search = λ (a : Attribute). parameter_parts a.info in
    let items = c.as_slice-attribute-items.result.now in
    c.loop-attribute.invariant
    ∙ ap (λ (xs : List Attribute). map make (filter_map search xs)) (take_all c.loop-attribute.attribute-index items c.loop-attribute-test.false ∙ c.as_slice-attribute-items.ensures)
