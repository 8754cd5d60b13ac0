use Rattle.std.proofs.Common.{List, ◌++◌, sym, ◌∙◌, append-nil, arith}
use Rattle.std.proofs.lemmas.List.{at_drop_all}
use Rattle.kilim_class_attributes.specs.declared.parts.annotation.AnnotationPart.{AnnotationPart}
use Rattle.kilim_link_spec.specs.Annotations.{lists_of}
use Rattle.kilim_link_views.proofs.marks.lists_of.Goals as goal

pub returns : goal.returns
returns c =
    let lists = c.loop-rest.lists in
    sym (append-nil lists)
    ∙ (sym (at_drop_all (λ (parts : List AnnotationPart). lists ++ lists_of parts) c.loop-rest.rest.now 0 (omega (arith, c.in_default.len_below))) ∙ c.loop-rest.invariant)
