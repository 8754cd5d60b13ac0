use Rattle.std.proofs.Common.{List, ◌++◌, sym, ◌∙◌, append-nil, arith}
use Rattle.std.proofs.lemmas.List.{at_drop_all}
use Rattle.kilim_class_attributes.specs.declared.parts.annotation.AnnotationPart.{AnnotationPart}
use Rattle.kilim_link_spec.specs.Annotations.{types_before}
use Rattle.kilim_link_views.proofs.marks.types_before.Goals as goal

pub returns : goal.returns
returns c =
    let types = c.loop-rest.types in
    sym (append-nil types)
    ∙ (sym (at_drop_all (λ (parts : List AnnotationPart). types ++ types_before parts) c.loop-rest.rest.now 0 (omega (arith, c.in_default.len_below))) ∙ c.loop-rest.invariant)
