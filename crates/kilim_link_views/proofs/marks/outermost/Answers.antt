use Rattle.std.proofs.Common.{List, ◌++◌, sym, ◌∙◌, append-nil}
use Rattle.std.proofs.lemmas.List.{at_drop_all}
use Rattle.kilim_class_attributes.specs.declared.parts.annotation.AnnotationPart.{AnnotationPart}
use Rattle.kilim_link_spec.specs.Annotations.{outermost}
use Rattle.kilim_link_views.proofs.marks.outermost.Goals as goal

pub returns : goal.returns
returns c =
    let outer = c.loop-part.outer in
    sym (append-nil outer)
    ∙ (sym (at_drop_all (λ (parts : List AnnotationPart). outer ++ outermost c.loop-part.pending parts) c.args.parts.now c.loop-part.part-index c.loop-part-test.false) ∙ c.loop-part.invariant.outer)
