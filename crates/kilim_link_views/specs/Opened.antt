-- Parts of annotations that are passed over.
use Rattle.std.specs.Prelude.{ℕ}
use Rattle.kilim_class_attributes.specs.declared.parts.annotation.AnnotationPart.{AnnotationPart}
use Rattle.kilim_class_attributes.specs.declared.parts.annotation.AnnotationPart.TheVariants.{Annotation}

-- how many of the parts behind an outermost one are no outermost parts: those that an annotation asks for
abbrev pub opened : AnnotationPart → ℕ
opened (Annotation type count) = count
opened _ = 0
