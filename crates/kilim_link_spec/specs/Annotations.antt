-- The annotations of a list of parts (JVMS 4.7.16, 4.7.18): those that stand on a member or a parameter, and not those
-- inside of them.
use Rattle.std.specs.Prelude.{ℕ, zero, suc, ◌+◌, List, [], ◌∷◌}
use Rattle.std.specs.List.{flat_map}
use Rattle.kilim_class_attributes.specs.declared.parts.annotation.AnnotationPart.{AnnotationPart}
use Rattle.kilim_class_attributes.specs.declared.parts.annotation.AnnotationPart.TheVariants.{Annotations, Annotation}
use Rattle.kilim_class_attributes.specs.parts.Annotations.{asked}

-- The outermost parts: counts of parameters and of annotations, and annotations. An annotation asks for its pairs, and
-- each of these for what follows it; so many parts are still to be passed over.
abbrev pub outermost : ℕ → List AnnotationPart → List AnnotationPart
outermost pending [] = []
outermost zero (Annotation type count ∷ parts) = Annotation type count ∷ outermost count parts
outermost zero (part ∷ parts) = part ∷ outermost zero parts
outermost (suc pending) (part ∷ parts) = outermost ((asked part).count + pending) parts

-- the types of the annotations up to the next list of annotations
abbrev pub types_before : List AnnotationPart → List ℕ
types_before [] = []
types_before (Annotation type count ∷ parts) = type ∷ types_before parts
types_before (Annotations count ∷ parts) = []
types_before (part ∷ parts) = types_before parts

-- for each list of annotations the indices of their types
abbrev pub lists_of : List AnnotationPart → List (List ℕ)
lists_of [] = []
lists_of (Annotations count ∷ parts) = types_before parts ∷ lists_of parts
lists_of (part ∷ parts) = lists_of parts

-- the type of a part that is an annotation
abbrev pub annotation_type : AnnotationPart → List ℕ
annotation_type (Annotation type count) = type ∷ []
annotation_type _ = []

-- the types of the annotations on a member
unfoldable pub types_on_member : List AnnotationPart → List ℕ
types_on_member parts = flat_map annotation_type (outermost zero parts)

-- for each parameter the types of the annotations on it
unfoldable pub params_in : List AnnotationPart → List (List ℕ)
params_in parts = lists_of (outermost zero parts)
