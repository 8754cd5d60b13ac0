-- Parts of annotations as what an attribute of a form holds.
use Rattle.std.specs.Prelude.{List}
use Rattle.kilim_class_attributes.specs.declared.parts.annotation.AnnotationPart.{AnnotationPart}
use Rattle.kilim_class_attributes.specs.declared.parts.name.AttributeName.{AttributeName}
use Rattle.kilim_class_attributes.specs.declared.parts.name.AttributeName.TheVariants as name
use Rattle.kilim_class_attributes.specs.declared.attribute.Info.{Info}
use Rattle.kilim_class_attributes.specs.declared.attribute.Info.TheVariants.{RuntimeVisibleAnnotations, RuntimeInvisibleAnnotations, RuntimeVisibleParameterAnnotations, RuntimeInvisibleParameterAnnotations}

abbrev pub parts_as : AttributeName → List AnnotationPart → Info
parts_as name.RuntimeVisibleAnnotations parts = RuntimeVisibleAnnotations parts
parts_as name.RuntimeInvisibleAnnotations parts = RuntimeInvisibleAnnotations parts
parts_as name.RuntimeVisibleParameterAnnotations parts = RuntimeVisibleParameterAnnotations parts
parts_as _ parts = RuntimeInvisibleParameterAnnotations parts
