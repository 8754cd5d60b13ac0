use Rattle.std.proofs.Common.{refl}
use Rattle.kilim_class_grammar.specs.Reader.{filled}
use Rattle.kilim_class_attributes.specs.declared.parts.fault.AttributeFault.TheVariants as fault
use Rattle.kilim_class_attributes.specs.declared.parts.name.AttributeName.TheVariants as name
use Rattle.kilim_class_attributes.specs.declared.parts.index.EntryKind.TheVariants as kind
use Rattle.kilim_class_attributes.specs.declared.parts.annotation.PartKind.TheVariants.{AnnotationList, ParameterCount}
use Rattle.kilim_class_attributes.specs.parts.Frames.{frames_at}
use Rattle.kilim_class_attributes.specs.parts.Indices.{index_at}
use Rattle.kilim_class_attributes.specs.declared.attribute.Info.TheVariants.{ConstantValue, Code, StackMapTable, Exceptions}
use Rattle.kilim_class_attributes.specs.Attributes.{exceptions_at, whole_parts, info_of}
use Rattle.kilim_class_attributes.specs.Codes.{code_at}
use Rattle.kilim_class_attributes.specs.Lists.{as_a}
use Rattle.kilim_class_attributes.specs.Wrapped.{parts_as}
use Rattle.kilim_class_attributes.proofs.ByForm.{by_form}
use Rattle.kilim_class_attributes.proofs.info_reading.info_of.Goals as goal

pub returns-in-ConstantValue : goal.returns-in-ConstantValue
unfolding info_of
returns-in-ConstantValue c = by_form c.args.pool.now c.args.bytes.now c.constant_info.result c.args.form c.in-Some.form name.ConstantValue (λ _. as_a ConstantValue (filled (fault.Length name.ConstantValue) (index_at c.args.pool.now kind.Constant (fault.Length name.ConstantValue)) c.args.bytes.now)) c.in-Some.is c.in-ConstantValue.is refl c.constant_info.ensures

pub returns-in-Code : goal.returns-in-Code
unfolding info_of
returns-in-Code c = by_form c.args.pool.now c.args.bytes.now c.code_info.result c.args.form c.in-Some.form name.Code (λ _. as_a Code (filled (fault.Length name.Code) (code_at c.args.pool.now) c.args.bytes.now)) c.in-Some.is c.in-Code.is refl c.code_info.ensures

pub returns-in-StackMapTable : goal.returns-in-StackMapTable
unfolding info_of
returns-in-StackMapTable c = by_form c.args.pool.now c.args.bytes.now c.frames_info.result c.args.form c.in-Some.form name.StackMapTable (λ _. as_a StackMapTable (filled (fault.Length name.StackMapTable) (frames_at c.args.pool.now) c.args.bytes.now)) c.in-Some.is c.in-StackMapTable.is refl c.frames_info.ensures

pub returns-in-Exceptions : goal.returns-in-Exceptions
unfolding info_of
returns-in-Exceptions c = by_form c.args.pool.now c.args.bytes.now c.exceptions_info.result c.args.form c.in-Some.form name.Exceptions (λ _. as_a Exceptions (filled (fault.Length name.Exceptions) (exceptions_at c.args.pool.now) c.args.bytes.now)) c.in-Some.is c.in-Exceptions.is refl c.exceptions_info.ensures

pub returns-in-RuntimeVisibleAnnotations : goal.returns-in-RuntimeVisibleAnnotations
unfolding info_of
returns-in-RuntimeVisibleAnnotations c = by_form c.args.pool.now c.args.bytes.now c.parts_info.result c.args.form c.in-Some.form name.RuntimeVisibleAnnotations (λ form. as_a (parts_as form) (whole_parts c.args.pool.now form AnnotationList c.args.bytes.now)) c.in-Some.is c.in-RuntimeVisibleAnnotations.is refl c.parts_info.ensures

pub returns-in-RuntimeInvisibleAnnotations : goal.returns-in-RuntimeInvisibleAnnotations
unfolding info_of
returns-in-RuntimeInvisibleAnnotations c = by_form c.args.pool.now c.args.bytes.now c.parts_info-in-RuntimeInvisibleAnnotations.result c.args.form c.in-Some.form name.RuntimeInvisibleAnnotations (λ form. as_a (parts_as form) (whole_parts c.args.pool.now form AnnotationList c.args.bytes.now)) c.in-Some.is c.in-RuntimeInvisibleAnnotations.is refl c.parts_info-in-RuntimeInvisibleAnnotations.ensures

pub returns-in-RuntimeVisibleParameterAnnotations : goal.returns-in-RuntimeVisibleParameterAnnotations
unfolding info_of
returns-in-RuntimeVisibleParameterAnnotations c = by_form c.args.pool.now c.args.bytes.now c.parts_info-in-RuntimeVisibleParameterAnnotations.result c.args.form c.in-Some.form name.RuntimeVisibleParameterAnnotations (λ form. as_a (parts_as form) (whole_parts c.args.pool.now form ParameterCount c.args.bytes.now)) c.in-Some.is c.in-RuntimeVisibleParameterAnnotations.is refl c.parts_info-in-RuntimeVisibleParameterAnnotations.ensures

pub returns-in-RuntimeInvisibleParameterAnnotations : goal.returns-in-RuntimeInvisibleParameterAnnotations
unfolding info_of
returns-in-RuntimeInvisibleParameterAnnotations c = by_form c.args.pool.now c.args.bytes.now c.parts_info-in-RuntimeInvisibleParameterAnnotations.result c.args.form c.in-Some.form name.RuntimeInvisibleParameterAnnotations (λ form. as_a (parts_as form) (whole_parts c.args.pool.now form ParameterCount c.args.bytes.now)) c.in-Some.is c.in-RuntimeInvisibleParameterAnnotations.is refl c.parts_info-in-RuntimeInvisibleParameterAnnotations.ensures
