-- Attributes (JVMS 4.7): their text, which have one, and how they are read.
use Rattle.std.specs.Prelude.{◌≡◌, ℕ, ◌<◌, ◌^◌, Bool, true, false, ◌&&◌, List, [], length, Option, Some, None, Result, Ok}
use Rattle.std.specs.List.{list_any, AllByRecursion}
use Rattle.std.specs.Int.{w16}
use Rattle.kilim_class_grammar.specs.Format.{IsBytes}
use Rattle.kilim_class_grammar.specs.Reader.{Reader, ◌>>=◌, counted, filled}
use Rattle.kilim_class_grammar.specs.Spelling.{u2, list_text}
use Rattle.kilim_class_pool.specs.declared.entry.Entry.{Entry}
use Rattle.kilim_class_attributes.specs.declared.parts.fault.AttributeFault.{AttributeFault}
use Rattle.kilim_class_attributes.specs.declared.parts.fault.AttributeFault.TheVariants as fault
use Rattle.kilim_class_attributes.specs.declared.parts.name.AttributeName.{AttributeName}
use Rattle.kilim_class_attributes.specs.declared.parts.name.AttributeName.TheVariants as name
use Rattle.kilim_class_attributes.specs.declared.parts.index.EntryKind.TheVariants as kind
use Rattle.kilim_class_attributes.specs.declared.parts.annotation.AnnotationPart.{AnnotationPart}
use Rattle.kilim_class_attributes.specs.declared.parts.annotation.PartKind.{PartKind}
use Rattle.kilim_class_attributes.specs.declared.parts.annotation.PartKind.TheVariants.{AnnotationList, ParameterCount}
use Rattle.kilim_class_attributes.specs.parts.Indices.{index_at, IndexFits}
use Rattle.kilim_class_attributes.specs.parts.Frames.{frames_text, FramesAreSized, FramesFit, frames_at}
use Rattle.kilim_class_attributes.specs.parts.Annotations.{parts_text, PartsFit, parts_at}
use Rattle.kilim_class_attributes.specs.declared.attribute.Place.{Place}
use Rattle.kilim_class_attributes.specs.declared.attribute.Info.{Info}
use Rattle.kilim_class_attributes.specs.declared.attribute.Info.TheVariants.{ConstantValue, Code, StackMapTable, Exceptions, RuntimeVisibleAnnotations, RuntimeInvisibleAnnotations, RuntimeVisibleParameterAnnotations, RuntimeInvisibleParameterAnnotations, Raw}
use Rattle.kilim_class_attributes.specs.declared.attribute.Attribute.{Attribute}
use Rattle.kilim_class_attributes.specs.Lists.{turned, as_a, listed, EachAfter, named_bytes_at, named_text}
use Rattle.kilim_class_attributes.specs.Forms.{form_at, stands_once, unless_twice}
use Rattle.kilim_class_attributes.specs.Codes.{code_text, CodeIsSized, CodeFits, code_at}

-- ---- text

abbrev pub info_text : Info → List ℕ
info_text (ConstantValue index) = u2 index
info_text (Code code) = code_text code
info_text (StackMapTable frames) = frames_text frames
info_text (Exceptions classes) = list_text u2 classes
info_text (RuntimeVisibleAnnotations parts) = parts_text parts
info_text (RuntimeInvisibleAnnotations parts) = parts_text parts
info_text (RuntimeVisibleParameterAnnotations parts) = parts_text parts
info_text (RuntimeInvisibleParameterAnnotations parts) = parts_text parts
info_text (Raw bytes) = bytes

abbrev pub attribute_text : Attribute → List ℕ
attribute_text attribute = named_text attribute.attribute_name_index (info_text attribute.info)

-- the count of attributes, and each
abbrev pub attributes_text : List Attribute → List ℕ
attributes_text attributes = list_text attribute_text attributes

-- ---- those that have a text

-- the numbers that their Rust types leave open
abbrev pub InfoIsSized : Info → Type 0
InfoIsSized (Code code) = CodeIsSized code
InfoIsSized (StackMapTable frames) = FramesAreSized frames
InfoIsSized (Exceptions classes) = length classes < 2 ^ 16
InfoIsSized _ = Unit {0}

pub record AttributeIsSized (attribute : Attribute) : Type 0 where
  pub size : length (info_text attribute.info) < 2 ^ 32
  pub info : InfoIsSized attribute.info

-- Each count and each length is a number of the width that it is written in, and each frame has a tag.
pub record AttributesAreSized (attributes : List Attribute) : Type 0 where
  pub count : length attributes < 2 ^ 16
  pub each : AllByRecursion AttributeIsSized attributes

abbrev pub info_form : Info → Option AttributeName
info_form (ConstantValue index) = Some name.ConstantValue
info_form (Code code) = Some name.Code
info_form (StackMapTable frames) = Some name.StackMapTable
info_form (Exceptions classes) = Some name.Exceptions
info_form (RuntimeVisibleAnnotations parts) = Some name.RuntimeVisibleAnnotations
info_form (RuntimeInvisibleAnnotations parts) = Some name.RuntimeInvisibleAnnotations
info_form (RuntimeVisibleParameterAnnotations parts) = Some name.RuntimeVisibleParameterAnnotations
info_form (RuntimeInvisibleParameterAnnotations parts) = Some name.RuntimeInvisibleParameterAnnotations
info_form (Raw bytes) = None

-- whether an attribute has this form, of those that may stand once
abbrev pub info_is : AttributeName → Info → Bool
info_is name.ConstantValue (ConstantValue index) = true
info_is name.Code (Code code) = true
info_is name.StackMapTable (StackMapTable frames) = true
info_is name.Exceptions (Exceptions classes) = true
info_is _ _ = false

abbrev pub repeats : AttributeName → List Attribute → Bool
repeats form before = stands_once form && list_any (λ a. info_is form a.info) before

abbrev pub InfoFits : List Entry → Info → Type 0
InfoFits pool (ConstantValue index) = IndexFits pool kind.Constant index
InfoFits pool (Code code) = CodeFits pool code
InfoFits pool (StackMapTable frames) = FramesFit pool frames
InfoFits pool (Exceptions classes) = (length classes < 2 ^ 16) × AllByRecursion (IndexFits pool kind.Class) classes
InfoFits pool (RuntimeVisibleAnnotations parts) = PartsFit pool AnnotationList parts
InfoFits pool (RuntimeInvisibleAnnotations parts) = PartsFit pool AnnotationList parts
InfoFits pool (RuntimeVisibleParameterAnnotations parts) = PartsFit pool ParameterCount parts
InfoFits pool (RuntimeInvisibleParameterAnnotations parts) = PartsFit pool ParameterCount parts
InfoFits pool (Raw bytes) = IsBytes bytes

pub record AttributeFits (pool : List Entry) (place : Place) (before : List Attribute) (attribute : Attribute) : Type 0 where
  pub below : attribute.attribute_name_index < 2 ^ 16
  pub form : form_at pool place attribute.attribute_name_index ≡ Ok (info_form attribute.info)
  pub once : unless_twice repeats (info_form attribute.info) before ≡ Ok (info_form attribute.info)
  pub size : length (info_text attribute.info) < 2 ^ 32
  pub info : InfoFits pool attribute.info

-- Attributes that have a text at a place, over the pool that their indices name entries of: each in the form of its
-- name, none twice that may stand once, each index naming an entry of the kind that its place asks for, and each
-- number of its width.
pub record AttributesFit (pool : List Entry) (place : Place) (attributes : List Attribute) : Type 0 where
  pub count : length attributes < 2 ^ 16
  pub each : EachAfter (AttributeFits pool place) [] attributes

-- ---- reading

unfoldable pub exceptions_at : List Entry → Reader AttributeFault (List ℕ)
exceptions_at pool = counted (fault.Length name.Exceptions) w16 (index_at pool kind.Class (fault.Length name.Exceptions))

-- all of the bytes are the parts of annotations of an attribute
unfoldable pub whole_parts : List Entry → AttributeName → PartKind → List ℕ → Result (List AnnotationPart) AttributeFault
whole_parts pool form kind bytes = filled (fault.Length form) (parts_at pool (fault.Length form) kind) bytes

-- what an attribute of a form holds
unfoldable pub info_of : List Entry → Option AttributeName → List ℕ → Result Info AttributeFault
info_of pool None bytes = Ok (Raw bytes)
info_of pool (Some name.ConstantValue) bytes = as_a ConstantValue (filled (fault.Length name.ConstantValue) (index_at pool kind.Constant (fault.Length name.ConstantValue)) bytes)
info_of pool (Some name.Code) bytes = as_a Code (filled (fault.Length name.Code) (code_at pool) bytes)
info_of pool (Some name.StackMapTable) bytes = as_a StackMapTable (filled (fault.Length name.StackMapTable) (frames_at pool) bytes)
info_of pool (Some name.Exceptions) bytes = as_a Exceptions (filled (fault.Length name.Exceptions) (exceptions_at pool) bytes)
info_of pool (Some name.RuntimeVisibleAnnotations) bytes = as_a RuntimeVisibleAnnotations (whole_parts pool name.RuntimeVisibleAnnotations AnnotationList bytes)
info_of pool (Some name.RuntimeInvisibleAnnotations) bytes = as_a RuntimeInvisibleAnnotations (whole_parts pool name.RuntimeInvisibleAnnotations AnnotationList bytes)
info_of pool (Some name.RuntimeVisibleParameterAnnotations) bytes = as_a RuntimeVisibleParameterAnnotations (whole_parts pool name.RuntimeVisibleParameterAnnotations ParameterCount bytes)
info_of pool (Some name.RuntimeInvisibleParameterAnnotations) bytes = as_a RuntimeInvisibleParameterAnnotations (whole_parts pool name.RuntimeInvisibleParameterAnnotations ParameterCount bytes)

-- The name comes first, then whether the attribute stands twice, and then what it holds.
unfoldable pub attribute_of : List Entry → Place → List Attribute → ℕ × List ℕ → Result Attribute AttributeFault
attribute_of pool place before x = do
  form ← form_at pool place x.0
  once ← unless_twice repeats form before
  info ← info_of pool once x.1
  Ok (record { attribute_name_index = x.0; info = info })

unfoldable pub attribute_at : List Entry → Place → List Attribute → Reader AttributeFault Attribute
attribute_at pool place before = turned (attribute_of pool place before) (named_bytes_at fault.Cut)

-- a list of attributes at the front of bytes
unfoldable pub attributes_at : List Entry → Place → Reader AttributeFault (List Attribute)
attributes_at pool place = listed fault.Cut (attribute_at pool place)
