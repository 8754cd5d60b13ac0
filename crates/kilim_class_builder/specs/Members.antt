-- The fields and methods of a class file that is built (JVMS 4.5 to 4.7), with the entries that they need.
use Rattle.std.specs.Prelude.{ℕ, ◌+◌, Bool, true, false, if◌then◌else◌, List, [], ◌∷◌, ◌++◌, length, Option, Some, None, Result, Ok, codes, string_bytes}
use Rattle.std.specs.Char.Escape.{encode_utf16}
use Rattle.std.specs.List.{flat_map, list_any}
use Rattle.std.specs.Str.{chars}
use Rattle.kilim_class_attributes.specs.declared.parts.annotation.AnnotationPart.{AnnotationPart}
use Rattle.kilim_class_attributes.specs.declared.parts.annotation.AnnotationPart.TheVariants.{Annotation, Annotations, Parameters}
use Rattle.kilim_class_attributes.specs.declared.attribute.Attribute.{Attribute}
use Rattle.kilim_class_attributes.specs.declared.attribute.CodeAttribute.{CodeAttribute}
use Rattle.kilim_class_attributes.specs.declared.attribute.CodeInfo.TheVariants as inside
use Rattle.kilim_class_attributes.specs.declared.attribute.Info.{Info}
use Rattle.kilim_class_attributes.specs.declared.attribute.Info.TheVariants as info
use Rattle.kilim_program.specs.declared.ty.Qualifier.{Qualifier}
use Rattle.kilim_program.specs.declared.ty.Qualifier.TheVariants.{Free, Cuttable, Safe}
use Rattle.kilim_program.specs.declared.verified.Frame.{Frame}
use Rattle.kilim_class_file.specs.declared.class_file.MemberInfo.{MemberInfo}
use Rattle.kilim_class_file.specs.Parts.{is_bodiless}
use Rattle.kilim_class_pool.specs.declared.entry.Entry.{Entry}
use Rattle.kilim_class_pool.specs.declared.fault.AddFault.{AddFault}
use Rattle.kilim_class_grammar.specs.Reader.{◌>>=◌}
use Rattle.kilim_class_code.specs.declared.opcodes.instr.RawInstr.{RawInstr}
use Rattle.kilim_class_code.specs.opcodes.Instr.{instr_text}
use Rattle.kilim_class_builder.specs.declared.source.MethodSource.{MethodSource}
use Rattle.kilim_class_builder.specs.Adding.{Adding, class_added, classes_added, text_added}
use Rattle.kilim_class_builder.specs.Frames.{frames_names, full_frames}

-- a text as UTF-16 units
abbrev pub utf16_of : List ℕ → List ℕ
utf16_of text = flat_map encode_utf16 (chars text)

abbrev pub attribute : ℕ → Info → Attribute
attribute name i = record { attribute_name_index = name; info = i }

abbrev pub member : ℕ → ℕ → ℕ → List Attribute → MemberInfo
member flags name descriptor attributes = record { access_flags = flags; name_index = name; descriptor_index = descriptor; attributes = attributes }

-- ---- fields: neither private nor static

unfoldable pub field_added : (name descriptor : List ℕ) → Adding MemberInfo
field_added name descriptor pool = do
  n ← text_added name pool
  d ← text_added descriptor n.1
  Ok (member 0 n.0 d.0 [], d.1)

-- ---- a method that pauses lists `kilim/Pausable` among its exceptions

unfoldable pub exceptions_added : Bool → Adding (Option Attribute)
exceptions_added false pool = Ok (None, pool)
exceptions_added true pool = do
  name ← text_added (codes "Exceptions") pool
  class ← class_added (codes "kilim/Pausable") name.1
  Ok (Some (attribute name.0 (info.Exceptions (class.0 ∷ []))), class.1)

-- ---- qualifiers are annotations

abbrev pub qualifier_text : Qualifier → List ℕ
qualifier_text Free = codes "Lkilim/Free;"
qualifier_text Cuttable = codes "Lkilim/Cuttable;"
qualifier_text Safe = codes "Lkilim/Safe;"

unfoldable pub receiver_added : Option Qualifier → Adding (Option Attribute)
receiver_added None pool = Ok (None, pool)
receiver_added (Some q) pool = do
  name ← text_added (codes "RuntimeInvisibleAnnotations") pool
  type ← text_added (qualifier_text q) name.1
  Ok (Some (attribute name.0 (info.RuntimeInvisibleAnnotations (Annotations 1 ∷ Annotation type.0 0 ∷ []))), type.1)

abbrev pub is_same : Qualifier → Qualifier → Bool
is_same Free Free = true
is_same Cuttable Cuttable = true
is_same Safe Safe = true
is_same _ _ = false

abbrev pub is_some_of : Qualifier → Option Qualifier → Bool
is_some_of q None = false
is_some_of q (Some other) = is_same q other

-- the type of an annotation, where some parameter has it
abbrev pub type_added : Bool → Qualifier → Adding ℕ
type_added false q pool = Ok (0, pool)
type_added true q pool = text_added (qualifier_text q) pool

abbrev pub used_added : List (Option Qualifier) → Qualifier → Adding ℕ
used_added qs q pool = type_added (list_any (is_some_of q) qs) q pool

abbrev pub annotation_of : (free cuttable safe : ℕ) → Qualifier → List AnnotationPart
annotation_of free cuttable safe Free = Annotations 1 ∷ Annotation free 0 ∷ []
annotation_of free cuttable safe Cuttable = Annotations 1 ∷ Annotation cuttable 0 ∷ []
annotation_of free cuttable safe Safe = Annotations 1 ∷ Annotation safe 0 ∷ []

abbrev pub parameter_parts : (free cuttable safe : ℕ) → Option Qualifier → List AnnotationPart
parameter_parts free cuttable safe None = Annotations 0 ∷ []
parameter_parts free cuttable safe (Some q) = annotation_of free cuttable safe q

unfoldable pub all_parts : (free cuttable safe : ℕ) → List (Option Qualifier) → List AnnotationPart
all_parts free cuttable safe qs = Parameters (length qs) ∷ flat_map (parameter_parts free cuttable safe) qs

abbrev pub is_given : Option Qualifier → Bool
is_given None = false
is_given (Some q) = true

unfoldable pub annotations_added : List (Option Qualifier) → Adding (List AnnotationPart)
annotations_added qs pool = do
  free ← used_added qs Free pool
  cuttable ← used_added qs Cuttable free.1
  safe ← used_added qs Safe cuttable.1
  Ok (all_parts free.0 cuttable.0 safe.0 qs, safe.1)

unfoldable pub given_added : List (Option Qualifier) → Adding (Option Attribute)
given_added qs pool = do
  name ← text_added (codes "RuntimeInvisibleParameterAnnotations") pool
  parts ← annotations_added qs name.1
  Ok (Some (attribute name.0 (info.RuntimeInvisibleParameterAnnotations parts.0)), parts.1)

-- where no parameter has a qualifier there is no attribute
unfoldable pub parameters_added : List (Option Qualifier) → Adding (Option Attribute)
parameters_added qs pool = if list_any is_given qs then given_added qs pool else Ok (None, pool)

-- ---- code: each instruction stands behind the one before, from place 0 on

unfoldable pub source_text : ℕ → List RawInstr → List ℕ
source_text at [] = []
source_text at (i ∷ is) = instr_text at i ++ source_text (at + length (instr_text at i)) is

unfoldable pub table_added : List (ℕ × Frame) → Adding (List CodeAttribute)
table_added [] pool = Ok ([], pool)
table_added (e ∷ es) pool = do
  name ← text_added (codes "StackMapTable") pool
  grown ← classes_added (frames_names name.1 (e ∷ es)) name.1
  Ok (record { attribute_name_index = name.0; info = inside.StackMapTable (full_frames grown 0 (e ∷ es)) } ∷ [], grown)

abbrev pub code_with : (stack locals : ℕ) → (bytes : List ℕ) → List CodeAttribute → Info
code_with stack locals bytes table = info.Code (record { max_stack = stack; max_locals = locals; code = bytes; exception_table = []; attributes = table })

unfoldable pub body_added : (stack locals : ℕ) → (bytes : List ℕ) → List (ℕ × Frame) → Adding (Option Attribute)
body_added stack locals bytes frames pool = do
  name ← text_added (codes "Code") pool
  table ← table_added frames name.1
  Ok (Some (attribute name.0 (code_with stack locals bytes table.0)), table.1)

-- an abstract or native method has none
unfoldable pub code_added : (flags stack locals : ℕ) → List RawInstr → List (ℕ × Frame) → Adding (Option Attribute)
code_added flags stack locals code frames pool = if is_bodiless flags then Ok (None, pool) else body_added stack locals (source_text 0 code) frames pool

-- ---- methods

abbrev pub listed : Option Attribute → List Attribute
listed None = []
listed (Some a) = a ∷ []

unfoldable pub attributes_added : MethodSource → Adding (List Attribute)
attributes_added m pool = do
  exceptions ← exceptions_added m.pausable pool
  receiver ← receiver_added m.receiver exceptions.1
  parameters ← parameters_added m.qualifiers.items receiver.1
  code ← code_added m.flags m.max_stack m.max_locals m.code.items m.frames.items parameters.1
  Ok (listed exceptions.0 ++ (listed receiver.0 ++ (listed parameters.0 ++ listed code.0)), code.1)

unfoldable pub method_added : MethodSource → Adding MemberInfo
method_added m pool = do
  n ← text_added (utf16_of (string_bytes m.name)) pool
  d ← text_added (utf16_of (string_bytes m.descriptor)) n.1
  attributes ← attributes_added m d.1
  Ok (member m.flags n.0 d.0 attributes.0, attributes.1)
