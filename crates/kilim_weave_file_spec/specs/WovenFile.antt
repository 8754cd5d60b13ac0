-- The woven class file: of a class file, the plain program in which it is a class, and the woven one.
use Rattle.std.specs.Prelude.{ℕ, suc, Bool, if◌then◌else◌, List, [], ◌∷◌, ◌++◌, map, Option, Some, None, codes}
use Rattle.std.specs.List.{flat_map, filter_map, list_any}
use Rattle.kilim_class_attributes.specs.declared.parts.annotation.AnnotationPart.{AnnotationPart}
use Rattle.kilim_class_attributes.specs.declared.parts.annotation.AnnotationPart.TheVariants.{Parameters, Annotations}
use Rattle.kilim_class_attributes.specs.declared.attribute.Attribute.{Attribute}
use Rattle.kilim_class_attributes.specs.declared.attribute.Code.{Code}
use Rattle.kilim_class_attributes.specs.declared.attribute.CodeAttribute.{CodeAttribute}
use Rattle.kilim_class_attributes.specs.declared.attribute.CodeInfo.{CodeInfo}
use Rattle.kilim_class_attributes.specs.declared.attribute.CodeInfo.TheVariants as part
use Rattle.kilim_class_attributes.specs.declared.attribute.Info.{Info}
use Rattle.kilim_class_attributes.specs.declared.attribute.Info.TheVariants as info
use Rattle.kilim_class_code.specs.Code.{code_text}
use Rattle.kilim_class_file.specs.declared.class_file.ClassFile.{ClassFile}
use Rattle.kilim_class_file.specs.declared.class_file.MemberInfo.{MemberInfo}
use Rattle.kilim_class_pool.specs.declared.entry.Entry.{Entry}
use Rattle.kilim_program.specs.declared.class.Method.{Method}
use Rattle.kilim_program.specs.Program.{Program}
use Rattle.kilim_program.specs.Names.{is_empty}
use Rattle.kilim_link_spec.specs.World.{member_descriptor}
use Rattle.kilim_link_spec.specs.Mentions.{instrs_if}
use Rattle.kilim_link_spec.specs.Code.{decoded}
use Rattle.kilim_class_making.specs.declared.pool_needs.need.Need.{Need}
use Rattle.kilim_class_making.specs.declared.pool_needs.need.Need.TheVariants.{AText}
use Rattle.kilim_class_making.specs.pool_needs.Adding.{with_needs, text_index}
use Rattle.kilim_weave_file_spec.specs.Texts.{woven_descriptor}
use Rattle.kilim_weave_file_spec.specs.Raw.{code_needs, raw_code, is_pausable_call}
use Rattle.kilim_weave_file_spec.specs.FullFrames.{full_frames, frames_needs}

-- A method of the file, with that of the plain and that of the woven program, and which of the woven instructions count.
pub record MethodPair : Type 0 where
  pub info : MemberInfo
  pub plain : Method
  pub method : Method
  pub counted : List Bool

-- ---- code

-- the name of a StackMapTable that is there
abbrev pub name_by : ℕ → CodeInfo → Option ℕ
name_by name (part.StackMapTable frames) = Some name
name_by name (part.Raw bytes) = None

abbrev pub table_name : CodeAttribute → Option ℕ
table_name a = name_by a.attribute_name_index a.info

abbrev pub head_of : {A : Type 0} → List A → Option A
head_of [] = None
head_of (x ∷ xs) = Some x

abbrev pub old_table : Code → Option ℕ
old_table code = head_of (filter_map table_name code.attributes)

abbrev pub has_calls : Program → Method → Bool
has_calls w m = list_any (λ e. is_pausable_call w e.1) m.code

abbrev pub table_with : Program → List Entry → ℕ → Method → CodeAttribute
table_with w pool name m = record { attribute_name_index = name; info = part.StackMapTable (full_frames w pool 0 m.frames) }

-- where there was a table or there are frames
abbrev pub table_by : Program → List Entry → Option ℕ → Method → List CodeAttribute
table_by w pool (Some name) m = table_with w pool name m ∷ []
table_by w pool None m = if is_empty m.frames then [] else table_with w pool (text_index pool (codes "StackMapTable")) m ∷ []

-- with pausable calls the code is written anew, else it stays byte for byte
abbrev pub woven_bytes : Program → List Entry → List Entry → Method → List Bool → Code → List ℕ
woven_bytes w old pool m counted code = if has_calls w m then code_text (raw_code w old pool m.code counted (instrs_if (decoded code.code))) else code.code

abbrev pub woven_code : Program → List Entry → List Entry → Method → List Bool → Code → Code
woven_code w old pool m counted code = record {
  max_stack = m.max_stack;
  max_locals = m.max_locals;
  code = woven_bytes w old pool m counted code;
  exception_table = code.exception_table;
  attributes = table_by w pool (old_table code) m;
}

-- ---- attributes

-- one parameter more, without annotations
abbrev pub one_parameter_more : List AnnotationPart → List AnnotationPart
one_parameter_more (Parameters count ∷ parts) = Parameters (suc count) ∷ (parts ++ Annotations 0 ∷ [])
one_parameter_more parts = parts

-- of the attributes of a method only code, exceptions and annotations stay
abbrev pub woven_info : Program → List Entry → List Entry → Method → List Bool → Info → Option Info
woven_info w old pool m counted (info.Code code) = Some (info.Code (woven_code w old pool m counted code))
woven_info w old pool m counted (info.Exceptions classes) = Some (info.Exceptions classes)
woven_info w old pool m counted (info.RuntimeVisibleAnnotations parts) = Some (info.RuntimeVisibleAnnotations parts)
woven_info w old pool m counted (info.RuntimeInvisibleAnnotations parts) = Some (info.RuntimeInvisibleAnnotations parts)
woven_info w old pool m counted (info.RuntimeVisibleParameterAnnotations parts) = Some (info.RuntimeVisibleParameterAnnotations (one_parameter_more parts))
woven_info w old pool m counted (info.RuntimeInvisibleParameterAnnotations parts) = Some (info.RuntimeInvisibleParameterAnnotations (one_parameter_more parts))
woven_info w old pool m counted _ = None

abbrev pub attribute_with : ℕ → Option Info → Option Attribute
attribute_with name None = None
attribute_with name (Some i) = Some (record { attribute_name_index = name; info = i })

abbrev pub woven_attribute : Program → List Entry → List Entry → Method → List Bool → Attribute → Option Attribute
woven_attribute w old pool m counted a = attribute_with a.attribute_name_index (woven_info w old pool m counted a.info)

-- ---- members: a method that isn't pausable stays

abbrev pub rewritten : Program → ClassFile → List Entry → Method → List Bool → MemberInfo → MemberInfo
rewritten w file pool m counted i = record {
  access_flags = i.access_flags;
  name_index = i.name_index;
  descriptor_index = text_index pool (woven_descriptor (member_descriptor file i));
  attributes = filter_map (woven_attribute w file.constant_pool pool m counted) i.attributes;
}

abbrev pub woven_member : Program → ClassFile → List Entry → MethodPair → MemberInfo
woven_member w file pool x = if x.plain.pausable then rewritten w file pool x.method x.counted x.info else x.info

-- ---- what the file needs, from its front to its back

abbrev pub table_need : Option ℕ → Method → List Need
table_need (Some name) m = []
table_need None m = if is_empty m.frames then [] else AText (codes "StackMapTable") ∷ []

abbrev pub instrs_needs : Program → List Entry → Method → List Bool → Code → List Need
instrs_needs w old m counted code = if has_calls w m then code_needs w old m.code counted (instrs_if (decoded code.code)) else []

abbrev pub info_needs : Program → List Entry → Method → List Bool → Info → List Need
info_needs w old m counted (info.Code code) = instrs_needs w old m counted code ++ (table_need (old_table code) m ++ frames_needs w m.frames)
info_needs w old m counted _ = []

abbrev pub member_needs : Program → ClassFile → MethodPair → List Need
member_needs w file x =
    if x.plain.pausable then AText (woven_descriptor (member_descriptor file x.info)) ∷ flat_map (λ (a : Attribute). info_needs w file.constant_pool x.method x.counted a.info) x.info.attributes
    else []

-- ---- the file

-- the methods of a file with those of the two programs
abbrev pub pairs_of : List MemberInfo → (plain woven : List Method) → List (List Bool) → List MethodPair
pairs_of (i ∷ is) (p ∷ ps) (m ∷ ms) (c ∷ cs) = record { info = i; plain = p; method = m; counted = c } ∷ pairs_of is ps ms cs
pairs_of _ _ _ _ = []

abbrev pub woven_pool : Program → ClassFile → List MethodPair → List Entry
woven_pool w file methods = with_needs file.constant_pool (flat_map (member_needs w file) methods)

-- The woven file: entries are added behind those of the pool, methods that pause are written anew.
unfoldable pub woven_file : Program → ClassFile → List MethodPair → ClassFile
woven_file w file methods =
    record file { constant_pool = woven_pool w file methods; methods = map (woven_member w file (woven_pool w file methods)) methods }
