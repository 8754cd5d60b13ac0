-- Examples at the edges: code, descriptors, names of classes and frames.
use Rattle.std.specs.Prelude.{◌≡◌, ℕ, pos, true, false, List, [], ◌∷◌, ◌++◌, replicate, Some, codes}
use Rattle.kilim_class_attributes.specs.declared.parts.frame.Frame.{Frame as FrameForm}
use Rattle.kilim_class_attributes.specs.declared.parts.frame.Frame.TheVariants as form
use Rattle.kilim_class_attributes.specs.declared.parts.frame.VerificationType.TheVariants as slot
use Rattle.kilim_class_attributes.specs.declared.attribute.Attribute.{Attribute}
use Rattle.kilim_class_attributes.specs.declared.attribute.Code.{Code}
use Rattle.kilim_class_attributes.specs.declared.attribute.CodeInfo.TheVariants.{StackMapTable}
use Rattle.kilim_class_code.specs.declared.fault.CodeFault.{CodeFault}
use Rattle.kilim_class_code.specs.declared.fault.CodeFault.TheVariants as code
use Rattle.kilim_class_file.specs.declared.class_file.ClassFile.{ClassFile}
use Rattle.kilim_class_pool.specs.declared.entry.Entry.{Entry}
use Rattle.kilim_class_pool.specs.declared.entry.Entry.TheVariants as entry
use Rattle.kilim_class_code.specs.declared.opcodes.fault.OpFault.TheVariants as op
use Rattle.kilim_program.specs.declared.class.Form.TheVariants.{Plain}
use Rattle.kilim_program.specs.declared.ty.Base.TheVariants as base
use Rattle.kilim_program.specs.declared.verified.Frame.{Frame}
use Rattle.kilim_program.specs.declared.verified.VType.TheVariants.{Top, Int, Long, Null, UninitThis, Uninit, Object}
use Rattle.kilim_program.specs.BuiltIn.{class_id}
use Rattle.kilim_link_spec.specs.declared.fault.LeftOutPart.TheVariants as part
use Rattle.kilim_link_spec.specs.declared.fault.Problem.{Problem}
use Rattle.kilim_link_spec.specs.declared.fault.Problem.TheVariants as problem
use Rattle.kilim_link_spec.specs.World.{world_of, declared_method}
use Rattle.kilim_link_spec.specs.Types.{typed}
use Rattle.kilim_link_spec.specs.Frames.{frames_in}
use Rattle.kilim_link_spec.specs.Faults.{descriptor_broken, is_class_name}
use Rattle.kilim_theorems.specs.link_examples.Examples.{file, object, p_name, member, texts, with_field, with_method, with_code, Named}
use Rattle.kilim_theorems.specs.link_examples.Details.{Fits, LeftOutOf, class_with, nothing, returns, m_name}
use Rattle.kilim_theorems.specs.link_examples.Search.{calls}

-- ---- code

abbrev pub CodeFails : List ℕ → List Entry → CodeFault → Type 0
CodeFails bytes more fault = Named (with_code bytes more ∷ []) p_name (problem.Code (record { name = m_name; descriptor = nothing }) fault)

-- `nop`, `goto` into itself, `return`
abbrev pub target_inside : Type 0
target_inside = CodeFails (0 ∷ 167 ∷ 0 ∷ 1 ∷ 177 ∷ []) [] (code.MidTarget 1 (pos 2))

abbrev pub unknown_number : Type 0
unknown_number = CodeFails (0 ∷ 202 ∷ 177 ∷ []) [] (code.Op (op.Unknown 202) 1)

-- `bipush` without its byte
abbrev pub cut_code : Type 0
cut_code = CodeFails (0 ∷ 16 ∷ []) [] (code.Op op.Cut 1)

-- first of all instructions whether they are some, then the targets, then the end
abbrev pub unknown_before_target : Type 0
unknown_before_target = CodeFails (167 ∷ 0 ∷ 1 ∷ 202 ∷ []) [] (code.Op (op.Unknown 202) 3)

abbrev pub target_before_end : Type 0
target_before_end = CodeFails (0 ∷ 167 ∷ 0 ∷ 1 ∷ 0 ∷ []) [] (code.MidTarget 1 (pos 2))

-- of an unknown and a left-out instruction the one that stands first
abbrev pub unknown_before_left_out : Type 0
unknown_before_left_out = CodeFails (202 ∷ 11 ∷ 177 ∷ []) [] (code.Op (op.Unknown 202) 0)

abbrev pub left_out_before_unknown : Type 0
left_out_before_unknown = LeftOutOf (with_code (11 ∷ 202 ∷ 177 ∷ []) [] ∷ []) (problem.LeftOut (part.Opcode 11))

-- a float array
abbrev pub float_array : Type 0
float_array = LeftOutOf (with_code (188 ∷ 6 ∷ 177 ∷ []) [] ∷ []) (problem.LeftOut (part.Opcode 188))

-- an index of a wrong kind is the second thing that is asked, and the first such place counts
abbrev pub end_before_index : Type 0
end_before_index = CodeFails (18 ∷ 0 ∷ []) [] (code.FallsOff 0)

abbrev pub index_zero : Type 0
index_zero = CodeFails (18 ∷ 0 ∷ 177 ∷ []) [] (code.Op (op.Unknown 18) 0)

abbrev pub index_past_the_end : Type 0
index_past_the_end = CodeFails (19 ∷ 0 ∷ 8 ∷ 177 ∷ []) [] (code.Op (op.Unknown 19) 0)

-- 8 is a Long, 9 its second index
abbrev pub second_of_long : Type 0
second_of_long = CodeFails (20 ∷ 0 ∷ 8 ∷ 20 ∷ 0 ∷ 9 ∷ 177 ∷ []) (entry.Long (pos 7) ∷ []) (code.Op (op.Unknown 20) 3)

abbrev pub long_by_ldc : Type 0
long_by_ldc = Fits (with_code (18 ∷ 8 ∷ 177 ∷ []) (entry.Long (pos 7) ∷ []) ∷ []) Plain

abbrev pub float_by_ldc : Type 0
float_by_ldc = CodeFails (18 ∷ 8 ∷ 177 ∷ []) (entry.Float 0 ∷ []) (code.Op (op.Unknown 18) 0)

abbrev pub new_array : Type 0
new_array = CodeFails (187 ∷ 0 ∷ 9 ∷ 177 ∷ []) (entry.Utf8 (codes "[LX;") ∷ entry.Class 8 ∷ []) (code.Op (op.Unknown 187) 0)

abbrev pub new_malformed_array : Type 0
new_malformed_array = CodeFails (187 ∷ 0 ∷ 9 ∷ 177 ∷ []) (entry.Utf8 (codes "[V") ∷ entry.Class 8 ∷ []) (code.Op (op.Unknown 187) 0)

abbrev pub field_by_method : Type 0
field_by_method = CodeFails (0 ∷ 178 ∷ 0 ∷ 9 ∷ 180 ∷ 0 ∷ 9 ∷ 177 ∷ []) (entry.NameAndType 5 6 ∷ entry.Methodref 2 8 ∷ []) (code.Op (op.Unknown 178) 1)

-- ---- descriptors

abbrev pub DescriptorFails : List ℕ → ℕ → ℕ → List Attribute → Type 0
DescriptorFails descriptor class_flags flags attributes = Named (class_with class_flags p_name object descriptor [] flags attributes ∷ []) p_name (problem.Descriptor descriptor)

abbrev pub DescriptorFits : List ℕ → ℕ → ℕ → List Attribute → Type 0
DescriptorFits descriptor class_flags flags attributes = Fits (class_with class_flags p_name object descriptor [] flags attributes ∷ []) Plain

-- so many parameters of type int
abbrev pub with_ints : ℕ → List ℕ
with_ints n = codes "(" ++ (replicate n 73 ++ codes ")V")

-- `this` is one of 255 slots
abbrev pub ints_of_static : Type 0
ints_of_static = DescriptorFits (with_ints 255) 0x0020 0x0008 returns

abbrev pub too_many_of_static : Type 0
too_many_of_static = DescriptorFails (with_ints 256) 0x0020 0x0008 returns

abbrev pub ints_of_instance : Type 0
ints_of_instance = DescriptorFits (with_ints 254) 0x0020 0x0001 returns

abbrev pub too_many_of_instance : Type 0
too_many_of_instance = DescriptorFails (with_ints 255) 0x0020 0x0001 returns

abbrev pub too_many_of_abstract : Type 0
too_many_of_abstract = DescriptorFails (with_ints 255) 0x0420 0x0401 []

abbrev pub void_parameter : Type 0
void_parameter = DescriptorFails (codes "(V)V") 0x0420 0x0401 []

-- an array of ints in so many dimensions
abbrev pub in_dims : ℕ → List ℕ
in_dims n = replicate n 91 ++ codes "I"

-- a task may hold it
abbrev pub field_of : List ℕ → ClassFile
field_of descriptor = with_field (file p_name (codes "kilim/Task") (texts m_name descriptor)) (member 0 [])

abbrev pub dims_255 : Type 0
dims_255 = Fits (field_of (in_dims 255) ∷ []) Plain

abbrev pub dims_256 : Type 0
dims_256 = Named (field_of (in_dims 256) ∷ []) p_name (problem.Descriptor (in_dims 256))

-- by `checkcast`
abbrev pub casts_to : List ℕ → ClassFile
casts_to name = with_code (192 ∷ 0 ∷ 9 ∷ 177 ∷ []) (entry.Utf8 name ∷ entry.Class 8 ∷ [])

abbrev pub cast_to_255 : Type 0
cast_to_255 = Fits (casts_to (in_dims 255) ∷ []) Plain

abbrev pub cast_to_256 : Type 0
cast_to_256 = Named (casts_to (in_dims 256) ∷ []) p_name (problem.Descriptor (in_dims 256))

-- `anewarray` of an array in 255 dimensions is judged by the verifier
abbrev pub elements_of_255 : Type 0
elements_of_255 = Fits (with_code (189 ∷ 0 ∷ 9 ∷ 177 ∷ []) (entry.Utf8 (in_dims 255) ∷ entry.Class 8 ∷ []) ∷ []) Plain

-- A descriptor that code names is counted without `this`: as `print` of `kilim/Sys`, which isn't there, but whose
-- descriptor is asked as well.
abbrev pub of_called : ℕ → List Problem
of_called n = let f = calls p_name object 182 (codes "kilim/Sys") (codes "print") (with_ints n) in descriptor_broken (world_of (f ∷ []) Plain) f (class_id 0)

abbrev pub called_with_255 : Type 0
called_with_255 = of_called 255 ≡ []

abbrev pub called_with_256 : Type 0
called_with_256 = of_called 256 ≡ problem.Descriptor (with_ints 256) ∷ []

-- a malformed array has no member
abbrev pub malformed_owner : Type 0
malformed_owner = Named (calls p_name object 182 (codes "[V") m_name nothing ∷ []) p_name (problem.NoMember (record { owner = codes "[V"; name = m_name; descriptor = nothing }))

-- ---- names of classes

abbrev pub NameFails : List ℕ → Type 0
NameFails name = Named (file name object [] ∷ []) name problem.Name

abbrev pub NameFits : List ℕ → Type 0
NameFits name = Fits (file name object [] ∷ []) Plain

abbrev pub name_with_dot : Type 0
name_with_dot = NameFails (codes "a.b")

abbrev pub name_with_semicolon : Type 0
name_with_semicolon = NameFails (codes "a;b")

abbrev pub name_with_bracket : Type 0
name_with_bracket = NameFails (codes "a[b")

abbrev pub name_behind_slash : Type 0
name_behind_slash = NameFails (codes "/a")

abbrev pub name_before_slash : Type 0
name_before_slash = NameFails (codes "a/")

abbrev pub no_name : Type 0
no_name = NameFails []

abbrev pub slash_alone : Type 0
slash_alone = NameFails (codes "/")

abbrev pub other_characters : Type 0
other_characters = NameFits (codes "a/<b>(c) -1")

abbrev pub of_a_package_of_ours : Type 0
of_a_package_of_ours = NameFits (codes "kilim/Free")

-- at most 65,000 bytes: an ASCII letter takes one, a unit from U+0800 on three
abbrev pub name_of_65000 : Type 0
name_of_65000 = is_class_name (replicate 65000 97) ≡ true

abbrev pub name_of_65001 : Type 0
name_of_65001 = is_class_name (replicate 65001 97) ≡ false

abbrev pub wide_name_of_65000 : Type 0
wide_name_of_65000 = is_class_name (97 ∷ 97 ∷ replicate 21666 0x4E2D) ≡ true

abbrev pub wide_name_of_65001 : Type 0
wide_name_of_65001 = is_class_name (replicate 21667 0x4E2D) ≡ false

-- ---- frames: of a static method `m(JI)V` its arguments alone, by taking away all of them, and in full

abbrev pub static_file : ClassFile
static_file = with_method (file p_name object (texts m_name (codes "(JI)V") ++ (entry.Utf8 (codes "[[I") ∷ entry.Class 7 ∷ []))) (member 0x0008 [])

abbrev pub static_table : List FrameForm
static_table =
    form.SameExtended 7
    ∷ form.Chop 2 0
    ∷ form.Append 65535 (slot.Null ∷ slot.Top ∷ slot.Uninitialized 9 ∷ [])
    ∷ form.Full 1 (slot.UninitializedThis ∷ slot.Long ∷ slot.Top ∷ []) (slot.Object 8 ∷ slot.Object 2 ∷ [])
    ∷ form.SameLocals1StackItemExtended 2 slot.Long
    ∷ []

abbrev pub static_frames : List (ℕ × Frame)
static_frames =
    (7, record { locals = Long ∷ Top ∷ Int ∷ []; stack = [] })
    ∷ (8, record { locals = []; stack = [] })
    ∷ (65544, record { locals = Null ∷ Top ∷ Uninit 9 ∷ []; stack = [] })
    ∷ (65546, record { locals = UninitThis ∷ Long ∷ Top ∷ Top ∷ []; stack = Object (typed 2 base.Int) ∷ Object (typed 0 (base.Class (class_id 0))) ∷ [] })
    ∷ (65549, record { locals = UninitThis ∷ Long ∷ Top ∷ Top ∷ []; stack = Long ∷ [] })
    ∷ []

abbrev pub framed_with : List FrameForm → Code
framed_with frames = record { max_stack = 0; max_locals = 0; code = []; exception_table = []; attributes = record { attribute_name_index = 7; info = StackMapTable frames } ∷ [] }

abbrev pub frames_of_static : Type 0
frames_of_static =
    frames_in (world_of (static_file ∷ []) Plain) static_file (class_id 0) (declared_method static_file (member 0x0008 [])) (framed_with static_table) ≡ Some static_frames

pub record EdgesHold : Type 0 where
  pub has_target_inside : target_inside
  pub has_unknown_number : unknown_number
  pub has_cut_code : cut_code
  pub has_unknown_before_target : unknown_before_target
  pub has_target_before_end : target_before_end
  pub has_unknown_before_left_out : unknown_before_left_out
  pub has_left_out_before_unknown : left_out_before_unknown
  pub has_float_array : float_array
  pub has_end_before_index : end_before_index
  pub has_index_zero : index_zero
  pub has_index_past_the_end : index_past_the_end
  pub has_second_of_long : second_of_long
  pub has_long_by_ldc : long_by_ldc
  pub has_float_by_ldc : float_by_ldc
  pub has_new_array : new_array
  pub has_new_malformed_array : new_malformed_array
  pub has_field_by_method : field_by_method
  pub has_ints_of_static : ints_of_static
  pub has_too_many_of_static : too_many_of_static
  pub has_ints_of_instance : ints_of_instance
  pub has_too_many_of_instance : too_many_of_instance
  pub has_too_many_of_abstract : too_many_of_abstract
  pub has_void_parameter : void_parameter
  pub has_dims_255 : dims_255
  pub has_dims_256 : dims_256
  pub has_cast_to_255 : cast_to_255
  pub has_cast_to_256 : cast_to_256
  pub has_elements_of_255 : elements_of_255
  pub has_called_with_255 : called_with_255
  pub has_called_with_256 : called_with_256
  pub has_malformed_owner : malformed_owner
  pub has_name_with_dot : name_with_dot
  pub has_name_with_semicolon : name_with_semicolon
  pub has_name_with_bracket : name_with_bracket
  pub has_name_behind_slash : name_behind_slash
  pub has_name_before_slash : name_before_slash
  pub has_no_name : no_name
  pub has_slash_alone : slash_alone
  pub has_other_characters : other_characters
  pub has_of_a_package_of_ours : of_a_package_of_ours
  pub has_name_of_65000 : name_of_65000
  pub has_name_of_65001 : name_of_65001
  pub has_wide_name_of_65000 : wide_name_of_65000
  pub has_wide_name_of_65001 : wide_name_of_65001
  pub has_frames_of_static : frames_of_static
