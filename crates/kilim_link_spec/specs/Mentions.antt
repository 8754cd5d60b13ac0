-- What a class file names, in the order of its bytes: the superclass, the interfaces, the fields' descriptors, then for
-- each method its descriptor, its code, its exception table and its frames. Code that has a fault names nothing, nor does an index that names
-- no entry of a kind that its instruction takes. Entries of the pool that nothing refers to name nothing.
use Rattle.std.specs.Prelude.{ℕ, suc, Bool, false, ◌==◌, if◌then◌else◌, List, [], ◌∷◌, ◌++◌, map, Option, Some, None, Result, Ok, Err}
use Rattle.std.specs.List.{flat_map}
use Rattle.kilim_class_code.specs.opcodes.Numbers as opcode
use Rattle.kilim_class_attributes.specs.declared.parts.frame.Frame.{Frame as FrameForm}
use Rattle.kilim_class_attributes.specs.declared.parts.frame.Frame.TheVariants.{SameLocals1StackItem, SameLocals1StackItemExtended, Append, Full}
use Rattle.kilim_class_attributes.specs.declared.parts.frame.VerificationType.{VerificationType}
use Rattle.kilim_class_attributes.specs.declared.parts.frame.VerificationType.TheVariants as entry
use Rattle.kilim_class_attributes.specs.declared.attribute.Code.{Code}
use Rattle.kilim_class_attributes.specs.declared.attribute.ExceptionHandler.{ExceptionHandler}
use Rattle.kilim_class_code.specs.declared.fault.CodeFault.{CodeFault}
use Rattle.kilim_class_code.specs.Code.{Placed}
use Rattle.kilim_class_file.specs.declared.class_file.ClassFile.{ClassFile}
use Rattle.kilim_class_file.specs.declared.class_file.MemberInfo.{MemberInfo}
use Rattle.kilim_class_pool.specs.declared.entry.Entry.{Entry}
use Rattle.kilim_class_descriptors.specs.declared.types.BaseText.TheVariants as text
use Rattle.kilim_class_descriptors.specs.declared.types.FieldText.{FieldText}
use Rattle.kilim_class_code.specs.declared.opcodes.instr.RawInstr.{RawInstr}
use Rattle.kilim_program.specs.Names.{◌>>=◌}
use Rattle.kilim_link_spec.specs.World.{acc_static, has_flag, super_name, interface_names, member_descriptor, class_text}
use Rattle.kilim_link_spec.specs.Types.{Named, AClass, AnArray, Malformed, named_by, field_text, method_text, type_names, types_of_field, types_of_method}
use Rattle.kilim_link_spec.specs.Code.{Operand, AConstant, AField, AMethod, AType, index_in, operand_at, decoded}
use Rattle.kilim_link_spec.specs.Frames.{tables_in}
use Rattle.kilim_link_spec.specs.Linked.{code_attribute}
pub use Rattle.kilim_link_spec.specs.declared.named.Mention.{Mention}
pub use Rattle.kilim_link_spec.specs.declared.named.Mention.TheVariants.{OfClass, OfElement, OfField, OfMethod, OfFloat}
pub use Rattle.kilim_link_spec.specs.declared.named.Member.{Member}
pub use Rattle.kilim_link_spec.specs.declared.named.Member.TheVariants.{Field, Method}

-- ---- in code

-- the instructions of a method's code that has no fault
abbrev pub instrs_if : Result (List Placed) CodeFault → List Placed
instrs_if (Ok code) = code
instrs_if (Err fault) = []

-- the same of code that is there
abbrev pub instrs_in : Option Code → List Placed
instrs_in None = []
instrs_in (Some code) = instrs_if (decoded code.code)

-- the same of a method, by its Code attribute
abbrev pub instrs_of : MemberInfo → List Placed
instrs_of method = instrs_in (code_attribute method)

-- the number of an instruction and what its index names
abbrev pub operand_of : List Entry → RawInstr → Option Operand
operand_of pool instr = index_in instr >>= operand_at pool

-- the instruction is `anewarray`: what its index names are the elements of the array that it makes
abbrev pub is_anewarray : Option (ℕ × ℕ) → Bool
is_anewarray None = false
is_anewarray (Some x) = x.0 == opcode.anewarray

-- the owner first, and then the descriptor
abbrev pub mentions_of_operand : Bool → Option Operand → List Mention
mentions_of_operand makes_array None = []
mentions_of_operand makes_array (Some (AConstant value)) = []
mentions_of_operand makes_array (Some (AField member)) = OfClass (named_by member.owner) ∷ OfField member.descriptor ∷ []
mentions_of_operand makes_array (Some (AMethod member)) = OfClass (named_by member.owner) ∷ OfMethod 0 member.descriptor ∷ []
mentions_of_operand makes_array (Some (AType class)) = if makes_array then OfElement class ∷ [] else OfClass class ∷ []

-- what an instruction names
abbrev pub mentions_of_instr : List Entry → RawInstr → List Mention
mentions_of_instr pool instr = mentions_of_operand (is_anewarray (index_in instr)) (operand_of pool instr)

-- the members that code names, a field or a method, in order
-- the member that an index names
abbrev pub members_of_operand : Option Operand → List Member
members_of_operand (Some (AField member)) = Field member ∷ []
members_of_operand (Some (AMethod member)) = Method member ∷ []
members_of_operand _ = []

-- the members that the code of a file names, method by method
unfoldable pub members_named : ClassFile → List Member
members_named file = flat_map (λ m. flat_map (λ p. members_of_operand (operand_of file.constant_pool p.1)) (instrs_of m)) file.methods

-- ---- in exception tables

-- what an entry catches, where that isn't everything (JVMS 4.7.3)
abbrev pub mentions_of_row : List Entry → ExceptionHandler → List Mention
mentions_of_row pool row = if row.catch_type == 0 then [] else OfClass (named_by (class_text pool row.catch_type)) ∷ []

-- the entries of the table of code, where it is there
abbrev pub rows_if : Option Code → List ExceptionHandler
rows_if None = []
rows_if (Some code) = code.exception_table

-- ---- in frames, the locals before the stack

-- the types that a frame writes down (JVMS 4.7.4)
abbrev pub slots_of_frame : FrameForm → List VerificationType
slots_of_frame (SameLocals1StackItem delta item) = item ∷ []
slots_of_frame (SameLocals1StackItemExtended delta item) = item ∷ []
slots_of_frame (Append delta locals) = locals
slots_of_frame (Full delta locals stack) = locals ++ stack
slots_of_frame _ = []

-- what a type of a frame names
abbrev pub mentions_of_slot : List Entry → VerificationType → List Mention
mentions_of_slot pool (entry.Object class) = OfClass (named_by (class_text pool class)) ∷ []
mentions_of_slot pool entry.Float = OfFloat ∷ []
mentions_of_slot pool entry.Double = OfFloat ∷ []
mentions_of_slot pool _ = []

-- the frames of code, where it is there
abbrev pub frames_if : Option Code → List FrameForm
frames_if None = []
frames_if (Some code) = tables_in code

-- ---- in a file

-- `this` is an argument of an instance method
abbrev pub this_slots : MemberInfo → ℕ
this_slots method = if has_flag acc_static method.access_flags then 0 else 1

-- what a method names: its descriptor, its code, its exception table, its frames
abbrev pub mentions_of_method : ClassFile → MemberInfo → List Mention
mentions_of_method file method =
    OfMethod (this_slots method) (member_descriptor file method)
    ∷ (flat_map (λ p. mentions_of_instr file.constant_pool p.1) (instrs_of method)
    ++ (flat_map (mentions_of_row file.constant_pool) (rows_if (code_attribute method))
    ++ flat_map (λ f. flat_map (mentions_of_slot file.constant_pool) (slots_of_frame f)) (frames_if (code_attribute method))))

-- what a file names, in order
unfoldable pub mentions_of : ClassFile → List Mention
mentions_of file =
    OfClass (AClass (super_name file))
    ∷ (map (λ name. OfClass (AClass name)) (interface_names file)
    ++ (map (λ f. OfField (member_descriptor file f)) file.fields
    ++ flat_map (mentions_of_method file) file.methods))

-- ---- what mentions come to

-- the types in what a class entry names: the array, where it is one
abbrev pub named_types : Named → List FieldText
named_types (AClass name) = []
named_types (AnArray type) = type ∷ []
named_types (Malformed name) = []

-- the type of an array of such elements
abbrev pub element_types : Named → List FieldText
element_types (AClass name) = record { dims = 1; base = text.Class name } ∷ []
element_types (AnArray type) = record type { dims = suc type.dims } ∷ []
element_types (Malformed name) = []

-- the types in a mention, of descriptors and of arrays
abbrev pub types_mentioned : Mention → List FieldText
types_mentioned (OfClass class) = named_types class
types_mentioned (OfElement class) = element_types class
types_mentioned (OfField descriptor) = types_of_field (field_text descriptor)
types_mentioned (OfMethod slots descriptor) = types_of_method (method_text descriptor)
types_mentioned OfFloat = []

-- the name of a class that is named as one
abbrev pub plain_names : Mention → List (List ℕ)
plain_names (OfClass (AClass name)) = name ∷ []
plain_names _ = []

-- the names of classes in a mention
abbrev pub names_mentioned : Mention → List (List ℕ)
names_mentioned mention = plain_names mention ++ flat_map type_names (types_mentioned mention)

-- the names of all classes that a file names, in order
unfoldable pub class_names : ClassFile → List (List ℕ)
class_names file = flat_map names_mentioned (mentions_of file)

-- all types that a file names, in order
unfoldable pub all_types : ClassFile → List FieldText
all_types file = flat_map types_mentioned (mentions_of file)
