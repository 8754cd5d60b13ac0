-- The program that some class files are (JVMS chapter 5, own profile): the classes of the files in order and then the
-- built-in ones, members numbered class by class in declared order, each index of code replaced by what it names in
-- the named class or its nearest ancestor.
use Rattle.std.specs.Prelude.{◌≡◌, ℕ, suc, false, ◌==◌, if◌then◌else◌, List, [], ◌∷◌, ◌++◌, length, map, Option, Some, None, option_map}
use Rattle.std.specs.List.{flat_map, filter_map, range_with_len}
use Rattle.kilim_class_attributes.specs.declared.attribute.Code.{Code}
use Rattle.kilim_class_attributes.specs.declared.attribute.ExceptionHandler.{ExceptionHandler}
use Rattle.kilim_class_attributes.specs.declared.attribute.Info.{Info}
use Rattle.kilim_class_attributes.specs.declared.attribute.Info.TheVariants as info
use Rattle.kilim_class_file.specs.declared.class_file.ClassFile.{ClassFile}
use Rattle.kilim_class_file.specs.declared.class_file.MemberInfo.{MemberInfo}
use Rattle.kilim_class_pool.specs.declared.entry.Entry.{Entry}
use Rattle.kilim_class_pool.specs.Entries.{entry_at}
use Rattle.kilim_program.specs.declared.class.Class.{Class}
use Rattle.kilim_program.specs.declared.class.Field.{Field}
use Rattle.kilim_program.specs.declared.class.Form.{Form}
use Rattle.kilim_program.specs.declared.class.Handler.{Handler}
use Rattle.kilim_program.specs.declared.class.Method.{Method}
use Rattle.kilim_program.specs.declared.instr.Instr.{Instr}
use Rattle.kilim_program.specs.declared.names.ClassId.{ClassId}
use Rattle.kilim_program.specs.declared.ty.Ty.{Ty}
use Rattle.kilim_program.specs.declared.value.Value.{Value}
use Rattle.kilim_program.specs.declared.verified.Frame.{Frame}
use Rattle.kilim_program.specs.Program.{Program}
use Rattle.kilim_program.specs.BuiltIn.{class_id, method_id, built_in_classes_in, built_in_fields, built_in_methods_in}
use Rattle.kilim_program.specs.Kinds.{is_message}
use Rattle.kilim_program.specs.Names.{◌>>=◌}
use Rattle.kilim_link_spec.specs.World.{World, world_of, own_name, super_name, class_of, member_name, member_descriptor, class_text, has_flag, acc_private, acc_static, acc_abstract, declared_method, field_id, first_method, first_field}
use Rattle.kilim_link_spec.specs.Types.{field_text, method_text, type_in, types_in, result_in, each_of, itself}
use Rattle.kilim_link_spec.specs.Qualified.{qualified}
use Rattle.kilim_link_spec.specs.Code.{constant_ref, decoded, code_of}
use Rattle.kilim_link_spec.specs.Frames.{frames_in}
pub use Rattle.kilim_link_spec.specs.declared.named.Body.{Body}

-- ---- fields

-- an Integer, a Long or a String (JVMS 4.7.2)
abbrev pub constant_by : List Entry → Info → Option Value
constant_by pool (info.ConstantValue index) = constant_ref pool (entry_at pool index)
constant_by pool _ = None

-- the first one, where there is one
abbrev pub first_of : {A : Type 0} → List A → Option A
first_of [] = None
first_of (x ∷ xs) = Some x

-- the constant of a field, by its ConstantValue
abbrev pub constant_of : List Entry → MemberInfo → Option Value
constant_of pool field = first_of (filter_map (λ a. constant_by pool a.info) field.attributes)

-- a static field has its constant; the ConstantValue of another field is ignored
abbrev pub field_with : ClassFile → ClassId → MemberInfo → Ty → Field
field_with file c field ty = record {
  name = member_name file field;
  ty = ty;
  owner = c;
  is_static = has_flag acc_static field.access_flags;
  is_private = has_flag acc_private field.access_flags;
  constant = if has_flag acc_static field.access_flags then constant_of file.constant_pool field else None;
}

-- a field of a class in a program, where its type is there
abbrev pub linked_field : World → ClassFile → ClassId → MemberInfo → Option Field
linked_field w file c field = do
  text ← field_text (member_descriptor file field)
  ty ← type_in w text
  Some (field_with file c field ty)

-- ---- methods

-- the code in an attribute
abbrev pub code_in : Info → Option Code
code_in (info.Code code) = Some code
code_in _ = None

-- the Code attribute of a method, of which there is at most one
abbrev pub code_attribute : MemberInfo → Option Code
code_attribute method = first_of (filter_map (λ a. code_in a.info) method.attributes)

-- the class that an entry of an exception table names, where it is there; an entry with index 0 catches everything
abbrev pub catch_of : World → List Entry → ℕ → Option (Option ClassId)
catch_of w pool index = if index == 0 then Some None else option_map Some (class_of w (class_text pool index))

-- an entry with what it catches
abbrev pub handler_with : ExceptionHandler → Option ClassId → Handler
handler_with row catch = record { start = row.start_pc; end = row.end_pc; at = row.handler_pc; catch = catch }

-- an entry of an exception table (JVMS 4.7.3), where what it catches is there
abbrev pub handler_in : World → List Entry → ExceptionHandler → Option Handler
handler_in w pool row = option_map (handler_with row) (catch_of w pool row.catch_type)

-- the exception table of code, where what its entries catch is there
abbrev pub handlers_in : World → List Entry → List ExceptionHandler → Option (List Handler)
handlers_in w pool rows = each_of (handler_in w pool) rows

-- what the code of a method comes to: without a Code attribute nothing
abbrev pub no_body : Body
no_body = record { max_stack = 0; max_locals = 0; code_length = 0; code = []; frames = []; handlers = [] }

-- with code of these instructions and frames, and with this exception table
abbrev pub body_with : Code → List (ℕ × Instr) → List Handler → List (ℕ × Frame) → Body
body_with code instrs handlers frames =
    record { max_stack = code.max_stack; max_locals = code.max_locals; code_length = length code.code; code = instrs; frames = frames; handlers = handlers }

-- what the code of a method comes to, where it has no fault and all that it names is there
abbrev pub body_in : World → ClassFile → ClassId → MemberInfo → Option Code → Option Body
body_in w file c method None = Some no_body
body_in w file c method (Some code) = do
  instrs ← code_of w file.constant_pool (decoded code.code)
  handlers ← handlers_in w file.constant_pool code.exception_table
  frames ← frames_in w file c (declared_method file method) code
  Some (body_with code instrs handlers frames)

-- a method with its types and its body
abbrev pub method_with : World → ClassFile → ClassId → MemberInfo → List Ty → Option Ty → Body → Method
method_with w file c method params result body =
    let m = declared_method file method in
    let q = qualified w c m in
    record {
      name = m.name;
      owner = c;
      params = params;
      result = result;
      is_static = m.is_static;
      is_private = m.is_private;
      is_abstract = m.is_abstract;
      built_in = false;
      pausable = m.pausable;
      receiver = q.receiver;
      qualifiers = q.params;
      max_stack = body.max_stack;
      max_locals = body.max_locals;
      code_length = body.code_length;
      code = body.code;
      frames = body.frames;
      handlers = body.handlers;
    }

-- a method of a class in a program, where its types and its body are there
abbrev pub linked_method : World → ClassFile → ClassId → MemberInfo → Option Method
linked_method w file c method = do
  text ← method_text (member_descriptor file method)
  params ← types_in w text.params
  result ← result_in w text.result
  body ← body_in w file c method (code_attribute method)
  Some (method_with w file c method params result body)

-- ---- classes

-- a class in a program, where its superclass is there
abbrev pub linked_class : World → ClassFile → ClassId → Option Class
linked_class w file c = do
  up ← class_of w (super_name file)
  Some (record {
    name = own_name file;
    superclass = Some up;
    is_abstract = has_flag acc_abstract file.access_flags;
    message = is_message w.outline c;
    fields = map field_id (range_with_len (first_field w c) (length file.fields));
    methods = map method_id (range_with_len (first_method w c) (length file.methods));
  })

-- ---- the program

-- what is made of each file with its number
abbrev pub numbered : {A : Type 0} → (ClassFile → ClassId → A) → ℕ → List ClassFile → List A
numbered make n [] = []
numbered make n (file ∷ files) = make file (class_id n) ∷ numbered make (suc n) files

-- what is made of each member, class by class
abbrev pub members : {A : Type 0} → (ClassFile → List MemberInfo) → (ClassFile → ClassId → MemberInfo → A) → List ClassFile → List A
members list make files = flat_map itself (numbered (λ file c. map (make file c) (list file)) 0 files)

-- the classes and methods of files, and behind them the built-in ones; before their fields the built-in one
abbrev pub program_with : List ClassFile → Form → List Class → List Field → List Method → Program
program_with files form classes fields methods = record {
  classes = classes ++ built_in_classes_in form (length files) (length methods);
  methods = methods ++ built_in_methods_in form (length files);
  fields = built_in_fields (length files) ++ fields;
  form = form;
}

-- The program of some files in a form. There is none where a superclass, a type or what code names isn't there, a type is
-- float or double, a descriptor is malformed, or code has a fault. Files with other faults have one too: that there is a
-- program doesn't say that there is no fault.
unfoldable pub program_of : List ClassFile → Form → Option Program
program_of files form =
    let w = world_of files form in do
      classes ← each_of itself (numbered (linked_class w) 0 files)
      fields ← each_of itself (members (λ file. file.fields) (linked_field w) files)
      methods ← each_of itself (members (λ file. file.methods) (linked_method w) files)
      Some (program_with files form classes fields methods)

-- The files link to the program.
abbrev pub Linked : List ClassFile → Form → Program → Type 0
Linked files form p = program_of files form ≡ Some p

-- No files link to two programs.
abbrev pub OneProgram : Type 0
OneProgram = (files : List ClassFile) (form : Form) (p q : Program) → Linked files form p → Linked files form q → p ≡ q
