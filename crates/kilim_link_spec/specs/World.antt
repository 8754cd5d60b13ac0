-- The classes of some files and the built-in ones, with their members by name and descriptor: a list that is searched.
use Rattle.std.specs.Prelude.{ℕ, suc, ◌+◌, Bool, true, false, ◌&&◌, not, ◌==◌, bit_and, List, [], ◌∷◌, ◌++◌, map, length, take, slice_get, sum_by, Option, Some, None, option_map, codes}
use Rattle.std.specs.List.{list_any, flat_map, filter_map, position_from}
use Rattle.std.specs.Str.{bytes_eq}
use Rattle.kilim_program.specs.declared.class.Class.{Class}
use Rattle.kilim_program.specs.declared.class.Form.{Form}
use Rattle.kilim_program.specs.declared.class.Method.{Method}
use Rattle.kilim_program.specs.declared.names.ClassId.{ClassId}
use Rattle.kilim_program.specs.declared.names.FieldId.{FieldId}
use Rattle.kilim_program.specs.declared.names.MethodId.{MethodId}
use Rattle.kilim_program.specs.declared.ty.Ty.{Ty}
use Rattle.kilim_program.specs.Program.{Program}
use Rattle.kilim_program.specs.BuiltIn.{class_id, method_id, built_in_classes_in, built_in_fields, built_in_methods_in, is_final_built_in}
pub use Rattle.kilim_program.specs.BuiltIn.{field_id}
use Rattle.kilim_program.specs.Kinds.{is_marked}
use Rattle.kilim_program.specs.Names.{◌>>=◌, class_at, class_name, class_named, descriptor, line_of, method_at}
use Rattle.kilim_class_pool.specs.declared.entry.Entry.{Entry}
use Rattle.kilim_class_pool.specs.declared.entry.Entry.TheVariants as entry
use Rattle.kilim_class_pool.specs.Entries.{entry_at}
use Rattle.kilim_class_attributes.specs.declared.parts.annotation.AnnotationPart.{AnnotationPart}
use Rattle.kilim_class_attributes.specs.declared.attribute.Info.{Info}
use Rattle.kilim_class_attributes.specs.declared.attribute.Info.TheVariants as info
use Rattle.kilim_class_file.specs.declared.class_file.ClassFile.{ClassFile}
use Rattle.kilim_class_file.specs.declared.class_file.MemberInfo.{MemberInfo}
use Rattle.kilim_class_file.specs.Parts.{text_of}
use Rattle.kilim_link_spec.specs.Annotations.{types_on_member, params_in}
pub use Rattle.kilim_link_spec.specs.declared.view.Marks.{Marks}
pub use Rattle.kilim_link_spec.specs.declared.view.Marks.TheVariants.{Stated, Annotated}
pub use Rattle.kilim_link_spec.specs.declared.view.DeclaredMethod.{DeclaredMethod}
pub use Rattle.kilim_link_spec.specs.declared.view.DeclaredField.{DeclaredField}
pub use Rattle.kilim_link_spec.specs.declared.view.ClassView.{ClassView}

-- ---- names and flags of a file

-- the name of a class, which may be an array's descriptor (JVMS 4.4.1)
abbrev pub name_in : List Entry → Option Entry → List ℕ
name_in pool (Some (entry.Class name)) = text_of pool name
name_in pool _ = []

-- the name that an index of the pool names as a class
unfoldable pub class_text : List Entry → ℕ → List ℕ
class_text pool index = name_in pool (entry_at pool index)

-- the name of the class (JVMS 4.1)
abbrev pub own_name : ClassFile → List ℕ
own_name file = class_text file.constant_pool file.this_class

-- the name of its superclass
abbrev pub super_name : ClassFile → List ℕ
super_name file = class_text file.constant_pool file.super_class

-- the names of the interfaces that it lists
abbrev pub interface_names : ClassFile → List (List ℕ)
interface_names file = map (class_text file.constant_pool) file.interfaces

-- the name of a field or a method (JVMS 4.5, 4.6)
abbrev pub member_name : ClassFile → MemberInfo → List ℕ
member_name file member = text_of file.constant_pool member.name_index

-- its descriptor
abbrev pub member_descriptor : ClassFile → MemberInfo → List ℕ
member_descriptor file member = text_of file.constant_pool member.descriptor_index

-- whether a flag is set (JVMS tables 4.1-A, 4.5-A and 4.6-A)
abbrev pub has_flag : ℕ → ℕ → Bool
has_flag flag flags = not (bit_and flags flag == 0)

-- of a member: ACC_PRIVATE
abbrev pub acc_private : ℕ
acc_private = 0x0002

-- of a member: ACC_STATIC
abbrev pub acc_static : ℕ
acc_static = 0x0008

-- of a class or a member: ACC_FINAL
abbrev pub acc_final : ℕ
acc_final = 0x0010

-- of a class: ACC_SUPER
abbrev pub acc_super : ℕ
acc_super = 0x0020

-- of a method: ACC_SYNCHRONIZED
abbrev pub acc_synchronized : ℕ
acc_synchronized = 0x0020

-- of a method: ACC_NATIVE
abbrev pub acc_native : ℕ
acc_native = 0x0100

-- of a class: ACC_INTERFACE
abbrev pub acc_interface : ℕ
acc_interface = 0x0200

-- of a class or a method: ACC_ABSTRACT
abbrev pub acc_abstract : ℕ
acc_abstract = 0x0400

-- ---- of a file

-- an Exceptions attribute that lists `kilim/Pausable`
abbrev pub lists_pausable : List Entry → Info → Bool
lists_pausable pool (info.Exceptions classes) = list_any (λ c. bytes_eq (class_text pool c) (codes "kilim/Pausable")) classes
lists_pausable pool _ = false

-- A method pauses exactly where its Exceptions attribute lists `kilim/Pausable` (own; JVMS 4.7.5).
abbrev pub is_pausable : List Entry → MemberInfo → Bool
is_pausable pool method = list_any (λ a. lists_pausable pool a.info) method.attributes

-- the annotations that an attribute puts on a member
abbrev pub annotation_parts : Info → List AnnotationPart
annotation_parts (info.RuntimeVisibleAnnotations parts) = parts
annotation_parts (info.RuntimeInvisibleAnnotations parts) = parts
annotation_parts _ = []

-- the types of the annotations on a member, by all of its attributes
abbrev pub annotation_types : List Entry → MemberInfo → List (List ℕ)
annotation_types pool member = flat_map (λ a. map (text_of pool) (types_on_member (annotation_parts a.info))) member.attributes

-- the annotations that an attribute puts on parameters
abbrev pub parameter_parts : Info → Option (List AnnotationPart)
parameter_parts (info.RuntimeVisibleParameterAnnotations parts) = Some parts
parameter_parts (info.RuntimeInvisibleParameterAnnotations parts) = Some parts
parameter_parts _ = None

-- of each attribute of parameters, the types of the annotations on each parameter
abbrev pub parameter_types : List Entry → MemberInfo → List (List (List (List ℕ)))
parameter_types pool method = map (λ parts. map (λ types. map (text_of pool) types) (params_in parts)) (filter_map (λ a. parameter_parts a.info) method.attributes)

-- a method of a file
abbrev pub declared_method : ClassFile → MemberInfo → DeclaredMethod
declared_method file method = record {
  name = member_name file method;
  descriptor = member_descriptor file method;
  is_static = has_flag acc_static method.access_flags;
  is_private = has_flag acc_private method.access_flags;
  is_abstract = has_flag acc_abstract method.access_flags;
  is_final = has_flag acc_final method.access_flags;
  pausable = is_pausable file.constant_pool method;
  marks = Annotated (annotation_types file.constant_pool method) (parameter_types file.constant_pool method);
}

-- a field of a file
abbrev pub declared_field : ClassFile → MemberInfo → DeclaredField
declared_field file field = record { name = member_name file field; descriptor = member_descriptor file field }

-- the class of a file
abbrev pub view_of_file : ClassFile → ClassView
view_of_file file = record {
  name = own_name file;
  superclass = Some (super_name file);
  is_marked = list_any (λ name. bytes_eq name (codes "kilim/Message")) (interface_names file);
  is_abstract = has_flag acc_abstract file.access_flags;
  is_final = has_flag acc_final file.access_flags;
  is_built_in = false;
  fields = map (declared_field file) file.fields;
  methods = map (declared_method file) file.methods;
}

-- ---- built in

-- the built-in classes and methods of a form, as a program of their own
abbrev pub built_ins : Form → Program
built_ins form = record { classes = built_in_classes_in form 0 0; methods = built_in_methods_in form 0; fields = built_in_fields 0; form = form }

-- the text of a method's descriptor (JVMS 4.3.3)
abbrev pub result_descriptor : Program → Option Ty → List ℕ
result_descriptor p None = codes "V"
result_descriptor p (Some ty) = descriptor p ty

-- the text of the descriptor of a built-in method
abbrev pub method_descriptor : Program → Method → List ℕ
method_descriptor p method = codes "(" ++ (flat_map (descriptor p) method.params ++ (codes ")" ++ result_descriptor p method.result))

-- a built-in method as if it were declared
abbrev pub declared_built_in : Program → Method → DeclaredMethod
declared_built_in p method = record {
  name = method.name;
  descriptor = method_descriptor p method;
  is_static = method.is_static;
  is_private = method.is_private;
  is_abstract = method.is_abstract;
  is_final = false;
  pausable = method.pausable;
  marks = Stated method.receiver method.qualifiers;
}

-- a built-in class as if it were given; no file can name the message of an exception
abbrev pub view_of_built_in : Program → Class → ClassView
view_of_built_in p class = record {
  name = class.name;
  superclass = option_map (class_name p) class.superclass;
  is_marked = class.message;
  is_abstract = class.is_abstract;
  is_final = is_final_built_in class.name;
  is_built_in = true;
  fields = [];
  methods = map (declared_built_in p) (filter_map (method_at p) class.methods);
}

-- ---- the world

-- The classes of the files in order and then the built-in ones; an id is a place in this list. The outline has the
-- names, superclasses and marks of the classes, and no members.
pub record World : Type 0 where
  pub form : Form
  pub classes : List ClassView
  pub outline : Program

-- the place of the first class of a name
abbrev pub number_of : List ClassView → List ℕ → Option ClassId
number_of classes name = option_map class_id (position_from (λ v. bytes_eq v.name name) 0 classes)

-- the classes without members; a superclass is there where its name is, and marks say which are messages
abbrev pub outlined : List ClassView → (ClassId → ClassView → Bool) → ℕ → List ClassView → List Class
outlined all mark n [] = []
outlined all mark n (v ∷ vs) =
    record { name = v.name; superclass = v.superclass >>= number_of all; is_abstract = v.is_abstract; message = mark (class_id n) v; fields = []; methods = [] }
    ∷ outlined all mark (n + 1) vs

-- a program of classes without members, with such marks
abbrev pub outline_with : Form → List ClassView → (ClassId → ClassView → Bool) → Program
outline_with form classes mark = record { classes = outlined classes mark 0 classes; methods = []; fields = []; form = form }

-- A message class implements `kilim/Message`, itself or by a superclass.
abbrev pub is_message_by : Program → ClassId → Bool
is_message_by marked c = list_any (λ d. is_marked (class_at marked d)) (line_of marked c)

-- the outline, where a class is marked that implements `kilim/Message`, itself or by a superclass
abbrev pub outline_of : Form → List ClassView → Program
outline_of form classes =
    let marked = outline_with form classes (λ c v. v.is_marked) in
    outline_with form classes (λ c v. is_message_by marked c)

-- a world of such classes
abbrev pub world_with : Form → List ClassView → World
world_with form classes = record { form = form; classes = classes; outline = outline_of form classes }

-- The world of some files in a form.
unfoldable pub world_of : List ClassFile → Form → World
world_of files form = world_with form (map view_of_file files ++ map (view_of_built_in (built_ins form)) (built_in_classes_in form 0 0))

-- ---- searching

-- the class of a name, the first one where there are several
abbrev pub class_of : World → List ℕ → Option ClassId
class_of w name = class_named w.outline name

-- the class of a number
abbrev pub view_at : World → ClassId → Option ClassView
view_at w c = slice_get w.classes c.0

-- the methods of a class, where there is one
abbrev pub methods_at : Option ClassView → List DeclaredMethod
methods_at None = []
methods_at (Some v) = v.methods

-- the fields of a class, where there is one
abbrev pub fields_at : Option ClassView → List DeclaredField
fields_at None = []
fields_at (Some v) = v.fields

-- the methods that a class declares, in order
abbrev pub declared_methods : World → ClassId → List DeclaredMethod
declared_methods w c = methods_at (view_at w c)

-- the fields that a class declares, in order
abbrev pub declared_fields : World → ClassId → List DeclaredField
declared_fields w c = fields_at (view_at w c)

-- Members are numbered class by class, in declared order: the number of a class's first one.
abbrev pub first_method : World → ClassId → ℕ
first_method w c = sum_by (λ v. length v.methods) (take c.0 w.classes)

-- and the number of its first field; the first one of all is the message of an exception
abbrev pub first_field : World → ClassId → ℕ
first_field w c = suc (sum_by (λ v. length v.fields) (take c.0 w.classes))

-- a method has this name and this descriptor
abbrev pub is_method : List ℕ → List ℕ → DeclaredMethod → Bool
is_method name descriptor m = bytes_eq m.name name && bytes_eq m.descriptor descriptor

-- a field has this name and this descriptor
abbrev pub is_field : List ℕ → List ℕ → DeclaredField → Bool
is_field name descriptor f = bytes_eq f.name name && bytes_eq f.descriptor descriptor

-- the method of that name and descriptor that a class declares
abbrev pub method_in : World → List ℕ → List ℕ → ClassId → Option MethodId
method_in w name descriptor c = option_map (λ k. method_id (first_method w c + k)) (position_from (is_method name descriptor) 0 (declared_methods w c))

-- the same of a field
abbrev pub field_in : World → List ℕ → List ℕ → ClassId → Option FieldId
field_in w name descriptor c = option_map (λ k. field_id (first_field w c + k)) (position_from (is_field name descriptor) 0 (declared_fields w c))

-- the first one that there is
abbrev pub or_else : {A : Type 0} → Option A → Option A → Option A
or_else None later = later
or_else (Some x) later = Some x

-- what the first one gives that gives something
abbrev pub first_found : {A B : Type 0} → (A → Option B) → List A → Option B
first_found search [] = None
first_found search (x ∷ xs) = or_else (search x) (first_found search xs)

-- the method of a class, or of its nearest ancestor that has one, of that name and descriptor (JVMS 5.4.3.3, own)
abbrev pub find_method : World → ClassId → List ℕ → List ℕ → Option MethodId
find_method w c name descriptor = first_found (method_in w name descriptor) (line_of w.outline c)

-- the same of a field (JVMS 5.4.3.2)
abbrev pub find_field : World → ClassId → List ℕ → List ℕ → Option FieldId
find_field w c name descriptor = first_found (field_in w name descriptor) (line_of w.outline c)
