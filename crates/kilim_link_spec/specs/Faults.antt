-- What keeps class files from being a program (own profile), a definition for each kind: the problems of that kind in a
-- class, in the order of the file's bytes.
use Rattle.std.specs.Prelude.{ℕ, ◌+◌, Bool, true, false, ◌&&◌, ◌||◌, not, suc, ◌==◌, nat_lt, nat_le, if◌then◌else◌, List, [], ◌∷◌, ◌++◌, map, filter, length, take, Option, Some, None, is_none, is_some, Result, Ok, Err, codes}
use Rattle.std.specs.List.{list_all, list_any, flat_map, filter_map, slice_split}
use Rattle.std.specs.Str.{bytes_eq}
use Rattle.kilim_units.specs.Characters.{full_stop, slash, semicolon, left_bracket}
use Rattle.kilim_class_attributes.specs.declared.attribute.Code.{Code}
use Rattle.kilim_class_attributes.specs.declared.attribute.ExceptionHandler.{ExceptionHandler}
use Rattle.kilim_class_code.specs.declared.fault.CodeFault.{CodeFault}
use Rattle.kilim_class_code.specs.declared.fault.CodeFault.TheVariants as code
use Rattle.kilim_class_code.specs.Code.{Placed}
use Rattle.kilim_class_file.specs.declared.class_file.ClassFile.{ClassFile}
use Rattle.kilim_class_file.specs.declared.class_file.MemberInfo.{MemberInfo}
use Rattle.kilim_class_file.specs.declared.fault.MemberName.{MemberName}
use Rattle.kilim_class_pool.specs.declared.entry.Entry.{Entry}
use Rattle.kilim_class_descriptors.specs.declared.types.MethodText.{MethodText}
use Rattle.kilim_class_descriptors.specs.Text.{slots_of}
use Rattle.kilim_class_mutf8.specs.Spelling.{spelling}
use Rattle.kilim_class_code.specs.declared.opcodes.fault.OpFault.TheVariants as op
use Rattle.kilim_program.specs.declared.class.Form.{Form}
use Rattle.kilim_program.specs.declared.names.ClassId.{ClassId}
use Rattle.kilim_program.specs.declared.ty.Ty.{Ty}
use Rattle.kilim_program.specs.BuiltIn.{is_exception}
use Rattle.kilim_program.specs.Names.{◌>>=◌, is_task, is_empty}
use Rattle.kilim_program.specs.Kinds.{class_kind, field_may_hold, is_message}
use Rattle.kilim_program.specs.Keeps.{ancestors_of, superclass_fits}
use Rattle.kilim_program.specs.Same.{same_flag, same_qualifier, same_qualifiers}
use Rattle.kilim_link_spec.specs.declared.fault.LinkFault.{LinkFault}
use Rattle.kilim_link_spec.specs.declared.fault.LinkFault.TheVariants as fault
use Rattle.kilim_link_spec.specs.declared.fault.Problem.{Problem}
use Rattle.kilim_link_spec.specs.declared.fault.Problem.TheVariants as problem
use Rattle.kilim_link_spec.specs.World.{World, ClassView, DeclaredMethod, world_of, own_name, super_name, member_name, member_descriptor, class_text, has_flag, acc_abstract, class_of, view_at, declared_methods, is_method, find_method, find_field}
use Rattle.kilim_link_spec.specs.Types.{Named, AClass, AnArray, Malformed, named_by, field_text, method_text, type_in}
use Rattle.kilim_link_spec.specs.Qualified.{Qualified, qualified, is_constructor_name, has_fiber}
use Rattle.kilim_link_spec.specs.Code.{MemberRef, index_in, operand_at}
use Rattle.kilim_link_spec.specs.Linked.{code_attribute, first_of, numbered}
use Rattle.kilim_link_spec.specs.Mentions.{Mention, OfClass, OfElement, OfField, OfMethod, OfFloat, Member, Field, Method, instrs_of, mentions_of, members_named, class_names}
pub use Rattle.kilim_link_spec.specs.LeftOut.{is_fiber, decoded_in, left_out_op, left_out_ops, is_float_base, is_float_mention, has_float, has_initializer, has_its_constant, has_static_field, has_method_flag, has_interface, has_pausable_constructor, has_row, has_pausable_handlers, is_task_name, is_task_base, has_task_array, has_fiber_name, differs_in, has_other_parameters, if_left}
unfoldable pub use Rattle.kilim_link_spec.specs.LeftOut.{left_out_parts}

-- a member of a file as a fault tells it: its name and its descriptor
abbrev pub member_of : ClassFile → MemberInfo → MemberName
member_of file member = record { name = member_name file member; descriptor = member_descriptor file member }

-- the same of a method as it is declared
abbrev pub declared_of : DeclaredMethod → MemberName
declared_of m = record { name = m.name; descriptor = m.descriptor }

-- one problem where the test says so, and none else
abbrev pub if_so : Bool → Problem → List Problem
if_so true p = p ∷ []
if_so false p = []

-- ---- declared twice

-- a built-in class of the form has this name
abbrev pub is_built_in_name : World → List ℕ → Bool
is_built_in_name w name = list_any (λ v. v.is_built_in && bytes_eq v.name name) w.classes

-- a class of that name was given before, or is built in
abbrev pub is_given_before : World → ClassId → List ℕ → Bool
is_given_before w c name = list_any (λ v. bytes_eq v.name name) (take c.0 w.classes) || is_built_in_name w name

-- those that have the same one before them
abbrev pub repeated : {A : Type 0} → (A → A → Bool) → List A → List A → List A
repeated same before [] = []
repeated same before (x ∷ xs) = if list_any (same x) before then x ∷ repeated same (x ∷ before) xs else repeated same (x ∷ before) xs

-- one name and one descriptor (JVMS 4.5, 4.6)
abbrev pub same_member : ClassFile → MemberInfo → MemberInfo → Bool
same_member file a b = bytes_eq (member_name file a) (member_name file b) && bytes_eq (member_descriptor file a) (member_descriptor file b)

-- the names of the fields, or of the methods, that stand a second time
abbrev pub repeated_names : ClassFile → List MemberInfo → List Problem
repeated_names file members = map (λ m. problem.Twice (member_name file m)) (repeated (same_member file) [] members)

-- A class of this name was given before or is built in, or a field or a method has the name and the descriptor of an
-- earlier one (JVMS 4.5, 4.6): the class first, then the fields, then the methods.
unfoldable pub declared_twice : World → ClassFile → ClassId → List Problem
declared_twice w file c = if_so (is_given_before w c (own_name file)) (problem.Twice (own_name file)) ++ (repeated_names file file.fields ++ repeated_names file file.methods)

-- ---- a class that isn't there. In plain form `kilim/Fiber` is left out instead.

-- neither given nor built in
abbrev pub is_missing : World → List ℕ → Bool
is_missing w name = is_none (class_of w name) && (has_fiber w.form || not (is_fiber name))

-- The classes that the file names and that are neither given nor built in (JVMS 5.3).
unfoldable pub class_missing : World → ClassFile → ClassId → List Problem
class_missing w file c = map problem.Missing (filter (is_missing w) (class_names file))

-- ---- its own ancestor

-- the class is one of its own ancestors
unfoldable pub is_circular : World → ClassId → Bool
is_circular w c = list_any (λ d. d.0 == c.0) (ancestors_of w.outline c)

-- The class is its own ancestor (JVMS 5.3.5).
unfoldable pub circular : World → ClassFile → ClassId → List Problem
circular w file c = if_so (is_circular w c) problem.Circular

-- ---- a member that isn't there. An array has none; of `kilim/Fiber` in plain form nothing is asked here.

-- a class that isn't there lacks each member too; that it is missing comes first
abbrev pub class_lacks : (ClassId → Bool) → Option ClassId → Bool
class_lacks lacks None = true
class_lacks lacks (Some c) = lacks c

-- what a member names as its owner lacks it
abbrev pub owner_lacks : World → (ClassId → Bool) → Named → Bool
owner_lacks w lacks (AnArray type) = true
owner_lacks w lacks (Malformed name) = true
owner_lacks w lacks (AClass name) = (has_fiber w.form || not (is_fiber name)) && class_lacks lacks (class_of w name)

-- the owner, the name and the descriptor of a member that code names
abbrev pub ref_of : Member → MemberRef
ref_of (Field member) = member
ref_of (Method member) = member

-- neither a class nor an ancestor of it has the member
abbrev pub lacks_member : World → Member → ClassId → Bool
lacks_member w (Field member) c = is_none (find_field w c member.name member.descriptor)
lacks_member w (Method member) c = is_none (find_method w c member.name member.descriptor)

-- what code names as the owner has no such member
abbrev pub is_no_member : World → Member → Bool
is_no_member w member = owner_lacks w (lacks_member w member) (named_by (ref_of member).owner)

-- the problem that tells it
abbrev pub no_member_of : MemberRef → Problem
no_member_of ref = problem.NoMember (record { owner = ref.owner; name = ref.name; descriptor = ref.descriptor })

-- The members that code names, and that neither their owner nor its ancestors have (JVMS 5.4.3.2, 5.4.3.3).
unfoldable pub member_missing : World → ClassFile → ClassId → List Problem
member_missing w file c = map (λ m. no_member_of (ref_of m)) (filter (is_no_member w) (members_named file))

-- ---- parts that are left out: those of LeftOut.antt

-- The parts of the class that are left out (own).
unfoldable pub left_out : World → ClassFile → ClassId → List Problem
left_out w file c = map problem.LeftOut (left_out_parts w file)

-- ---- a task and a message

-- The class is a task and a message, itself or by its ancestors (own).
unfoldable pub both_kinds : World → ClassFile → ClassId → List Problem
both_kinds w file c = if_so (is_task w.outline c && is_message w.outline c) problem.Both

-- ---- a field that its class may not have

-- a field of this type may stand in the class; that a type isn't there is another problem
abbrev pub may_hold : World → ClassId → Option Ty → Bool
may_hold w c None = true
may_hold w c (Some ty) = field_may_hold w.outline (class_kind w.outline c) ty

-- The fields that the kind of the class doesn't allow (own).
unfoldable pub field_kinds : World → ClassFile → ClassId → List Problem
field_kinds w file c =
    map (λ f. problem.FieldKind (member_of file f)) (filter (λ f. not (may_hold w c (field_text (member_descriptor file f) >>= type_in w))) file.fields)

-- ---- a method that differs from one that it overrides

-- the methods of the ancestors, with their classes
abbrev pub inherited : World → ClassId → List (ClassId × DeclaredMethod)
inherited w c = flat_map (λ d. map (λ m. (d, m)) (declared_methods w d)) (ancestors_of w.outline c)

-- the same qualifiers of the receiver and of all parameters
abbrev pub same_qualified : Qualified → Qualified → Bool
same_qualified a b = same_qualifier a.receiver b.receiver && same_qualifiers a.params b.params

-- a method may override that one: it pauses, is static and has qualifiers as that one, which isn't final
abbrev pub agrees : World → ClassId → DeclaredMethod → ClassId → DeclaredMethod → Bool
agrees w c m d other =
    same_flag m.pausable other.pausable && (same_flag m.is_static other.is_static && (not other.is_final && same_qualified (qualified w c m) (qualified w d other)))

-- constructors and private methods override nothing, and private methods aren't overridden
abbrev pub differs_from : World → ClassId → DeclaredMethod → ClassId × DeclaredMethod → Bool
differs_from w c m x = not x.1.is_private && (is_method m.name m.descriptor x.1 && not (agrees w c m x.0 x.1))

-- a method differs from one that it overrides, of any ancestor
abbrev pub overrides_badly : World → ClassId → DeclaredMethod → Bool
overrides_badly w c m = not (is_constructor_name m.name) && (not m.is_private && list_any (differs_from w c m) (inherited w c))

-- The methods that differ from one that they override (own), or override a final one (JVMS 4.10, 5.4.5).
unfoldable pub override_differs : World → ClassFile → ClassId → List Problem
override_differs w file c = map (λ m. problem.OverrideDiffers (declared_of m)) (filter (overrides_badly w c) (declared_methods w c))

-- ---- code

-- an index that names no entry of a kind that its instruction takes
abbrev pub bad_operand : Placed → ℕ → Bool → List CodeFault
bad_operand p number true = []
bad_operand p number false = code.Op (op.Unknown number) p.0 ∷ []

-- the same of an instruction, where it has an index
abbrev pub bad_index : List Entry → Placed → Option (ℕ × ℕ) → List CodeFault
bad_index pool p None = []
bad_index pool p (Some x) = bad_operand p x.0 (is_some (operand_at pool x))

-- a left-out instruction is no fault of this kind
abbrev pub code_fault : List Entry → Result (List Placed) CodeFault → Option CodeFault
code_fault pool (Ok instrs) = first_of (flat_map (λ p. bad_index pool p (index_in p.1)) instrs)
code_fault pool (Err (code.Op (op.LeftOut number) at)) = None
code_fault pool (Err fault) = Some fault

-- the fault of the code of a method, where it has one
abbrev pub code_faults : ClassFile → MemberInfo → List Problem
code_faults file method =
    map (λ fault. problem.Code (member_of file method) fault) (filter_map (code_fault file.constant_pool) (decoded_in (code_attribute method)))

-- The methods whose bytes are no code, or have an index of what its instruction doesn't take (JVMS 4.9.1).
unfoldable pub code_broken : World → ClassFile → ClassId → List Problem
code_broken w file c = flat_map (code_faults file) file.methods

-- ---- descriptors

-- malformed, or with too many argument slots
abbrev pub is_no_method : ℕ → Option MethodText → Bool
is_no_method slots None = true
is_no_method slots (Some m) = nat_lt 255 (slots + slots_of m)

-- the name of a class that begins as an array and is none
abbrev pub named_badly : Named → List (List ℕ)
named_badly (Malformed name) = name ∷ []
named_badly _ = []

-- the text in a mention that is no descriptor
abbrev pub no_descriptors : Mention → List (List ℕ)
no_descriptors (OfClass class) = named_badly class
no_descriptors (OfElement class) = named_badly class
no_descriptors (OfField descriptor) = if is_none (field_text descriptor) then descriptor ∷ [] else []
no_descriptors (OfMethod slots descriptor) = if is_no_method slots (method_text descriptor) then descriptor ∷ [] else []
no_descriptors OfFloat = []

-- The texts that are named as descriptors and are none, or have too many slots (JVMS 4.3.2, 4.3.3, 4.4.1).
unfoldable pub descriptor_broken : World → ClassFile → ClassId → List Problem
descriptor_broken w file c = map problem.Descriptor (flat_map no_descriptors (mentions_of file))

-- ---- a superclass that a class may not have

-- a class may be extended: it isn't final, and not built in but for `java/lang/Object`, `kilim/Task` and the classes of exceptions
abbrev pub is_open : ClassView → Bool
is_open v = not v.is_final && (not v.is_built_in || (bytes_eq v.name (codes "java/lang/Object") || (bytes_eq v.name (codes "kilim/Task") || is_exception v.name)))

-- a class that isn't there is missing, and no fault of this kind
abbrev pub is_open_class : Option ClassView → Bool
is_open_class None = true
is_open_class (Some v) = is_open v

-- A class may extend this one, which is open and of a kind that fits. A superclass that isn't there is missing, and no
-- fault of this kind.
abbrev pub may_extend : World → ClassId → Option ClassId → Bool
may_extend w c None = true
may_extend w c (Some up) = is_open_class (view_at w up) && superclass_fits w.outline c (Some up)

-- The superclass is final (JVMS 4.10), built in and not open, or of a kind that the class may not extend (own).
unfoldable pub super_kind : World → ClassFile → ClassId → List Problem
super_kind w file c = if_so (not (may_extend w c (class_of w (super_name file)))) problem.SuperKind

-- ---- the class's name

-- a high surrogate
abbrev pub is_high : ℕ → Bool
is_high u = nat_le 0xD800 u && nat_le u 0xDBFF

-- a low surrogate
abbrev pub is_low : ℕ → Bool
is_low u = nat_le 0xDC00 u && nat_le u 0xDFFF

-- each low one stands behind a high one, and behind each high one a low one
abbrev pub are_paired : Bool → List ℕ → Bool
are_paired behind_high [] = not behind_high
are_paired behind_high (u ∷ us) = same_flag behind_high (is_low u) && are_paired (is_high u) us

-- No part between slashes is empty, no `.`, `;` or `[` and no lone surrogate stands in it; a text of 65,000 bytes.
unfoldable pub is_class_name : List ℕ → Bool
is_class_name name =
    list_all (λ p. not (is_empty p)) (slice_split (λ u. u == slash) name)
    && (list_all (λ u. not (u == full_stop || u == semicolon || u == left_bracket)) name
    && (are_paired false name
    && nat_le (length (spelling name)) 65000))

-- The name of the class is none (JVMS 4.2.1; own of surrogates), or takes more than 65,000 bytes (own).
unfoldable pub name_broken : World → ClassFile → ClassId → List Problem
name_broken w file c = if_so (not (is_class_name (own_name file))) problem.Name

-- ---- abstract methods

-- its own abstract method, where the class isn't abstract, or the method private or static (JVMS 4.6)
abbrev pub is_left_here : Bool → DeclaredMethod → Bool
is_left_here class_is_abstract m = m.is_abstract && (not class_is_abstract || (m.is_private || m.is_static))

-- no class nearer has a method of that name and descriptor that isn't private
abbrev pub is_left_above : List DeclaredMethod → DeclaredMethod → Bool
is_left_above nearer m = m.is_abstract && (not m.is_private && not (list_any (λ o. not o.is_private && is_method m.name m.descriptor o) nearer))

-- from the nearest ancestor on
abbrev pub left_above : World → List DeclaredMethod → List ClassId → List DeclaredMethod
left_above w nearer [] = []
left_above w nearer (d ∷ ds) = filter (is_left_above nearer) (declared_methods w d) ++ left_above w (nearer ++ declared_methods w d) ds

-- the abstract methods that a class inherits and has to implement, where it isn't abstract
abbrev pub left_inherited : World → ClassId → Bool → List DeclaredMethod
left_inherited w c true = []
left_inherited w c false = left_above w (declared_methods w c) (ancestors_of w.outline c)

-- The class isn't abstract and is left with an abstract method, or has one that is private or static (JVMS 4.6, own):
-- its own ones in order, then those of the nearest ancestor, and so on.
unfoldable pub abstract_left : World → ClassFile → ClassId → List Problem
abstract_left w file c =
    let is_abstract = has_flag acc_abstract file.access_flags in
    map (λ m. problem.AbstractLeft (declared_of m)) (filter (is_left_here is_abstract) (declared_methods w c) ++ left_inherited w c is_abstract)

-- ---- exception tables

-- an instruction begins at that place
abbrev pub begins_at : List Placed → ℕ → Bool
begins_at instrs at = list_any (λ p. p.0 == at) instrs

-- The range of an entry isn't empty; it begins at an instruction, and ends at one or with the code. Its handler is an instruction
-- (JVMS 4.7.3, 4.9.1).
abbrev pub row_stands : Code → List Placed → ExceptionHandler → Bool
row_stands code instrs row =
    begins_at instrs row.start_pc
    && ((begins_at instrs row.end_pc || row.end_pc == length code.code)
    && (nat_lt row.start_pc row.end_pc && begins_at instrs row.handler_pc))

-- the name begins as that of an array does
abbrev pub begins_as_array : List ℕ → Bool
begins_as_array [] = false
begins_as_array (u ∷ us) = u == left_bracket

-- what an entry may not be: one that doesn't stand, or that names an array
abbrev pub is_bad_row : List Entry → Code → List Placed → ExceptionHandler → Bool
is_bad_row pool code instrs row = not (row_stands code instrs row) || begins_as_array (class_text pool row.catch_type)

-- the numbers of the elements that pass a test, counted from one on
abbrev pub numbers_that : {A : Type 0} → (A → Bool) → ℕ → List A → List ℕ
numbers_that test n [] = []
numbers_that test n (x ∷ xs) = if test x then n ∷ numbers_that test (suc n) xs else numbers_that test (suc n) xs

-- the numbers of the entries of code that may not be, where there is code; of code that has a fault no entry stands
abbrev pub bad_rows : List Entry → List Placed → Option Code → List ℕ
bad_rows pool instrs None = []
bad_rows pool instrs (Some code) = numbers_that (is_bad_row pool code instrs) 0 code.exception_table

-- the entries of a method
abbrev pub row_faults : ClassFile → MemberInfo → List Problem
row_faults file method =
    map (λ n. problem.Handler (member_of file method) n) (bad_rows file.constant_pool (instrs_of method) (code_attribute method))

-- The entries of exception tables whose range is empty or isn't one of instructions, whose handler is none (JVMS 4.7.3), or that
-- name an array (JVMS 4.10.1.6): the first method first, and of it the first entry.
unfoldable pub handler_faults : World → ClassFile → ClassId → List Problem
handler_faults w file c = flat_map (row_faults file) file.methods

-- ---- all of them

-- the problems of a class: the first kind in this list first, and of one kind the first place
unfoldable pub problems_of : World → ClassFile → ClassId → List Problem
problems_of w file c =
    declared_twice w file c
    ++ (class_missing w file c
    ++ (circular w file c
    ++ (member_missing w file c
    ++ (left_out w file c
    ++ (both_kinds w file c
    ++ (field_kinds w file c
    ++ (override_differs w file c
    ++ (code_broken w file c
    ++ (descriptor_broken w file c
    ++ (super_kind w file c
    ++ (name_broken w file c
    ++ (abstract_left w file c
    ++ handler_faults w file c))))))))))))

-- the problems of a class, each with its name
abbrev pub faults_in : World → ClassFile → ClassId → List LinkFault
faults_in w file c = map (λ p. fault.InClass (own_name file) p) (problems_of w file c)

-- All faults of linking files in a form: the first class first.
unfoldable pub link_faults : List ClassFile → Form → List LinkFault
link_faults files form = let w = world_of files form in flat_map (λ faults. faults) (numbered (faults_in w) 0 files)

-- the one that is named
unfoldable pub first_fault : List ClassFile → Form → Option LinkFault
first_fault files form = first_of (link_faults files form)
