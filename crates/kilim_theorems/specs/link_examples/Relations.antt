-- Examples of members and classes beside each other: declared twice, overriding, abstract methods, superclasses, what is
-- left out, qualifiers and pausing.
use Rattle.std.specs.Prelude.{◌≡◌, ℕ, true, false, List, [], ◌∷◌, ◌++◌, map, length, replicate, pos, negsuc, Some, None, codes}
use Rattle.kilim_class_attributes.specs.declared.parts.annotation.AnnotationPart.{AnnotationPart}
use Rattle.kilim_class_attributes.specs.declared.parts.annotation.AnnotationPart.TheVariants.{Parameters, Annotations, Annotation}
use Rattle.kilim_class_attributes.specs.declared.parts.frame.Frame.TheVariants as form
use Rattle.kilim_class_attributes.specs.declared.parts.frame.VerificationType.TheVariants as slot
use Rattle.kilim_class_attributes.specs.declared.attribute.Attribute.{Attribute}
use Rattle.kilim_class_attributes.specs.declared.attribute.CodeInfo.TheVariants.{StackMapTable}
use Rattle.kilim_class_attributes.specs.declared.attribute.Info.TheVariants as info
use Rattle.kilim_class_file.specs.declared.class_file.ClassFile.{ClassFile}
use Rattle.kilim_class_file.specs.declared.class_file.MemberInfo.{MemberInfo}
use Rattle.kilim_class_pool.specs.declared.entry.Entry.{Entry}
use Rattle.kilim_class_pool.specs.declared.entry.Entry.TheVariants as entry
use Rattle.kilim_program.specs.declared.class.Form.{Form}
use Rattle.kilim_program.specs.declared.class.Form.TheVariants.{Plain, Woven}
use Rattle.kilim_program.specs.declared.ty.Qualifier.TheVariants.{Free, Cuttable, Safe}
use Rattle.kilim_program.specs.BuiltIn.{class_id}
use Rattle.kilim_link_spec.specs.declared.fault.LeftOutPart.TheVariants as part
use Rattle.kilim_link_spec.specs.declared.fault.LinkFault.TheVariants as fault
use Rattle.kilim_link_spec.specs.declared.fault.Problem.TheVariants as problem
use Rattle.kilim_link_spec.specs.World.{world_of, declared_method}
use Rattle.kilim_link_spec.specs.declared.named.Qualified.{Qualified}
use Rattle.kilim_link_spec.specs.Qualified.{qualified}
use Rattle.kilim_link_spec.specs.Faults.{abstract_left, declared_twice, first_fault}
use Rattle.kilim_theorems.specs.link_examples.Examples.{file_with, file, object, p_file, p_name, member, code_attribute, texts, with_field, with_method, with_code, Named}
use Rattle.kilim_theorems.specs.link_examples.Details.{Fits, NamedIn, LeftOutOf, class_with, pair, annotated_file, qualified_as, nothing, returns, q_name, m_name, task, message}
use Rattle.kilim_theorems.specs.link_examples.Search.{r_name, member_at}

-- ---- declared twice

-- two fields `m` of type int, and one of type long
abbrev pub fields_m : List ℕ → ClassFile
fields_m descriptor =
    record (file p_name object (texts m_name (codes "I") ++ (entry.Utf8 descriptor ∷ entry.Utf8 nothing ∷ [])))
    { fields = member_at 0 5 6 [] ∷ member_at 0 5 7 [] ∷ [] }

abbrev pub field_twice : Type 0
field_twice = Named (fields_m (codes "I") ∷ []) p_name (problem.Twice m_name)

abbrev pub fields_of_one_name : Type 0
fields_of_one_name = Fits (fields_m (codes "J") ∷ []) Plain

-- and a method of that name
abbrev pub fields_and_method : Type 0
fields_and_method = Fits (with_method (fields_m (codes "J")) (member_at 0x0008 5 8 returns) ∷ []) Plain

-- the class first, then the fields, then the methods; of each the second one and the third one
abbrev pub all_twice : Type 0
all_twice =
    let p = record (file p_name object (texts m_name (codes "I") ++ (entry.Utf8 (codes "n") ∷ entry.Utf8 nothing ∷ []))) {
      fields = member_at 0 5 6 [] ∷ member_at 0 5 6 [] ∷ member_at 0 5 6 [] ∷ [];
      methods = member_at 0x0401 7 8 [] ∷ member_at 0x0401 5 8 [] ∷ member_at 0x0401 7 8 [] ∷ [];
    } in
    declared_twice (world_of (p_file ∷ p ∷ []) Plain) p (class_id 1) ≡ problem.Twice p_name ∷ problem.Twice m_name ∷ problem.Twice m_name ∷ problem.Twice (codes "n") ∷ []

-- ---- overriding: qualifiers. The pool of each class goes on with the types of the annotations, at 8, 9 and 10

abbrev pub annotations : List Entry
annotations = entry.Utf8 (codes "Lkilim/Free;") ∷ entry.Utf8 (codes "Lkilim/Cuttable;") ∷ entry.Utf8 (codes "Lkilim/Safe;") ∷ []

abbrev pub each_annotation : List ℕ → List AnnotationPart
each_annotation types = map (λ type. Annotation type 0) types

abbrev pub on_receiver : List ℕ → Attribute
on_receiver types = record { attribute_name_index = 5; info = info.RuntimeInvisibleAnnotations (Annotations (length types) ∷ each_annotation types) }

abbrev pub on_parameter : List ℕ → Attribute
on_parameter types = record { attribute_name_index = 5; info = info.RuntimeVisibleParameterAnnotations (Parameters 1 ∷ Annotations (length types) ∷ each_annotation types) }

-- Q and P that extends it, each with a method `m` of that descriptor and with these attributes beside its code
abbrev pub both_with : List ℕ → List ℕ → List Attribute → List Attribute → List ClassFile
both_with super descriptor of_q of_p =
    class_with 0x0020 q_name super descriptor annotations 0x0001 (returns ++ of_q) ∷ class_with 0x0020 p_name q_name descriptor annotations 0x0001 (returns ++ of_p) ∷ []

abbrev pub other_receiver : Type 0
other_receiver = Named (both_with task nothing [] (on_receiver (8 ∷ []) ∷ [])) p_name (problem.OverrideDiffers (record { name = m_name; descriptor = nothing }))

abbrev pub same_receiver : Type 0
same_receiver = Fits (both_with task nothing (on_receiver (8 ∷ []) ∷ []) (on_receiver (8 ∷ []) ∷ [])) Plain

-- of a private class the receiver is safe, whatever stands there
abbrev pub private_receiver : Type 0
private_receiver = Fits (both_with object nothing [] (on_receiver (8 ∷ []) ∷ [])) Plain

abbrev pub takes_message : List ℕ
takes_message = codes "(Lkilim/Message;)V"

abbrev pub other_parameter : Type 0
other_parameter = Named (both_with object takes_message (on_parameter (9 ∷ []) ∷ []) []) p_name (problem.OverrideDiffers (record { name = m_name; descriptor = takes_message }))

abbrev pub same_parameter : Type 0
same_parameter = Fits (both_with object takes_message (on_parameter (9 ∷ []) ∷ []) (on_parameter (9 ∷ []) ∷ [])) Plain

-- safe is the default
abbrev pub stated_parameter : Type 0
stated_parameter = Fits (both_with object takes_message (on_parameter (10 ∷ []) ∷ []) []) Plain

-- ---- overriding: whom

-- R extends Q extends P, where the method of Q is private and that of R static
abbrev pub farther_ancestor : Type 0
farther_ancestor =
    Named (class_with 0x0020 p_name object nothing [] 0x0001 returns ∷ class_with 0x0020 q_name p_name nothing [] 0x0002 returns ∷ class_with 0x0020 r_name q_name nothing [] 0x0009 returns ∷ []) r_name
    (problem.OverrideDiffers (record { name = m_name; descriptor = nothing }))

abbrev pub final_static : Type 0
final_static = Named (pair 0x0020 0x0019 returns 0x0009 returns) p_name (problem.OverrideDiffers (record { name = m_name; descriptor = nothing }))

abbrev pub final_private : Type 0
final_private = Fits (pair 0x0020 0x0012 returns 0x0001 returns) Plain

-- a class with one method, whose name is at 5
abbrev pub with_one : List ℕ → List ℕ → List ℕ → ℕ → List Attribute → ClassFile
with_one name super method flags attributes = with_method (file name super (texts method nothing ++ (entry.Utf8 (codes "Code") ∷ annotations))) (member flags attributes)

-- constructors take no part
abbrev pub final_constructor : Type 0
final_constructor = Fits (with_one q_name object (codes "<init>") 0x0010 returns ∷ with_one p_name q_name (codes "<init>") 0 returns ∷ []) Plain

-- the receiver of `kilim/Task.start()V` is free
abbrev pub start_overridden : Type 0
start_overridden = Fits (with_one p_name task (codes "start") 0x0001 (returns ++ on_receiver (8 ∷ []) ∷ []) ∷ []) Plain

abbrev pub start_overridden_as_safe : Type 0
start_overridden_as_safe = Named (with_one p_name task (codes "start") 0x0001 returns ∷ []) p_name (problem.OverrideDiffers (record { name = codes "start"; descriptor = nothing }))

-- ---- abstract methods

-- P isn't abstract: its own one comes before that of Q
abbrev pub own_abstract_first : Type 0
own_abstract_first =
    let p = with_method (file p_name q_name (texts (codes "n") nothing)) (member 0x0401 []) in
    abstract_left (world_of (class_with 0x0420 q_name object nothing [] 0x0401 [] ∷ p ∷ []) Plain) p (class_id 1)
    ≡ problem.AbstractLeft (record { name = codes "n"; descriptor = nothing }) ∷ problem.AbstractLeft (record { name = m_name; descriptor = nothing }) ∷ []

-- R extends Q extends P
abbrev pub line_of_three : ClassFile → ClassFile → List ClassFile
line_of_three p q = p ∷ q ∷ file r_name q_name [] ∷ []

-- Q has `m()V`, and P `n()V`
abbrev pub nearest_abstract_first : Type 0
nearest_abstract_first =
    Named (line_of_three (with_method (file_with 0x0420 p_name object (texts (codes "n") nothing)) (member 0x0401 [])) (class_with 0x0420 q_name p_name nothing [] 0x0401 [])) r_name
    (problem.AbstractLeft (record { name = m_name; descriptor = nothing }))

abbrev pub implemented_between : Type 0
implemented_between = Fits (line_of_three (class_with 0x0420 p_name object nothing [] 0x0401 []) (class_with 0x0020 q_name p_name nothing [] 0x0001 returns)) Plain

abbrev pub abstract_again : Type 0
abstract_again =
    Named (line_of_three (class_with 0x0020 p_name object nothing [] 0x0001 returns) (class_with 0x0420 q_name p_name nothing [] 0x0401 [])) r_name
    (problem.AbstractLeft (record { name = m_name; descriptor = nothing }))

abbrev pub abstract_private : Type 0
abstract_private = Named (class_with 0x0420 p_name object nothing [] 0x0402 [] ∷ []) p_name (problem.AbstractLeft (record { name = m_name; descriptor = nothing }))

-- an abstract class may inherit one
abbrev pub abstract_inherits : Type 0
abstract_inherits = Fits (class_with 0x0420 q_name object nothing [] 0x0401 [] ∷ file_with 0x0420 p_name q_name [] ∷ []) Plain

-- ---- superclasses

abbrev pub extends_pausable : Type 0
extends_pausable = Named (file p_name (codes "kilim/Pausable") [] ∷ []) p_name problem.SuperKind

abbrev pub extends_mailbox : Type 0
extends_mailbox = Named (file p_name (codes "kilim/Mailbox") [] ∷ []) p_name problem.SuperKind

abbrev pub extends_fiber : Type 0
extends_fiber = Named (file p_name (codes "kilim/Fiber") [] ∷ []) p_name (problem.LeftOut part.Fiber)

abbrev pub extends_fiber_woven : Type 0
extends_fiber_woven = NamedIn Woven (file p_name (codes "kilim/Fiber") [] ∷ []) p_name problem.SuperKind

-- R extends P extends Q, which is final: this is the fault of P alone
abbrev pub below_final : Type 0
below_final = Named (file r_name p_name [] ∷ file p_name q_name [] ∷ file_with 0x0030 q_name object [] ∷ []) p_name problem.SuperKind

-- P, which extends itself
abbrev pub extends_itself : Type 0
extends_itself = Named (file p_name p_name [] ∷ []) p_name problem.Circular

-- ---- kinds

-- a class below one that is a task and a message is both too
abbrev pub below_both : Type 0
below_both = Named (file p_name q_name [] ∷ message q_name task ∷ []) p_name problem.Both

-- an array of ints is a tree, which a private class doesn't hold; an array of a private type is private
abbrev pub private_holds : List ℕ → ClassFile
private_holds descriptor = with_field (file p_name object (texts m_name descriptor)) (member 0 [])

abbrev pub private_holds_ints : Type 0
private_holds_ints = Named (private_holds (codes "[I") ∷ []) p_name (problem.FieldKind (record { name = m_name; descriptor = codes "[I" }))

abbrev pub private_holds_privates : Type 0
private_holds_privates = Fits (private_holds (codes "[[Lkilim/Sys;") ∷ []) Plain

abbrev pub private_holds_value : Type 0
private_holds_value = Fits (private_holds (codes "Lkilim/Mailbox;") ∷ []) Plain

-- ---- left out

abbrev pub double_result : Type 0
double_result = LeftOutOf (class_with 0x0420 p_name object (codes "()D") [] 0x0401 [] ∷ []) (problem.LeftOut part.Float)

abbrev pub float_cast : Type 0
float_cast = LeftOutOf (with_code (192 ∷ 0 ∷ 9 ∷ 177 ∷ []) (entry.Utf8 (codes "[[F") ∷ entry.Class 8 ∷ []) ∷ []) (problem.LeftOut part.Float)

-- a float type in a frame
abbrev pub float_frame : Type 0
float_frame =
    let attribute : Attribute = record {
      attribute_name_index = 7;
      info = info.Code (record { max_stack = 0; max_locals = 0; code = 177 ∷ []; exception_table = []; attributes = record { attribute_name_index = 7; info = StackMapTable (form.Append 0 (slot.Float ∷ []) ∷ []) } ∷ [] });
    } in
    LeftOutOf (class_with 0x0020 p_name object nothing [] 0x0008 (attribute ∷ []) ∷ []) (problem.LeftOut part.Float)

-- a static field of this type, whose constant is this entry
abbrev pub static_of : List ℕ → Entry → ClassFile
static_of descriptor constant =
    with_field (file p_name object (texts m_name descriptor ++ (constant ∷ entry.Utf8 (codes "s") ∷ [])))
    (member 0x0008 (record { attribute_name_index = 5; info = info.ConstantValue 7 } ∷ []))

-- an int for each int-like type, which isn't narrowed; a long; a string
abbrev pub its_constants : Type 0
its_constants =
    map (λ f. first_fault (f ∷ []) Plain) (
    static_of (codes "Z") (entry.Integer (pos 2)) ∷ static_of (codes "B") (entry.Integer (pos 300)) ∷ static_of (codes "C") (entry.Integer (negsuc 0)) ∷ static_of (codes "S") (entry.Integer (pos 70000)) ∷ static_of (codes "I") (entry.Integer (pos 7)) ∷ []
    )
    ≡ None ∷ None ∷ None ∷ None ∷ None ∷ []

abbrev pub long_constant : Type 0
long_constant = Fits (static_of (codes "J") (entry.Long (pos 7)) ∷ []) Plain

abbrev pub string_constant : Type 0
string_constant = Fits (static_of (codes "Ljava/lang/String;") (entry.String 8) ∷ []) Plain

-- a long for an int, an int for a long, a string for another class, an int for an array, a float
abbrev pub other_constants : Type 0
other_constants =
    map (λ f. first_fault (f ∷ []) Plain) (
    static_of (codes "I") (entry.Long (pos 7)) ∷ static_of (codes "J") (entry.Integer (pos 7)) ∷ static_of (codes "Ljava/lang/Object;") (entry.String 8) ∷ static_of (codes "[I") (entry.Integer (pos 7)) ∷ static_of (codes "I") (entry.Float 0) ∷ []
    )
    ≡ replicate 5 (Some (fault.InClass p_name (problem.LeftOut part.StaticField)))

-- a class that is given, listed as an interface
abbrev pub listed_class : Type 0
listed_class = LeftOutOf (record (file p_name object (entry.Utf8 q_name ∷ entry.Class 5 ∷ [])) { interfaces = 6 ∷ [] } ∷ file q_name object [] ∷ []) (problem.LeftOut part.Interface)

-- a field of type `[[LQ;`, where Q is a task
abbrev pub array_of_subclass : Type 0
array_of_subclass = LeftOutOf (with_field (file p_name object (texts m_name (codes "[[LQ;"))) (member 0 []) ∷ file q_name task [] ∷ []) (problem.LeftOut part.TaskArray)

-- a static field without its constant, and `<clinit>`: not the first place counts, but the first part in the list
abbrev pub parts_by_list : Type 0
parts_by_list =
    LeftOutOf
    (record (file p_name object (texts (codes "<clinit>") nothing ++ (entry.Utf8 (codes "Code") ∷ entry.Utf8 (codes "I") ∷ []))) { fields = member_at 0x0008 5 8 [] ∷ []; methods = member 0x0008 returns ∷ [] } ∷ [])
    (problem.LeftOut part.ClassInitializer)

-- `fconst_1` in the first method, and `fconst_0` in the second one
abbrev pub first_opcode : Type 0
first_opcode =
    LeftOutOf
    (record (class_with 0x0020 p_name object nothing (entry.Utf8 (codes "(I)V") ∷ []) 0 []) { methods = member 0x0008 (code_attribute (12 ∷ 177 ∷ []) ∷ []) ∷ member_at 0x0008 5 8 (code_attribute (11 ∷ 177 ∷ []) ∷ []) ∷ [] } ∷ [])
    (problem.LeftOut (part.Opcode 12))

-- of two attributes the second has another number of parameters
abbrev pub second_of_parameters : Type 0
second_of_parameters =
    LeftOutOf
    (class_with 0x0020 p_name object (codes "(I)V") [] 0x0008 (returns ++ record { attribute_name_index = 5; info = info.RuntimeVisibleParameterAnnotations (Parameters 1 ∷ Annotations 0 ∷ []) } ∷ record { attribute_name_index = 5; info = info.RuntimeInvisibleParameterAnnotations (Parameters 0 ∷ []) } ∷ []) ∷ [])
    (problem.LeftOut part.ParameterAnnotations)

-- ---- qualifiers

-- free and cuttable at one place, by one attribute and by two, in either order
abbrev pub free_before_cuttable : Type 0
free_before_cuttable =
    qualified_as annotated_file 0
    (record { attribute_name_index = 5; info = info.RuntimeVisibleAnnotations (Annotations 3 ∷ Annotation 9 0 ∷ Annotation 8 0 ∷ Annotation 7 0 ∷ []) }
    ∷ record { attribute_name_index = 5; info = info.RuntimeVisibleParameterAnnotations (Parameters 3 ∷ Annotations 1 ∷ Annotation 8 0 ∷ Annotations 1 ∷ Annotation 7 0 ∷ Annotations 0 ∷ []) }
    ∷ record { attribute_name_index = 5; info = info.RuntimeInvisibleParameterAnnotations (Parameters 3 ∷ Annotations 1 ∷ Annotation 7 0 ∷ Annotations 1 ∷ Annotation 8 0 ∷ Annotations 0 ∷ []) }
    ∷ [])
    ≡ record { receiver = Free; params = Free ∷ Free ∷ Safe ∷ [] }

-- trees have a qualifier: a task, arrays of values and of messages. Values and private types are safe
abbrev pub qualifiers_by_kind : Type 0
qualifiers_by_kind =
    qualified_as (file p_name object (texts m_name (codes "(Lkilim/Task;[I[[Lkilim/Message;[Ljava/lang/String;Lkilim/Mailbox;Ljava/lang/String;Ljava/lang/Object;[Ljava/lang/Object;)V") ++ (entry.Utf8 (codes "Code") ∷ annotations))) 0x0008
    (record { attribute_name_index = 5; info = info.RuntimeVisibleParameterAnnotations (Parameters 8 ∷ Annotations 1 ∷ Annotation 8 0 ∷ Annotations 1 ∷ Annotation 8 0 ∷ Annotations 1 ∷ Annotation 8 0 ∷ Annotations 1 ∷ Annotation 8 0 ∷ Annotations 1 ∷ Annotation 8 0 ∷ Annotations 1 ∷ Annotation 8 0 ∷ Annotations 1 ∷ Annotation 8 0 ∷ Annotations 1 ∷ Annotation 8 0 ∷ []) } ∷ [])
    ≡ record { receiver = Safe; params = Free ∷ Free ∷ Free ∷ Free ∷ Safe ∷ Safe ∷ Safe ∷ Safe ∷ [] }

abbrev pub qualified_in : Form → ClassFile → ℕ → List Attribute → Qualified
qualified_in form f flags attributes = qualified (world_of (f ∷ []) form) (class_id 0) (declared_method f (member flags attributes))

abbrev pub safe_execute : Type 0
safe_execute = qualified_in Plain (with_one p_name task (codes "execute") 0 []) 0 (on_receiver (10 ∷ []) ∷ []) ≡ record { receiver = Safe; params = [] }

-- `execute` of a private class, and with the fiber in both forms
abbrev pub private_execute : Type 0
private_execute = qualified_in Plain (with_one p_name object (codes "execute") 0 []) 0 [] ≡ record { receiver = Safe; params = [] }

abbrev pub woven_execute : ClassFile
woven_execute = file p_name task (texts (codes "execute") (codes "(Lkilim/Fiber;)V"))

abbrev pub execute_with_fiber : Type 0
execute_with_fiber = qualified_in Woven woven_execute 0 [] ≡ record { receiver = Cuttable; params = Safe ∷ [] }

abbrev pub execute_with_fiber_plain : Type 0
execute_with_fiber_plain = qualified_in Plain woven_execute 0 [] ≡ record { receiver = Safe; params = Safe ∷ [] }

-- whatever stands there; a static one has no receiver
abbrev pub free_constructor : Type 0
free_constructor = qualified_in Plain (with_one p_name task (codes "<init>") 0 []) 0 (on_receiver (8 ∷ []) ∷ []) ≡ record { receiver = Cuttable; params = [] }

abbrev pub static_constructor : Type 0
static_constructor = qualified_in Plain (with_one p_name task (codes "<init>") 0 []) 0x0008 [] ≡ record { receiver = Safe; params = [] }

-- ---- pausing: `kilim/Pausable` twice and beside another class, and another class alone

abbrev pub lists : List ℕ → MemberInfo
lists classes = member 0 (record { attribute_name_index = 5; info = info.Exceptions classes } ∷ [])

abbrev pub with_exceptions : ClassFile
with_exceptions = file p_name object (texts m_name nothing ++ (entry.Utf8 (codes "kilim/Pausable") ∷ entry.Class 7 ∷ entry.Utf8 (codes "E") ∷ entry.Class 9 ∷ []))

abbrev pub pauses : Type 0
pauses = (declared_method with_exceptions (lists (10 ∷ 8 ∷ 8 ∷ []))).pausable ≡ true

abbrev pub pauses_not : Type 0
pauses_not = (declared_method with_exceptions (lists (10 ∷ 10 ∷ []))).pausable ≡ false

pub record RelationsHold : Type 0 where
  pub has_field_twice : field_twice
  pub has_fields_of_one_name : fields_of_one_name
  pub has_fields_and_method : fields_and_method
  pub has_all_twice : all_twice
  pub has_other_receiver : other_receiver
  pub has_same_receiver : same_receiver
  pub has_private_receiver : private_receiver
  pub has_other_parameter : other_parameter
  pub has_same_parameter : same_parameter
  pub has_stated_parameter : stated_parameter
  pub has_farther_ancestor : farther_ancestor
  pub has_final_static : final_static
  pub has_final_private : final_private
  pub has_final_constructor : final_constructor
  pub has_start_overridden : start_overridden
  pub has_start_overridden_as_safe : start_overridden_as_safe
  pub has_own_abstract_first : own_abstract_first
  pub has_nearest_abstract_first : nearest_abstract_first
  pub has_implemented_between : implemented_between
  pub has_abstract_again : abstract_again
  pub has_abstract_private : abstract_private
  pub has_abstract_inherits : abstract_inherits
  pub has_extends_pausable : extends_pausable
  pub has_extends_mailbox : extends_mailbox
  pub has_extends_fiber : extends_fiber
  pub has_extends_fiber_woven : extends_fiber_woven
  pub has_below_final : below_final
  pub has_extends_itself : extends_itself
  pub has_below_both : below_both
  pub has_private_holds_ints : private_holds_ints
  pub has_private_holds_privates : private_holds_privates
  pub has_private_holds_value : private_holds_value
  pub has_double_result : double_result
  pub has_float_cast : float_cast
  pub has_float_frame : float_frame
  pub has_its_constants : its_constants
  pub has_long_constant : long_constant
  pub has_string_constant : string_constant
  pub has_other_constants : other_constants
  pub has_listed_class : listed_class
  pub has_array_of_subclass : array_of_subclass
  pub has_parts_by_list : parts_by_list
  pub has_first_opcode : first_opcode
  pub has_second_of_parameters : second_of_parameters
  pub has_free_before_cuttable : free_before_cuttable
  pub has_qualifiers_by_kind : qualifiers_by_kind
  pub has_safe_execute : safe_execute
  pub has_private_execute : private_execute
  pub has_execute_with_fiber : execute_with_fiber
  pub has_execute_with_fiber_plain : execute_with_fiber_plain
  pub has_free_constructor : free_constructor
  pub has_static_constructor : static_constructor
  pub has_pauses : pauses
  pub has_pauses_not : pauses_not
