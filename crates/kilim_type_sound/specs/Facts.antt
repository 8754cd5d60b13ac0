-- What the step rests on of a program.
use Rattle.kilim_type_laws.specs.members.Chosen.{has_instances}
use Rattle.kilim_type_laws.specs.members.Chosen.{is_value_name}
use Rattle.std.specs.Prelude.{◌≡◌, ◌⊎◌, ◌==◌, ℕ, zero, ℤ, Bool, true, false, List, [], ◌∷◌, Some, None, codes}
use Rattle.std.specs.Str.{bytes_eq}
use Rattle.kilim_program.specs.declared.names.ClassId.{ClassId}
use Rattle.kilim_program.specs.declared.names.MethodId.{MethodId}
use Rattle.kilim_program.specs.declared.ty.Base.{Base}
use Rattle.kilim_program.specs.declared.ty.Base.TheVariants as base
use Rattle.kilim_program.specs.BuiltIn.{class_type, message_field, plain_type}
use Rattle.kilim_program.specs.Names.{class_at, method_at, field_of, class_named, class_name}
use Rattle.kilim_program.specs.Members.{object_fields}
use Rattle.kilim_program.specs.Keeps.{constant_fits}
use Rattle.std.specs.List.{list_all, list_any}
use Rattle.kilim_program.specs.Same.{is_constructor, same_qualifier}
use Rattle.kilim_program.specs.Members.{named_type}
use Rattle.kilim_run_machine.specs.Does.{chosen, special, is_mailbox, narrowed_int}
use Rattle.kilim_run_machine.specs.Natives.{is_get_message, is_handed_out, is_message_constructor, is_text_method}
use Rattle.kilim_type_spec.specs.Step.{superclass_at, special_fits, may_name}
use Rattle.kilim_type_spec.specs.Typed.{has_code}
use Rattle.kilim_type_sound.specs.Fits.{has_objects, int_fits, is_of}
use Rattle.kilim_run_state.specs.declared.cause.EndCause.{EndCause}
use Rattle.kilim_run_machine.specs.Raising.{array_index, is_throwable, other_index, raised_class, text_index}
use Rattle.kilim_program.specs.declared.class.Field.{Field}
use Rattle.kilim_program.specs.declared.class.Method.{Method}
use Rattle.kilim_program.specs.declared.names.FieldId.{FieldId}
use Rattle.kilim_program.specs.declared.ty.Qualifier.TheVariants.{Cuttable, Safe}
use Rattle.kilim_program.specs.declared.ty.Ty.{Ty}
use Rattle.kilim_program.specs.Program.{Program}
use Rattle.kilim_program.specs.Fits.{fits_type}

pub record Ordered (p : Program) : Type 0 where
  pub itself : (a : Ty) → fits_type p a a ≡ true
  pub through : (a b c : Ty) → fits_type p a b ≡ true → fits_type p b c ≡ true → fits_type p a c ≡ true

-- ---- look-ups

-- The method that is called for a named one: it has the same types, it is no constructor, and it is built in or has code.
pub record Selected (p : Program) (named : Method) (id : MethodId) : Type 0 where
  pub method : Method
  pub there : method_at p id ≡ Some method
  pub code : (method.built_in ≡ true) ⊎ ((method.built_in ≡ false) × (has_code method ≡ true))
  pub instance : method.is_static ≡ false
  pub plain : is_constructor method ≡ false
  pub params : method.params ≡ named.params
  pub result : method.result ≡ named.result

-- an object of that class has the field; an array has none
abbrev pub OwnsField : Program → ℕ → Base → FieldId → Type 0
OwnsField p zero (base.Class c) x = list_any (λ (y : FieldId). y.0 == x.0) (object_fields p c) ≡ true
OwnsField p d b x = ⊥

-- `length`, `equals` or `charAt`
pub data TextKind (callee : Method) : Type 0 where
  IsLength : callee.params ≡ [] → bytes_eq callee.name (codes "length") ≡ true → callee.result ≡ Some (plain_type base.Int) → TextKind callee
  IsEquals : (ty : Ty) → callee.params ≡ ty ∷ [] → bytes_eq callee.name (codes "equals") ≡ true → callee.result ≡ Some (plain_type base.Bool) → TextKind callee
  IsCharAt : callee.params ≡ plain_type base.Int ∷ [] → bytes_eq callee.name (codes "equals") ≡ false → bytes_eq callee.name (codes "charAt") ≡ true → callee.result ≡ Some (plain_type base.Char) → TextKind callee

-- a method of strings; no other class is assignable to theirs
pub record TextMethod (p : Program) (callee : Method) : Type 0 where
  pub kind : TextKind callee
  pub alone : (c : Ty) → fits_type p c (class_type callee.owner.0) ≡ true → c ≡ class_type callee.owner.0
  pub no_box : is_of p (named_type p (codes "kilim/Mailbox")) (class_type callee.owner.0) ≡ false
  pub no_fiber : is_of p (named_type p (codes "kilim/Fiber")) (class_type callee.owner.0) ≡ false

-- ---- exceptions

-- The message is an instance field of the class of strings; the class of the method is the one that declares it, or is below.
pub record OfMessage (p : Program) (m : Method) : Type 0 where
  pub field : Field
  pub there : field_of p message_field ≡ Some field
  pub instance : field.is_static ≡ false
  pub text : ClassId
  pub typed : field.ty ≡ class_type text.0
  pub is_text : bytes_eq (class_name p text) (codes "java/lang/String") ≡ true
  pub above : fits_type p (class_type m.owner.0) (class_type field.owner.0) ≡ true

-- the class of an index past the end: one of three names
abbrev pub IsIndexName : List ℕ → Type 0
IsIndexName name = (name ≡ array_index) ⊎ (name ≡ text_index) ⊎ (name ≡ other_index)

pub record Facts (p : Program) : Type 0 where
  pub texts : (id : MethodId) (callee : Method) → method_at p id ≡ Some callee → is_text_method p callee ≡ true → callee.is_static ≡ false → is_constructor callee ≡ false → TextMethod p callee
  -- a static built-in method that isn't handed out is `Sys.take`
  pub takes : (id : MethodId) (callee : Method) → method_at p id ≡ Some callee → callee.built_in ≡ true → callee.is_static ≡ true → is_handed_out p callee ≡ false →
      (k : ClassId) × (callee.params ≡ record { dims = 1; base = base.Class k } ∷ plain_type base.Int ∷ []) × (callee.result ≡ Some (class_type k.0))
  -- what keeps the message of an exception is handed it alone, and what gives it is handed nothing
  pub keeps_messages : (id : MethodId) (m : Method) → method_at p id ≡ Some m → is_message_constructor m ≡ true → (x : OfMessage p m) × (m.params ≡ x.field.ty ∷ [])
  pub gives_messages : (id : MethodId) (m : Method) → method_at p id ≡ Some m → is_get_message m ≡ true → (x : OfMessage p m) × (m.params ≡ []) × (m.result ≡ Some x.field.ty)
  -- an object of a class or a subclass has the instance fields that the class declares
  pub fields : (x : FieldId) (field : Field) → field_of p x ≡ Some field → field.is_static ≡ false → (d : ℕ) (b : Base) → fits_type p (record { dims = d; base = b }) (class_type field.owner.0) ≡ true → OwnsField p d b x
  -- strings, mailboxes and fibers have no fields
  pub no_fields : (name : List ℕ) (c : ClassId) → is_value_name name ≡ true → class_named p name ≡ Some c → object_fields p c ≡ []
  -- a static field has a constant of its type
  pub constants : (x : FieldId) (field : Field) → field_of p x ≡ Some field → field.is_static ≡ true → constant_fits p field.ty field.constant ≡ true
  -- a class of the string's name is that one
  pub text_class : (c : ClassId) → bytes_eq (class_name p c) (codes "java/lang/String") ≡ true → named_type p (codes "java/lang/String") ≡ Some (class_type c.0)
  -- what can be thrown is an object of a class, no array, and no string, mailbox or fiber
  pub thrown : (c : ClassId) → class_named p (codes "java/lang/Throwable") ≡ Some c → (d : ℕ) (b : Base) → fits_type p (record { dims = d; base = b }) (class_type c.0) ≡ true → (k : ClassId) × (d ≡ 0) × (b ≡ base.Class k)
  pub no_thrown : (c : ClassId) → class_named p (codes "java/lang/Throwable") ≡ Some c → (name : List ℕ) → is_value_name name ≡ true → is_of p (named_type p name) (class_type c.0) ≡ false
  pub throwable : (c : ClassId) → class_named p (codes "java/lang/Throwable") ≡ Some c → (k : ClassId) → fits_type p (class_type k.0) (class_type c.0) ≡ true → is_throwable p k ≡ true
  pub caught : (k : ClassId) → is_throwable p k ≡ true → (c : ClassId) × (class_named p (codes "java/lang/Throwable") ≡ Some c) × (fits_type p (class_type k.0) (class_type c.0) ≡ true)
  -- what is raised for a cause can be thrown, and there are objects of its class
  pub raised : (index : List ℕ) → IsIndexName index → (why : EndCause) (c : ClassId) → raised_class p index why ≡ Some c → (is_throwable p c ≡ true) × (has_objects p c ≡ true)
  pub order : Ordered p
  -- an object of a class is of its superclass
  pub superclass : (c up : ClassId) → superclass_at (class_at p c) ≡ Some up → fits_type p (class_type c.0) (class_type up.0) ≡ true
  -- strings, mailboxes and fibers are of classes that aren't abstract
  pub values : (name : List ℕ) (c : Ty) → named_type p name ≡ Some c → is_value_name name ≡ true → has_instances p c.dims c.base ≡ true
  -- there is `java/lang/String`
  pub string : (c : ClassId) × (class_named p (codes "java/lang/String") ≡ Some c)
  -- a method of the files that isn't abstract has code
  pub bodies : (id : MethodId) (m : Method) → method_at p id ≡ Some m → m.built_in ≡ false → m.is_abstract ≡ false → has_code m ≡ true
  -- a static method isn't abstract
  pub statics : (id : MethodId) (m : Method) → method_at p id ≡ Some m → m.is_static ≡ true → m.is_abstract ≡ false
  -- a built-in constructor gives nothing, has a cuttable receiver, and is handed nothing to keep
  pub constructors : (id : MethodId) (m : Method) → method_at p id ≡ Some m → m.built_in ≡ true → is_constructor m ≡ true →
      (m.result ≡ None) × (m.receiver ≡ Cuttable) × (list_all (same_qualifier Safe) m.qualifiers ≡ true)
  -- a class of the mailbox's name is that one
  pub mailbox : (c : ClassId) → is_mailbox p c ≡ true → named_type p (codes "kilim/Mailbox") ≡ Some (class_type c.0)
  -- what a call on an object selects
  pub selects : (id : MethodId) (named : Method) → method_at p id ≡ Some named → named.is_static ≡ false → is_constructor named ≡ false → (c : Ty) → has_instances p c.dims c.base ≡ true → fits_type p c (class_type named.owner.0) ≡ true →
      (s : Selected p named (chosen p named id c)) × (fits_type p c (class_type s.method.owner.0) ≡ true)
  -- what invokespecial calls
  pub specials : (own : Method) (id : MethodId) (named : Method) → method_at p id ≡ Some named → named.is_static ≡ false → is_constructor named ≡ false → may_name own named.is_private named.owner ≡ true → special_fits p own id named ≡ true →
      (s : Selected p named (special p own named id)) × (fits_type p (class_type own.owner.0) (class_type s.method.owner.0) ≡ true)

abbrev pub is_int : Base → Bool
is_int base.Long = false
is_int (base.Class c) = false
is_int b = true

-- a stored int is in the range of its type
abbrev pub Narrows : Type 0
Narrows = (c : Base) (x : ℤ) → is_int c ≡ true → int_fits c (narrowed_int c x) ≡ true
