-- What a program and its woven form share, as far as instructions go: the premises of the law.
use Rattle.std.specs.Prelude.{◌≡◌, ◌<◌, ℕ, true, false, List, [], ◌∷◌, ◌++◌, Option, Some, None, codes, length}
use Rattle.kilim_program.specs.declared.class.Method.{Method}
use Rattle.kilim_program.specs.declared.instr.Instr.{Instr}
use Rattle.kilim_program.specs.declared.instr.Instr.TheVariants as instr
use Rattle.kilim_program.specs.declared.names.ClassId.{ClassId}
use Rattle.kilim_program.specs.declared.names.FieldId.{FieldId}
use Rattle.kilim_program.specs.declared.names.MethodId.{MethodId}
use Rattle.kilim_program.specs.declared.ty.Ty.{Ty}
use Rattle.kilim_program.specs.declared.value.Value.{Value}
use Rattle.kilim_program.specs.BuiltIn.{class_type}
use Rattle.kilim_program.specs.Fits.{fits_type}
use Rattle.kilim_program.specs.Names.{class_name, field_of, method_at}
use Rattle.kilim_program.specs.Program.{Program}
use Rattle.kilim_run_machine.specs.Does.{cast_fits, chosen, does, is_instance, is_mailbox, special}
use Rattle.kilim_run_machine.specs.Effect.{Calls, Asks}
use Rattle.kilim_program.specs.Members.{named_type}
use Rattle.kilim_run_state.specs.Machine.{Objects}
use Rattle.kilim_program.specs.Members.{execute_of}
use Rattle.kilim_run_machine.specs.Moves.{slots_in}
use Rattle.kilim_run_machine.specs.Natives.{FiberMember, Save, Place, Native, native_of, is_built_in_constructor, is_handed_out, is_text_method, is_message_constructor, is_get_message, is_of_message}
use Rattle.kilim_run_state.specs.Objects.{new_object}
use Rattle.kilim_run_model.specs.State.{Setting}
use Rattle.kilim_weave_spec.specs.Woven.{pausable_callee}
use Rattle.kilim_fiber_spec.specs.Fibers.{member_of}
use Rattle.kilim_fiber_spec.specs.Form.{is_pausable}
use Rattle.kilim_fiber_spec.specs.Rows.{IsClean, is_old_base}
use Rattle.kilim_fiber_spec.specs.Serves.{CatchesAlike, is_pausing_native}
use Rattle.kilim_fiber_spec.specs.Thread.{fetch, own_of}

-- what the programs P and Q answer alike
pub record Agree (P Q : Program) : Type 0 where
  pub fields : (f : FieldId) → field_of Q f ≡ field_of P f
  pub casts : (c : Ty) (ty : Ty) → is_old_base P c.base → (cast_fits Q (Some c) ty ≡ cast_fits P (Some c) ty) × (is_instance Q (Some c) ty ≡ is_instance P (Some c) ty)
  pub text : (ty : Ty) → named_type P (codes "java/lang/String") ≡ Some ty → is_old_base P ty.base
  pub box : (ty : Ty) → named_type P (codes "kilim/Mailbox") ≡ Some ty → is_old_base P ty.base
  pub same_text : named_type Q (codes "java/lang/String") ≡ named_type P (codes "java/lang/String")
  pub same_box : named_type Q (codes "kilim/Mailbox") ≡ named_type P (codes "kilim/Mailbox")
  pub names : (c : ClassId) → c.0 < length P.classes → class_name Q c ≡ class_name P c

-- two methods that are built in, and that are of the message of an exception, both or neither
abbrev pub AlikeBuiltIn : Method → Method → Type 0
AlikeBuiltIn a b = (a.built_in ≡ b.built_in) × (is_message_constructor a ≡ is_message_constructor b) × (is_get_message a ≡ is_get_message b)

-- a method and what it is in both programs
pub record PlainCallee (P Q : Program) (mine its : Method) (i : Instr) (id : MethodId) (a : Method) : Type 0 where
  pub there : method_at P id ≡ Some a
  pub unchanged : method_at Q id ≡ Some a
  pub text : is_text_method Q a ≡ is_text_method P a
  pub handed_out : is_handed_out Q a ≡ is_handed_out P a
  -- what a call on an object selects, and what invokespecial calls
  pub agrees : i ≡ instr.Invokevirtual id → (ty : Ty) → is_old_base P ty.base → fits_type P ty (class_type a.owner.0) ≡ true → chosen Q a id ty ≡ chosen P a id ty
  pub agrees_special : i ≡ instr.Invokespecial id → special Q its a id ≡ special P mine a id
  -- what is called is a method of P, and built in on both sides or on none
  pub selected : (ty : Ty) → (b : Method) × (method_at P (chosen P a id ty) ≡ Some b)
  pub specials : i ≡ instr.Invokespecial id → (b : Method) × (method_at P (special P mine a id) ≡ Some b)
  pub built_in : (k : MethodId) (b : Method) → method_at P k ≡ Some b → (c : Method) × (method_at Q k ≡ Some c) × AlikeBuiltIn c b

-- a pausable method of P and what it is in W
pub record Changed (P W : Program) (fiber : Ty) (id : MethodId) (a : Method) : Type 0 where
  pub method : Method
  pub there : method_at W id ≡ Some method
  -- it has one parameter more
  pub params : method.params ≡ a.params ++ fiber ∷ []
  pub built_in : method.built_in ≡ a.built_in
  -- it is no constructor, no method of strings, and not `kilim/Sys.take`
  pub plain : is_built_in_constructor a ≡ false
  pub still_plain : is_built_in_constructor method ≡ false
  pub no_text : is_text_method P a ≡ false
  pub still_no_text : is_text_method W method ≡ false
  pub handed_out : is_handed_out P a ≡ a.built_in
  pub still_handed_out : is_handed_out W method ≡ method.built_in
  pub agrees : (ty : Ty) → is_old_base P ty.base → fits_type P ty (class_type a.owner.0) ≡ true → chosen W method id ty ≡ chosen P a id ty
  -- what is called is a method of P, and not of the message of an exception
  pub selected : (ty : Ty) → fits_type P ty (class_type a.owner.0) ≡ true → (b : Method) × (method_at P (chosen P a id ty) ≡ Some b) × (is_of_message b ≡ false)

-- what the two programs share about calls
pub record SharesCalls (P W : Program) (fiber : Ty) : Type 0 where
  pub changed : (id : MethodId) (a : Method) → method_at P id ≡ Some a → a.pausable ≡ true → Changed P W fiber id a
  -- which methods are built in
  pub built_in : (id : MethodId) (a : Method) → method_at P id ≡ Some a → (b : Method) × (method_at W id ≡ Some b) × AlikeBuiltIn b a
  -- strings and mailboxes
  pub text : (ty : Ty) → named_type P (codes "java/lang/String") ≡ Some ty → is_old_base P ty.base
  pub box : (ty : Ty) → named_type P (codes "kilim/Mailbox") ≡ Some ty → is_old_base P ty.base
  pub same_text : named_type W (codes "java/lang/String") ≡ named_type P (codes "java/lang/String")
  pub same_box : named_type W (codes "kilim/Mailbox") ≡ named_type P (codes "kilim/Mailbox")

-- What `invokespecial` of a pausable method calls: in W that of P, and not of the message of an exception.
pub record Specials (P W : Program) (mine its : Method) (id : MethodId) (a b : Method) : Type 0 where
  pub agrees : special W its b id ≡ special P mine a id
  pub there : (c : Method) × (method_at P (special P mine a id) ≡ Some c) × (is_of_message c ≡ false)

-- the method that a call names
abbrev pub named : Instr → Option MethodId
named (instr.Invokevirtual id) = Some id
named (instr.Invokespecial id) = Some id
named (instr.Invokestatic id) = Some id
named i = None

-- what code that isn't a pausable call rests on, in both programs
pub record SharesRows (set : Setting) (W : Program) : Type 0 where
  pub self_agree : Agree set.program set.program
  pub agree : Agree set.program W
  -- the methods of the two programs
  pub results : (m : MethodId) (p : ℕ) (found : Instr × ℕ) → fetch set.program m p ≡ Some found → (own_of W m).result ≡ (own_of set.program m).result
  -- a class of which code makes an object
  pub makes : (m : MethodId) (p to : ℕ) (c : ClassId) → fetch set.program m p ≡ Some (instr.New c, to) → (is_mailbox W c ≡ is_mailbox set.program c) × (new_object W c ≡ new_object set.program c)
  -- a method that code names in a call that isn't pausable, in each of the two programs
  pub callees : (m : MethodId) (p to : ℕ) (i : Instr) (id : MethodId) → fetch set.program m p ≡ Some (i, to) → named i ≡ Some id → pausable_callee set.program i ≡ None
      → (a : Method) × PlainCallee set.program set.program (own_of set.program m) (own_of set.program m) i id a × PlainCallee set.program W (own_of set.program m) (own_of W m) i id a
  pub calls : (m : MethodId) (p to : ℕ) (i : Instr) (id : MethodId) (l s : List Value) (heap : Objects) → fetch set.program m p ≡ Some (i, to) → named i ≡ Some id → pausable_callee set.program i ≡ None → IsClean set.program i s heap
      → (c : MethodId) (args : List Value) (q : ℕ) (l2 s2 : List Value) (h2 : Objects) → does set.program (own_of set.program m) i to l s heap ≡ Calls c args q l2 s2 h2 → is_pausable set.program c ≡ false
  pub natives : (m : MethodId) (p to : ℕ) (i : Instr) (id : MethodId) (l s : List Value) (heap : Objects) → fetch set.program m p ≡ Some (i, to) → named i ≡ Some id → pausable_callee set.program i ≡ None → IsClean set.program i s heap
      → (c : MethodId) (args : List Value) (q : ℕ) (l2 s2 : List Value) (h2 : Objects) → does set.program (own_of set.program m) i to l s heap ≡ Asks c args q l2 s2 h2 → (member_of W c ≡ None) × ((n : Native) → native_of set.program c ≡ Some n → is_pausing_native n ≡ false)

-- what pausable calls rest on
pub record SharesPauses (set : Setting) (W : Program) (fiber : Ty) : Type 0 where
  pub shares : SharesCalls set.program W fiber
  pub specials : (m : MethodId) (p to : ℕ) (id : MethodId) (a b : Method) → fetch set.program m p ≡ Some (instr.Invokespecial id, to) → method_at set.program id ≡ Some a → a.pausable ≡ true → method_at W id ≡ Some b → Specials set.program W (own_of set.program m) (own_of W m) id a b
  pub sound : (id : MethodId) (a : Method) → method_at set.program id ≡ Some a → a.pausable ≡ true → (is_built_in_constructor a ≡ false) × (is_text_method set.program a ≡ false) × (is_handed_out set.program a ≡ a.built_in)
  pub natives : (m : MethodId) (p : ℕ) (i : Instr) (callee : Method) (to : ℕ) (l s s2 args : List Value) (heap : Objects) (c : MethodId) → fetch set.program m p ≡ Some (i, to) → pausable_callee set.program i ≡ Some callee → IsClean set.program i s heap → does set.program (own_of set.program m) i to l s heap ≡ Asks c args to l s2 heap
      → (member_of W c ≡ None) × ((n : Native) → native_of set.program c ≡ Some n → is_pausing_native n ≡ true)
  pub same_natives : (c : MethodId) → member_of W c ≡ None → native_of W c ≡ native_of set.program c
  pub pauses : (m : MethodId) (p : ℕ) (i : Instr) (callee : Method) (to : ℕ) (l s s2 args : List Value) (heap : Objects) (c : MethodId) → fetch set.program m p ≡ Some (i, to) → pausable_callee set.program i ≡ Some callee → IsClean set.program i s heap → does set.program (own_of set.program m) i to l s heap ≡ Calls c args to l s2 heap
      → is_pausable set.program c ≡ true
  pub same_slots : (c : MethodId) → is_pausable set.program c ≡ false → slots_in (method_at W c) ≡ slots_in (method_at set.program c)
  pub catches : CatchesAlike set.program W
  pub begins : execute_of W set.main ≡ execute_of set.program set.main
  pub begins_alike : (c : MethodId) (a : Method) → execute_of set.program set.main ≡ Some c → method_at set.program c ≡ Some a → (b : Method) × (method_at W c ≡ Some b) × (b.built_in ≡ a.built_in) × (a.pausable ≡ true)

-- a member of the fiber, among W's methods: built in, no method of strings, handed out
pub record IsMember (W : Program) (id : MethodId) (size : ℕ) (k : FiberMember) (fiber : Ty) : Type 0 where
  pub method : Method
  pub there : method_at W id ≡ Some method
  pub size_is : length method.params ≡ size
  pub built_in : method.built_in ≡ true
  pub no_text : is_text_method W method ≡ false
  pub handed_out : is_handed_out W method ≡ true
  pub chosen_is : chosen W method id fiber ≡ id
  pub kind : member_of W id ≡ Some k

-- so many parameters
abbrev pub size_of : FiberMember → ℕ
size_of Save = 2
size_of Place = 3
size_of k = 0
