-- Old and added instructions, written in their forms, are themselves in the woven world.
use Rattle.std.proofs.Common.{◌≡◌, ℕ, zero, suc, ◌+◌, Bool, true, false, ◌==◌, if◌then◌else◌, ℤ, pos, nat_lt, List, [], ◌∷◌, map, Option, Some, None, option_map, refl, sym, ap, subst, ◌∙◌, arith, ltb-true}
use Rattle.std.proofs.lemmas.Option.{none-some, same_Some}
use Rattle.kilim_class_pool.specs.declared.entry.Entry.{Entry}
use Rattle.kilim_class_pool.specs.declared.entry.Entry.TheVariants as entry
use Rattle.kilim_class_pool.specs.Entries.{entry_at}
use Rattle.kilim_class_file.specs.Parts.{text_of}
use Rattle.kilim_class_code.specs.Code.{Placed}
use Rattle.kilim_class_code.specs.declared.opcodes.instr.RawInstr.{RawInstr}
use Rattle.kilim_class_code.specs.declared.opcodes.instr.RawInstr.TheVariants as raw
use Rattle.kilim_program.specs.declared.instr.Instr.{Instr}
use Rattle.kilim_program.specs.declared.instr.Instr.TheVariants.{Iload, Lload, Aload, Istore, Lstore, Astore, New, Newarray, Iinc, Bipush, Sipush, Invokevirtual, Invokespecial, Invokestatic, Tableswitch, Lookupswitch, AconstNull, Iconst, Lconst, Pop, Pop2, Ireturn, Lreturn, Areturn, Return, Ifeq, Goto, Checkcast}
use Rattle.kilim_program.specs.declared.names.ClassId.{ClassId}
use Rattle.kilim_program.specs.declared.names.FieldId.{FieldId}
use Rattle.kilim_program.specs.declared.names.MethodId.{MethodId}
use Rattle.kilim_program.specs.declared.ty.Base.{Base}
use Rattle.kilim_program.specs.declared.ty.Ty.{Ty}
use Rattle.kilim_program.specs.declared.value.Value.{Value}
use Rattle.kilim_program.specs.Program.{Program}
use Rattle.kilim_program.specs.Names.{method_at}
use Rattle.kilim_link_spec.specs.declared.fault.MemberOf.{MemberOf as MemberRef}
use Rattle.kilim_link_spec.specs.declared.named.Named.{Named}
use Rattle.kilim_link_spec.specs.declared.named.Operand.{Operand}
use Rattle.kilim_link_spec.specs.declared.named.Operand.TheVariants.{AConstant, AField, AMethod, AType}
use Rattle.kilim_link_spec.specs.World.{World, class_text}
use Rattle.kilim_link_spec.specs.Types.{class_named_by, type_named, each_of, with_first}
use Rattle.kilim_link_spec.specs.Code.{row, applied, plain_instrs, local_instrs, jump_instrs, method_instrs, type_instrs, field_instrs, constant_instrs, array_codes, instr_with, instr_in, operand_at, index_operand, field_found, method_found, method_ref, any_method_ref, ref_with, place_of, pair_in, placed_in}
use Rattle.kilim_class_making.specs.declared.pool_needs.need.Need.{Need}
use Rattle.kilim_class_making.specs.declared.pool_needs.need.Need.TheVariants.{AText, AClass, AMethod, ACall}
use Rattle.kilim_class_making.specs.pool_needs.Adding.{index_of}
use Rattle.kilim_theorems.specs.woven_files.pool.Pools.{Names, SameOperands}
use Rattle.kilim_theorems.specs.woven_files.Members.{pausing}
use Rattle.kilim_weave_spec.specs.Woven.{moved_instr, moved_pairs}
use Rattle.kilim_weave_file_spec.specs.Texts.{woven_descriptor, needed_method}
use Rattle.kilim_weave_file_spec.specs.Raw.{pauses, is_pausable_call, local_form, shortest, target_of, moved_raw, old_need, call_need, call_by, index_or, switched, place_number, pair_number, added_raw, raw_code}
use Rattle.kilim_theorems.specs.woven_files.Resolving.{WorldsAgree, IsFound}
use Rattle.kilim_theorems.proofs.woven_files.Resolved.{Calls, row_all, a_call, call_again, old_operand}
use Rattle.kilim_theorems.specs.woven_files.Standing.{CallsNone, CallParts, NeedNamed, SameTexts, LdcCallsNone, OldNamed, AddedFits, CodeFits}

-- ---- loads and stores

local_by : (v : World) (pool : List Entry) (short long : ℕ) (make : ℕ → Instr) → row local_instrs long ≡ Some make → (slot : ℕ) → (b : Bool) →
    instr_in v pool (if b then raw.Local long slot else raw.WideLocal long slot) ≡ Some (make slot)
unfolding instr_in
local_by v pool short long make is slot true = ap (λ f. applied f (Some slot)) is
local_by v pool short long make is slot false = ap (λ f. applied f (Some slot)) is

abbrev pub FourRows : ℕ → (ℕ → Instr) → Type 0
FourRows short make = (row plain_instrs (short + 0) ≡ Some (make 0)) × (row plain_instrs (short + 1) ≡ Some (make 1)) × (row plain_instrs (short + 2) ≡ Some (make 2)) × (row plain_instrs (short + 3) ≡ Some (make 3))

short_by : (v : World) (pool : List Entry) (short long : ℕ) (make : ℕ → Instr) → FourRows short make → row local_instrs long ≡ Some make → (slot : ℕ) → (b : Bool) → nat_lt slot 4 ≡ b →
    instr_in v pool (if b then raw.Plain (short + slot) else (if nat_lt slot 256 then raw.Local long slot else raw.WideLocal long slot)) ≡ Some (make slot)
unfolding instr_in
short_by v pool short long make four is slot false lt = local_by v pool short long make is slot (nat_lt slot 256)
short_by v pool short long make four is zero true lt = four.0
short_by v pool short long make four is (suc zero) true lt = four.1
short_by v pool short long make four is (suc (suc zero)) true lt = four.2
short_by v pool short long make four is (suc (suc (suc zero))) true lt = four.3
short_by v pool short long make four is (suc (suc (suc (suc n)))) true lt = absurd (omega (arith, ltb-true (suc (suc (suc (suc n)))) 4 lt))

pub local_back : (v : World) (pool : List Entry) (short long : ℕ) (make : ℕ → Instr) → FourRows short make → row local_instrs long ≡ Some make → (slot : ℕ) → instr_in v pool (local_form short long slot) ≡ Some (make slot)
local_back v pool short long make four is slot = short_by v pool short long make four is slot (nat_lt slot 4) refl

-- ---- instructions without an index, by their tables

abbrev PlainBack : World → List Entry → (ℕ → ℕ) → ℕ → Instr → Type 0
PlainBack v pool at n i = instr_in v pool (shortest (moved_instr at i) (raw.Plain n)) ≡ Some (moved_instr at i)

plain_back : (v : World) (pool : List Entry) (at : ℕ → ℕ) (number : ℕ) (i : Instr) → row plain_instrs number ≡ Some i → PlainBack v pool at number i
unfolding instr_in
plain_back v pool at number i h = row_all (PlainBack v pool at) plain_instrs (refl, (refl, (refl, (refl, (refl, (refl, (refl, (refl, (refl, (refl, (refl, (refl, (refl, (refl, (refl, (refl, (refl, (refl, (refl, (refl, (refl, (refl, (refl, (refl, (refl, (refl, (refl, (refl, (refl, (refl, (refl, (refl, (refl, (refl, (refl, (refl, (refl, (refl, (refl, (refl, (refl, (refl, (refl, (refl, (refl, (refl, (refl, (refl, (refl, (refl, (refl, (refl, (refl, (refl, (refl, (refl, (refl, (refl, (refl, (refl, (refl, (refl, (refl, (refl, (refl, (refl, (refl, (refl, (refl, (refl, (refl, (refl, (refl, (refl, (refl, (refl, (refl, (refl, (refl, (refl, (refl, (refl, (refl, (refl, (refl, (refl, (refl, (refl, (refl, (refl, (refl, (refl, tt)))))))))))))))))))))))))))))))))))))))))))))))))))))))))))))))))))))))))))))))))))))))))))) number i h

abbrev LocalBack : World → List Entry → (ℕ → ℕ) → ℕ → (ℕ → Instr) → Type 0
LocalBack v pool at n make = (slot : ℕ) (r : RawInstr) → instr_in v pool (shortest (moved_instr at (make slot)) r) ≡ Some (moved_instr at (make slot))

locals_back : (v : World) (pool : List Entry) (at : ℕ → ℕ) (number : ℕ) (make : ℕ → Instr) → row local_instrs number ≡ Some make → LocalBack v pool at number make
locals_back v pool at number make h = row_all (LocalBack v pool at) local_instrs (
  (λ slot r. local_back v pool 26 21 Iload (refl, refl, refl, refl) refl slot),
  (
    (λ slot r. local_back v pool 30 22 Lload (refl, refl, refl, refl) refl slot),
    (
      (λ slot r. local_back v pool 42 25 Aload (refl, refl, refl, refl) refl slot),
      ((λ slot r. local_back v pool 59 54 Istore (refl, refl, refl, refl) refl slot), ((λ slot r. local_back v pool 63 55 Lstore (refl, refl, refl, refl) refl slot), ((λ slot r. local_back v pool 75 58 Astore (refl, refl, refl, refl) refl slot), tt))),
    ),
  ),
) number make h

abbrev JumpBack : World → List Entry → (ℕ → ℕ) → ℕ → (ℕ → Instr) → Type 0
JumpBack v pool at n make = (to : ℕ) → (instr_in v pool (raw.Jump n (pos (target_of (moved_instr at (make to))))) ≡ Some (moved_instr at (make to))) × (instr_in v pool (raw.WideJump n (pos (target_of (moved_instr at (make to))))) ≡ Some (moved_instr at (make to)))

jumps_back : (v : World) (pool : List Entry) (at : ℕ → ℕ) (number : ℕ) (make : ℕ → Instr) → row jump_instrs number ≡ Some make → JumpBack v pool at number make
unfolding instr_in
jumps_back v pool at number make h = row_all (JumpBack v pool at) jump_instrs ((λ to. (refl, refl)), ((λ to. (refl, refl)), ((λ to. (refl, refl)), ((λ to. (refl, refl)), ((λ to. (refl, refl)), ((λ to. (refl, refl)), ((λ to. (refl, refl)), ((λ to. (refl, refl)), ((λ to. (refl, refl)), ((λ to. (refl, refl)), ((λ to. (refl, refl)), ((λ to. (refl, refl)), ((λ to. (refl, refl)), ((λ to. (refl, refl)), ((λ to. (refl, refl)), ((λ to. (refl, refl)), ((λ to. (refl, refl)), ((λ to. (refl, refl)), tt)))))))))))))))))) number make h

-- ---- instructions with an index

-- an instruction that isn't a jump stays where it is
abbrev Unmoved : (ℕ → ℕ) → Instr → Type 0
Unmoved at i = moved_instr at i ≡ i

fields_stay : (at : ℕ → ℕ) (number : ℕ) (make : FieldId → Instr) → row field_instrs number ≡ Some make → (id : FieldId) → Unmoved at (make id)
fields_stay at number make h = row_all (λ n make. (id : FieldId) → Unmoved at (make id)) field_instrs ((λ id. refl), ((λ id. refl), ((λ id. refl), tt))) number make h

methods_stay : (at : ℕ → ℕ) (number : ℕ) (make : MethodId → Instr) → row method_instrs number ≡ Some make → (id : MethodId) → Unmoved at (make id)
methods_stay at number make h = row_all (λ n make. (id : MethodId) → Unmoved at (make id)) method_instrs ((λ id. refl), ((λ id. refl), ((λ id. refl), tt))) number make h

types_stay : (at : ℕ → ℕ) (number : ℕ) (make : Ty → Instr) → row type_instrs number ≡ Some make → (ty : Ty) → Unmoved at (make ty)
types_stay at number make h = row_all (λ n make. (ty : Ty) → Unmoved at (make ty)) type_instrs ((λ id. refl), ((λ id. refl), ((λ id. refl), tt))) number make h

constants_stay : (at : ℕ → ℕ) (number : ℕ) (make : Value → Instr) → row constant_instrs number ≡ Some make → (value : Value) → Unmoved at (make value)
constants_stay at number make h = row_all (λ n make. (value : Value) → Unmoved at (make value)) constant_instrs ((λ id. refl), ((λ id. refl), ((λ id. refl), tt))) number make h

applied_unmoved : {A : Type 0} (at : ℕ → ℕ) (f : Option (A → Instr)) (x : Option A) (i : Instr) → ((make : A → Instr) → f ≡ Some make → (a : A) → Unmoved at (make a)) → applied f x ≡ Some i → Unmoved at i
applied_unmoved at None x i each h = absurd (none-some i h)
applied_unmoved at (Some f) None i each h = absurd (none-some i h)
applied_unmoved at (Some f) (Some a) i each h = subst (Unmoved at) (same_Some (f a) i h) (each f refl a)

new_unmoved : (at : ℕ → ℕ) (x : Option ClassId) (i : Instr) → option_map New x ≡ Some i → Unmoved at i
new_unmoved at None i h = absurd (none-some i h)
new_unmoved at (Some c) i h = subst (Unmoved at) (same_Some (New c) i h) refl

type_unmoved : (at : ℕ → ℕ) (u : World) (number : ℕ) (class : Named) (i : Instr) → (b : Bool) → (if b then option_map New (class_named_by u class) else applied (row type_instrs number) (type_named u class)) ≡ Some i → Unmoved at i
type_unmoved at u number class i true h = new_unmoved at (class_named_by u class) i h
type_unmoved at u number class i false h = applied_unmoved at (row type_instrs number) (type_named u class) i (types_stay at number) h

operand_unmoved : (at : ℕ → ℕ) (u : World) (number : ℕ) (o : Option Operand) (i : Instr) → instr_with u number o ≡ Some i → Unmoved at i
operand_unmoved at u number None i h = absurd (none-some i h)
operand_unmoved at u number (Some (AConstant value)) i h = applied_unmoved at (row constant_instrs number) (Some value) i (constants_stay at number) h
operand_unmoved at u number (Some (AField ref)) i h = applied_unmoved at (row field_instrs number) (field_found u ref) i (fields_stay at number) h
operand_unmoved at u number (Some (AMethod ref)) i h = applied_unmoved at (row method_instrs number) (method_found u ref) i (methods_stay at number) h
operand_unmoved at u number (Some (AType class)) i h = type_unmoved at u number class i (number == 187) h

-- a kept index
kept_by : (w : Program) (u v : World) → WorldsAgree w u v → (old pool : List Entry) → SameOperands old pool → (number index : ℕ) (i : Instr) → CallsNone w i → (o : Option Operand) → operand_at old (number, index) ≡ o → instr_with u number o ≡ Some i → instr_with v number (operand_at pool (number, index)) ≡ Some i
kept_by w u v agree old pool same number index i none None is h = absurd (none-some i h)
kept_by w u v agree old pool same number index i none (Some o) is h = ap (instr_with v number) (same number index o is) ∙ old_operand w u v agree number o i none h

pub kept_index : (w : Program) (u v : World) → WorldsAgree w u v → (old pool : List Entry) → SameOperands old pool → (number index : ℕ) (i : Instr) → CallsNone w i →
    instr_with u number (operand_at old (number, index)) ≡ Some i → instr_with v number (operand_at pool (number, index)) ≡ Some i
kept_index w u v agree old pool same number index i none h = kept_by w u v agree old pool same number index i none (operand_at old (number, index)) refl h

calls_none : (w : Program) (i : Instr) → is_pausable_call w i ≡ false → CallsNone w i
calls_none w (Invokevirtual id) h = h
calls_none w (Invokespecial id) h = h
calls_none w (Invokestatic id) h = h
calls_none w i h = tt

-- ---- a call that pauses

-- this entry is a class and a member
abbrev WithNeed : List Entry → ℕ → Option Entry → MemberRef → Type 0
WithNeed old class m ref = (name descriptor : ℕ) × (call_by old class m ≡ Some (ACall class name (woven_descriptor (text_of old descriptor)))) × (ref ≡ record { owner = class_text old class; name = text_of old name; descriptor = text_of old descriptor })

member_parts : (old : List Entry) (class : ℕ) (m : Option Entry) (ref : MemberRef) → ref_with old class m ≡ Some ref → WithNeed old class m ref
member_parts old class (Some (entry.NameAndType n d)) ref h = (n, d, refl, sym (same_Some _ ref h))
member_parts old class _ ref h = absurd (none-some ref h)

method_parts : (old : List Entry) (e : Option Entry) (ref : MemberRef) → method_ref old e ≡ Some ref → CallParts old e ref
method_parts old (Some (entry.Methodref class m)) ref h = let p = member_parts old class (entry_at old m) ref h in record { class = class; name = p.0; descriptor = p.1; need = p.2; is = p.3 }
method_parts old _ ref h = absurd (none-some ref h)

any_parts : (old : List Entry) (e : Option Entry) (ref : MemberRef) → any_method_ref old e ≡ Some ref → CallParts old e ref
any_parts old (Some (entry.InterfaceMethodref class m)) ref h = let p = member_parts old class (entry_at old m) ref h in record { class = class; name = p.0; descriptor = p.1; need = p.2; is = p.3 }
any_parts old (Some (entry.Methodref class m)) ref h = method_parts old (Some (entry.Methodref class m)) ref h
any_parts old _ ref h = absurd (none-some ref h)

-- which instruction a call is, by its number, and what its index names
pub record CallRow (old : List Entry) (number : ℕ) : Type 0 where
  pub parts : (e : Option Entry) (ref : MemberRef) → index_operand old number e ≡ Some (AMethod ref) → CallParts old e ref

mapped_some : {A B : Type 0} (f : A → B) (inj : (a b : A) → f a ≡ f b → a ≡ b) (x : Option A) (a : A) → option_map f x ≡ Some (f a) → x ≡ Some a
mapped_some f inj None a h = absurd (none-some (f a) h)
mapped_some f inj (Some b) a h = ap Some (inj b a (same_Some (f b) (f a) h))

abbrev as_operand : MemberRef → Operand
as_operand ref = AMethod ref

method_same : (a b : MemberRef) → as_operand a ≡ as_operand b → a ≡ b
method_same a b e = cc

call_rows : (old : List Entry) (number : ℕ) (make : MethodId → Instr) → row method_instrs number ≡ Some make → CallRow old number
call_rows old number make h = row_all (λ n make. CallRow old n) method_instrs (
  record { parts = λ e ref h. method_parts old e ref (mapped_some as_operand method_same (method_ref old e) ref h) },
  (
    record { parts = λ e ref h. any_parts old e ref (mapped_some as_operand method_same (any_method_ref old e) ref h) },
    (record { parts = λ e ref h. any_parts old e ref (mapped_some as_operand method_same (any_method_ref old e) ref h) }, tt),
  ),
) number make h

-- a Methodref is what each of the three calls takes
pub record TakesRef (pool : List Entry) (number : ℕ) : Type 0 where
  pub takes : (e : Option Entry) (ref : MemberRef) → method_ref pool e ≡ Some ref → index_operand pool number e ≡ Some (AMethod ref)

any_of : (pool : List Entry) (e : Option Entry) (ref : MemberRef) → method_ref pool e ≡ Some ref → any_method_ref pool e ≡ Some ref
any_of pool (Some (entry.Methodref class m)) ref h = h
any_of pool (Some (entry.InterfaceMethodref class m)) ref h = absurd (none-some ref h)
any_of pool _ ref h = absurd (none-some ref h)

takes_rows : (pool : List Entry) (number : ℕ) (make : MethodId → Instr) → row method_instrs number ≡ Some make → TakesRef pool number
takes_rows pool number make h = row_all (λ n make. TakesRef pool n) method_instrs (
  record { takes = λ e ref h. ap (option_map as_operand) h },
  (
    record { takes = λ e ref h. ap (option_map as_operand) (any_of pool e ref h) },
    (record { takes = λ e ref h. ap (option_map as_operand) (any_of pool e ref h) }, tt),
  ),
) number make h

-- the call of this row pauses where its method does
pauses_rows : (w : Program) (number : ℕ) (make : MethodId → Instr) → row method_instrs number ≡ Some make → (id : MethodId) → is_pausable_call w (make id) ≡ pauses (method_at w id)
pauses_rows w number make h = row_all (λ n make. (id : MethodId) → is_pausable_call w (make id) ≡ pauses (method_at w id)) method_instrs ((λ id. refl), ((λ id. refl), ((λ id. refl), tt))) number make h

-- nothing else calls a method

never_applied : {A : Type 0} (w : Program) (f : Option (A → Instr)) (x : Option A) (i : Instr) → ((make : A → Instr) → f ≡ Some make → (a : A) → is_pausable_call w (make a) ≡ false) → applied f x ≡ Some i → is_pausable_call w i ≡ false
never_applied w None x i each h = absurd (none-some i h)
never_applied w (Some f) None i each h = absurd (none-some i h)
never_applied w (Some f) (Some a) i each h = subst (λ j. is_pausable_call w j ≡ false) (same_Some (f a) i h) (each f refl a)

never_new : (w : Program) (x : Option ClassId) (i : Instr) → option_map New x ≡ Some i → is_pausable_call w i ≡ false
never_new w None i h = absurd (none-some i h)
never_new w (Some c) i h = subst (λ j. is_pausable_call w j ≡ false) (same_Some (New c) i h) refl

never_type : (w : Program) (u : World) (number : ℕ) (class : Named) (i : Instr) (b : Bool) → (if b then option_map New (class_named_by u class) else applied (row type_instrs number) (type_named u class)) ≡ Some i → is_pausable_call w i ≡ false
never_type w u number class i true h = never_new w (class_named_by u class) i h
never_type w u number class i false h = never_applied w (row type_instrs number) (type_named u class) i (λ make is. row_all (λ n make. (a : Ty) → is_pausable_call w (make a) ≡ false) type_instrs ((λ a. refl), ((λ a. refl), ((λ a. refl), tt))) number make is) h

-- the operand of a call that pauses is a method
pub record IsCall (old : List Entry) (number index : ℕ) (u : World) (i : Instr) : Type 0 where
  pub ref : MemberRef
  pub operand : operand_at old (number, index) ≡ Some (AMethod ref)
  pub call : Calls number ref u i

true_false : {A : Type 0} (b : Bool) → b ≡ true → b ≡ false → A
true_false b t f = absurd (cc)

is_call : (w : Program) (u : World) (old : List Entry) (number index : ℕ) (i : Instr) → is_pausable_call w i ≡ true → (o : Option Operand) → operand_at old (number, index) ≡ o → instr_with u number o ≡ Some i → IsCall old number index u i
is_call w u old number index i p None is h = absurd (none-some i h)
is_call w u old number index i p (Some (AConstant value)) is h =
    true_false (is_pausable_call w i) p (never_applied w (row constant_instrs number) (Some value) i (λ make is. row_all (λ n make. (a : Value) → is_pausable_call w (make a) ≡ false) constant_instrs ((λ a. refl), ((λ a. refl), ((λ a. refl), tt))) number make is) h)
is_call w u old number index i p (Some (AField ref)) is h =
    true_false (is_pausable_call w i) p (never_applied w (row field_instrs number) (field_found u ref) i (λ make is. row_all (λ n make. (a : FieldId) → is_pausable_call w (make a) ≡ false) field_instrs ((λ a. refl), ((λ a. refl), ((λ a. refl), tt))) number make is) h)
is_call w u old number index i p (Some (AType class)) is h = true_false (is_pausable_call w i) p (never_type w u number class i (number == 187) h)
is_call w u old number index i p (Some (AMethod ref)) is h = record { ref = ref; operand = is; call = a_call number ref u i h }

pub pausing_call : (w : Program) (u v : World) → WorldsAgree w u v → (old pool : List Entry) → SameTexts old pool → (number index : ℕ) (i : Instr) → is_pausable_call w i ≡ true →
    NeedNamed pool (call_need old (entry_at old index)) → IsCall old number index u i → instr_with v number (operand_at pool (number, index_or pool index (call_need old (entry_at old index)))) ≡ Some i
pausing_call w u v agree old pool texts number index i p named is =
    let c = (call_rows old number is.call.make is.call.row_is).parts (entry_at old index) is.ref is.operand in
    let at : index_or pool index (call_need old (entry_at old index)) ≡ index_of pool (ACall c.class c.name (woven_descriptor (text_of old c.descriptor))) = ap (index_or pool index) c.need in
    let names : Names pool (ACall c.class c.name (woven_descriptor (text_of old c.descriptor))) = subst (NeedNamed pool) c.need named in
    let same = texts.ref index is.ref c in
    let pausing_it : pauses (method_at w is.call.id) ≡ true = sym (pauses_rows w number is.call.make is.call.row_is is.call.id) ∙ (ap (is_pausable_call w) (sym is.call.is) ∙ p) in
    let ref_is : record { owner = class_text pool c.class; name = text_of pool c.name; descriptor = woven_descriptor (text_of old c.descriptor) } ≡ record is.ref { descriptor = pausing woven_descriptor (pauses (method_at w is.call.id)) is.ref.descriptor } =
    ap (λ t. record { owner = t; name = text_of pool c.name; descriptor = woven_descriptor (text_of old c.descriptor) }) same.0
    ∙ (ap (λ t. record { owner = class_text old c.class; name = t; descriptor = woven_descriptor (text_of old c.descriptor) }) same.1
    ∙ (ap (λ (r : MemberRef). record r { descriptor = woven_descriptor r.descriptor }) (sym c.is)
    ∙ ap (λ b. record is.ref { descriptor = pausing woven_descriptor b is.ref.descriptor }) (sym pausing_it))) in
    ap (λ k. instr_with v number (operand_at pool (number, k))) at
    ∙ (ap (instr_with v number) ((takes_rows pool number is.call.make is.call.row_is).takes (entry_at pool (index_of pool (ACall c.class c.name (woven_descriptor (text_of old c.descriptor))))) _ names)
    ∙ (ap (λ r. instr_with v number (Some (AMethod r))) ref_is ∙ call_again w u v agree number is.ref i is.call))

-- ---- every old instruction

index_by : (w : Program) (u v : World) → WorldsAgree w u v → (old pool : List Entry) → SameOperands old pool → SameTexts old pool → (number index : ℕ) (i : Instr) →
    instr_with u number (operand_at old (number, index)) ≡ Some i → (b : Bool) → is_pausable_call w i ≡ b → NeedNamed pool (if b then call_need old (entry_at old index) else None) →
    instr_with v number (operand_at pool (number, index_or pool index (if b then call_need old (entry_at old index) else None))) ≡ Some i
index_by w u v agree old pool same texts number index i h true p named = pausing_call w u v agree old pool texts number index i p named (is_call w u old number index i p (operand_at old (number, index)) refl h)
index_by w u v agree old pool same texts number index i h false p named = kept_index w u v agree old pool same number index i (calls_none w i p) h

slot_by : (v : World) (pool : List Entry) (at : ℕ → ℕ) (number slot : ℕ) (r : RawInstr) (i : Instr) (f : Option (ℕ → Instr)) → row local_instrs number ≡ f → applied f (Some slot) ≡ Some i → instr_in v pool (shortest (moved_instr at i) r) ≡ Some (moved_instr at i)
slot_by v pool at number slot r i None is h = absurd (none-some i h)
slot_by v pool at number slot r i (Some make) is h = subst (λ j. instr_in v pool (shortest (moved_instr at j) r) ≡ Some (moved_instr at j)) (same_Some (make slot) i h) (locals_back v pool at number make is slot r)

jump_by : (v : World) (pool : List Entry) (at : ℕ → ℕ) (number : ℕ) (i : Instr) (f : Option (ℕ → Instr)) (to : Option ℕ) → row jump_instrs number ≡ f → applied f to ≡ Some i →
    (instr_in v pool (raw.Jump number (pos (target_of (moved_instr at i)))) ≡ Some (moved_instr at i)) × (instr_in v pool (raw.WideJump number (pos (target_of (moved_instr at i)))) ≡ Some (moved_instr at i))
jump_by v pool at number i None to is h = absurd (none-some i h)
jump_by v pool at number i (Some make) None is h = absurd (none-some i h)
jump_by v pool at number i (Some make) (Some to) is h =
    subst (λ j. (instr_in v pool (raw.Jump number (pos (target_of (moved_instr at j)))) ≡ Some (moved_instr at j)) × (instr_in v pool (raw.WideJump number (pos (target_of (moved_instr at j)))) ≡ Some (moved_instr at j))) (same_Some (make to) i h) (jumps_back v pool at number make is to)

array_by : (at : ℕ → ℕ) (x : Option Base) (i : Instr) → option_map Newarray x ≡ Some i → Unmoved at i
array_by at None i h = absurd (none-some i h)
array_by at (Some b) i h = subst (Unmoved at) (same_Some (Newarray b) i h) refl

-- ---- switches

places_back : (xs : List ℕ) → each_of place_of (map place_number xs) ≡ Some xs
places_back [] = refl
places_back (x ∷ xs) = ap (with_first (Some x)) (places_back xs)

pairs_back : (xs : List (ℤ × ℕ)) → each_of pair_in (map pair_number xs) ≡ Some xs
pairs_back [] = refl
pairs_back (x ∷ xs) = ap (with_first (Some x)) (pairs_back xs)

SwitchBack : World → List Entry → (ℕ → ℕ) → RawInstr → Instr → Type 0
SwitchBack v pool at r i = instr_in v pool (switched (moved_instr at i) r) ≡ Some (moved_instr at i)

table_back : (v : World) (pool : List Entry) (at : ℕ → ℕ) (r : RawInstr) (low : ℤ) (i : Instr) (d : Option ℕ) (ts : Option (List ℕ)) → applied (option_map (λ to. Tableswitch to low) d) ts ≡ Some i → SwitchBack v pool at r i
unfolding SwitchBack instr_in
table_back v pool at r low i None ts h = absurd (none-some i h)
table_back v pool at r low i (Some d) None h = absurd (none-some i h)
table_back v pool at r low i (Some d) (Some ts) h =
    subst (SwitchBack v pool at r) (same_Some (Tableswitch d low ts) i h) (ap (applied (Some (Tableswitch (at d) low))) (places_back (map at ts)))

lookup_back : (v : World) (pool : List Entry) (at : ℕ → ℕ) (r : RawInstr) (i : Instr) (d : Option ℕ) (ps : Option (List (ℤ × ℕ))) → applied (option_map (λ to. λ each. Lookupswitch to each) d) ps ≡ Some i → SwitchBack v pool at r i
unfolding SwitchBack instr_in
lookup_back v pool at r i None ps h = absurd (none-some i h)
lookup_back v pool at r i (Some d) None h = absurd (none-some i h)
lookup_back v pool at r i (Some d) (Some ps) h =
    subst (SwitchBack v pool at r) (same_Some (Lookupswitch d ps) i h) (ap (applied (Some (Lookupswitch (at d)))) (pairs_back (moved_pairs at ps)))

pub old_back : (w : Program) (u v : World) → WorldsAgree w u v → (old pool : List Entry) → SameOperands old pool → SameTexts old pool → (at : ℕ → ℕ) (r : RawInstr) (i : Instr) →
    instr_in u old r ≡ Some i → LdcCallsNone w r i → OldNamed w old pool (moved_instr at i) r → instr_in v pool (moved_raw w old pool (moved_instr at i) r) ≡ Some (moved_instr at i)
unfolding instr_in moved_raw SwitchBack
old_back w u v agree old pool same texts at (raw.Plain number) i h ldc named = plain_back v pool at number i h
old_back w u v agree old pool same texts at (raw.Byte number n) i h ldc named = subst (λ j. Some (Bipush n) ≡ Some (moved_instr at j)) (same_Some (Bipush n) i h) refl
old_back w u v agree old pool same texts at (raw.Short number n) i h ldc named = subst (λ j. Some (Sipush n) ≡ Some (moved_instr at j)) (same_Some (Sipush n) i h) refl
old_back w u v agree old pool same texts at (raw.Local number slot) i h ldc named = slot_by v pool at number slot (raw.Local number slot) i (row local_instrs number) refl h
old_back w u v agree old pool same texts at (raw.WideLocal number slot) i h ldc named = slot_by v pool at number slot (raw.WideLocal number slot) i (row local_instrs number) refl h
old_back w u v agree old pool same texts at (raw.Iinc number slot n) i h ldc named = subst (λ j. Some (Iinc slot n) ≡ Some (moved_instr at j)) (same_Some (Iinc slot n) i h) refl
old_back w u v agree old pool same texts at (raw.WideIinc number slot n) i h ldc named = subst (λ j. Some (Iinc slot n) ≡ Some (moved_instr at j)) (same_Some (Iinc slot n) i h) refl
old_back w u v agree old pool same texts at (raw.Jump number to) i h ldc named = (jump_by v pool at number i (row jump_instrs number) (place_of to) refl h).0
old_back w u v agree old pool same texts at (raw.WideJump number to) i h ldc named = (jump_by v pool at number i (row jump_instrs number) (place_of to) refl h).1
old_back w u v agree old pool same texts at (raw.NewArray number code) i h ldc named = h ∙ ap Some (sym (array_by at (row array_codes code) i h))
old_back w u v agree old pool same texts at (raw.TableSwitch number default low targets) i h ldc named = table_back v pool at (raw.TableSwitch number default low targets) low i (place_of default) (each_of place_of targets) h
old_back w u v agree old pool same texts at (raw.LookupSwitch number default pairs) i h ldc named = lookup_back v pool at (raw.LookupSwitch number default pairs) i (place_of default) (each_of pair_in pairs) h
old_back w u v agree old pool same texts at (raw.Constant number index) i h ldc named =
    kept_index w u v agree old pool same number index i ldc h ∙ ap Some (sym (operand_unmoved at u number (operand_at old (number, index)) i h))
old_back w u v agree old pool same texts at (raw.Index number index) i h ldc named =
    let stays : moved_instr at i ≡ i = operand_unmoved at u number (operand_at old (number, index)) i h in
    subst (λ j. OldNamed w old pool j (raw.Index number index) → instr_with v number (operand_at pool (number, index_or pool index (old_need w old j (raw.Index number index)))) ≡ Some j) (sym stays)
    (λ named. index_by w u v agree old pool same texts number index i h (is_pausable_call w i) refl named) named

-- ---- what weaving adds

member_by : (v : World) (pool : List Entry) (number : ℕ) (make : MethodId → Instr) → row method_instrs number ≡ Some make → (need : Need) (id : MethodId) → Names pool need → IsFound v need id →
    instr_with v number (operand_at pool (number, index_of pool need)) ≡ Some (make id)
member_by v pool number make is (AText units) id names f = absurd f
member_by v pool number make is (AClass name) id names f = absurd f
member_by v pool number make is (ACall c n d) id names f = absurd f
member_by v pool number make is (AMethod o n d) id names f =
    ap (instr_with v number) ((takes_rows pool number make is).takes (entry_at pool (index_of pool (AMethod o n d))) _ names)
    ∙ (ap (λ g. applied g (method_found v (record { owner = o; name = n; descriptor = d }))) is ∙ ap (applied (Some make)) f)

pub added_back : (v : World) (w : Program) (pool : List Entry) (i : Instr) → AddedFits v w pool i → instr_in v pool (added_raw w pool i) ≡ Some i
unfolding instr_in added_raw
added_back v w pool (Iload slot) h = local_back v pool 26 21 Iload (refl, refl, refl, refl) refl slot
added_back v w pool (Lload slot) h = local_back v pool 30 22 Lload (refl, refl, refl, refl) refl slot
added_back v w pool (Aload slot) h = local_back v pool 42 25 Aload (refl, refl, refl, refl) refl slot
added_back v w pool (Istore slot) h = local_back v pool 59 54 Istore (refl, refl, refl, refl) refl slot
added_back v w pool (Lstore slot) h = local_back v pool 63 55 Lstore (refl, refl, refl, refl) refl slot
added_back v w pool (Astore slot) h = local_back v pool 75 58 Astore (refl, refl, refl, refl) refl slot
added_back v w pool AconstNull h = refl
added_back v w pool (Iconst (pos zero)) h = refl
added_back v w pool (Iconst (pos (suc zero))) h = refl
added_back v w pool (Iconst (pos (suc (suc zero)))) h = refl
added_back v w pool (Iconst (pos (suc (suc (suc zero))))) h = refl
added_back v w pool (Iconst (pos (suc (suc (suc (suc zero)))))) h = refl
added_back v w pool (Iconst (pos (suc (suc (suc (suc (suc zero))))))) h = refl
added_back v w pool (Iconst (pos (suc (suc (suc (suc (suc (suc n)))))))) h = absurd (omega (arith, h))
added_back v w pool (Lconst (pos zero)) h = refl
added_back v w pool (Lconst (pos (suc zero))) h = refl
added_back v w pool (Lconst (pos (suc (suc n)))) h = absurd (omega (arith, h))
added_back v w pool (Bipush n) h = refl
added_back v w pool (Sipush n) h = refl
added_back v w pool Pop h = refl
added_back v w pool Pop2 h = refl
added_back v w pool Ireturn h = refl
added_back v w pool Lreturn h = refl
added_back v w pool Areturn h = refl
added_back v w pool Return h = refl
added_back v w pool (Ifeq to) h = refl
added_back v w pool (Goto to) h = refl
added_back v w pool (Tableswitch default low targets) h = ap (applied (Some (Tableswitch default low))) (places_back targets)
added_back v w pool (Invokevirtual id) h = member_by v pool 182 Invokevirtual refl (needed_method w id) id h.0 h.1
added_back v w pool (Invokestatic id) h = member_by v pool 184 Invokestatic refl (needed_method w id) id h.0 h.1
added_back v w pool (Checkcast ty) h =
    ap (λ o. instr_with v 192 (option_map AType o)) h.0.1 ∙ ap (option_map Checkcast) h.1
added_back v w pool i h = absurd h

-- ---- the code

pub code_back : (w : Program) (u v : World) → WorldsAgree w u v → (old pool : List Entry) → SameOperands old pool → SameTexts old pool → (at : ℕ → ℕ) (code : List (ℕ × Instr)) (marks : List Bool) (rs : List Placed) →
    CodeFits u v w old pool at code marks rs → each_of (placed_in v pool) (raw_code w old pool code marks rs) ≡ Some code
unfolding raw_code
code_back w u v agree old pool same texts at [] [] [] h = refl
code_back w u v agree old pool same texts at [] [] (r ∷ rs) h = absurd h
code_back w u v agree old pool same texts at [] (m ∷ ms) rs h = absurd h
code_back w u v agree old pool same texts at (e ∷ es) [] rs h = absurd h
code_back w u v agree old pool same texts at (e ∷ es) (true ∷ marks) [] h = absurd h
code_back w u v agree old pool same texts at (e ∷ es) (true ∷ marks) (r ∷ rs) h =
    let i = h.0.0 in
    let here : instr_in v pool (moved_raw w old pool e.1 r.1) ≡ Some e.1 =
    subst (λ j. OldNamed w old pool j r.1 → instr_in v pool (moved_raw w old pool j r.1) ≡ Some j) (sym h.0.1) (λ named. old_back w u v agree old pool same texts at r.1 i h.0.2 h.0.3 named) h.0.4 in
    ap (λ o. with_first (option_map (λ j. (e.0, j)) o) (each_of (placed_in v pool) (raw_code w old pool es marks rs))) here
    ∙ ap (with_first (Some e)) (code_back w u v agree old pool same texts at es marks rs h.1)
code_back w u v agree old pool same texts at (e ∷ es) (false ∷ marks) rs h =
    ap (λ o. with_first (option_map (λ j. (e.0, j)) o) (each_of (placed_in v pool) (raw_code w old pool es marks rs))) (added_back v w pool e.1 h.0)
    ∙ ap (with_first (Some e)) (code_back w u v agree old pool same texts at es marks rs h.1)
