-- Calls fit.
use Rattle.std.proofs.Common.{◌≡◌, ◌≢◌, ◌⊎◌, inl, inr, ℕ, zero, suc, ℤ, pos, negsuc, ◌%◌, ◌^◌, Bool, true, false, true≢false, cond, List, [], ◌∷◌, ◌++◌, map, length, reverse, Option, Some, None, Ok, refl, sym, ap, subst, ◌∙◌}
use mathlib.Core.List.{reverse_aux}
use Rattle.std.specs.Prelude.{◌||◌, not, slice_get, codes}
use Rattle.std.proofs.lemmas.Bool.{and_parts, and_from}
use Rattle.std.proofs.lemmas.List.{reverse-reverse, length-reverse}
use Rattle.kilim_program.specs.declared.class.Method.{Method}
use Rattle.kilim_program.specs.declared.instr.Instr.{Instr}
use Rattle.kilim_program.specs.declared.names.ClassId.{ClassId}
use Rattle.kilim_program.specs.declared.names.MethodId.{MethodId}
use Rattle.kilim_program.specs.declared.ty.Base.{Base}
use Rattle.kilim_program.specs.declared.ty.Base.TheVariants as base
use Rattle.kilim_program.specs.declared.ty.Ty.{Ty}
use Rattle.kilim_program.specs.declared.value.Value.{Value}
use Rattle.kilim_program.specs.declared.value.Value.TheVariants as value
use Rattle.kilim_program.specs.declared.verified.VType.{VType}
use Rattle.kilim_program.specs.declared.verified.VType.TheVariants.{Top, Int, Long, Null, UninitThis, Uninit, Object}
use Rattle.kilim_program.specs.Program.{Program}
use Rattle.kilim_run_state.specs.Machine.{Objects}
use Rattle.kilim_program.specs.BuiltIn.{class_type, message_field, plain_type}
use Rattle.kilim_program.specs.Names.{class_at, method_at, class_name}
use Rattle.kilim_program.specs.Members.{is_concrete}
use Rattle.kilim_program.specs.Kinds.{is_value_class}
use Rattle.kilim_run_state.specs.declared.value.Object.{Object as HeapObject}
use Rattle.std.specs.Int.{w32, cast_signed}
use Rattle.std.specs.Str.{bytes_eq}
use Rattle.kilim_program.specs.Same.{is_constructor}
use Rattle.kilim_program.specs.Fits.{fits_type}
use Rattle.kilim_run_state.specs.Shapes.{field_in}
use Rattle.kilim_run_machine.specs.Effect.{when, text_of, as_int, with_some, Effect, Goes, Calls, Asks, Raises, on_value, on_values, on_receiver, as_receiver, as_class}
use Rattle.kilim_program.specs.Members.{named_type}
use Rattle.kilim_run_machine.specs.Does.{text_answers, is_text, at_unit, unit_at, bit, calls_built_in, calls_text, calls_method, calls_on, chosen, gives_message, keeps_message, special}
use Rattle.kilim_run_machine.specs.Natives.{is_get_message, is_message_constructor, is_text_method}
use Rattle.kilim_type_spec.specs.Step.{may_name, special_fits, all_meet, Types, Operand, Is, Further, Takes, by_row, arguments, result_types, vtype, dims_vtype, base_vtype, class_vtype, is_top, assignable}
use Rattle.kilim_type_spec.specs.Typed.{writes, edges, Among}
use Rattle.kilim_type_sound.specs.Fits.{Classes, is_of, has_type, have_types, HeapFits, ObjectFits, ContentFits, IsThere, result_awaited, StackFits}
use Rattle.kilim_type_spec.specs.Typed.{has_code}
use Rattle.kilim_type_sound.specs.Sound.{GoesOn, EffectFits}
use Rattle.kilim_type_sound.specs.Facts.{Ordered, Facts, OfMessage, Selected, TextKind, IsLength, IsEquals, IsCharAt, TextMethod}
use Rattle.kilim_type_laws.specs.members.Chosen.{has_instances}
use Rattle.kilim_type_sound.proofs.Basics.{object_assigned, taken, of_through, class_of, is_reference, Held, Taken, PlainOperands}
use Rattle.kilim_type_sound.proofs.Steps.{same_typed, vtype_set}
use Rattle.kilim_type_sound.proofs.Words.{int_is, value_took, receiver_is, class_is}
use Rattle.kilim_type_sound.proofs.Holders.{content_there, holder_is}
use Rattle.kilim_type_sound.proofs.Values.{value_typed}
use Rattle.kilim_type_sound.proofs.Rows.{Before, by_takes, going, kept}

base_no_top : (ty : Ty) (b : Base) → is_top (base_vtype ty b) ≡ false
base_no_top ty base.Long = refl
base_no_top ty (base.Class c) = refl
base_no_top ty base.Bool = refl
base_no_top ty base.Byte = refl
base_no_top ty base.Char = refl
base_no_top ty base.Short = refl
base_no_top ty base.Int = refl

dims_no_top : (ty : Ty) (d : ℕ) → is_top (dims_vtype ty d) ≡ false
dims_no_top ty zero = base_no_top ty ty.base
dims_no_top ty (suc d) = refl

pub vtype_no_top : (ty : Ty) → is_top (vtype ty) ≡ false
vtype_no_top ty = dims_no_top ty ty.dims

base_itself : (p : Program) → Ordered p → (ty : Ty) (b : Base) → assignable p (base_vtype ty b) (base_vtype ty b) ≡ true
base_itself p order ty base.Long = refl
base_itself p order ty (base.Class c) = order.itself ty
base_itself p order ty base.Bool = refl
base_itself p order ty base.Byte = refl
base_itself p order ty base.Char = refl
base_itself p order ty base.Short = refl
base_itself p order ty base.Int = refl

pub dims_itself : (p : Program) → Ordered p → (ty : Ty) (d : ℕ) → assignable p (dims_vtype ty d) (dims_vtype ty d) ≡ true
dims_itself p order ty zero = base_itself p order ty ty.base
dims_itself p order ty (suc d) = order.itself ty

map_length : (tys : List Ty) → length (map (λ ty. Is (vtype ty)) tys) ≡ length tys
map_length [] = refl
map_length (ty ∷ tys) = ap suc (map_length tys)

-- the arguments, the last first, by their types
turned_operands : (tys : List Ty) (acc : List VType) → reverse_aux (map (λ ty. Is (vtype ty)) tys) (map (λ t. Is t) acc) ≡ map (λ t. Is t) (reverse_aux (map vtype tys) acc)
turned_operands [] acc = refl
turned_operands (ty ∷ tys) acc = turned_operands tys (vtype ty ∷ acc)

pub arguments_are : (callee : Method) → arguments callee ≡ map (λ t. Is t) (reverse (map vtype callee.params))
arguments_are callee = turned_operands callee.params []

module _ (p : Program) (order : Ordered p) (m : Method) (of : Classes) (h : Objects) (heap : HeapFits p of h) (S : Effect → Type 0) (ended : (c : _) → S (Raises c)) where
  abbrev HeldAll : List Operand → List Value → Type 0
  HeldAll [] [] = Unit {0}
  HeldAll (o ∷ os) (v ∷ vs) = Held p order m of o v × HeldAll os vs
  HeldAll os vs = ⊥

  values_took : (os qs : List Operand) (ts : List VType) (vs : List Value) → Taken p order m of h (os ++ qs) ts vs → (go : List Value → List Value → Effect) →
      ((xs rest : List Value) → HeldAll os xs → Taken p order m of h qs ts rest → S (go xs rest)) → S (on_values (length os) vs go)
  values_took [] qs ts vs t go k = k [] vs tt t
  values_took (o ∷ os) qs ts [] t go k = absurd t
  values_took (o ∷ os) qs ts (v ∷ vs) t go k = values_took os qs ts vs t.1.1 (λ xs below. go (v ∷ xs) below) (λ xs rest hs q. k (v ∷ xs) rest (t.0, hs) q)

  values_two : (os qs rs : List Operand) (ts us : List VType) (vs : List Value) → Taken p order m of h (os ++ qs) ts vs → Taken p order m of h (map (λ o. Is Top) os ++ rs) us vs → (go : List Value → List Value → Effect) →
      ((xs rest : List Value) → HeldAll os xs → Taken p order m of h qs ts rest → Taken p order m of h rs us rest → S (go xs rest)) → S (on_values (length os) vs go)
  values_two [] qs rs ts us vs t u go k = k [] vs tt t u
  values_two (o ∷ os) qs rs ts us [] t u go k = absurd t
  values_two (o ∷ os) qs rs ts us (v ∷ vs) t u go k = values_two os qs rs ts us vs t.1.1 u.1.1 (λ xs below. go (v ∷ xs) below) (λ xs rest hs q r. k (v ∷ xs) rest (t.0, hs) q r)

  pub held_has : (t : VType) (v : Value) → is_top t ≡ false → Held p order m of (Is t) v → has_type p m of t v ≡ true
  held_has Top v n e = absurd (cc)
  held_has Int v n e = e
  held_has Long v n e = e
  held_has Null v n e = e
  held_has UninitThis v n e = e
  held_has (Uninit q) v n e = e
  held_has (Object ty) v n e = e

  abbrev NoTops : List VType → Type 0
  NoTops [] = Unit {0}
  NoTops (t ∷ ts) = (is_top t ≡ false) × NoTops ts

  no_tops : (tys : List Ty) (acc : List VType) → NoTops acc → NoTops (reverse_aux (map vtype tys) acc)
  no_tops [] acc n = n
  no_tops (ty ∷ tys) acc n = no_tops tys (vtype ty ∷ acc) (vtype_no_top ty, n)

  have_held : (ts : List VType) (xs : List Value) → NoTops ts → HeldAll (map (λ t. Is t) ts) xs → have_types p m of ts xs ≡ true
  have_held [] [] n e = refl
  have_held [] (x ∷ xs) n e = absurd e
  have_held (t ∷ ts) [] n e = absurd e
  have_held (t ∷ ts) (x ∷ xs) n e = and_from (has_type p m of t x) (have_types p m of ts xs) (held_has t x n.0 e.0) (have_held ts xs n.1 e.1)

  have_turned : (a c : List VType) (vs ws : List Value) → have_types p m of a vs ≡ true → have_types p m of c ws ≡ true → have_types p m of (reverse_aux a c) (reverse_aux vs ws) ≡ true
  have_turned [] c [] ws e d = d
  have_turned [] c (v ∷ vs) ws e d = absurd (cc)
  have_turned (t ∷ a) c [] ws e d = absurd (cc)
  have_turned (t ∷ a) c (v ∷ vs) ws e d =
      let es = and_parts (has_type p m of t v) (have_types p m of a vs) e in
      have_turned a (t ∷ c) vs (v ∷ ws) es.1 (and_from (has_type p m of t v) (have_types p m of c ws) es.0 d)

  have_arguments : (callee : Method) (xs : List Value) → HeldAll (arguments callee) xs → have_types p m of (map vtype callee.params) (reverse xs) ≡ true
  have_arguments callee xs e =
      let a = have_held (reverse (map vtype callee.params)) xs (no_tops callee.params [] tt) (subst (λ (os : List Operand). HeldAll os xs) (arguments_are callee) e) in
      subst (λ (ts : List VType). have_types p m of ts (reverse xs) ≡ true) (reverse-reverse (map vtype callee.params)) (have_turned (reverse (map vtype callee.params)) [] xs [] a refl)

  argument_count : (callee : Method) → length (arguments callee) ≡ length callee.params
  argument_count callee = length-reverse (map (λ ty. Is (vtype ty)) callee.params) ∙ map_length callee.params

  pub args_took : (callee : Method) (qs : List Operand) (ts : List VType) (vs : List Value) → Taken p order m of h (arguments callee ++ qs) ts vs → (go : List Value → List Value → Effect) →
      ((xs rest : List Value) → have_types p m of (map vtype callee.params) (reverse xs) ≡ true → Taken p order m of h qs ts rest → S (go xs rest)) → S (on_values (length callee.params) vs go)
  args_took callee qs ts vs t go k = subst (λ (n : ℕ). S (on_values n vs go)) (argument_count callee) (values_took (arguments callee) qs ts vs t go (λ xs rest e q. k xs rest (have_arguments callee xs e) q))

  pub args_two : (callee : Method) (qs rs : List Operand) (ts us : List VType) (vs : List Value) → Taken p order m of h (arguments callee ++ qs) ts vs → Taken p order m of h (map (λ o. Is Top) (arguments callee) ++ rs) us vs → (go : List Value → List Value → Effect) →
      ((xs rest : List Value) → have_types p m of (map vtype callee.params) (reverse xs) ≡ true → Taken p order m of h qs ts rest → Taken p order m of h rs us rest → S (go xs rest)) → S (on_values (length callee.params) vs go)
  args_two callee qs rs ts us vs t u go k = subst (λ (n : ℕ). S (on_values n vs go)) (argument_count callee) (values_two (arguments callee) qs rs ts us vs t u go (λ xs rest e q r. k xs rest (have_arguments callee xs e) q r))

plain_arguments : (p : Program) (order : Ordered p) (m : Method) (of : Classes) (ts : List VType) (qs : List Operand) → PlainOperands p order m of qs → PlainOperands p order m of (map (λ t. Is t) ts ++ qs)
plain_arguments p order m of [] qs q = q
plain_arguments p order m of (t ∷ ts) qs q = (tt, plain_arguments p order m of ts qs q)

pub same_arguments : (p : Program) (m w : Method) (of : Classes) (tys : List Ty) (vs : List Value) → have_types p m of (map vtype tys) vs ≡ true → have_types p w of (map vtype tys) vs ≡ true
same_arguments p m w of [] [] e = refl
same_arguments p m w of [] (v ∷ vs) e = absurd (cc)
same_arguments p m w of (ty ∷ tys) [] e = absurd (cc)
same_arguments p m w of (ty ∷ tys) (v ∷ vs) e =
    let es = and_parts (has_type p m of (vtype ty) v) (have_types p m of (map vtype tys) vs) e in
    and_from (has_type p w of (vtype ty) v) (have_types p w of (map vtype tys) vs) (sym (same_typed p m w of (vtype ty) v (vtype_set ty)) ∙ es.0) (same_arguments p m w of tys vs es.1)

module _ (p : Program) (facts : Facts p) (m : Method) (of : Classes) (h : Objects) (heap : HeapFits p of h) (live : ℕ → ℕ → Bool) (at next : ℕ) (f g : Types) (ls vs : List Value) where
  abbrev B : Instr → Type 0
  B i = Before p m of h live at next f ls vs i

  abbrev After : Instr → Effect → Type 0
  After i e = EffectFits p m of live next ls h (edges i next) g e

  abbrev At : Instr → List VType → Effect → Type 0
  At i s e = EffectFits p m of live next ls h (edges i next) (record f { stack = s }) e

  module _ (i : Instr) (b : B i) (w : (k : ℕ) → writes i k ≡ false) (on : Among (edges i next) next) where
    -- the caller waits for the result
    pub awaits : (result : Option Ty) (ts : List VType) (rest : List Value) → have_types p m of ts rest ≡ true → GoesOn p m of live (edges i next) (record f { stack = result_types result ++ ts }) (result_awaited result) next ls rest h
    awaits result ts rest e = record { among = on; locals = kept p facts.order m of h heap live at next f g ls vs i b w next on; stack = by result; heap = heap }
      where
        by : (r : Option Ty) → StackFits p m of (result_awaited r) (result_types r ++ ts) rest
        by None = e
        by (Some ty) = (dims_itself p facts.order ty ty.dims, vtype_no_top ty, e)

    pub static_calls : (id : MethodId) (callee : Method) → method_at p id ≡ Some callee → callee.built_in ≡ false → callee.is_static ≡ true → (also : List Further) → by_row p m at (Takes (arguments callee) (result_types callee.result) also) f ≡ Ok g →
        After i (on_values (length callee.params) vs (λ args rest. Calls id (reverse args) next ls rest h))
    static_calls id callee there own static also r =
        by_takes p facts.order m of h heap live at next f g ls vs i b (arguments callee) (result_types callee.result) also
        (subst (λ (os : List Operand). PlainOperands p facts.order m of os) (sym (arguments_are callee)) (plain_none (reverse (map vtype callee.params)))) r (on_values (length callee.params) vs (λ args rest. Calls id (reverse args) next ls rest h)) (λ a ts k.
        args_took p facts.order m of h heap (At i (result_types callee.result ++ ts)) (λ c. tt) callee [] ts vs (subst (λ (os : List Operand). Taken p facts.order m of h os ts vs) (sym (append_none (arguments callee))) k) (λ args rest. Calls id (reverse args) next ls rest h) (λ xs rest e t.
        record {
          callee = callee;
          there = there;
          code = facts.bodies id callee there own (facts.statics id callee there static);
          arguments = subst (λ (z : Bool). have_types p callee of ((cond z [] (cond (is_constructor callee) UninitThis (class_vtype callee.owner) ∷ [])) ++ map vtype callee.params) (reverse xs) ≡ true) (sym static) (same_arguments p m callee of callee.params (reverse xs) e);
          goes = awaits callee.result ts rest t;
          behind = refl;
          same = refl;
        }))
      where
        append_none : (os : List Operand) → os ++ [] ≡ os
        append_none [] = refl
        append_none (o ∷ os) = ap (λ (z : List Operand). o ∷ z) (append_none os)

        plain_none : (ts : List VType) → PlainOperands p facts.order m of (map (λ t. Is t) ts)
        plain_none [] = tt
        plain_none (t ∷ ts) = (tt, plain_none ts)

    pub static_native : (id : MethodId) (callee : Method) → method_at p id ≡ Some callee → callee.built_in ≡ true → callee.is_static ≡ true → (also : List Further) → by_row p m at (Takes (arguments callee) (result_types callee.result) also) f ≡ Ok g →
        After i (on_values (length callee.params) vs (λ args rest. Asks id (reverse args) next ls rest h))
    static_native id callee there own static also r =
        by_takes p facts.order m of h heap live at next f g ls vs i b (arguments callee) (result_types callee.result) also
        (subst (λ (os : List Operand). PlainOperands p facts.order m of os) (sym (arguments_are callee)) (plain_none (reverse (map vtype callee.params)))) r (on_values (length callee.params) vs (λ args rest. Asks id (reverse args) next ls rest h)) (λ a ts k.
        args_took p facts.order m of h heap (At i (result_types callee.result ++ ts)) (λ c. tt) callee [] ts vs (subst (λ (os : List Operand). Taken p facts.order m of h os ts vs) (sym (append_none (arguments callee))) k) (λ args rest. Asks id (reverse args) next ls rest h) (λ xs rest e t.
        record {
          callee = callee;
          there = there;
          built_in = own;
          arguments = subst (λ (z : Bool). have_types p callee of ((cond z [] (class_vtype callee.owner ∷ [])) ++ map vtype callee.params) (reverse xs) ≡ true) (sym static) (same_arguments p m callee of callee.params (reverse xs) e);
          goes = awaits callee.result ts rest t;
          behind = refl;
          same = refl;
        }))
      where
        append_none : (os : List Operand) → os ++ [] ≡ os
        append_none [] = refl
        append_none (o ∷ os) = ap (λ (z : List Operand). o ∷ z) (append_none os)

        plain_none : (ts : List VType) → PlainOperands p facts.order m of (map (λ t. Is t) ts)
        plain_none [] = tt
        plain_none (t ∷ ts) = (tt, plain_none ts)

    -- ---- calls on an object

    no_arguments : (tys : List Ty) (args : List Value) → tys ≡ [] → have_types p m of (map vtype tys) args ≡ true → args ≡ []
    no_arguments tys args none e = by args (subst (λ (ys : List Ty). have_types p m of (map vtype ys) args ≡ true) none e)
      where
        by : (args : List Value) → have_types p m of [] args ≡ true → args ≡ []
        by [] e = refl
        by (v ∷ vs) e = absurd (cc)

    -- the message of an exception is a value of its field's type
    message_given : (callee : Method) (x : OfMessage p callee) (v : Value) → has_type p m of (Object (class_type callee.owner.0)) v ≡ true → IsThere h v → (ts : List VType) (rest : List Value) → have_types p m of ts rest ≡ true →
        At i (vtype x.field.ty ∷ ts) (gives_message (v ∷ []) next ls rest h)
    message_given callee x v d t ts rest u =
        holder_is p facts m of h heap (At i (vtype x.field.ty ∷ ts)) (λ c. tt) message_field x.field x.there x.instance v (object_assigned p facts.order m of (class_type callee.owner.0) (class_type x.field.owner.0) v x.above d) t
        (λ n o. with_some (field_in o.fields message_field) (λ w. Goes next ls (w ∷ rest) h)) (λ n o there own.
        let y = content_there p of message_field x.field x.there o.class.dims o.class.base o (heap.objects n o there) own in
        subst (λ (z : Option Value). At i (vtype x.field.ty ∷ ts) (with_some z (λ w. Goes next ls (w ∷ rest) h))) (sym y.1)
        (going p facts.order m of h heap live at next f g ls vs i b w next on (vtype x.field.ty ∷ ts) (y.0 ∷ rest)
        (and_from (has_type p m of (vtype x.field.ty) y.0) (have_types p m of ts rest) (value_typed p facts.order of heap.proper m x.field.ty y.0 y.2) u)))

    called_with : (named : Method) (id : MethodId) (s : Selected p named id) (v : Value) (args rest : List Value) (ts : List VType) → v ≢ value.Null → is_of p (class_of p of v) (class_type s.method.owner.0) ≡ true → is_reference v ≡ true → IsThere h v →
        have_types p m of (map vtype named.params) args ≡ true → have_types p m of ts rest ≡ true → At i (result_types named.result ++ ts) (calls_method (method_at p id) id (v ∷ args) next ls rest h)
    called_with named id s v args rest ts nn is ref vt e t = subst (λ (o : Option Method). At i (result_types named.result ++ ts) (calls_method o id (v ∷ args) next ls rest h)) (sym s.there) (by s.method.built_in refl s.code)
      where
        of_class : (v : Value) → v ≢ value.Null → is_of p (class_of p of v) (class_type s.method.owner.0) ≡ true → is_reference v ≡ true → has_type p s.method of (class_vtype s.method.owner) v ≡ true
        of_class (value.Int x) nn is ref = absurd (cc)
        of_class (value.Long x) nn is ref = absurd (cc)
        of_class value.Null nn is ref = refl
        of_class (value.Ref n) nn is ref = is
        of_class (value.Text u) nn is ref = is
        of_class (value.Box x) nn is ref = is
        of_class value.Fiber nn is ref = is

        is_object : (v : Value) → v ≢ value.Null → is_of p (class_of p of v) (class_type s.method.owner.0) ≡ true → is_reference v ≡ true → has_type p m of (Object (class_type s.method.owner.0)) v ≡ true
        is_object v nn is ref = same_typed p m s.method of (class_vtype s.method.owner) v refl ∙ of_class v nn is ref

        typed : have_types p s.method of (class_vtype s.method.owner ∷ map vtype s.method.params) (v ∷ args) ≡ true
        typed = and_from (has_type p s.method of (class_vtype s.method.owner) v) (have_types p s.method of (map vtype s.method.params) args) (of_class v nn is ref)
            (subst (λ (tys : List Ty). have_types p s.method of (map vtype tys) args ≡ true) (sym s.params) (same_arguments p m s.method of named.params args e))

        goes : GoesOn p m of live (edges i next) (record f { stack = result_types named.result ++ ts }) (result_awaited s.method.result) next ls rest h
        goes = subst (λ (r : Option Ty). GoesOn p m of live (edges i next) (record f { stack = result_types named.result ++ ts }) (result_awaited r) next ls rest h) (sym s.result) (awaits named.result ts rest t)

        asks : s.method.built_in ≡ true → At i (result_types named.result ++ ts) (Asks id (v ∷ args) next ls rest h)
        asks z = record { callee = s.method; there = s.there; built_in = z; arguments = subst (λ (y : Bool). have_types p s.method of (cond y [] (class_vtype s.method.owner ∷ []) ++ map vtype s.method.params) (v ∷ args) ≡ true) (sym s.instance) typed; goes = goes; behind = refl; same = refl }

        no_constructor : is_message_constructor s.method ≡ true → ⊥
        no_constructor e = true≢false (sym (and_parts (is_constructor s.method) _ (and_parts s.method.built_in _ e).1).0 ∙ s.plain)

        gives : is_get_message s.method ≡ true → At i (result_types named.result ++ ts) (gives_message (v ∷ args) next ls rest h)
        gives g1 =
            let x = facts.gives_messages id s.method s.there g1 in
            subst (λ (r : Option Ty). At i (result_types r ++ ts) (gives_message (v ∷ args) next ls rest h)) (sym x.2 ∙ s.result)
            (subst (λ (xs : List Value). At i (vtype x.0.field.ty ∷ ts) (gives_message (v ∷ xs) next ls rest h)) (sym (no_arguments named.params args (sym s.params ∙ x.1) e))
            (message_given s.method x.0 v (is_object v nn is ref) vt ts rest t))

        by_kind : (k r : Bool) → is_message_constructor s.method ≡ k → is_get_message s.method ≡ r → s.method.built_in ≡ true →
            At i (result_types named.result ++ ts) (cond k (keeps_message (v ∷ args) next ls rest h) (cond r (gives_message (v ∷ args) next ls rest h) (Asks id (v ∷ args) next ls rest h)))
        by_kind true r k e z = absurd (no_constructor k)
        by_kind false true k e z = gives e
        by_kind false false k e z = asks z

        by : (z : Bool) → s.method.built_in ≡ z → (s.method.built_in ≡ true) ⊎ ((s.method.built_in ≡ false) × (has_code s.method ≡ true)) → At i (result_types named.result ++ ts) (cond z (calls_built_in s.method id (v ∷ args) next ls rest h) (Calls id (v ∷ args) next ls rest h))
        by true z c = by_kind (is_message_constructor s.method) (is_get_message s.method) refl refl z
        by false z (inl c) = absurd (cc)
        by false z (inr c) = record {
          callee = s.method;
          there = s.there;
          code = c.1;
          arguments = subst (λ (y : Bool). have_types p s.method of ((cond y [] (cond (is_constructor s.method) UninitThis (class_vtype s.method.owner) ∷ [])) ++ map vtype s.method.params) (v ∷ args) ≡ true) (sym s.instance)
              (subst (λ (y : Bool). have_types p s.method of ((cond y UninitThis (class_vtype s.method.owner) ∷ []) ++ map vtype s.method.params) (v ∷ args) ≡ true) (sym s.plain) typed);
          goes = goes;
          behind = refl;
          same = refl;
        }

    instances_of : (d : ℕ) (c : Base) (o : _) → ContentFits p of d c o → has_instances p d c ≡ true
    instances_of zero (base.Class c) o e = (and_parts _ _ e.0).0
    instances_of (suc d) c o e = refl
    instances_of zero base.Bool o e = absurd e
    instances_of zero base.Byte o e = absurd e
    instances_of zero base.Char o e = absurd e
    instances_of zero base.Short o e = absurd e
    instances_of zero base.Int o e = absurd e
    instances_of zero base.Long o e = absurd e

    -- a receiver, which isn't null, is of a class that has instances
    receiver_class : (ty : Ty) (v : Value) → has_type p m of (Object ty) v ≡ true → IsThere h v → (v ≡ value.Null) ⊎ ((v ≢ value.Null) × (is_reference v ≡ true) × ((c : Ty) × (class_of p of v ≡ Some c) × (fits_type p c ty ≡ true) × (has_instances p c.dims c.base ≡ true)))
    receiver_class ty (value.Int x) e t = absurd (cc)
    receiver_class ty (value.Long x) e t = absurd (cc)
    receiver_class ty value.Null e t = inl refl
    receiver_class ty (value.Ref n) e t = inr ((λ q. absurd (cc)), refl, (t.0.class, heap.classes n t.0 t.1, subst (λ (o : Option Ty). is_of p o ty ≡ true) (heap.classes n t.0 t.1) e, instances_of t.0.class.dims t.0.class.base t.0 (heap.objects n t.0 t.1)))
    receiver_class ty (value.Text u) e t = inr ((λ q. absurd (cc)), refl, by (named_type p (codes "java/lang/String")) refl e)
      where
        by : (o : Option Ty) → named_type p (codes "java/lang/String") ≡ o → is_of p o ty ≡ true → (c : Ty) × (o ≡ Some c) × (fits_type p c ty ≡ true) × (has_instances p c.dims c.base ≡ true)
        by None q e = absurd (cc)
        by (Some c) q e = (c, refl, e, facts.values (codes "java/lang/String") c q refl)
    receiver_class ty (value.Box x) e t = inr ((λ q. absurd (cc)), refl, by (named_type p (codes "kilim/Mailbox")) refl e)
      where
        by : (o : Option Ty) → named_type p (codes "kilim/Mailbox") ≡ o → is_of p o ty ≡ true → (c : Ty) × (o ≡ Some c) × (fits_type p c ty ≡ true) × (has_instances p c.dims c.base ≡ true)
        by None q e = absurd (cc)
        by (Some c) q e = (c, refl, e, facts.values (codes "kilim/Mailbox") c q refl)
    receiver_class ty value.Fiber e t = inr ((λ q. absurd (cc)), refl, by (named_type p (codes "kilim/Fiber")) refl e)
      where
        by : (o : Option Ty) → named_type p (codes "kilim/Fiber") ≡ o → is_of p o ty ≡ true → (c : Ty) × (o ≡ Some c) × (fits_type p c ty ≡ true) × (has_instances p c.dims c.base ≡ true)
        by None q e = absurd (cc)
        by (Some c) q e = (c, refl, e, facts.values (codes "kilim/Fiber") c q refl)

    plain_with : (callee : Method) → PlainOperands p facts.order m of (arguments callee ++ (Is (class_vtype callee.owner) ∷ []))
    plain_with callee = subst (λ (os : List Operand). PlainOperands p facts.order m of (os ++ (Is (class_vtype callee.owner) ∷ []))) (sym (arguments_are callee)) (plain_arguments p facts.order m of (reverse (map vtype callee.params)) (Is (class_vtype callee.owner) ∷ []) (tt, tt))

    pub virtual_calls : (id : MethodId) (callee : Method) → method_at p id ≡ Some callee → callee.is_static ≡ false → is_constructor callee ≡ false → (also : List Further) →
        by_row p m at (Takes (arguments callee ++ (Is (class_vtype callee.owner) ∷ [])) (result_types callee.result) also) f ≡ Ok g →
        After i (on_values (length callee.params) vs (λ args below. on_value below (λ receiver rest. as_class p receiver h (calls_on p callee id (reverse args) next ls rest h receiver))))
    virtual_calls id callee there inst plain also r = by_takes p facts.order m of h heap live at next f g ls vs i b _ (result_types callee.result) also (plain_with callee) r _ (λ a ts k.
        args_took p facts.order m of h heap (At i (result_types callee.result ++ ts)) (λ c. tt) callee (Is (class_vtype callee.owner) ∷ []) ts vs k _ (λ xs below e t.
        value_took p facts.order m of h heap (At i (result_types callee.result ++ ts)) (λ c. tt) (Is (class_vtype callee.owner)) [] ts below t _ (λ v d vt rest q.
        class_is p facts.order m of h heap (At i (result_types callee.result ++ ts)) (λ c. tt) v (reference_of v d) vt (calls_on p callee id (reverse xs) next ls rest h v) (by ts xs v rest d vt e q (receiver_class (class_type callee.owner.0) v d vt)))))
      where
        reference_of : (v : Value) → has_type p m of (Object (class_type callee.owner.0)) v ≡ true → is_reference v ≡ true
        reference_of (value.Int x) d = absurd (cc)
        reference_of (value.Long x) d = absurd (cc)
        reference_of v d = refl

        by : (ts : List VType) (xs : List Value) (v : Value) (rest : List Value) → has_type p m of (Object (class_type callee.owner.0)) v ≡ true → IsThere h v → have_types p m of (map vtype callee.params) (reverse xs) ≡ true → have_types p m of ts rest ≡ true →
            (v ≡ value.Null) ⊎ ((v ≢ value.Null) × (is_reference v ≡ true) × ((c : Ty) × (class_of p of v ≡ Some c) × (fits_type p c (class_type callee.owner.0) ≡ true) × (has_instances p c.dims c.base ≡ true))) →
            At i (result_types callee.result ++ ts) (calls_on p callee id (reverse xs) next ls rest h v (class_of p of v))
        by ts xs v rest d vt e q (inl z) = subst (λ (x : Value). At i (result_types callee.result ++ ts) (calls_on p callee id (reverse xs) next ls rest h x (class_of p of x))) (sym z) tt
        by ts xs v rest d vt e q (inr z) =
            let c = z.2.0 in
            let s = facts.selects id callee there inst plain c z.2.3 z.2.2 in
            subst (λ (o : Option Ty). At i (result_types callee.result ++ ts) (calls_on p callee id (reverse xs) next ls rest h v o)) (sym z.2.1)
            (called_with callee (chosen p callee id c) s.0 v (reverse xs) rest ts z.0 (subst (λ (o : Option Ty). is_of p o (class_type s.0.method.owner.0) ≡ true) (sym z.2.1) s.1) z.1 vt e q)

    -- invokespecial of no constructor: the receiver is of the own class too
    pub special_calls : (id : MethodId) (callee : Method) → method_at p id ≡ Some callee → callee.is_static ≡ false → is_constructor callee ≡ false → may_name m callee.is_private callee.owner ≡ true → special_fits p m id callee ≡ true → (also : List Further) →
        all_meet p (map (λ o. Is Top) (arguments callee) ++ (Is (class_vtype m.owner) ∷ [])) f.stack ≡ true →
        by_row p m at (Takes (arguments callee ++ (Is (class_vtype callee.owner) ∷ [])) (result_types callee.result) also) f ≡ Ok g →
        After i (on_values (length callee.params) vs (λ args below. on_receiver below (λ receiver rest. calls_method (method_at p (special p m callee id)) (special p m callee id) (receiver ∷ reverse args) next ls rest h)))
    special_calls id callee there inst plain named fits also own r =
        let s = facts.specials m id callee there inst plain named fits in
        by_takes p facts.order m of h heap live at next f g ls vs i b _ (result_types callee.result) also (plain_with callee) r _ (λ a ts k.
        args_two p facts.order m of h heap (At i (result_types callee.result ++ ts)) (λ c. tt) callee (Is (class_vtype callee.owner) ∷ []) (Is (class_vtype m.owner) ∷ []) ts _ vs k (taken p facts.order m of h (map (λ o. Is Top) (arguments callee) ++ (Is (class_vtype m.owner) ∷ [])) f.stack vs (plain_tops (arguments callee)) own b.stack b.there) _ (λ xs below e t u.
        both ts _ below t u (λ receiver rest. calls_method (method_at p (special p m callee id)) (special p m callee id) (receiver ∷ reverse xs) next ls rest h) (λ v d c vt rest q.
        receiver_is p facts.order m of h heap (At i (result_types callee.result ++ ts)) (λ c. tt) v (reference_of v d) _ (λ nn.
        called_with callee (special p m callee id) s.0 v (reverse xs) rest ts nn (through v nn c _ s.1) (reference_of v d) vt e q))))
      where
        plain_tops : (os : List Operand) → PlainOperands p facts.order m of (map (λ o. Is Top) os ++ (Is (class_vtype m.owner) ∷ []))
        plain_tops [] = (tt, tt)
        plain_tops (o ∷ os) = (tt, plain_tops os)

        reference_of : (v : Value) → has_type p m of (Object (class_type callee.owner.0)) v ≡ true → is_reference v ≡ true
        reference_of (value.Int x) d = absurd (true≢false (sym d))
        reference_of (value.Long x) d = absurd (true≢false (sym d))
        reference_of v d = refl

        through : (v : Value) → v ≢ value.Null → has_type p m of (Object (class_type m.owner.0)) v ≡ true → (up : Ty) → fits_type p (class_type m.owner.0) up ≡ true → is_of p (class_of p of v) up ≡ true
        through (value.Int x) nn d up a = absurd (true≢false (sym d))
        through (value.Long x) nn d up a = absurd (true≢false (sym d))
        through value.Null nn d up a = absurd (nn refl)
        through (value.Ref n) nn d up a = of_through p facts.order m of (of n) _ _ d a
        through (value.Text x) nn d up a = of_through p facts.order m of _ _ _ d a
        through (value.Box x) nn d up a = of_through p facts.order m of _ _ _ d a
        through value.Fiber nn d up a = of_through p facts.order m of _ _ _ d a

        both : (ts us : List VType) (below : List Value) → Taken p facts.order m of h (Is (class_vtype callee.owner) ∷ []) ts below → Taken p facts.order m of h (Is (class_vtype m.owner) ∷ []) us below → (go : Value → List Value → Effect) →
            ((v : Value) → has_type p m of (Object (class_type callee.owner.0)) v ≡ true → has_type p m of (Object (class_type m.owner.0)) v ≡ true → IsThere h v → (rest : List Value) → have_types p m of ts rest ≡ true → At i (result_types callee.result ++ ts) (as_receiver v (λ r. go r rest))) →
            At i (result_types callee.result ++ ts) (on_receiver below go)
        both ts us [] t u go k = absurd t
        both ts us (v ∷ rest) t u go k = k v t.0 u.0 t.1.0 rest t.1.1

    -- ---- methods of strings

    int_pushed : (ts : List VType) (rest : List Value) → have_types p m of ts rest ≡ true → (x : ℤ) (o : Option Ty) (ty : Ty) → o ≡ Some ty → vtype ty ≡ Int → At i (result_types o ++ ts) (Goes next ls (value.Int x ∷ rest) h)
    int_pushed ts rest q x o ty e s = subst (λ (z : Option Ty). At i (result_types z ++ ts) (Goes next ls (value.Int x ∷ rest) h)) (sym e)
        (record {
          among = on;
          locals = kept p facts.order m of h heap live at next f g ls vs i b w next on;
          stack = and_from (has_type p m of (vtype ty) (value.Int x)) (have_types p m of ts rest) (subst (λ (t : VType). has_type p m of t (value.Int x) ≡ true) (sym s) refl) q;
          heap = heap;
        })

    text_gives : (callee : Method) → TextKind callee → (units : List ℕ) (args rest : List Value) (ts : List VType) → have_types p m of (map vtype callee.params) args ≡ true → have_types p m of ts rest ≡ true →
        At i (result_types callee.result ++ ts) (text_answers callee.name units args (λ v. Goes next ls (v ∷ rest) h))
    text_gives callee (IsLength ps n r) units args rest ts e q = by args (subst (λ (tys : List Ty). have_types p m of (map vtype tys) args ≡ true) ps e)
      where
        by : (args : List Value) → have_types p m of [] args ≡ true → At i (result_types callee.result ++ ts) (text_answers callee.name units args (λ v. Goes next ls (v ∷ rest) h))
        by [] e = subst (λ (z : Bool). At i (result_types callee.result ++ ts) (when z (Goes next ls (value.Int (cast_signed w32 (length units % 2 ^ 32)) ∷ rest) h))) (sym n) (int_pushed ts rest q _ callee.result (plain_type base.Int) r refl)
        by (v ∷ vs) e = absurd (cc)
    text_gives callee (IsEquals ty ps n r) units args rest ts e q = by args (subst (λ (tys : List Ty). have_types p m of (map vtype tys) args ≡ true) ps e)
      where
        by : (args : List Value) → have_types p m of (vtype ty ∷ []) args ≡ true → At i (result_types callee.result ++ ts) (text_answers callee.name units args (λ v. Goes next ls (v ∷ rest) h))
        by [] e = absurd (cc)
        by (v ∷ []) e = subst (λ (z : Bool). At i (result_types callee.result ++ ts) (cond z (Goes next ls (value.Int (bit (is_text units (text_of v))) ∷ rest) h) (when (bytes_eq callee.name (codes "charAt")) (as_int v (λ j. unit_at units j (λ v. Goes next ls (v ∷ rest) h)))))) (sym n) (int_pushed ts rest q _ callee.result (plain_type base.Bool) r refl)
        by (v ∷ x ∷ vs) e = absurd (let z = (and_parts (has_type p m of (vtype ty) v) false e).1 in cc)
    text_gives callee (IsCharAt ps other n r) units args rest ts e q = by args (subst (λ (tys : List Ty). have_types p m of (map vtype tys) args ≡ true) ps e)
      where
        at_one : (o : Option ℕ) → At i (result_types callee.result ++ ts) (at_unit o (λ v. Goes next ls (v ∷ rest) h))
        at_one None = tt
        at_one (Some u) = int_pushed ts rest q (pos u) callee.result (plain_type base.Char) r refl

        at_index_of : (j : ℤ) → At i (result_types callee.result ++ ts) (unit_at units j (λ v. Goes next ls (v ∷ rest) h))
        at_index_of (pos j) = at_one (slice_get units j)
        at_index_of (negsuc j) = tt

        by : (args : List Value) → have_types p m of (Int ∷ []) args ≡ true → At i (result_types callee.result ++ ts) (text_answers callee.name units args (λ v. Goes next ls (v ∷ rest) h))
        by [] e = absurd (cc)
        by (v ∷ []) e = subst (λ (z : Bool). At i (result_types callee.result ++ ts) (cond z (Goes next ls (value.Int (bit (is_text units (text_of v))) ∷ rest) h) (when (bytes_eq callee.name (codes "charAt")) (as_int v (λ j. unit_at units j (λ v. Goes next ls (v ∷ rest) h)))))) (sym other)
            (subst (λ (z : Bool). At i (result_types callee.result ++ ts) (when z (as_int v (λ j. unit_at units j (λ v. Goes next ls (v ∷ rest) h))))) (sym n)
            (int_is p facts.order m of h heap (At i (result_types callee.result ++ ts)) (λ c. tt) v (and_parts (has_type p m of Int v) true e).0 _ (λ j. at_index_of j)))
        by (v ∷ x ∷ vs) e = absurd (let z = (and_parts (has_type p m of Int v) false e).1 in cc)

    pub text_calls : (id : MethodId) (callee : Method) → method_at p id ≡ Some callee → is_text_method p callee ≡ true → callee.is_static ≡ false → is_constructor callee ≡ false → (also : List Further) →
        by_row p m at (Takes (arguments callee ++ (Is (class_vtype callee.owner) ∷ [])) (result_types callee.result) also) f ≡ Ok g →
        After i (on_values (length callee.params) vs (λ args below. on_value below (λ receiver rest. calls_text callee (reverse args) next ls rest h receiver)))
    text_calls id callee there is inst plain also r =
        let text = facts.texts id callee there is inst plain in
        by_takes p facts.order m of h heap live at next f g ls vs i b _ (result_types callee.result) also (plain_with callee) r _ (λ a ts k.
        args_took p facts.order m of h heap (At i (result_types callee.result ++ ts)) (λ c. tt) callee (Is (class_vtype callee.owner) ∷ []) ts vs k _ (λ xs below e t.
        value_took p facts.order m of h heap (At i (result_types callee.result ++ ts)) (λ c. tt) (Is (class_vtype callee.owner)) [] ts below t (λ receiver rest. calls_text callee (reverse xs) next ls rest h receiver) (λ v d vt rest q.
        on_text text ts v d vt (reverse xs) rest e q)))
      where
        no_object : (o : HeapObject) (c : Ty) → o.class ≡ c → (k : ClassId) → c ≡ class_type k.0 → is_value_class (class_name p k) ≡ true → ObjectFits p of o → ⊥
        no_object o c e k z v fit = absurd (let a = subst (λ (ty : Ty). ContentFits p of ty.dims ty.base o) (e ∙ z) fit in let n = (and_parts (is_concrete (class_at p k)) (not (is_value_class (class_name p k))) a.0).1 in let y = subst (λ (q : Bool). not q ≡ true) v n in true≢false (sym y))

        value_named : is_value_class (class_name p callee.owner) ≡ true
        value_named = subst (λ (z : Bool). (z || bytes_eq (class_name p callee.owner) (codes "kilim/Mailbox")) ≡ true) (sym (and_parts callee.built_in (bytes_eq (class_name p callee.owner) (codes "java/lang/String")) is).1) refl

        on_text : TextMethod p callee → (ts : List VType) (v : Value) → has_type p m of (Object (class_type callee.owner.0)) v ≡ true → IsThere h v → (args rest : List Value) → have_types p m of (map vtype callee.params) args ≡ true → have_types p m of ts rest ≡ true →
            At i (result_types callee.result ++ ts) (calls_text callee args next ls rest h v)
        on_text x ts (value.Int n) d vt args rest e q = absurd (true≢false (sym d))
        on_text x ts (value.Long n) d vt args rest e q = absurd (true≢false (sym d))
        on_text x ts value.Null d vt args rest e q = tt
        on_text x ts (value.Ref n) d vt args rest e q = absurd (no_object vt.0 vt.0.class refl callee.owner (x.alone vt.0.class (subst (λ (o : Option Ty). is_of p o (class_type callee.owner.0) ≡ true) (heap.classes n vt.0 vt.1) d)) value_named (heap.objects n vt.0 vt.1))
        on_text x ts (value.Text units) d vt args rest e q = text_gives callee x.kind units args rest ts e q
        on_text x ts (value.Box n) d vt args rest e q = absurd (true≢false (sym d ∙ x.no_box))
        on_text x ts value.Fiber d vt args rest e q = absurd (true≢false (sym d ∙ x.no_fiber))
