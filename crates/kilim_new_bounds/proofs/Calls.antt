-- What calls, `new` and fields do in one frame, seen from one mailbox.
use Rattle.std.proofs.Common.{◌≡◌, inl, inr, ℕ, zero, suc, ℤ, pos, negsuc, Bool, true, false, cond, eqb, List, [], ◌∷◌, ◌++◌, length, drop, Option, Some, None, Ok, refl, sym, ap, subst, ◌∙◌}
use mathlib.Core.List.{reverse_aux}
use Rattle.std.specs.Prelude.{◌&&◌, ◌||◌, not, slice_get, map, reverse, codes}
use Rattle.std.specs.FinMap.{get, insert}
use Rattle.std.specs.List.{flat_map, list_any}
use Rattle.std.specs.Str.{bytes_eq}
use Rattle.std.proofs.lemmas.Bool.{and_parts, and_from, eqb-true}
use Rattle.std.proofs.lemmas.List.{length-reverse, append-nil}
use Rattle.kilim_program.specs.declared.class.Field.{Field}
use Rattle.kilim_program.specs.declared.class.Method.{Method}
use Rattle.kilim_program.specs.declared.instr.Instr.TheVariants as instr
use Rattle.kilim_program.specs.declared.names.BoxName.{BoxName}
use Rattle.kilim_program.specs.declared.names.ClassId.{ClassId}
use Rattle.kilim_program.specs.declared.names.FieldId.{FieldId}
use Rattle.kilim_program.specs.declared.names.MethodId.{MethodId}
use Rattle.kilim_program.specs.declared.ty.Base.{Base}
use Rattle.kilim_program.specs.declared.ty.Base.TheVariants as base
use Rattle.kilim_program.specs.declared.ty.Ty.{Ty}
use Rattle.kilim_program.specs.declared.value.Value.{Value}
use Rattle.kilim_program.specs.declared.value.Value.TheVariants as value
use Rattle.kilim_program.specs.declared.verified.VType.{VType}
use Rattle.kilim_program.specs.declared.verified.VType.TheVariants.{Top, Int, Long, Null, UninitThis, Uninit, Object}
use Rattle.kilim_program.specs.BuiltIn.{class_type, message_field}
use Rattle.kilim_program.specs.Names.{class_at, field_of, first_that, is_empty, line_of, method_at, methods_of}
use Rattle.kilim_program.specs.Program.{Program}
use Rattle.kilim_program.specs.Same.{answers, is_constructor, same_signature}
use Rattle.kilim_program.specs.Members.{object_fields}
use Rattle.kilim_run_state.specs.Machine.{Objects}
use Rattle.kilim_run_state.specs.Objects.{first_field, first_value, first_value_of, new_object}
use Rattle.kilim_run_state.specs.Shapes.{field_in}
use Rattle.kilim_run_machine.specs.Does.{above_of, at_unit, bit, calls_built_in, calls_method, calls_on, calls_text, chosen, chosen_by, chosen_on, gives_message, is_mailbox, is_text, keeps_message, narrowed_to, special, superclass_of, takes_element, text_answers, unit_at, with_element, with_field}
use Rattle.kilim_run_machine.specs.Effect.{Effect, Asks, Calls, Goes, Makes, Opens, Raises, Stuck, as_class, as_int, on_constant, on_object, on_receiver, on_value, on_values, text_of, when, with_some}
use Rattle.kilim_run_machine.specs.Natives.{is_built_in_constructor, is_get_message, is_handed_out, is_message_constructor, is_text_method}
use Rattle.kilim_lemmas.proofs.Texts.{text_is}
use Rattle.kilim_type_spec.specs.Step.{Types, Operand, Is, Further, Constructs, Makes as MakesRow, Takes, all_meet, arguments, by_row, class_vtype, constructed, field_row, further, has_operands, has_room, holder, is_class, is_same, is_top, is_unset, made_at, may_make, may_name, needs, one_replaced, peek, replaced, result_types, room_for, rule, special_by, special_row, special_rules, static_row, static_rules, superclass_at, virtual_row, virtual_rules, vtype}
use Rattle.kilim_type_laws.proofs.members.SameNames.{named_alike as signature_alike}
use Rattle.kilim_type_sound.specs.Facts.{Facts, IsCharAt, IsEquals, IsLength, TextKind}
use Rattle.kilim_type_sound.proofs.Basics.{Furthers, furthers, ok_is, passed, takes_inverse}
use Rattle.kilim_type_sound.proofs.Calls.{arguments_are, vtype_no_top}
use Rattle.kilim_type_sound.proofs.Slots.{no_slot}
use Rattle.kilim_type_sound.proofs.Steps.{vtype_set}
use Rattle.kilim_new_bounds.proofs.Slots.{FieldsSo, HeapSo, LocalsSo, Mode, Away, Raw, Known, ObjectSo, SlotSo, StackSo, ValuesSo, field_so, get_so, good, good_slot, insert_so, is_box, set_so, slot_so, so, value_so, with_field_so}
use Rattle.kilim_new_bounds.proofs.Effects.{AllPlain, EffectSo, FrameSo, IsRaw, NewSo, NotBuilt, Renews, TakenSo, WaitsSo, class_is, constant_is, index_is, int_is, int_took, object_took, plain, receiver_is, receiver_took, reversed_so, some_is, taken_so, value_took, values_took}
use Rattle.kilim_new_bounds.proofs.Rows.{by_takes, going, other_slot, other_value, writing}
use Rattle.kilim_new_bounds.proofs.Pairs.{Paired}

is_not : (z : Bool) → not z ≡ true → z ≡ false
is_not true e = absurd (cc)
is_not false e = refl

-- ---- arguments

plain_vtype : (ty : Ty) → plain (Is (vtype ty)) ≡ true
plain_vtype ty = and_from (not (is_unset (vtype ty))) (not (is_top (vtype ty))) (ap not (vtype_set ty)) (ap not (vtype_no_top ty))

turned_plain : (tys : List Ty) (acc : List VType) → AllPlain (map (λ t. Is t) acc) → AllPlain (map (λ t. Is t) (reverse_aux (map vtype tys) acc))
turned_plain [] acc a = a
turned_plain (ty ∷ tys) acc a = turned_plain tys (vtype ty ∷ acc) (plain_vtype ty, a)

arguments_plain : (callee : Method) → AllPlain (arguments callee)
arguments_plain callee = subst AllPlain (sym (arguments_are callee)) (turned_plain callee.params [] tt)

map_length : (tys : List Ty) → length (map (λ ty. Is (vtype ty)) tys) ≡ length tys
map_length [] = refl
map_length (ty ∷ tys) = ap suc (map_length tys)

argument_count : (callee : Method) → length (arguments callee) ≡ length callee.params
argument_count callee = length-reverse (map (λ ty. Is (vtype ty)) callee.params) ∙ map_length callee.params

-- ---- what is called has the name and the result of what is named

abbrev Alike : Method → Method → Type 0
Alike named callee = (is_constructor callee ≡ false) × (callee.result ≡ named.result)

named_alike : (p : Program) (named : Method) (xs : List MethodId) (f : MethodId) (callee : Method) → first_that (λ x. answers named (method_at p x)) xs ≡ Some f → method_at p f ≡ Some callee → is_constructor named ≡ false → Alike named callee
named_alike p named [] f callee e there none = absurd (cc)
named_alike p named (x ∷ xs) f callee e there none = by (answers named (method_at p x)) refl e (λ rest. named_alike p named xs f callee rest there none)
  where
    alike : (other : Method) → answers named (Some other) ≡ true → Alike named other
    alike other q =
        let a = signature_alike named other (and_parts (not other.is_private) (same_signature named other) q).1 in
        (ap (λ (n : List ℕ). bytes_eq n (codes "<init>")) (sym a.name) ∙ none, sym a.result)

    by : (z : Bool) → answers named (method_at p x) ≡ z → cond z (Some x) (first_that (λ x. answers named (method_at p x)) xs) ≡ Some f → (first_that (λ x. answers named (method_at p x)) xs ≡ Some f → Alike named callee) → Alike named callee
    by true is e again =
        let s : x ≡ f = cc in
        let at : method_at p x ≡ Some callee = ap (method_at p) s ∙ there in
        alike callee (sym (ap (answers named) at) ∙ is)
    by false is e again = again e

chosen_alike : (p : Program) (named : Method) (id : MethodId) (xs : List MethodId) (callee : Method) → method_at p id ≡ Some named → method_at p (chosen_by (first_that (λ x. answers named (method_at p x)) xs) id) ≡ Some callee → is_constructor named ≡ false → Alike named callee
chosen_alike p named id xs callee at there none = by (first_that (λ x. answers named (method_at p x)) xs) refl there
  where
    by : (o : Option MethodId) → first_that (λ x. answers named (method_at p x)) xs ≡ o → method_at p (chosen_by o id) ≡ Some callee → Alike named callee
    by None is there = subst (Alike named) (let s : named ≡ callee = cc in s) (none, refl)
    by (Some f) is there = named_alike p named xs f callee is there none

itself_alike : (p : Program) (named : Method) (id : MethodId) (callee : Method) → method_at p id ≡ Some named → method_at p id ≡ Some callee → is_constructor named ≡ false → Alike named callee
itself_alike p named id callee at there none = subst (Alike named) (let s : named ≡ callee = cc in s) (none, refl)

virtual_alike : (p : Program) (named : Method) (id : MethodId) (ty : Ty) (callee : Method) → method_at p id ≡ Some named → is_constructor named ≡ false → method_at p (chosen p named id ty) ≡ Some callee → Alike named callee
virtual_alike p named id ty callee at none there = by named.is_private there
  where
    on : (d : ℕ) (c : Base) → method_at p (chosen_on p named id d c) ≡ Some callee → Alike named callee
    on zero (base.Class c) e = chosen_alike p named id (flat_map (methods_of p) (line_of p c)) callee at e none
    on (suc d) c e = itself_alike p named id callee at e none
    on zero base.Bool e = itself_alike p named id callee at e none
    on zero base.Byte e = itself_alike p named id callee at e none
    on zero base.Char e = itself_alike p named id callee at e none
    on zero base.Short e = itself_alike p named id callee at e none
    on zero base.Int e = itself_alike p named id callee at e none
    on zero base.Long e = itself_alike p named id callee at e none

    by : (z : Bool) → method_at p (cond z id (chosen_on p named id ty.dims ty.base)) ≡ Some callee → Alike named callee
    by true e = itself_alike p named id callee at e none
    by false e = on ty.dims ty.base e

special_alike : (p : Program) (own named : Method) (id : MethodId) (callee : Method) → method_at p id ≡ Some named → is_constructor named ≡ false → method_at p (special p own named id) ≡ Some callee → Alike named callee
special_alike p own named id callee at none there = by (is_constructor named || eqb named.owner.0 own.owner.0) there
  where
    above : (o : Option ClassId) → method_at p (above_of p named id o) ≡ Some callee → Alike named callee
    above None e = itself_alike p named id callee at e none
    above (Some c) e = chosen_alike p named id (flat_map (methods_of p) (line_of p c)) callee at e none

    by : (z : Bool) → method_at p (cond z id (above_of p named id (superclass_of (class_at p own.owner)))) ≡ Some callee → Alike named callee
    by true e = itself_alike p named id callee at e none
    by false e = above (superclass_of (class_at p own.owner)) e

-- ---- a type by another

same_top : (old : VType) → is_same old Top ≡ false
same_top Top = refl
same_top Int = refl
same_top Long = refl
same_top Null = refl
same_top UninitThis = refl
same_top (Uninit q) = refl
same_top (Object ty) = refl

peek_replaced : (old new : VType) (ls : List VType) (j : ℕ) → peek (replaced old new ls) j ≡ one_replaced (is_same old (peek ls j)) (peek ls j) new
peek_replaced old new [] j = no_slot j ∙ sym (ap (λ t. one_replaced (is_same old t) t new) (no_slot j) ∙ ap (λ z. one_replaced z Top new) (same_top old))
peek_replaced old new (t ∷ ts) zero = refl
peek_replaced old new (t ∷ ts) (suc j) = peek_replaced old new ts j

module _ (b : BoxName) (m k : Mode) (old new : VType) (same : (t : VType) (v : Value) → is_same old t ≡ true → slot_so b m t v ≡ true → slot_so b k new v ≡ true) (other : (t : VType) (v : Value) → is_same old t ≡ false → slot_so b m t v ≡ true → slot_so b k t v ≡ true) where
  one_so : (t : VType) (v : Value) → slot_so b m t v ≡ true → slot_so b k (one_replaced (is_same old t) t new) v ≡ true
  one_so t v e = by (is_same old t) refl
    where
      by : (z : Bool) → is_same old t ≡ z → slot_so b k (one_replaced z t new) v ≡ true
      by true s = same t v s e
      by false s = other t v s e

  stack_replaced : (ts : List VType) (vs : List Value) → StackSo b m ts vs → StackSo b k (replaced old new ts) vs
  stack_replaced [] [] s = tt
  stack_replaced [] (v ∷ vs) s = s
  stack_replaced (t ∷ ts) [] s = s
  stack_replaced (t ∷ ts) (v ∷ vs) s = (one_so t v s.0, stack_replaced ts vs s.1)

  locals_replaced : (ts : List VType) (ls : List Value) → LocalsSo b m ts ls → LocalsSo b k (replaced old new ts) ls
  locals_replaced ts ls s j = subst (λ (t : VType). SlotSo b k t (slice_get ls j)) (sym (peek_replaced old new ts j)) (by (slice_get ls j) (s j))
    where
      by : (o : Option Value) → SlotSo b m (peek ts j) o → SlotSo b k (one_replaced (is_same old (peek ts j)) (peek ts j) new) o
      by None e = tt
      by (Some v) e = one_so (peek ts j) v e

-- ---- a value that isn't the mailbox, where its type is replaced by an initialized one

same_is : (old t : VType) → is_same old t ≡ true → t ≡ old
same_is UninitThis UninitThis e = refl
same_is (Uninit q) (Uninit r) e = ap Uninit (sym (eqb-true q r e))
same_is old t e = absurd (cc)

module _ (b : BoxName) (m : Mode) (old : VType) (unset : is_unset old ≡ true) where
  or_left : (z x : Bool) → (z || x) ≡ true → z ≡ false → x ≡ true
  or_left true x e n = absurd (cc)
  or_left false x e n = e

  no_top : (t : VType) → is_unset t ≡ true → is_top t ≡ false
  no_top Top e = absurd (cc)
  no_top Int e = refl
  no_top Long e = refl
  no_top Null e = refl
  no_top UninitThis e = refl
  no_top (Uninit q) e = refl
  no_top (Object ty) e = refl

  in_slot : (v : Value) → slot_so b m old v ≡ true → so m (is_box b v) old ≡ true
  in_slot v e = or_left (is_top old) _ e (no_top old unset)

  -- another value stands in a slot of the type: the mailbox stands in none
  others_good : (k : Mode) → so k false old ≡ true → (box : Bool) → so k box old ≡ true → good k box ≡ true
  others_good Away e box d = d
  others_good (Raw q) e false d = refl
  others_good (Raw q) e true d = absurd (let z : not (is_same (Uninit q) old) ≡ true = e in let y : is_same (Uninit q) old ≡ true = d in let x = ap not y in cc)
  others_good Known e box d = refl

  -- the mailbox stands in one: it is raw, and the type is of its `new`
  raw_there : (k : Mode) → so k true old ≡ true → (q : ℕ) × (k ≡ Raw q) × (old ≡ Uninit q)
  raw_there Away e = absurd (cc)
  raw_there (Raw q) e = (q, refl, same_is (Uninit q) old e)
  raw_there Known e = absurd (let z = ap not unset in cc)

  module _ (new : VType) (set : is_unset new ≡ false) (s : List VType) (ls rest : List Value) (ts : List VType) (locals : LocalsSo b m ts ls) (stack : StackSo b m s rest) where
    -- where the receiver is another value
    pub stays_so : (v : Value) → slot_so b m old v ≡ true → is_box b v ≡ false → LocalsSo b m (replaced old new ts) ls × StackSo b m (replaced old new s) rest
    stays_so v e n = (locals_replaced b m m old new same (λ t w q d. d) ts ls locals, stack_replaced b m m old new same (λ t w q d. d) s rest stack)
      where
        same : (t : VType) (w : Value) → is_same old t ≡ true → slot_so b m t w ≡ true → slot_so b m new w ≡ true
        same t w q d = good_slot b m new w set (others_good m (sym (ap (λ (z : Bool). so m z old) n) ∙ in_slot v e) (is_box b w) (in_slot w (subst (λ (x : VType). slot_so b m x w ≡ true) (same_is old t q) d)))

    -- where it is the mailbox
    pub known_now : (q : ℕ) → m ≡ Raw q → old ≡ Uninit q → LocalsSo b Known (replaced old new ts) ls × StackSo b Known (replaced old new s) rest
    known_now q raw is = (locals_replaced b m Known old new same other ts ls locals, stack_replaced b m Known old new same other s rest stack)
      where
        same : (t : VType) (w : Value) → is_same old t ≡ true → slot_so b m t w ≡ true → slot_so b Known new w ≡ true
        same t w z d = good_slot b Known new w set refl

        other_box : (box : Bool) (t : VType) → is_same (Uninit q) t ≡ false → so (Raw q) box t ≡ true → so Known box t ≡ true
        other_box true t z d = absurd (cc)
        other_box false t z d = refl

        other : (t : VType) (w : Value) → is_same old t ≡ false → slot_so b m t w ≡ true → slot_so b Known t w ≡ true
        other t w z d = by (is_top t) (subst (λ (k : Mode). slot_so b k t w ≡ true) raw d)
          where
            by : (y : Bool) → (y || so (Raw q) (is_box b w) t) ≡ true → (y || so Known (is_box b w) t) ≡ true
            by true d = refl
            by false d = other_box (is_box b w) t (ap (λ (u : VType). is_same u t) (sym is) ∙ z) d

-- ---- new objects

module _ (p : Program) (b : BoxName) (m : Mode) where
  first_plain : (x : FieldId) → is_box b (first_field p x).1 ≡ false
  first_plain x = of_field (field_of p x)
    where
      of_base : (c : Base) → is_box b (first_value_of c) ≡ false
      of_base base.Bool = refl
      of_base base.Byte = refl
      of_base base.Char = refl
      of_base base.Short = refl
      of_base base.Int = refl
      of_base base.Long = refl
      of_base (base.Class c) = refl

      of_type : (z : Bool) (c : Base) → is_box b (cond z (first_value_of c) value.Null) ≡ false
      of_type true c = of_base c
      of_type false c = refl

      of_field : (o : Option Field) → is_box b (elim o [ None ↦ value.Null | Some field ↦ first_value field.ty ]) ≡ false
      of_field None = refl
      of_field (Some field) = of_type (eqb field.ty.dims 0) field.ty.base

  pub new_plain : (c : ClassId) → ObjectSo b m (new_object p c)
  new_plain c = (all (object_fields p c), tt)
    where
      all : (fs : List FieldId) → FieldsSo b m (map (first_field p) fs)
      all [] = tt
      all (x ∷ fs) = (other_value b m (first_field p x).1 (first_plain x), all fs)

-- ---- rows

module _ (p : Program) (facts : Facts p) (built : (id : MethodId) (callee : Method) → method_at p id ≡ Some callee → is_mailbox p callee.owner ≡ true → callee.built_in ≡ true) (b : BoxName) (m : Mode) (own : Method)
    (raw_made : (q : ℕ) → m ≡ Raw q → (c : ClassId) → made_at own.code q ≡ Some c → is_mailbox p c ≡ true) (at : ℕ) (f g : Types) (ls vs : List Value) (h : Objects) (frame : FrameSo b m f ls vs) (pairs : Paired b m f.stack vs) (heap : HeapSo b m h) (next : ℕ) where
  abbrev pub After : Effect → Type 0
  After e = EffectSo p b m at g e

  abbrev Here : List VType → Effect → Type 0
  Here s e = EffectSo p b m at (record f { stack = s }) e

  goes : (place : ℕ) (s : List VType) (ws : List Value) → StackSo b m s ws → Here s (Goes place ls ws h)
  goes place s ws e = going p b m own at f g ls vs h frame pairs heap place s ws e

  takes : (os : List Operand) (gives : List VType) (also : List Further) → by_row p own at (Takes os gives also) f ≡ Ok g → (e : Effect) → (Furthers p also f.stack → (ts : List VType) → TakenSo b m os ts vs → Here (gives ++ ts) e) → After e
  takes os gives also r e k = by_takes p b m own at f g ls vs h frame pairs heap os gives also r e k

  args_took : (S : Effect → Type 0) → S Stuck → ((c : _) → S (Raises c)) → (callee : Method) (qs : List Operand) (ts : List VType) → TakenSo b m (arguments callee ++ qs) ts vs → (go : List Value → List Value → Effect) →
      ((xs rest : List Value) → ValuesSo b m xs → TakenSo b m qs ts rest → S (go xs rest)) → S (on_values (length callee.params) vs go)
  args_took S stuck raises callee qs ts t go k = subst (λ (n : ℕ). S (on_values n vs go)) (argument_count callee) (values_took p b m h S stuck raises (arguments callee) qs (arguments_plain callee) ts vs t go k)

  waits : (result : Option Ty) (ts : List VType) (rest : List Value) → StackSo b m ts rest → WaitsSo b m (record f { stack = result_types result ++ ts }) ls rest
  waits result ts rest e = record { locals = frame.locals; result = result; types = ts; is = refl; stack = e }

  -- the message of an exception, which was in the heap
  message_given : (ty : Ty) (place : ℕ) (ts : List VType) (rest : List Value) → StackSo b m ts rest → (args : List Value) → Here (vtype ty ∷ ts) (gives_message args place ls rest h)
  message_given ty place ts rest e [] = tt
  message_given ty place ts rest e (v ∷ w ∷ ws) = tt
  message_given ty place ts rest e (value.Int x ∷ []) = tt
  message_given ty place ts rest e (value.Long x ∷ []) = tt
  message_given ty place ts rest e (value.Null ∷ []) = tt
  message_given ty place ts rest e (value.Text u ∷ []) = tt
  message_given ty place ts rest e (value.Box u ∷ []) = tt
  message_given ty place ts rest e (value.Fiber ∷ []) = tt
  message_given ty place ts rest e (value.Ref n ∷ []) = some_is p b m h (Here (vtype ty ∷ ts)) tt (λ c. tt) (get h n) _ (λ object there.
      some_is p b m h (Here (vtype ty ∷ ts)) tt (λ c. tt) (field_in object.fields message_field) _ (λ v has.
      goes place (vtype ty ∷ ts) (v ∷ rest) (good_slot b m (vtype ty) v (vtype_set ty) (field_so b m object.fields message_field v (heap n object there).0 has), e)))

  called : (id : MethodId) (args : List Value) (place : ℕ) (result : Option Ty) (ts : List VType) (rest : List Value) → ValuesSo b m args → StackSo b m ts rest →
      ((other : Method) → method_at p id ≡ Some other → (is_constructor other ≡ false) × (other.result ≡ result)) → (o : Option Method) → method_at p id ≡ o → Here (result_types result ++ ts) (calls_method o id args place ls rest h)
  called id args place result ts rest values e alike None at_it = tt
  called id args place result ts rest values e alike (Some callee) at_it = by callee.built_in
    where
      none : NotBuilt p b id args
      none other there con = absurd (let z = (alike other there).0 in cc)

      gives : is_get_message callee ≡ true → Here (result_types result ++ ts) (gives_message args place ls rest h)
      gives get =
          let y = facts.gives_messages id callee at_it get in
          subst (λ (o : Option Ty). Here (result_types o ++ ts) (gives_message args place ls rest h)) (sym y.2 ∙ (alike callee at_it).1) (message_given y.0.field.ty place ts rest e args)

      keeps : is_message_constructor callee ≡ true → ⊥
      keeps k = let con = (and_parts (is_constructor callee) _ (and_parts callee.built_in _ k).1).0 in let z = (alike callee at_it).0 in cc

      built_in : (k g1 : Bool) → is_message_constructor callee ≡ k → is_get_message callee ≡ g1 →
          Here (result_types result ++ ts) (cond k (keeps_message args place ls rest h) (cond g1 (gives_message args place ls rest h) (Asks id args place ls rest h)))
      built_in true g1 k d = absurd (keeps k)
      built_in false true k d = gives d
      built_in false false k d = (inl (none, values, waits result ts rest e), heap)

      by : (z : Bool) → Here (result_types result ++ ts) (cond z (calls_built_in callee id args place ls rest h) (Calls id args place ls rest h))
      by true = built_in (is_message_constructor callee) (is_get_message callee) refl refl
      by false = (none, values, waits result ts rest e, heap)

  missing_is : by_row p own at (Takes [] [] (needs 8 false ∷ [])) f ≡ Ok g → ⊥
  missing_is r = let z = (takes_inverse p own at [] [] (needs 8 false ∷ []) f g r).also_hold.0 in absurd (cc)

  -- ---- static methods

  taken_element : (ty : Ty) (k : ClassId) (ts : List VType) → TakenSo b m (Is Int ∷ Is (Object ty) ∷ []) ts vs → Here (Object (class_type k.0) ∷ ts) (takes_element next ls vs h)
  taken_element ty k ts t = int_took p b m h (Here (Object (class_type k.0) ∷ ts)) tt (λ c. tt) (Is Int) (Is (Object ty) ∷ []) ts vs t _ (λ x below u.
      object_took p b m h (Here (Object (class_type k.0) ∷ ts)) tt (λ c. tt) (Is (Object ty)) [] ts below u _ (λ n o there rest q.
      index_is p b m h (Here (Object (class_type k.0) ∷ ts)) tt (λ c. tt) o.elements x _ (λ j v e.
      writing p b m own at f g ls vs h frame pairs heap next (Object (class_type k.0) ∷ ts) (v ∷ rest) (good_slot b m (Object (class_type k.0)) v refl (get_so b m o.elements j v (heap n o there).1 e), q) n (with_element o j value.Null)
      ((heap n o there).0, set_so b m o.elements j value.Null (heap n o there).1 (other_value b m value.Null refl)))))

  module _ (id : MethodId) where
    pub static_so : (o : Option Method) → method_at p id ≡ o → by_row p own at (static_row own o) f ≡ Ok g →
        After (with_some o (λ method. cond (is_handed_out p method) (on_values (length method.params) vs (λ args rest. Asks id (reverse args) next ls rest h))
        (cond method.built_in (takes_element next ls vs h) (on_values (length method.params) vs (λ args rest. Calls id (reverse args) next ls rest h)))))
    static_so None e r = absurd (missing_is r)
    static_so (Some callee) e r = by (is_handed_out p callee) refl
      where
        also : Furthers p (static_rules own callee) f.stack
        also = (takes_inverse p own at (arguments callee) (result_types callee.result) (static_rules own callee) f g r).also_hold

        static : callee.is_static ≡ true
        static = (and_parts callee.is_static (may_name own callee.is_private callee.owner) (and_parts (callee.is_static && may_name own callee.is_private callee.owner) true also.0).0).0

        plain_one : is_constructor callee ≡ false
        plain_one = is_not _ (and_parts (not (is_constructor callee)) true also.1.0).0

        none : (args : List Value) → NotBuilt p b id args
        none args other there con = absurd (let z = (itself_alike p callee id other e there plain_one).0 in cc)

        given : (go : List Value → List Value → Effect) → ((ts : List VType) (xs rest : List Value) → ValuesSo b m (reverse xs) → StackSo b m ts rest → Here (result_types callee.result ++ ts) (go xs rest)) → After (on_values (length callee.params) vs go)
        given go k = takes (arguments callee) (result_types callee.result) (static_rules own callee) r _ (λ a ts t.
            args_took (Here (result_types callee.result ++ ts)) tt (λ c. tt) callee [] ts (subst (λ (os : List Operand). TakenSo b m os ts vs) (sym (append-nil (arguments callee))) t) go (λ xs rest values q. k ts xs rest (reversed_so b m xs values) q))

        by_own : (z y : Bool) → is_handed_out p callee ≡ false → callee.built_in ≡ y → After (cond y (takes_element next ls vs h) (on_values (length callee.params) vs (λ args rest. Calls id (reverse args) next ls rest h)))
        by_own z false out own_is = given _ (λ ts xs rest values q. (none (reverse xs), values, waits callee.result ts rest q, heap))
        by_own z true out own_is =
            let t = facts.takes id callee e own_is static out in
            takes (arguments callee) (result_types callee.result) (static_rules own callee) r (takes_element next ls vs h) (λ a ts k.
            subst (λ (o : Option Ty). Here (result_types o ++ ts) (takes_element next ls vs h)) (sym t.2)
            (taken_element (record { dims = 1; base = base.Class t.0 }) t.0 ts (subst (λ (os : List Operand). TakenSo b m os ts vs) (ap (λ (tys : List Ty). reverse (map (λ ty. Is (vtype ty)) tys)) t.1) k)))

        by : (z : Bool) → is_handed_out p callee ≡ z → After (cond z (on_values (length callee.params) vs (λ args rest. Asks id (reverse args) next ls rest h))
            (cond callee.built_in (takes_element next ls vs h) (on_values (length callee.params) vs (λ args rest. Calls id (reverse args) next ls rest h))))
        by true out = given _ (λ ts xs rest values q. (inl (none (reverse xs), values, waits callee.result ts rest q), heap))
        by false out = by_own false callee.built_in out refl

    -- ---- methods of objects

    module _ (S : Effect → Type 0) (stuck : S Stuck) (raises : (c : _) → S (Raises c)) (go : Value → Effect) (each : (x : ℤ) → S (go (value.Int x))) where
      unit_so : (o : Option ℕ) → S (at_unit o go)
      unit_so None = raises _
      unit_so (Some u) = each (pos u)

      at_so : (units : List ℕ) (i : ℤ) → S (unit_at units i go)
      at_so units (negsuc i) = raises _
      at_so units (pos i) = unit_so (slice_get units i)

      when_so : (z : Bool) (x : Effect) → S x → S (when z x)
      when_so true x k = k
      when_so false x k = stuck

      answers_so : (name units : List ℕ) (args : List Value) → S (text_answers name units args go)
      answers_so name units [] = when_so (bytes_eq name (codes "length")) _ (each _)
      answers_so name units (v ∷ []) = elim (bytes_eq name (codes "equals")) as (λ (z : Bool). S (cond z (go (value.Int (bit (is_text units (text_of v))))) (when (bytes_eq name (codes "charAt")) (as_int v (λ i. unit_at units i go))))) [
        | true ↦ each _
        | false ↦ when_so (bytes_eq name (codes "charAt")) _ (int_is p b m h S stuck raises v _ (λ i d. at_so units i))
      ]
      answers_so name units (v ∷ w ∷ vs) = stuck

    text_result : (callee : Method) → TextKind callee → (ty : Ty) × (callee.result ≡ Some ty)
    text_result callee (IsLength ps n r) = (_, r)
    text_result callee (IsEquals ty ps n r) = (_, r)
    text_result callee (IsCharAt ps other n r) = (_, r)

    texts_so : (callee : Method) → TextKind callee → (ts : List VType) (args rest : List Value) (v : Value) → StackSo b m ts rest → Here (result_types callee.result ++ ts) (calls_text callee args next ls rest h v)
    texts_so callee kind ts args rest v q =
        let ty = text_result callee kind in
        subst (λ (o : Option Ty). Here (result_types o ++ ts) (calls_text callee args next ls rest h v)) (sym ty.1)
        (receiver_is p b m h (Here (vtype ty.0 ∷ ts)) tt (λ c. tt) v _ (some_is p b m h (Here (vtype ty.0 ∷ ts)) tt (λ c. tt) _ _ (λ units d.
        answers_so (Here (vtype ty.0 ∷ ts)) tt (λ c. tt) (λ w. Goes next ls (w ∷ rest) h) (λ x. goes next (vtype ty.0 ∷ ts) (value.Int x ∷ rest) (other_slot b m (vtype ty.0) (value.Int x) (vtype_set ty.0) refl, q)) callee.name units args)))

    pub virtual_so : (o : Option Method) → method_at p id ≡ o → by_row p own at (virtual_row own o) f ≡ Ok g →
        After (with_some o (λ method. on_values (length method.params) vs (λ args below. on_value below (λ receiver rest.
        cond (is_text_method p method) (calls_text method (reverse args) next ls rest h receiver) (as_class p receiver h (calls_on p method id (reverse args) next ls rest h receiver))))))
    virtual_so None e r = absurd (missing_is r)
    virtual_so (Some callee) e r = takes (arguments callee ++ (Is (class_vtype callee.owner) ∷ [])) (result_types callee.result) (virtual_rules own callee) r _ (λ also ts t.
        args_took (Here (result_types callee.result ++ ts)) tt (λ c. tt) callee (Is (class_vtype callee.owner) ∷ []) ts t _ (λ xs below values u.
        value_took p b m h (Here (result_types callee.result ++ ts)) tt (λ c. tt) (Is (class_vtype callee.owner)) [] ts below u _ (λ v held rest q.
        by ts xs v rest (held refl, reversed_so b m xs values) q (is_text_method p callee) refl)))
      where
        also : Furthers p (virtual_rules own callee) f.stack
        also = (takes_inverse p own at (arguments callee ++ (Is (class_vtype callee.owner) ∷ [])) (result_types callee.result) (virtual_rules own callee) f g r).also_hold

        instance : callee.is_static ≡ false
        instance = is_not _ (and_parts (not callee.is_static) (may_name own callee.is_private callee.owner) (and_parts (not callee.is_static && may_name own callee.is_private callee.owner) true also.0).0).0

        plain_one : is_constructor callee ≡ false
        plain_one = is_not _ (and_parts (not (is_constructor callee)) true also.1.0).0

        by : (ts : List VType) (xs : List Value) (v : Value) (rest : List Value) → ValuesSo b m (v ∷ reverse xs) → StackSo b m ts rest → (z : Bool) → is_text_method p callee ≡ z →
            Here (result_types callee.result ++ ts) (cond z (calls_text callee (reverse xs) next ls rest h v) (as_class p v h (calls_on p callee id (reverse xs) next ls rest h v)))
        by ts xs v rest values q true text = texts_so callee (facts.texts id callee e text instance plain_one).kind ts (reverse xs) rest v q
        by ts xs v rest values q false text = class_is p b m h (Here (result_types callee.result ++ ts)) tt (λ c. tt) v _ (λ c. on c)
          where
            on : (c : Option Ty) → Here (result_types callee.result ++ ts) (calls_on p callee id (reverse xs) next ls rest h v c)
            on None = tt
            on (Some ty) = called (chosen p callee id ty) (v ∷ reverse xs) next callee.result ts rest values q (λ other there. virtual_alike p callee id ty other e plain_one there) (method_at p (chosen p callee id ty)) refl

    -- ---- invokespecial

    abbrev made_types : VType → VType → Bool → List VType → List VType → Types
    made_types old new u gives s = record { locals = replaced old new f.locals; stack = gives ++ replaced old new s; unset = u }

    record Made (callee : Method) (gives : List VType) (ts : List VType) : Type 0 where
      old : VType
      new : VType
      u : Bool
      s : List VType
      is : ts ≡ old ∷ s
      unset : is_unset old ≡ true
      set : is_unset new ≡ false
      class : (q : ℕ) → old ≡ Uninit q → is_class callee.owner (made_at own.code q) ≡ true
      after_is : made_types old new u gives s ≡ g

    making : (callee : Method) (gives : List VType) (after : List Further) (ts : List VType) → constructed p own callee.owner gives after ts f ≡ Ok g → Made callee gives ts
    making callee gives after [] e = absurd (cc)
    making callee gives after (UninitThis ∷ s) e =
        let go : Types = made_types UninitThis (class_vtype own.owner) false gives s in
        let a = passed 10 (eqb callee.owner.0 own.owner.0 || is_class callee.owner (superclass_at (class_at p own.owner))) (further p after f.stack (Ok go)) g e in
        let c = furthers p after f.stack (Ok go) g a.1 in
        record { old = UninitThis; new = class_vtype own.owner; u = false; s = s; is = refl; unset = refl; set = refl; class = λ q same. absurd (let z : UninitThis ≡ Uninit q = same in cc); after_is = ok_is go g c.1 }
    making callee gives after (Uninit q ∷ s) e =
        let go : Types = made_types (Uninit q) (class_vtype callee.owner) f.unset gives s in
        let a = passed 10 (is_class callee.owner (made_at own.code q)) (further p after f.stack (Ok go)) g e in
        let c = furthers p after f.stack (Ok go) g a.1 in
        record { old = Uninit q; new = class_vtype callee.owner; u = f.unset; s = s; is = refl; unset = refl; set = refl; class = λ r same. subst (λ (n : ℕ). is_class callee.owner (made_at own.code n) ≡ true) (let z : q ≡ r = cc in z) a.0; after_is = ok_is go g c.1 }
    making callee gives after (Top ∷ s) e = absurd (cc)
    making callee gives after (Int ∷ s) e = absurd (cc)
    making callee gives after (Long ∷ s) e = absurd (cc)
    making callee gives after (Null ∷ s) e = absurd (cc)
    making callee gives after (Object ty ∷ s) e = absurd (cc)

    record Constructed (callee : Method) : Type 0 where
      meet : all_meet p (arguments callee) f.stack ≡ true
      made : Made callee (result_types callee.result) (drop (length (arguments callee)) f.stack)

    construct : (callee : Method) (before after : List Further) → by_row p own at (Constructs (arguments callee) (result_types callee.result) callee.owner before after) f ≡ Ok g → Constructed callee
    construct callee before after r =
        let go = constructed p own callee.owner (result_types callee.result) after (drop (length (arguments callee)) f.stack) f in
        let a = passed 3 (has_operands (suc (length (arguments callee))) f.stack) _ g r in
        let c = passed 4 (room_for own (result_types callee.result) (drop (suc (length (arguments callee))) f.stack)) _ g a.1 in
        let d = passed 5 (all_meet p (arguments callee) f.stack) _ g c.1 in
        let e = furthers p before f.stack go g d.1 in
        record { meet = d.0; made = making callee (result_types callee.result) after (drop (length (arguments callee)) f.stack) e.1 }

    -- behind the constructor of a receiver: it is another value, or the mailbox, which is known then
    data Behind (callee : Method) (gives : List VType) (ts : List VType) (x : Made callee gives ts) (v : Value) (rest : List Value) : Type 0 where
      Stays : is_box b v ≡ false → LocalsSo b m (replaced x.old x.new f.locals) ls → StackSo b m (replaced x.old x.new x.s) rest → Behind callee gives ts x v rest
      Turns : (q : ℕ) → is_box b v ≡ true → m ≡ Raw q → x.old ≡ Uninit q → LocalsSo b Known (replaced x.old x.new f.locals) ls → StackSo b Known (replaced x.old x.new x.s) rest → Behind callee gives ts x v rest

    behind : (callee : Method) (gives : List VType) (ts : List VType) (x : Made callee gives ts) (v : Value) (rest : List Value) → slot_so b m x.old v ≡ true → StackSo b m x.s rest → Behind callee gives ts x v rest
    behind callee gives ts x v rest e s = by (is_box b v) refl
      where
        by : (z : Bool) → is_box b v ≡ z → Behind callee gives ts x v rest
        by false n = let k = stays_so b m x.old x.unset x.new x.set x.s ls rest f.locals frame.locals s v e n in Stays n k.0 k.1
        by true y =
            let raw = raw_there b m x.old x.unset m (sym (ap (λ (z : Bool). so m z x.old) y) ∙ in_slot b m x.old x.unset v e) in
            let k = known_now b m x.old x.unset x.new x.set x.s ls rest f.locals frame.locals s raw.0 raw.1 raw.2 in
            Turns raw.0 y raw.1 raw.2 k.0 k.1

    is_raw : (k : Mode) (q : ℕ) → k ≡ Raw q → IsRaw k
    is_raw k q e = subst IsRaw (sym e) tt

    on_this : (S : Effect → Type 0) → S Stuck → ((c : _) → S (Raises c)) → (callee : Method) (gives : List VType) (ts : List VType) (x : Made callee gives ts) (below : List Value) → StackSo b m ts below → (go : Value → List Value → Effect) →
        ((v : Value) (rest : List Value) → Behind callee gives ts x v rest → S (go v rest)) → S (on_receiver below go)
    on_this S stuck raises callee gives ts x below e go k = by below (subst (λ (z : List VType). StackSo b m z below) x.is e)
      where
        by : (ws : List Value) → StackSo b m (x.old ∷ x.s) ws → S (on_receiver ws go)
        by [] s = absurd s
        by (v ∷ rest) s = receiver_is p b m h S stuck raises v _ (k v rest (behind callee gives ts x v rest s.0 s.1))

    -- a built-in constructor that does nothing more
    empty_so : (callee : Method) → method_at p id ≡ Some callee → is_constructor callee ≡ true → is_built_in_constructor callee ≡ true → (before after : List Further) → by_row p own at (Constructs (arguments callee) (result_types callee.result) callee.owner before after) f ≡ Ok g →
        After (on_receiver vs (λ receiver rest. Goes next ls rest h))
    empty_so callee there con one before after r =
        let x = construct callee before after r in
        let parts = and_parts callee.built_in (is_constructor callee && is_empty callee.params) one in
        let none = nil_is callee.params (and_parts (is_constructor callee) (is_empty callee.params) parts.1).1 in
        let gives_none = (facts.constructors id callee there parts.0 con).0 in
        let count : length (arguments callee) ≡ 0 = argument_count callee ∙ ap length none in
        on_this After tt (λ c. tt) callee (result_types callee.result) _ x.made vs (subst (λ (n : ℕ). StackSo b m (drop n f.stack) vs) (sym count) frame.stack) _ (λ v rest k. by x gives_none v rest k)
      where
        nil_is : (tys : List Ty) → is_empty tys ≡ true → tys ≡ []
        nil_is [] e = refl
        nil_is (ty ∷ tys) e = absurd (cc)

        by : (x : Constructed callee) → callee.result ≡ None → (v : Value) (rest : List Value) → Behind callee (result_types callee.result) (drop (length (arguments callee)) f.stack) x.made v rest → After (Goes next ls rest h)
        by x none v rest (Stays n l s) = subst (λ (z : Types). EffectSo p b m at z (Goes next ls rest h)) x.made.after_is
            (inl (record { locals = l; stack = subst (λ (o : Option Ty). StackSo b m (result_types o ++ replaced x.made.old x.made.new x.made.s) rest) (sym none) s }), heap)
        by x none v rest (Turns q y raw is l s) = subst (λ (z : Types). EffectSo p b m at z (Goes next ls rest h)) x.made.after_is
            (inr (is_raw m q raw, record { locals = l; stack = subst (λ (o : Option Ty). StackSo b Known (result_types o ++ replaced x.made.old x.made.new x.made.s) rest) (sym none) s }), heap)

    class_same : (c d : ClassId) → eqb c.0 d.0 ≡ true → is_mailbox p d ≡ true → is_mailbox p c ≡ true
    class_same c d e k = ap (λ (n : ℕ). bytes_eq (elim (slice_get p.classes n) [ None ↦ [] | Some class ↦ class.name ]) (codes "kilim/Mailbox")) (eqb-true c.0 d.0 e) ∙ k

    -- another constructor
    other_so : (callee : Method) → method_at p id ≡ Some callee → is_constructor callee ≡ true → (before after : List Further) → by_row p own at (Constructs (arguments callee) (result_types callee.result) callee.owner before after) f ≡ Ok g →
        After (on_values (length callee.params) vs (λ args below. on_receiver below (λ receiver rest. calls_method (Some callee) id (receiver ∷ reverse args) next ls rest h)))
    other_so callee there con before after r =
        let x = construct callee before after r in
        let t = taken_so p b m (arguments callee) f.stack vs x.meet frame.stack in
        args_took After tt (λ c. tt) callee [] (drop (length (arguments callee)) f.stack) (subst (λ (os : List Operand). TakenSo b m os (drop (length (arguments callee)) f.stack) vs) (sym (append-nil (arguments callee))) t) _ (λ xs below values q.
        on_this After tt (λ c. tt) callee (result_types callee.result) _ x.made below q _ (λ v rest k. by x v (reverse xs) rest (reversed_so b m xs values) k callee.built_in refl))
      where
        asks : (x : Constructed callee) (v : Value) (args rest : List Value) → ValuesSo b m args → Behind callee (result_types callee.result) (drop (length (arguments callee)) f.stack) x.made v rest → After (Asks id (v ∷ args) next ls rest h)
        asks x v args rest values (Stays n l s) = subst (λ (z : Types). EffectSo p b m at z (Asks id (v ∷ args) next ls rest h)) x.made.after_is
            (inl ((λ other at_it con. n), (other_value b m v n, values), record { locals = l; result = callee.result; types = replaced x.made.old x.made.new x.made.s; is = refl; stack = s }), heap)
        asks x v args rest values (Turns q y raw is l s) = subst (λ (z : Types). EffectSo p b m at z (Asks id (v ∷ args) next ls rest h)) x.made.after_is
            (inr (record { raw = is_raw m q raw; constructs = λ other at_it. ap is_constructor (sym (let z : callee ≡ other = cc in z)) ∙ con; first = y; waits = record { locals = l; result = callee.result; types = replaced x.made.old x.made.new x.made.s; is = refl; stack = s } }), heap)

        -- the message of an exception is put into its field; a mailbox has none
        keeps : (x : Constructed callee) (v : Value) (args rest : List Value) → ValuesSo b m args → Behind callee (result_types callee.result) (drop (length (arguments callee)) f.stack) x.made v rest → callee.result ≡ None → After (keeps_message (v ∷ args) next ls rest h)
        keeps x v [] rest values k none = tt
        keeps x v (a ∷ c ∷ cs) rest values k none = tt
        keeps x (value.Int i) (a ∷ []) rest values k none = tt
        keeps x (value.Long i) (a ∷ []) rest values k none = tt
        keeps x value.Null (a ∷ []) rest values k none = tt
        keeps x (value.Text u) (a ∷ []) rest values k none = tt
        keeps x (value.Box u) (a ∷ []) rest values k none = tt
        keeps x value.Fiber (a ∷ []) rest values k none = tt
        keeps x (value.Ref n) (a ∷ []) rest values (Turns q y raw is l s) none = absurd (cc)
        keeps x (value.Ref n) (a ∷ []) rest values (Stays away l s) none = some_is p b m h After tt (λ c. tt) (get h n) _ (λ object there.
            some_is p b m h After tt (λ c. tt) (field_in object.fields message_field) _ (λ old has.
            subst (λ (z : Types). EffectSo p b m at z (Goes next ls rest (insert h n (record object { fields = with_field object.fields message_field a })))) x.made.after_is (
              inl (record { locals = l; stack = subst (λ (o : Option Ty). StackSo b m (result_types o ++ replaced x.made.old x.made.new x.made.s) rest) (sym none) s }),
              insert_so b m h n (record object { fields = with_field object.fields message_field a }) heap (with_field_so b m object.fields message_field a (heap n object there).0 values.0, (heap n object there).1),
            )))

        no_message : is_get_message callee ≡ true → ⊥
        no_message get =
            let name : callee.name ≡ codes "getMessage" = text_is callee.name (codes "getMessage") (and_parts callee.built_in _ get).1 in
            let no : false ≡ true = ap (λ (u : List ℕ). bytes_eq u (codes "<init>")) (sym name) ∙ con in
            cc

        by_kind : (x : Constructed callee) (v : Value) (args rest : List Value) → ValuesSo b m args → Behind callee (result_types callee.result) (drop (length (arguments callee)) f.stack) x.made v rest → callee.built_in ≡ true →
            (k g1 : Bool) → is_message_constructor callee ≡ k → is_get_message callee ≡ g1 → After (cond k (keeps_message (v ∷ args) next ls rest h) (cond g1 (gives_message (v ∷ args) next ls rest h) (Asks id (v ∷ args) next ls rest h)))
        by_kind x v args rest values k own_is true g1 c d = keeps x v args rest values k (facts.constructors id callee there own_is con).0
        by_kind x v args rest values k own_is false true c d = absurd (no_message d)
        by_kind x v args rest values k own_is false false c d = asks x v args rest values k

        by : (x : Constructed callee) (v : Value) (args rest : List Value) → ValuesSo b m args → Behind callee (result_types callee.result) (drop (length (arguments callee)) f.stack) x.made v rest → (z : Bool) → callee.built_in ≡ z →
            After (cond z (calls_built_in callee id (v ∷ args) next ls rest h) (Calls id (v ∷ args) next ls rest h))
        by x v args rest values k true own_is = by_kind x v args rest values k own_is (is_message_constructor callee) (is_get_message callee) refl refl
        by x v args rest values (Stays n l s) false own_is = subst (λ (z : Types). EffectSo p b m at z (Calls id (v ∷ args) next ls rest h)) x.made.after_is
            ((λ other at_it con. n), (other_value b m v n, values), record { locals = l; result = callee.result; types = replaced x.made.old x.made.new x.made.s; is = refl; stack = s }, heap)
        by x v args rest values (Turns q y raw is l s) false own_is = absurd (class_of (made_at own.code q) refl (x.made.class q is))
          where
            class_of : (o : Option ClassId) → made_at own.code q ≡ o → is_class callee.owner o ≡ true → ⊥
            class_of None e c = absurd (cc)
            class_of (Some d) e c = absurd (let z = built id callee there (class_same callee.owner d c (raw_made q raw d e)) in cc)

    pub special_so : (o : Option Method) → method_at p id ≡ o → by_row p own at (special_row p own id o) f ≡ Ok g →
        After (with_some o (λ method. cond (is_built_in_constructor method) (on_receiver vs (λ receiver rest. Goes next ls rest h))
        (on_values (length method.params) vs (λ args below. on_receiver below (λ receiver rest. calls_method (method_at p (special p own method id)) (special p own method id) (receiver ∷ reverse args) next ls rest h)))))
    special_so None e r = absurd (missing_is r)
    special_so (Some callee) e r = by (is_constructor callee) refl r
      where
        Goal : Bool → Type 0
        Goal z = After (cond z (on_receiver vs (λ receiver rest. Goes next ls rest h)) (on_values (length callee.params) vs (λ args below. on_receiver below (λ receiver rest. calls_method (method_at p (special p own callee id)) (special p own callee id) (receiver ∷ reverse args) next ls rest h))))

        itself : is_constructor callee ≡ true → special p own callee id ≡ id
        itself con = ap (λ (y : Bool). cond (y || eqb callee.owner.0 own.owner.0) id (above_of p callee id (superclass_of (class_at p own.owner)))) con

        constructs : (z : Bool) → is_built_in_constructor callee ≡ z → is_constructor callee ≡ true → by_row p own at (special_by true p own id callee) f ≡ Ok g → Goal z
        constructs true one con r = empty_so callee e con one (needs 8 (not callee.is_static && may_name own callee.is_private callee.owner) ∷ []) (needs 14 (not callee.is_abstract) ∷ []) r
        constructs false one con r =
            subst (λ (q : MethodId). After (on_values (length callee.params) vs (λ args below. on_receiver below (λ receiver rest. calls_method (method_at p q) q (receiver ∷ reverse args) next ls rest h)))) (sym (itself con))
            (subst (λ (o : Option Method). After (on_values (length callee.params) vs (λ args below. on_receiver below (λ receiver rest. calls_method o id (receiver ∷ reverse args) next ls rest h)))) (sym e)
            (other_so callee e con (needs 8 (not callee.is_static && may_name own callee.is_private callee.owner) ∷ []) (needs 14 (not callee.is_abstract) ∷ []) r))

        none : is_constructor callee ≡ false → is_built_in_constructor callee ≡ false
        none con = ap (λ (y : Bool). callee.built_in && (y && is_empty callee.params)) con ∙ both callee.built_in
          where
            both : (y : Bool) → (y && false) ≡ false
            both true = refl
            both false = refl

        by : (z : Bool) → is_constructor callee ≡ z → by_row p own at (special_by z p own id callee) f ≡ Ok g → Goal (is_built_in_constructor callee)
        by true con r = constructs (is_built_in_constructor callee) refl con r
        by false con r = subst Goal (sym (none con)) (takes (arguments callee ++ (Is (class_vtype callee.owner) ∷ [])) (result_types callee.result) (special_rules p own id callee) r _ (λ also ts t.
            args_took (Here (result_types callee.result ++ ts)) tt (λ c. tt) callee (Is (class_vtype callee.owner) ∷ []) ts t _ (λ xs below values u.
            receiver_took p b m h (Here (result_types callee.result ++ ts)) tt (λ c. tt) (Is (class_vtype callee.owner)) [] ts below u _ (λ v held rest q.
            called (special p own callee id) (v ∷ reverse xs) next callee.result ts rest (held refl, reversed_so b m xs values) q (λ other there. special_alike p own callee id other e con there) (method_at p (special p own callee id)) refl))))

  -- ---- new

  pub new_so : (c : ClassId) → by_row p own at (MakesRow (may_make p c (class_at p c))) f ≡ Ok g → After (cond (is_mailbox p c) (Opens next ls vs h) (Makes (new_object p c) next ls vs h))
  new_so c r =
      let go : Types = record { locals = replaced (Uninit at) Top f.locals; stack = Uninit at ∷ f.stack; unset = f.unset } in
      let a = passed 4 (has_room own (Uninit at ∷ f.stack)) (rule 10 (not (list_any (is_same (Uninit at)) f.stack)) (rule 13 (may_make p c (class_at p c)) (Ok go))) g r in
      let d = passed 10 (not (list_any (is_same (Uninit at)) f.stack)) (rule 13 (may_make p c (class_at p c)) (Ok go)) g a.1 in
      let e = passed 13 (may_make p c (class_at p c)) (Ok go) g d.1 in
      subst (λ (z : Types). EffectSo p b m at z (cond (is_mailbox p c) (Opens next ls vs h) (Makes (new_object p c) next ls vs h))) (ok_is go g e.1)
      (elim (is_mailbox p c) as (λ (z : Bool). EffectSo p b m at (record { locals = replaced (Uninit at) Top f.locals; stack = Uninit at ∷ f.stack; unset = f.unset }) (cond z (Opens next ls vs h) (Makes (new_object p c) next ls vs h))) [
        | true ↦ (new_frame d.0, heap)
        | false ↦ (new_plain p b m c, inl (new_frame d.0), heap)
      ])
    where
      renewed : (k : Mode) → Renews at m k → (t : VType) (v : Value) → is_same (Uninit at) t ≡ false → slot_so b m t v ≡ true → slot_so b k t v ≡ true
      renewed k renews t v n e = by (is_top t) e
        where
          by : (z : Bool) → (z || so m (is_box b v) t) ≡ true → (z || so k (is_box b v) t) ≡ true
          by true e = refl
          by false e = renews t n (is_box b v) e

      or_none : (y z : Bool) → not (y || z) ≡ true → (y ≡ false) × (not z ≡ true)
      or_none true z e = absurd (cc)
      or_none false z e = (refl, e)

      below : (k : Mode) → Renews at m k → (ts : List VType) (ws : List Value) → not (list_any (is_same (Uninit at)) ts) ≡ true → StackSo b m ts ws → StackSo b k ts ws
      below k renews [] [] n s = tt
      below k renews [] (v ∷ ws) n s = s
      below k renews (t ∷ ts) [] n s = s
      below k renews (t ∷ ts) (v ∷ ws) n s = let ns = or_none (is_same (Uninit at) t) (list_any (is_same (Uninit at)) ts) n in (renewed k renews t v ns.0 s.0, below k renews ts ws ns.1 s.1)

      new_frame : not (list_any (is_same (Uninit at)) f.stack) ≡ true → NewSo b m at (record { locals = replaced (Uninit at) Top f.locals; stack = Uninit at ∷ f.stack; unset = f.unset }) ls vs
      new_frame n = record { types = f.stack; is = refl; rest = λ k renews. (locals_replaced b m k (Uninit at) Top (λ t v s e. refl) (λ t v s e. renewed k renews t v s e) f.locals ls frame.locals, below k renews f.stack vs n frame.stack) }

  -- ---- fields

  pub static_field : (x : FieldId) (o : Option Field) → by_row p own at (field_row (instr.Getstatic x) own o) f ≡ Ok g → After (with_some o (λ field. with_some field.constant (λ v. on_constant v (λ c. Goes next ls (c ∷ vs) h))))
  static_field x None r = absurd (missing_is r)
  static_field x (Some field) r = takes [] (vtype field.ty ∷ []) (needs 8 (field.is_static && may_name own field.is_private field.owner) ∷ []) r _ (λ a ts t.
      some_is p b m h (Here (vtype field.ty ∷ ts)) tt (λ c. tt) field.constant _ (λ v e.
      constant_is p b m h (Here (vtype field.ty ∷ ts)) tt (λ c. tt) v _ (λ c n. goes next (vtype field.ty ∷ ts) (c ∷ vs) (other_slot b m (vtype field.ty) c (vtype_set field.ty) n, t))))

  pub get_field : (x : FieldId) (o : Option Field) → by_row p own at (field_row (instr.Getfield x) own o) f ≡ Ok g → After (on_object vs h (λ n object rest. with_some (field_in object.fields x) (λ v. Goes next ls (v ∷ rest) h)))
  get_field x None r = absurd (missing_is r)
  get_field x (Some field) r = takes (Is (class_vtype field.owner) ∷ []) (vtype field.ty ∷ []) (needs 8 (not field.is_static && may_name own field.is_private field.owner) ∷ []) r _ (λ a ts t.
      object_took p b m h (Here (vtype field.ty ∷ ts)) tt (λ c. tt) (Is (class_vtype field.owner)) [] ts vs t _ (λ n object there rest q.
      some_is p b m h (Here (vtype field.ty ∷ ts)) tt (λ c. tt) (field_in object.fields x) _ (λ v e. goes next (vtype field.ty ∷ ts) (v ∷ rest) (good_slot b m (vtype field.ty) v (vtype_set field.ty) (field_so b m object.fields x v (heap n object there).0 e), q))))

  narrowed_so : (ty : Ty) (v : Value) → value_so b m v ≡ true → value_so b m (narrowed_to ty v) ≡ true
  narrowed_so ty (value.Int x) e = other_value b m (narrowed_to ty (value.Int x)) refl
  narrowed_so ty (value.Long x) e = e
  narrowed_so ty value.Null e = e
  narrowed_so ty (value.Ref n) e = e
  narrowed_so ty (value.Text u) e = e
  narrowed_so ty (value.Box u) e = e
  narrowed_so ty value.Fiber e = e

  pub put_field : (x : FieldId) (o : Option Field) → field_of p x ≡ o → by_row p own at (field_row (instr.Putfield x) own o) f ≡ Ok g →
      After (on_value vs (λ v below. on_object below h (λ n object rest. with_some (field_of p x) (λ field. with_some (field_in object.fields x) (λ old. Goes next ls rest (insert h n (record object { fields = with_field object.fields x (narrowed_to field.ty v) })))))))
  put_field x None at_it r = absurd (missing_is r)
  put_field x (Some field) at_it r = takes (Is (vtype field.ty) ∷ holder own field.owner ∷ []) [] (needs 8 (not field.is_static && may_name own field.is_private field.owner) ∷ []) r _ (λ a ts t.
      value_took p b m h (Here ts) tt (λ c. tt) (Is (vtype field.ty)) (holder own field.owner ∷ []) ts vs t _ (λ v held below u.
      object_took p b m h (Here ts) tt (λ c. tt) (holder own field.owner) [] ts below u _ (λ n object there rest q.
      some_is p b m h (Here ts) tt (λ c. tt) (field_of p x) _ (λ other is.
      some_is p b m h (Here ts) tt (λ c. tt) (field_in object.fields x) _ (λ old e.
      writing p b m own at f g ls vs h frame pairs heap next ts rest q n (record object { fields = with_field object.fields x (narrowed_to other.ty v) })
      (with_field_so b m object.fields x _ (heap n object there).0 (narrowed_so other.ty v (held (plain_vtype field.ty))), (heap n object there).1))))))
