-- `new`, constructors and fields fit.
use Rattle.std.proofs.Common.{◌≡◌, ℕ, zero, suc, Bool, true, false, cond, eqb, List, [], ◌∷◌, ◌++◌, map, length, drop, reverse, Option, Some, None, Ok, refl, sym, ap, subst, ◌∙◌}
use Rattle.std.specs.Prelude.{◌||◌, not, slice_get, filter, codes}
use Rattle.std.specs.List.{list_any, flat_map}
use Rattle.std.specs.Str.{bytes_eq}
use Rattle.std.proofs.lemmas.Bool.{and_parts, and_from, eqb-true, eq-eqb}
use Rattle.kilim_program.specs.declared.class.Class.{Class}
use Rattle.kilim_program.specs.declared.class.Field.{Field}
use Rattle.kilim_program.specs.declared.class.Method.{Method}
use Rattle.kilim_program.specs.declared.instr.Instr.{Instr}
use Rattle.kilim_program.specs.declared.names.ClassId.{ClassId}
use Rattle.kilim_program.specs.declared.names.FieldId.{FieldId}
use Rattle.kilim_program.specs.declared.names.MethodId.{MethodId}
use Rattle.kilim_program.specs.declared.ty.Ty.{Ty}
use Rattle.kilim_program.specs.declared.value.Value.{Value}
use Rattle.kilim_program.specs.declared.value.Value.TheVariants as value
use Rattle.kilim_program.specs.declared.verified.VType.{VType}
use Rattle.kilim_program.specs.declared.verified.VType.TheVariants.{Top, Int, Long, Null, UninitThis, Uninit, Object}
use Rattle.kilim_program.specs.Program.{Program}
use Rattle.kilim_run_state.specs.Machine.{Objects}
use Rattle.std.specs.FinMap.{get, insert}
use Rattle.kilim_run_state.specs.declared.value.Object.{Object as HeapObject}
use Rattle.kilim_program.specs.BuiltIn.{class_type, message_field}
use Rattle.kilim_program.specs.Names.{class_at, method_at, field_of, fields_of, line_of, class_name}
use Rattle.kilim_program.specs.Members.{is_instance_field, is_concrete}
use Rattle.kilim_program.specs.Kinds.{is_value_class}
use Rattle.kilim_program.specs.Same.{is_constructor}
use Rattle.kilim_program.specs.Fits.{is_named, fits_type}
use Rattle.kilim_run_machine.specs.Effect.{Asks, Effect, Goes, Makes, Opens, Calls, on_values, on_receiver, with_some}
use Rattle.kilim_program.specs.Members.{named_type}
use Rattle.kilim_run_machine.specs.Does.{is_mailbox, keeps_message, with_field}
use Rattle.kilim_run_state.specs.Shapes.{field_in}
use Rattle.kilim_run_state.specs.Objects.{new_object, first_field, first_value, first_value_of}
use Rattle.kilim_type_spec.specs.Step.{Types, Operand, Is, Further, further, needs, rule, Makes as MakesRow, Constructs, by_row, arguments, result_types, vtype, class_vtype, is_same, one_replaced, replaced, peek, is_top, made_at, is_class, superclass_at, constructed, may_make, has_room, room_for, has_operands, all_meet}
use Rattle.kilim_type_spec.specs.Typed.{writes, edges, Among}
use Rattle.kilim_type_sound.specs.Fits.{AreThere, Classes, IsThere, is_of, is_made, refers, has_type, have_types, Holds, LocalsFit, HeapFits, FieldFits, FieldsFit, has_objects, ObjectFits, Nothing, AReference, result_awaited, StackFits, is_value_of}
use Rattle.kilim_program.specs.declared.ty.Base.{Base}
use Rattle.kilim_program.specs.declared.ty.Base.TheVariants as base
use Rattle.kilim_program.specs.Fits.{is_reference_base}
use Rattle.kilim_type_sound.specs.Sound.{GoesOn, EffectFits}
use Rattle.kilim_type_sound.specs.Facts.{Facts, OfMessage}
use Rattle.kilim_type_sound.proofs.Basics.{Held, passed, object_assigned, ok_is, Furthers, furthers, of_through, is_reference, taken, Taken, PlainOperands}
use Rattle.kilim_type_sound.proofs.Slots.{no_slot}
use Rattle.kilim_type_sound.proofs.Words.{receiver_is}
use Rattle.kilim_type_sound.proofs.Calls.{args_took, held_has, same_arguments, arguments_are, dims_itself, vtype_no_top}
use Rattle.kilim_type_sound.proofs.Heap.{value_of_typed}
use Rattle.kilim_type_sound.proofs.Holders.{content_kept, content_there, holder_is}
use Rattle.kilim_type_sound.proofs.Values.{written}
use Rattle.kilim_type_sound.proofs.Rows.{Before, kept}

same_top : (old : VType) → is_same old Top ≡ false
same_top UninitThis = refl
same_top (Uninit q) = refl
same_top Top = refl
same_top Int = refl
same_top Long = refl
same_top Null = refl
same_top (Object ty) = refl

peek_replaced : (old new : VType) (ls : List VType) (j : ℕ) → peek (replaced old new ls) j ≡ one_replaced (is_same old (peek ls j)) (peek ls j) new
peek_replaced old new [] j = no_slot j ∙ sym (ap (λ t. one_replaced (is_same old t) t new) (no_slot j) ∙ ap (λ b. one_replaced b Top new) (same_top old))
peek_replaced old new (t ∷ ts) zero = refl
peek_replaced old new (t ∷ ts) (suc j) = peek_replaced old new ts j

is_not : (b : Bool) → not b ≡ true → b ≡ false
is_not true e = absurd (cc)
is_not false e = refl

module _ (p : Program) (m : Method) (of : Classes) where
  -- a new type that each value of the old one has too
  Becomes : VType → VType → Type 0
  Becomes old new = (t : VType) (v : Value) → is_same old t ≡ true → has_type p m of t v ≡ true → has_type p m of new v ≡ true

  one_typed : (b : Bool) (old new t : VType) (v : Value) → is_same old t ≡ b → Becomes old new → has_type p m of t v ≡ true → has_type p m of (one_replaced b t new) v ≡ true
  unfolding Becomes
  one_typed true old new t v s k e = k t v s e
  one_typed false old new t v s k e = e

  types_replaced : (old new : VType) (ts : List VType) (vs : List Value) → Becomes old new → have_types p m of ts vs ≡ true → have_types p m of (replaced old new ts) vs ≡ true
  types_replaced old new [] vs k e = e
  types_replaced old new (t ∷ ts) [] k e = absurd (cc)
  types_replaced old new (t ∷ ts) (v ∷ vs) k e =
      let es = and_parts (has_type p m of t v) (have_types p m of ts vs) e in
      and_from (has_type p m of (one_replaced (is_same old t) t new) v) (have_types p m of (replaced old new ts) vs) (one_typed (is_same old t) old new t v refl k es.0) (types_replaced old new ts vs k es.1)

  holds_of : (t : VType) (v : Value) → has_type p m of t v ≡ true → Holds p m of t (Some v)
  holds_of Top v e = tt
  holds_of Int v e = e
  holds_of Long v e = e
  holds_of Null v e = e
  holds_of UninitThis v e = e
  holds_of (Uninit q) v e = e
  holds_of (Object ty) v e = e

  one_holds : (b : Bool) (old new t : VType) (o : Option Value) → is_same old t ≡ b → Becomes old new → Holds p m of t o → Holds p m of (one_replaced b t new) o
  unfolding Becomes
  one_holds false old new t o s k e = e
  one_holds true UninitThis new UninitThis None s k e = absurd e
  one_holds true UninitThis new UninitThis (Some v) s k e = holds_of new v (k UninitThis v s e)
  one_holds true (Uninit a) new (Uninit q) None s k e = absurd e
  one_holds true (Uninit a) new (Uninit q) (Some v) s k e = holds_of new v (k (Uninit q) v s e)
  one_holds true old new t o s k e = absurd (cc)

  locals_replaced : (wanted : ℕ → Bool) (old new : VType) (ts : List VType) (ls : List Value) → Becomes old new → LocalsFit p m of wanted ts ls → LocalsFit p m of wanted (replaced old new ts) ls
  locals_replaced wanted old new ts ls k f = record { room = f.room; slots = λ j w. subst (λ (t : VType). Holds p m of t (slice_get ls j)) (sym (peek_replaced old new ts j)) (one_holds (is_same old (peek ts j)) old new (peek ts j) (slice_get ls j) refl k (f.slots j w)) }

  -- to Top, for locals alone
  one_top : (b : Bool) (t : VType) (o : Option Value) → Holds p m of t o → Holds p m of (one_replaced b t Top) o
  one_top true t o e = tt
  one_top false t o e = e

  locals_topped : (wanted : ℕ → Bool) (old : VType) (ts : List VType) (ls : List Value) → LocalsFit p m of wanted ts ls → LocalsFit p m of wanted (replaced old Top ts) ls
  locals_topped wanted old ts ls f = record { room = f.room; slots = λ j w. subst (λ (t : VType). Holds p m of t (slice_get ls j)) (sym (peek_replaced old Top ts j)) (one_top (is_same old (peek ts j)) (peek ts j) (slice_get ls j) (f.slots j w)) }

  -- the object that a constructor makes
  is_object_now : (c : ClassId) (t : VType) (v : Value) → ((k : Option Ty) → refers p m t k ≡ true → is_of p k (class_type c.0) ≡ true) → is_same t t ≡ true → has_type p m of t v ≡ true → has_type p m of (class_vtype c) v ≡ true
  is_object_now c UninitThis (value.Int x) k s e = absurd (cc)
  is_object_now c UninitThis (value.Long x) k s e = absurd (cc)
  is_object_now c UninitThis value.Null k s e = refl
  is_object_now c UninitThis (value.Ref n) k s e = k (of n) e
  is_object_now c UninitThis (value.Text n) k s e = k _ e
  is_object_now c UninitThis (value.Box n) k s e = k _ e
  is_object_now c UninitThis value.Fiber k s e = k _ e
  is_object_now c (Uninit q) (value.Int x) k s e = absurd (cc)
  is_object_now c (Uninit q) (value.Long x) k s e = absurd (cc)
  is_object_now c (Uninit q) value.Null k s e = refl
  is_object_now c (Uninit q) (value.Ref n) k s e = k (of n) e
  is_object_now c (Uninit q) (value.Text n) k s e = k _ e
  is_object_now c (Uninit q) (value.Box n) k s e = k _ e
  is_object_now c (Uninit q) value.Fiber k s e = k _ e
  is_object_now c t v k s e = absurd (cc)

  this_becomes : Becomes UninitThis (class_vtype m.owner)
  unfolding Becomes
  this_becomes UninitThis v s e = is_object_now m.owner UninitThis v (λ k r. r) refl e
  this_becomes t v s e = absurd (cc)

  made_is : (o : Option ClassId) (c : ClassId) (k : Option Ty) → is_class c o ≡ true → is_made p k o ≡ true → is_of p k (class_type c.0) ≡ true
  made_is None c k i e = absurd (cc)
  made_is (Some d) c k i e = subst (λ (n : ℕ). is_of p k (class_type n) ≡ true) (sym (eqb-true c.0 d.0 i)) e

  uninit_becomes : (q : ℕ) (c : ClassId) → is_class c (made_at m.code q) ≡ true → Becomes (Uninit q) (class_vtype c)
  unfolding Becomes
  uninit_becomes q c i (Uninit r) v s e =
      let same = eqb-true q r s in
      is_object_now c (Uninit r) v (λ k x. made_is (made_at m.code r) c k (subst (λ (z : ℕ). is_class c (made_at m.code z) ≡ true) same i) x) (eqb-refl r) e
    where
      eqb-refl : (n : ℕ) → eqb n n ≡ true
      eqb-refl n = eq-eqb n n refl
  uninit_becomes q c i t v s e = absurd (cc)

  this_of : (callee : Method) (t : VType) (v : Value) → is_same t t ≡ true → ((k : Option Ty) → refers p m t k ≡ true → is_of p k (class_type callee.owner.0) ≡ true) → has_type p m of t v ≡ true → (has_type p callee of UninitThis v ≡ true) × (is_reference v ≡ true)
  this_of callee UninitThis (value.Int x) s k e = absurd (cc)
  this_of callee UninitThis (value.Long x) s k e = absurd (cc)
  this_of callee UninitThis value.Null s k e = absurd (cc)
  this_of callee UninitThis (value.Ref n) s k e = (k (of n) e, refl)
  this_of callee UninitThis (value.Text n) s k e = (k _ e, refl)
  this_of callee UninitThis (value.Box n) s k e = (k _ e, refl)
  this_of callee UninitThis value.Fiber s k e = (k _ e, refl)
  this_of callee (Uninit q) (value.Int x) s k e = absurd (cc)
  this_of callee (Uninit q) (value.Long x) s k e = absurd (cc)
  this_of callee (Uninit q) value.Null s k e = absurd (cc)
  this_of callee (Uninit q) (value.Ref n) s k e = (k (of n) e, refl)
  this_of callee (Uninit q) (value.Text n) s k e = (k _ e, refl)
  this_of callee (Uninit q) (value.Box n) s k e = (k _ e, refl)
  this_of callee (Uninit q) value.Fiber s k e = (k _ e, refl)
  this_of callee t v s k e = absurd (cc)

-- ---- new objects

module _ (p : Program) (of : Classes) where
  first_fits : (b : Base) → is_value_of p of (record { dims = 0; base = b }) (first_value_of b) ≡ true
  first_fits base.Bool = refl
  first_fits base.Byte = refl
  first_fits base.Char = refl
  first_fits base.Short = refl
  first_fits base.Int = refl
  first_fits base.Long = refl
  first_fits (base.Class c) = refl

  made_fields : (fs : List FieldId) → FieldsFit p of (filter (is_instance_field p) fs) (map (first_field p) (filter (is_instance_field p) fs))
  made_fields [] = tt
  made_fields (x ∷ fs) = by (field_of p x) refl (made_fields fs)
    where
      zero_typed : (ty : Ty) → is_value_of p of ty (first_value ty) ≡ true
      zero_typed ty = by_zero (eqb ty.dims 0) refl
        where
          by_zero : (z : Bool) → eqb ty.dims 0 ≡ z → is_value_of p of ty (cond z (first_value_of ty.base) value.Null) ≡ true
          by_zero true e = subst (λ (d : ℕ). is_value_of p of (record { dims = d; base = ty.base }) (first_value_of ty.base) ≡ true) (sym (eqb-true ty.dims 0 e)) (first_fits ty.base)
          by_zero false e = ap (λ (z : Bool). not z || is_reference_base ty.base) e

      by : (o : Option Field) → field_of p x ≡ o → FieldsFit p of (filter (is_instance_field p) fs) (map (first_field p) (filter (is_instance_field p) fs)) →
          FieldsFit p of (cond (elim o [ None ↦ false | Some field ↦ not field.is_static ]) (x ∷ filter (is_instance_field p) fs) (filter (is_instance_field p) fs)) (map (first_field p) (cond (elim o [ None ↦ false | Some field ↦ not field.is_static ]) (x ∷ filter (is_instance_field p) fs) (filter (is_instance_field p) fs)))
      by None e others = others
      by (Some field) e others = by_static (not field.is_static)
        where
          by_static : (z : Bool) → FieldsFit p of (cond z (x ∷ filter (is_instance_field p) fs) (filter (is_instance_field p) fs)) (map (first_field p) (cond z (x ∷ filter (is_instance_field p) fs) (filter (is_instance_field p) fs)))
          by_static true = (refl, subst (λ (o : Option Field). FieldFits p of o (elim o [ None ↦ value.Null | Some y ↦ first_value y.ty ])) (sym e) (zero_typed field.ty), others)
          by_static false = others

  -- a new object of a class that has objects
  pub made_fits : (c : ClassId) → has_objects p c ≡ true → ObjectFits p of (new_object p c)
  made_fits c objects = (objects, made_fields (flat_map (fields_of p) (reverse (line_of p c))), refl)

module _ (p : Program) (facts : Facts p) (m : Method) (of : Classes) (h : Objects) (heap : HeapFits p of h) (live : ℕ → ℕ → Bool) (at next : ℕ) (f g : Types) (ls vs : List Value) where
  abbrev B : Instr → Type 0
  B i = Before p m of h live at next f ls vs i

  abbrev After : Instr → Effect → Type 0
  After i e = EffectFits p m of live next ls h (edges i next) g e

  module _ (i : Instr) (b : B i) (w : (k : ℕ) → writes i k ≡ false) (on : Among (edges i next) next) where
    here : LocalsFit p m of (live next) f.locals ls
    here = kept p facts.order m of h heap live at next f g ls vs i b w next on

    made_types : VType → VType → Bool → List VType → List VType → Types
    made_types old new u gives s = record { locals = replaced old new f.locals; stack = gives ++ replaced old new s; unset = u }

    constructed_goes : (old new : VType) (u : Bool) (s : List VType) (rest : List Value) (result : Option Ty) → Becomes p m of old new → have_types p m of s rest ≡ true →
        GoesOn p m of live (edges i next) (made_types old new u (result_types result) s) (result_awaited result) next ls rest h
    unfolding made_types
    constructed_goes old new u s rest result k e = record { among = on; locals = locals_replaced p m of (live next) old new f.locals ls k here; stack = by result; heap = heap }
      where
        by : (r : Option Ty) → StackFits p m of (result_awaited r) (result_types r ++ replaced old new s) rest
        by None = types_replaced p m of old new s rest k e
        by (Some ty) = (dims_itself p facts.order ty ty.dims, vtype_no_top ty, types_replaced p m of old new s rest k e)

    -- a receiver that fits a constructor, and what its object becomes
    record Fitting (callee : Method) (gives : List VType) (after : List Further) (ts : List VType) : Type 0 where
      old : VType
      new : VType
      u : Bool
      s : List VType
      is : ts ≡ old ∷ s
      same : is_same old old ≡ true
      becomes : Becomes p m of old new
      class : (k : Option Ty) → refers p m old k ≡ true → is_of p k (class_type callee.owner.0) ≡ true
      also : Furthers p after f.stack
      after_is : made_types old new u gives s ≡ g

    eqb-refl : (n : ℕ) → eqb n n ≡ true
    eqb-refl n = eq-eqb n n refl

    of_superclass : (callee : Method) (o : Option ClassId) → superclass_at (class_at p m.owner) ≡ o → is_class callee.owner o ≡ true → fits_type p (class_type m.owner.0) (class_type callee.owner.0) ≡ true
    of_superclass callee None e i = absurd (cc)
    of_superclass callee (Some up) e i = subst (λ (n : ℕ). fits_type p (class_type m.owner.0) (class_type n) ≡ true) (sym (eqb-true callee.owner.0 up.0 i)) (facts.superclass m.owner up e)

    own_or_above : (callee : Method) → (eqb callee.owner.0 m.owner.0 || is_class callee.owner (superclass_at (class_at p m.owner))) ≡ true → fits_type p (class_type m.owner.0) (class_type callee.owner.0) ≡ true
    own_or_above callee e = by (eqb callee.owner.0 m.owner.0) refl e
      where
        by : (z : Bool) → eqb callee.owner.0 m.owner.0 ≡ z → (z || is_class callee.owner (superclass_at (class_at p m.owner))) ≡ true → fits_type p (class_type m.owner.0) (class_type callee.owner.0) ≡ true
        by true q e = subst (λ (n : ℕ). fits_type p (class_type m.owner.0) (class_type n) ≡ true) (sym (eqb-true callee.owner.0 m.owner.0 q)) (facts.order.itself (class_type m.owner.0))
        by false q e = of_superclass callee (superclass_at (class_at p m.owner)) refl e

    fitting : (callee : Method) (gives : List VType) (after : List Further) (ts : List VType) → constructed p m callee.owner gives after ts f ≡ Ok g → Fitting callee gives after ts
    unfolding made_types
    fitting callee gives after [] e = absurd (cc)
    fitting callee gives after (UninitThis ∷ s) e =
        let a = passed 10 (eqb callee.owner.0 m.owner.0 || is_class callee.owner (superclass_at (class_at p m.owner))) (further p after f.stack (Ok (made_types UninitThis (class_vtype m.owner) false gives s))) g e in
        let c = furthers p after f.stack (Ok (made_types UninitThis (class_vtype m.owner) false gives s)) g a.1 in
        record {
          old = UninitThis;
          new = class_vtype m.owner;
          u = false;
          s = s;
          is = refl;
          same = refl;
          becomes = this_becomes p m of;
          class = λ k r. of_through p facts.order m of k (class_type m.owner.0) (class_type callee.owner.0) r (own_or_above callee a.0);
          also = c.0;
          after_is = ok_is (made_types UninitThis (class_vtype m.owner) false gives s) g c.1;
        }
    fitting callee gives after (Uninit q ∷ s) e =
        let a = passed 10 (is_class callee.owner (made_at m.code q)) (further p after f.stack (Ok (made_types (Uninit q) (class_vtype callee.owner) f.unset gives s))) g e in
        let c = furthers p after f.stack (Ok (made_types (Uninit q) (class_vtype callee.owner) f.unset gives s)) g a.1 in
        record {
          old = Uninit q;
          new = class_vtype callee.owner;
          u = f.unset;
          s = s;
          is = refl;
          same = eqb-refl q;
          becomes = uninit_becomes p m of q callee.owner a.0;
          class = λ k r. made_is p m of (made_at m.code q) callee.owner k a.0 r;
          also = c.0;
          after_is = ok_is (made_types (Uninit q) (class_vtype callee.owner) f.unset gives s) g c.1;
        }
    fitting callee gives after (Top ∷ s) e = absurd (cc)
    fitting callee gives after (Int ∷ s) e = absurd (cc)
    fitting callee gives after (Long ∷ s) e = absurd (cc)
    fitting callee gives after (Null ∷ s) e = absurd (cc)
    fitting callee gives after (Object ty ∷ s) e = absurd (cc)

    record Constructed (callee : Method) (before after : List Further) : Type 0 where
      meet : all_meet p (arguments callee) f.stack ≡ true
      first : Furthers p before f.stack
      fit : Fitting callee (result_types callee.result) after (drop (length (arguments callee)) f.stack)

    construct : (callee : Method) (before after : List Further) → by_row p m at (Constructs (arguments callee) (result_types callee.result) callee.owner before after) f ≡ Ok g → Constructed callee before after
    construct callee before after r =
        let go = constructed p m callee.owner (result_types callee.result) after (drop (length (arguments callee)) f.stack) f in
        let a = passed 3 (has_operands (suc (length (arguments callee))) f.stack) _ g r in
        let c = passed 4 (room_for m (result_types callee.result) (drop (suc (length (arguments callee))) f.stack)) _ g a.1 in
        let d = passed 5 (all_meet p (arguments callee) f.stack) _ g c.1 in
        let e = furthers p before f.stack go g d.1 in
        record { meet = d.0; first = e.0; fit = fitting callee (result_types callee.result) after (drop (length (arguments callee)) f.stack) e.1 }

    pub construct_first : (callee : Method) (before after : List Further) → by_row p m at (Constructs (arguments callee) (result_types callee.result) callee.owner before after) f ≡ Ok g → Furthers p before f.stack
    construct_first callee before after r = (construct callee before after r).first

    plain_all : (ts : List VType) → PlainOperands p facts.order m of (map (λ t. Is t) ts)
    plain_all [] = tt
    plain_all (t ∷ ts) = (tt, plain_all ts)

    append_none : (os : List Operand) → os ++ [] ≡ os
    append_none [] = refl
    append_none (o ∷ os) = ap (λ (z : List Operand). o ∷ z) (append_none os)

    on_this : (callee : Method) (gives : List VType) (after : List Further) (ts : List VType) (x : Fitting callee gives after ts) (below : List Value) → have_types p m of ts below ≡ true → (go : Value → List Value → Effect) →
        ((v : Value) (rest : List Value) → has_type p callee of UninitThis v ≡ true → have_types p m of x.s rest ≡ true → After i (go v rest)) → After i (on_receiver below go)
    on_this callee gives after ts x below e go k = by below (subst (λ (z : List VType). have_types p m of z below ≡ true) x.is e)
      where
        by : (ws : List Value) → have_types p m of (x.old ∷ x.s) ws ≡ true → After i (on_receiver ws go)
        by [] e = absurd (cc)
        by (v ∷ rest) e =
            let es = and_parts (has_type p m of x.old v) (have_types p m of x.s rest) e in
            let t = this_of p m of callee x.old v x.same x.class es.0 in
            receiver_is p facts.order m of h heap (After i) (λ c. tt) v t.1 (λ r. go r rest) (λ nn. k v rest t.0 es.1)

    pub constructor_calls : (id : MethodId) (callee : Method) → method_at p id ≡ Some callee → callee.built_in ≡ false → callee.is_static ≡ false → is_constructor callee ≡ true → (before : List Further) →
        by_row p m at (Constructs (arguments callee) (result_types callee.result) callee.owner before (needs 14 (not callee.is_abstract) ∷ [])) f ≡ Ok g →
        After i (on_values (length callee.params) vs (λ args below. on_receiver below (λ receiver rest. Calls id (receiver ∷ reverse args) next ls rest h)))
    constructor_calls id callee there own inst con before r =
        let x = construct callee before (needs 14 (not callee.is_abstract) ∷ []) r in
        let t = taken p facts.order m of h (arguments callee) f.stack vs (subst (λ (os : List Operand). PlainOperands p facts.order m of os) (sym (arguments_are callee)) (plain_all (reverse (map vtype callee.params)))) x.meet b.stack b.there in
        args_took p facts.order m of h heap (After i) (λ c. tt) callee [] (drop (length (arguments callee)) f.stack) vs (subst (λ (os : List Operand). Taken p facts.order m of h os (drop (length (arguments callee)) f.stack) vs) (sym (append_none (arguments callee))) t)
        (λ args below. on_receiver below (λ receiver rest. Calls id (receiver ∷ reverse args) next ls rest h))
        (λ xs below e q. on_this callee (result_types callee.result) (needs 14 (not callee.is_abstract) ∷ []) _ x.fit below q (λ receiver rest. Calls id (receiver ∷ reverse xs) next ls rest h) (λ v rest d s.
        record {
          callee = callee;
          there = there;
          code = facts.bodies id callee there own (is_not callee.is_abstract (and_parts (not callee.is_abstract) true x.fit.also.0).0);
          arguments = subst (λ (z : Bool). have_types p callee of ((cond z [] (cond (is_constructor callee) UninitThis (class_vtype callee.owner) ∷ [])) ++ map vtype callee.params) (v ∷ reverse xs) ≡ true) (sym inst)
              (subst (λ (z : Bool). have_types p callee of ((cond z UninitThis (class_vtype callee.owner) ∷ []) ++ map vtype callee.params) (v ∷ reverse xs) ≡ true) (sym con)
              (and_from (has_type p callee of UninitThis v) (have_types p callee of (map vtype callee.params) (reverse xs)) d (same_arguments p m callee of callee.params (reverse xs) e)));
          goes = subst (λ (z : Types). GoesOn p m of live (edges i next) z (result_awaited callee.result) next ls rest h) x.fit.after_is (constructed_goes x.fit.old x.fit.new x.fit.u x.fit.s rest callee.result x.fit.becomes s);
          behind = refl;
          same = refl;
        }))

    pub constructor_built_in : (id : MethodId) (callee : Method) → method_at p id ≡ Some callee → callee.built_in ≡ true → is_constructor callee ≡ true → callee.params ≡ [] → (before after : List Further) →
        by_row p m at (Constructs (arguments callee) (result_types callee.result) callee.owner before after) f ≡ Ok g → After i (on_receiver vs (λ receiver rest. Goes next ls rest h))
    constructor_built_in id callee there own con empty before after r =
        let x = construct callee before after r in
        let none = facts.constructors id callee there own con in
        let count : length (arguments callee) ≡ 0 = ap (λ (tys : List Ty). length (reverse (map (λ ty. Is (vtype ty)) tys))) empty in
        on_this callee (result_types callee.result) after _ x.fit vs (subst (λ (n : ℕ). have_types p m of (drop n f.stack) vs ≡ true) (sym count) b.stack) (λ receiver rest. Goes next ls rest h) (λ v rest d s.
        subst (λ (z : Types). GoesOn p m of live (edges i next) z Nothing next ls rest h) x.fit.after_is
        (subst (λ (o : Option Ty). GoesOn p m of live (edges i next) (made_types x.fit.old x.fit.new x.fit.u (result_types callee.result) x.fit.s) (result_awaited o) next ls rest h) none.0
        (constructed_goes x.fit.old x.fit.new x.fit.u x.fit.s rest callee.result x.fit.becomes s)))

    -- the receiver of a built-in constructor that takes something is initialized for it
    this_is_object : (callee : Method) (v : Value) → has_type p callee of UninitThis v ≡ true → has_type p callee of (class_vtype callee.owner) v ≡ true
    this_is_object callee (value.Int x) e = absurd (cc)
    this_is_object callee (value.Long x) e = absurd (cc)
    this_is_object callee value.Null e = absurd (cc)
    this_is_object callee (value.Ref n) e = e
    this_is_object callee (value.Text units) e = e
    this_is_object callee (value.Box box) e = e
    this_is_object callee value.Fiber e = e

    pub constructor_asks : (id : MethodId) (callee : Method) → method_at p id ≡ Some callee → callee.built_in ≡ true → callee.is_static ≡ false → (before after : List Further) →
        by_row p m at (Constructs (arguments callee) (result_types callee.result) callee.owner before after) f ≡ Ok g →
        After i (on_values (length callee.params) vs (λ args below. on_receiver below (λ receiver rest. Asks id (receiver ∷ reverse args) next ls rest h)))
    constructor_asks id callee there own inst before after r =
        let x = construct callee before after r in
        let t = taken p facts.order m of h (arguments callee) f.stack vs (subst (λ (os : List Operand). PlainOperands p facts.order m of os) (sym (arguments_are callee)) (plain_all (reverse (map vtype callee.params)))) x.meet b.stack b.there in
        args_took p facts.order m of h heap (After i) (λ c. tt) callee [] (drop (length (arguments callee)) f.stack) vs (subst (λ (os : List Operand). Taken p facts.order m of h os (drop (length (arguments callee)) f.stack) vs) (sym (append_none (arguments callee))) t)
        (λ args below. on_receiver below (λ receiver rest. Asks id (receiver ∷ reverse args) next ls rest h))
        (λ xs below e q. on_this callee (result_types callee.result) after _ x.fit below q (λ receiver rest. Asks id (receiver ∷ reverse xs) next ls rest h) (λ v rest d s.
        record {
          callee = callee;
          there = there;
          built_in = own;
          arguments = subst (λ (z : Bool). have_types p callee of ((cond z [] (class_vtype callee.owner ∷ [])) ++ map vtype callee.params) (v ∷ reverse xs) ≡ true) (sym inst)
              (and_from (has_type p callee of (class_vtype callee.owner) v) (have_types p callee of (map vtype callee.params) (reverse xs)) (this_is_object callee v d) (same_arguments p m callee of callee.params (reverse xs) e));
          goes = subst (λ (z : Types). GoesOn p m of live (edges i next) z (result_awaited callee.result) next ls rest h) x.fit.after_is (constructed_goes x.fit.old x.fit.new x.fit.u x.fit.s rest callee.result x.fit.becomes s);
          behind = refl;
          same = refl;
        }))

    -- ---- the constructor of an exception that is given the message

    old_is_set : (t : VType) → is_same t t ≡ true → is_top t ≡ false
    old_is_set UninitThis e = refl
    old_is_set (Uninit q) e = refl
    old_is_set Top e = absurd (cc)
    old_is_set Int e = refl
    old_is_set Long e = refl
    old_is_set Null e = refl
    old_is_set (Object ty) e = refl

    held_of : (t : VType) (v : Value) → has_type p m of t v ≡ true → Held p facts.order m of (Is t) v
    held_of Top v e = tt
    held_of UninitThis v e = e
    held_of (Uninit q) v e = e
    held_of Int v e = e
    held_of Long v e = e
    held_of Null v e = e
    held_of (Object ty) v e = e

    -- one operand more
    one_more : (os : List Operand) (t : VType) (ts : List VType) (ws : List Value) → Taken p facts.order m of h os (t ∷ ts) ws → AreThere h ws → Taken p facts.order m of h (os ++ (Is t ∷ [])) ts ws
    one_more [] t ts [] k there = absurd (cc)
    one_more [] t ts (v ∷ ws) k there = let es = and_parts (has_type p m of t v) (have_types p m of ts ws) k in (held_of t v es.0, (there.0, es.1))
    one_more (o ∷ os) t ts [] k there = absurd k
    one_more (o ∷ os) t ts (v ∷ ws) k there = (k.0, (k.1.0, one_more os t ts ws k.1.1 there.1))

    on_object_now : (callee : Method) (gives : List VType) (after : List Further) (ts : List VType) (x : Fitting callee gives after ts) (below : List Value) → Taken p facts.order m of h (Is x.old ∷ []) x.s below → (go : Value → List Value → Effect) →
        ((v : Value) (rest : List Value) → has_type p callee of UninitThis v ≡ true → IsThere h v → have_types p m of x.s rest ≡ true → After i (go v rest)) → After i (on_receiver below go)
    on_object_now callee gives after ts x [] k go each = absurd k
    on_object_now callee gives after ts x (v ∷ rest) k go each =
        let e = held_has p facts.order m of h heap (λ _. Unit {0}) (λ c. tt) x.old v (old_is_set x.old x.same) k.0 in
        let t = this_of p m of callee x.old v x.same x.class e in
        receiver_is p facts.order m of h heap (After i) (λ c. tt) v t.1 (λ r. go r rest) (λ nn. each v rest t.0 k.1.0 k.1.1)

    -- a value of the type of the message may be kept there
    is_kept : (callee : Method) (x : OfMessage p callee) (v : Value) → has_type p m of (vtype x.field.ty) v ≡ true → is_value_of p of x.field.ty v ≡ true
    is_kept callee x v = subst (λ (ty : Ty). has_type p m of (vtype ty) v ≡ true → is_value_of p of ty v ≡ true) (sym x.typed) (λ e. value_of_typed p facts.order m of h heap live at next f g ls vs i b w on (class_type x.text.0) v refl e)

    pub constructor_keeps : (id : MethodId) (callee : Method) → method_at p id ≡ Some callee → callee.built_in ≡ true → is_constructor callee ≡ true → (x : OfMessage p callee) → callee.params ≡ x.field.ty ∷ [] → (before after : List Further) →
        by_row p m at (Constructs (arguments callee) (result_types callee.result) callee.owner before after) f ≡ Ok g →
        After i (on_values (length callee.params) vs (λ args below. on_receiver below (λ receiver rest. keeps_message (receiver ∷ reverse args) next ls rest h)))
    constructor_keeps id callee there own con message one before after r =
        let x = construct callee before after r in
        let t = taken p facts.order m of h (arguments callee) f.stack vs (subst (λ (os : List Operand). PlainOperands p facts.order m of os) (sym (arguments_are callee)) (plain_all (reverse (map vtype callee.params)))) x.meet b.stack b.there in
        args_took p facts.order m of h heap (After i) (λ c. tt) callee (Is x.fit.old ∷ []) x.fit.s vs
        (one_more (arguments callee) x.fit.old x.fit.s vs (subst (λ (us : List VType). Taken p facts.order m of h (arguments callee) us vs) x.fit.is t) b.there)
        (λ args below. on_receiver below (λ receiver rest. keeps_message (receiver ∷ reverse args) next ls rest h))
        (λ xs below e q. on_object_now callee (result_types callee.result) after _ x.fit below q (λ receiver rest. keeps_message (receiver ∷ reverse xs) next ls rest h) (λ v rest d vt s.
        keeps x v rest d vt (goes x rest s) (reverse xs) (subst (λ (tys : List Ty). have_types p m of (map vtype tys) (reverse xs) ≡ true) one e)))
      where
        none : callee.result ≡ None
        none = (facts.constructors id callee there own con).0

        goes : (x : Constructed callee before after) (rest : List Value) → have_types p m of x.fit.s rest ≡ true → GoesOn p m of live (edges i next) g Nothing next ls rest h
        goes x rest s = subst (λ (z : Types). GoesOn p m of live (edges i next) z Nothing next ls rest h) x.fit.after_is
            (subst (λ (o : Option Ty). GoesOn p m of live (edges i next) (made_types x.fit.old x.fit.new x.fit.u (result_types callee.result) x.fit.s) (result_awaited o) next ls rest h) none
            (constructed_goes x.fit.old x.fit.new x.fit.u x.fit.s rest callee.result x.fit.becomes s))

        written_goes : (rest : List Value) → GoesOn p m of live (edges i next) g Nothing next ls rest h → (n : ℕ) (o q : HeapObject) → get h n ≡ Some o → q.class ≡ o.class → ObjectFits p of q → After i (Goes next ls rest (insert h n q))
        written_goes rest k n o q at_n same fit = record { among = k.among; locals = k.locals; stack = k.stack; heap = written p of h heap n o q at_n same fit }

        keeps : (x : Constructed callee before after) (v : Value) (rest : List Value) → has_type p callee of UninitThis v ≡ true → IsThere h v → GoesOn p m of live (edges i next) g Nothing next ls rest h →
            (args : List Value) → have_types p m of (vtype message.field.ty ∷ []) args ≡ true → After i (keeps_message (v ∷ args) next ls rest h)
        keeps x v rest d vt k [] e = absurd (cc)
        keeps x v rest d vt k (a ∷ u ∷ us) e = absurd (let z = (and_parts (has_type p m of (vtype message.field.ty) a) false e).1 in cc)
        keeps x v rest d vt k (a ∷ []) e =
            let kept = is_kept callee message a (and_parts (has_type p m of (vtype message.field.ty) a) true e).0 in
            holder_is p facts callee of h heap (After i) (λ c. tt) message_field message.field message.there message.instance v
            (object_assigned p facts.order callee of (class_type callee.owner.0) (class_type message.field.owner.0) v message.above (this_is_object callee v d)) vt
            (λ n o. with_some (field_in o.fields message_field) (λ old. Goes next ls rest (insert h n (record o { fields = with_field o.fields message_field a })))) (λ n o at_n has.
            let y = content_there p of message_field message.field message.there o.class.dims o.class.base o (heap.objects n o at_n) has in
            subst (λ (z : Option Value). After i (with_some z (λ old. Goes next ls rest (insert h n (record o { fields = with_field o.fields message_field a }))))) (sym y.1)
            (written_goes rest k n o (record o { fields = with_field o.fields message_field a }) at_n refl
            (content_kept p of message_field message.field message.there a kept o.class.dims o.class.base o (heap.objects n o at_n) has)))

    -- ---- new objects

    -- none of so many tests holds
    four : (a b c d e : Bool) → not (a || (b || (c || (d || e)))) ≡ true → (a ≡ false) × (c ≡ false)
    four false false false false false e = (refl, refl)
    four true b c d e x = absurd (cc)
    four false true c d e x = absurd (cc)
    four false false true d e x = absurd (cc)
    four false false false true e x = absurd (cc)
    four false false false false true x = absurd (cc)

    made_objects : (c : ClassId) (o : Option Class) → class_at p c ≡ o → may_make p c o ≡ true → is_mailbox p c ≡ false → has_objects p c ≡ true
    made_objects c None e y n = absurd (cc)
    made_objects c (Some class) e y n =
        let fs = four class.is_abstract (is_named p (codes "kilim/Message") c) (is_named p (codes "java/lang/String") c) (is_named p (codes "kilim/Sys") c) (is_named p (codes "kilim/Fiber") c) y in
        and_from (is_concrete (class_at p c)) (not (is_value_class (class_name p c))) (subst (λ (o : Option Class). is_concrete o ≡ true) (sym e) (ap not fs.0))
        (no_value (bytes_eq (class_name p c) (codes "java/lang/String")) (bytes_eq (class_name p c) (codes "kilim/Mailbox")) fs.1 n)
      where
        no_value : (a z : Bool) → a ≡ false → z ≡ false → not (a || z) ≡ true
        no_value false false x y = refl
        no_value true z x y = absurd (cc)
        no_value false true x y = absurd (cc)

    pub new_row : (c : ClassId) → made_at m.code at ≡ Some c → by_row p m at (MakesRow (may_make p c (class_at p c))) f ≡ Ok g → After i (cond (is_mailbox p c) (Opens next ls vs h) (Makes (new_object p c) next ls vs h))
    new_row c made r =
        let go : Types = record { locals = replaced (Uninit at) Top f.locals; stack = Uninit at ∷ f.stack; unset = f.unset } in
        let a = passed 4 (has_room m (Uninit at ∷ f.stack)) (rule 10 (not (list_any (is_same (Uninit at)) f.stack)) (rule 13 (may_make p c (class_at p c)) (Ok go))) g r in
        let d = passed 10 (not (list_any (is_same (Uninit at)) f.stack)) (rule 13 (may_make p c (class_at p c)) (Ok go)) g a.1 in
        let e = passed 13 (may_make p c (class_at p c)) (Ok go) g d.1 in
        subst (λ (z : Types). EffectFits p m of live next ls h (edges i next) z (cond (is_mailbox p c) (Opens next ls vs h) (Makes (new_object p c) next ls vs h))) (ok_is go g e.1) (by (is_mailbox p c) refl e.0)
      where
        made_of : (k : Option Ty) → is_of p k (class_type c.0) ≡ true → refers p m (Uninit at) k ≡ true
        made_of k e = subst (λ (o : Option ClassId). is_made p k o ≡ true) (sym made) e

        goes : (k : Option Ty) → is_of p k (class_type c.0) ≡ true → GoesOn p m of live (edges i next) (record { locals = replaced (Uninit at) Top f.locals; stack = Uninit at ∷ f.stack; unset = f.unset }) (AReference k) next ls vs h
        goes k e = record { among = on; locals = locals_topped p m of (live next) (Uninit at) f.locals ls here; stack = (made_of k e, b.stack); heap = heap }

        by : (z : Bool) → is_mailbox p c ≡ z → may_make p c (class_at p c) ≡ true → EffectFits p m of live next ls h (edges i next) (record { locals = replaced (Uninit at) Top f.locals; stack = Uninit at ∷ f.stack; unset = f.unset }) (cond z (Opens next ls vs h) (Makes (new_object p c) next ls vs h))
        by true z may = goes (named_type p (codes "kilim/Mailbox")) (subst (λ (o : Option Ty). is_of p o (class_type c.0) ≡ true) (sym (facts.mailbox c z)) (facts.order.itself (class_type c.0)))
        by false z may = (made_fits p of c (made_objects c (class_at p c) refl may z), goes (Some (class_type c.0)) (facts.order.itself (class_type c.0)))
