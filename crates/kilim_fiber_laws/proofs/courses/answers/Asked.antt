-- Which built-in methods an instruction of typed code asks: with what receiver, and with arguments that are there.
use Rattle.std.proofs.Common.{◌≡◌, ℕ, zero, suc, Bool, true, false, cond, eqb, ℤ, pos, negsuc, List, [], ◌∷◌, ◌++◌, length, Option, Some, None, Ok, refl, sym, ap, subst, ◌∙◌}
use Rattle.std.specs.Prelude.{◌&&◌, ◌||◌, not, reverse, slice_get, codes}
use Rattle.std.specs.FinMap.{get}
use Rattle.std.specs.Str.{bytes_eq}
use Rattle.std.proofs.lemmas.Bool.{and_parts, false≢true, not-true, or_parts}
use Rattle.std.proofs.lemmas.List.{reverse-append}
use Rattle.kilim_program.specs.declared.class.Form.TheVariants.{Plain}
use Rattle.kilim_program.specs.declared.class.Method.{Method}
use Rattle.kilim_program.specs.declared.instr.Instr.{Instr}
use Rattle.kilim_program.specs.declared.instr.Instr.TheVariants as instr
use Rattle.kilim_program.specs.declared.names.ClassId.{ClassId}
use Rattle.kilim_program.specs.declared.names.MethodId.{MethodId}
use Rattle.kilim_program.specs.declared.ty.Base.{Base}
use Rattle.kilim_program.specs.declared.ty.Base.TheVariants as base
use Rattle.kilim_program.specs.declared.ty.Ty.{Ty}
use Rattle.kilim_program.specs.declared.value.Value.{Value}
use Rattle.kilim_program.specs.declared.value.Value.TheVariants.{Box, Fiber, Int, Long, Null, Ref, Text}
use Rattle.kilim_program.specs.BuiltIn.{class_id, class_type}
use Rattle.kilim_program.specs.Fits.{fits_type}
use Rattle.kilim_program.specs.Keeps.{Keeps}
use Rattle.kilim_program.specs.Names.{class_at, class_name, is_empty, method_at}
use Rattle.kilim_program.specs.Program.{Program}
use Rattle.kilim_program.specs.Same.{is_constructor}
use Rattle.kilim_isolation_laws.proofs.typed_threads.fine.Shown.{no_fiber_class}
use Rattle.kilim_type_sound.specs.Facts.{Facts, Selected}
use Rattle.kilim_type_laws.specs.members.Chosen.{has_instances}
use Rattle.kilim_type_sound.specs.Fits.{AreThere, Classes, ContentFits, HeapFits, IsThere}
use Rattle.kilim_type_sound.proofs.Basics.{takes_inverse}
use Rattle.kilim_type_sound.proofs.Grounds.{facts_hold}
use Rattle.kilim_type_sound.proofs.TextClass.{alone}
use Rattle.kilim_run_state.specs.declared.value.Object.{Object as HeapObject}
use Rattle.kilim_run_machine.specs.Does.{above_of, at_unit, calls_method, calls_on, calls_text, chosen, does, gives_message, keeps_message, special, superclass_of, takes_element, text_answers, unit_at}
use Rattle.kilim_run_machine.specs.Effect.{Asks, Calls, Effect, Ends, Goes, Makes, Opens, Raises, Throws, Returns, Stuck, as_class, as_int, as_receiver, on_value, on_values, text_of, when, with_some}
use Rattle.kilim_program.specs.Members.{named_type}
use Rattle.kilim_run_state.specs.Machine.{Objects}
use Rattle.kilim_run_machine.specs.Natives.{is_built_in_constructor, is_get_message, is_handed_out, is_message_constructor, is_of_message, is_take, is_text_method}
use Rattle.kilim_type_spec.specs.Step.{Is, Types, arguments, class_vtype, may_name, needs, result_types, row, special_by, special_fits, special_row, special_rules, static_row, static_rules, type_step, virtual_row, virtual_rules, by_row}
use Rattle.kilim_type_spec.specs.Typed.{has_code}
use Rattle.kilim_fiber_spec.specs.Rows.{Receives, below_arguments, class_if}
use Rattle.kilim_fiber_spec.proofs.alike.Effects.{is_simple}
use Rattle.kilim_fiber_spec.proofs.alike.Lands.{hushed, hushed_simple, q_constant, q_if, q_index, q_int, q_long, q_object, q_reference, q_some, q_throws, q_value}
use Rattle.kilim_fiber_laws.proofs.courses.answers.Texts.{NotNull, bare, constructs_other, own_text_is, text_alone}

-- ---- instructions that call nothing

abbrev pub is_call : Instr → Bool
is_call (instr.Invokevirtual m) = true
is_call (instr.Invokespecial m) = true
is_call (instr.Invokestatic m) = true
is_call i = false

-- an instruction is a call of one of three kinds, or none
pub data Seen (i : Instr) : Type 0 where
  Virtual : (id : MethodId) → i ≡ instr.Invokevirtual id → Seen i
  Special : (id : MethodId) → i ≡ instr.Invokespecial id → Seen i
  Static : (id : MethodId) → i ≡ instr.Invokestatic id → Seen i
  Other : is_call i ≡ false → Seen i

pub seen : (i : Instr) → Seen i
seen (instr.Invokevirtual id) = Virtual id refl
seen (instr.Invokespecial id) = Special id refl
seen (instr.Invokestatic id) = Static id refl
seen i = Other refl

stuck_asks : (c : MethodId) (args : List Value) (q : ℕ) (l s : List Value) (heap : Objects) → Stuck ≡ Asks c args q l s heap → ⊥
stuck_asks c args q l s heap k = cc

q_class : (p : Program) (v : Value) (heap : Objects) (go : Option Ty → Effect) → hushed (as_class p v heap go) ≡ as_class p v heap (λ o. hushed (go o))
q_class p (Int x) heap go = refl
q_class p (Long x) heap go = refl
q_class p (Ref n) heap go = q_some (get heap n) (λ object. go (Some object.class))
q_class p v heap go = refl

module _ (p : Program) (own : Method) (to : ℕ) (l s : List Value) (heap : Objects) where
  others : (i : Instr) → is_simple i ≡ false → is_call i ≡ false → hushed (does p own i to l s heap) ≡ does p own i to l s heap
  unfolding does
  others (instr.Iload n) h k = simp (q_some, q_int)
  others (instr.Lload n) h k = simp (q_some, q_long)
  others (instr.Aload n) h k = simp (q_some, q_reference)
  others (instr.Istore n) h k = simp (q_value, q_int, q_some)
  others (instr.Lstore n) h k = simp (q_value, q_long, q_some)
  others (instr.Astore n) h k = simp (q_value, q_reference, q_some)
  others (instr.Iinc n x) h k = simp (q_some, q_int)
  others (instr.Putfield f) h k = simp (q_value, q_object, q_some)
  others (instr.Getstatic f) h k = simp (q_some, q_constant)
  others instr.Ireturn h k = simp (q_value, q_int)
  others (instr.New c) h k = simp (q_if)
  others (instr.Checkcast ty) h k = simp (q_value, q_class, q_if)
  others (instr.Instanceof ty) h k = simp (q_value, q_class)
  others instr.Athrow h k = simp (q_value, q_object, q_throws)
  others instr.Aastore h k = simp (q_value, q_int, q_object, q_index, q_class, q_if)
  others (instr.Invokevirtual m) h k = absurd (false≢true (sym k))
  others (instr.Invokespecial m) h k = absurd (false≢true (sym k))
  others (instr.Invokestatic m) h k = absurd (false≢true (sym k))
  others i h k = absurd (false≢true (sym h))

  pub quiet : (i : Instr) → is_call i ≡ false → hushed (does p own i to l s heap) ≡ does p own i to l s heap
  quiet i k = by (is_simple i) refl
    where
      by : (z : Bool) → is_simple i ≡ z → hushed (does p own i to l s heap) ≡ does p own i to l s heap
      by true h = hushed_simple p own l to s heap i h
      by false h = others i h k

-- ---- what is asked

abbrev pub HasFirst : List Value → Type 0
HasFirst [] = ⊥
HasFirst (v ∷ vs) = NotNull v

-- No constructor, no method of strings, not `kilim/Sys.take`, and not of the message of an exception; a receiver that isn't null; arguments that
-- are there.
pub record AsksWell (p : Program) (h : Objects) (m : Method) (args : List Value) : Type 0 where
  pub plain : is_built_in_constructor m ≡ false
  pub other : is_text_method p m ≡ false
  pub no_message : is_of_message m ≡ false
  pub taken : m.is_static ≡ true → is_take p m ≡ false
  pub first : m.is_static ≡ false → HasFirst args
  pub there : AreThere h args

there_append : (h : Objects) (xs ys : List Value) → AreThere h xs → AreThere h ys → AreThere h (xs ++ ys)
there_append h [] ys a b = b
there_append h (x ∷ xs) ys a b = (a.0, there_append h xs ys a.1 b)

there_reverse : (h : Objects) (xs : List Value) → AreThere h xs → AreThere h (reverse xs)
there_reverse h [] a = a
there_reverse h (x ∷ xs) a = subst (λ (ys : List Value). AreThere h ys) (sym (reverse-append (x ∷ []) xs)) (there_append h (reverse xs) (x ∷ []) (there_reverse h xs a.1) (a.0, tt))

instances_of : (p : Program) (of : Classes) (d : ℕ) (b : Base) (o : HeapObject) → ContentFits p of d b o → has_instances p d b ≡ true
instances_of p of zero (base.Class c) o e = (and_parts _ _ e.0).0
instances_of p of (suc d) b o e = refl
instances_of p of zero base.Bool o e = absurd e
instances_of p of zero base.Byte o e = absurd e
instances_of p of zero base.Char o e = absurd e
instances_of p of zero base.Short o e = absurd e
instances_of p of zero base.Int o e = absurd e
instances_of p of zero base.Long o e = absurd e

base_number : Base → ℕ
base_number (base.Class c) = c.0
base_number b = 0

is_other : (z : Bool) → (z ≡ true → ⊥) → z ≡ false
is_other true h = absurd (h refl)
is_other false h = refl

type_number : (a b : ClassId) → class_type a.0 ≡ class_type b.0 → a.0 ≡ b.0
unfolding base_number
type_number a b e = ap (λ (ty : Ty). base_number ty.base) e

module _ (p : Program) (h : Objects) where
  abbrev pub Asked : Effect → Type 0
  Asked (Asks c args q l s heap) = (m : Method) × (method_at p c ≡ Some m) × AsksWell p h m args
  Asked e = Unit {0}

  asked_quiet : (e : Effect) → hushed e ≡ e → Asked e
  asked_quiet (Asks c args q l s heap) k = absurd (stuck_asks c args q l s heap k)
  asked_quiet (Goes q l s heap) k = tt
  asked_quiet (Makes o q l s heap) k = tt
  asked_quiet (Opens q l s heap) k = tt
  asked_quiet (Calls c args q l s heap) k = tt
  asked_quiet (Returns v heap) k = tt
  asked_quiet (Raises c) k = tt
  asked_quiet (Throws object class c) k = tt
  asked_quiet (Ends c) k = tt
  asked_quiet Stuck k = tt

  k_values : (n : ℕ) (s : List Value) (go : List Value → List Value → Effect) → AreThere h s → ((vs r : List Value) → AreThere h vs → AreThere h r → r ≡ below_arguments n s → Asked (go vs r)) → Asked (on_values n s go)
  k_values zero s go t k = k [] s tt t refl
  k_values (suc n) [] go t k = tt
  k_values (suc n) (v ∷ s) go t k = k_values n s (λ vs r. go (v ∷ vs) r) t.1 (λ vs r tv tr e. k (v ∷ vs) r (t.0, tv) tr e)

  k_value : (s : List Value) (go : Value → List Value → Effect) → ((v : Value) (r : List Value) → s ≡ v ∷ r → Asked (go v r)) → Asked (on_value s go)
  k_value [] go k = tt
  k_value (v ∷ r) go k = k v r refl

  k_receiver : (v : Value) (go : Value → Effect) → (NotNull v → Asked (go v)) → Asked (as_receiver v go)
  k_receiver (Int x) go k = tt
  k_receiver (Long x) go k = tt
  k_receiver Null go k = tt
  k_receiver (Ref n) go k = k (λ e. absurd (cc))
  k_receiver (Text units) go k = k (λ e. absurd (cc))
  k_receiver (Box box) go k = k (λ e. absurd (cc))
  k_receiver Fiber go k = k (λ e. absurd (cc))

  k_when : (b : Bool) (e : Effect) → Asked e → Asked (when b e)
  k_when true e k = k
  k_when false e k = tt

  k_if : (b : Bool) (d e : Effect) → Asked d → Asked e → Asked (cond b d e)
  k_if true d e j k = j
  k_if false d e j k = k

  k_unit : (o : Option ℕ) (go : Value → Effect) → ((v : Value) → Asked (go v)) → Asked (at_unit o go)
  k_unit None go k = tt
  k_unit (Some unit) go k = k _

  k_units : (units : List ℕ) (i : ℤ) (go : Value → Effect) → ((v : Value) → Asked (go v)) → Asked (unit_at units i go)
  k_units units (negsuc i) go k = tt
  k_units units (pos i) go k = k_unit (slice_get units i) go k

  k_int : (v : Value) (go : ℤ → Effect) → ((x : ℤ) → Asked (go x)) → Asked (as_int v go)
  k_int (Int x) go k = k x
  k_int (Long x) go k = tt
  k_int Null go k = tt
  k_int (Ref n) go k = tt
  k_int (Text units) go k = tt
  k_int (Box box) go k = tt
  k_int Fiber go k = tt

  k_text : (name units : List ℕ) (args : List Value) (go : Value → Effect) → ((v : Value) → Asked (go v)) → Asked (text_answers name units args go)
  k_text name units [] go k = k_when (bytes_eq name (codes "length")) (go _) (k _)
  k_text name units (v ∷ []) go k =
      k_if (bytes_eq name (codes "equals")) (go _) (when (bytes_eq name (codes "charAt")) (as_int v (λ i. unit_at units i go))) (k _)
      (k_when (bytes_eq name (codes "charAt")) (as_int v (λ i. unit_at units i go)) (k_int v (λ i. unit_at units i go) (λ i. k_units units i go k)))
  k_text name units (v ∷ w ∷ vs) go k = tt

  k_units_of : (o : Option (List ℕ)) (go : List ℕ → Effect) → ((units : List ℕ) → Asked (go units)) → Asked (with_some o go)
  k_units_of None go k = tt
  k_units_of (Some units) go k = k units

  k_calls_text : (named : Method) (args : List Value) (to : ℕ) (l rest : List Value) (v : Value) → Asked (calls_text named args to l rest h v)
  k_calls_text named args to l rest v = k_receiver v _ (λ nn. k_units_of (text_of v) _ (λ units. k_text named.name units args _ (λ x. tt)))

  k_take : (to : ℕ) (l s : List Value) → Asked (takes_element to l s h)
  k_take to l s = asked_quiet (takes_element to l s h) (simp (q_value, q_int, q_object, q_index))

  k_keeps : (args : List Value) (to : ℕ) (l rest : List Value) → Asked (keeps_message args to l rest h)
  k_keeps [] to l rest = tt
  k_keeps (v ∷ []) to l rest = tt
  k_keeps (v ∷ w ∷ []) to l rest = asked_quiet (keeps_message (v ∷ w ∷ []) to l rest h) (simp (q_object, q_some))
  k_keeps (v ∷ w ∷ x ∷ vs) to l rest = tt

  k_gives : (args : List Value) (to : ℕ) (l rest : List Value) → Asked (gives_message args to l rest h)
  k_gives [] to l rest = tt
  k_gives (v ∷ []) to l rest = asked_quiet (gives_message (v ∷ []) to l rest h) (simp (q_object, q_some))
  k_gives (v ∷ w ∷ vs) to l rest = tt

module _ (p : Program) (keeps : Keeps p) (form : p.form ≡ Plain) (of : Classes) (h : Objects) (heap : HeapFits p of h) (own : Method) (to : ℕ) (l s : List Value) (here : AreThere h s) where
  facts : Facts p
  facts = facts_hold p keeps

  text_of_owner : (m : Method) → is_text_method p m ≡ true → bytes_eq (class_name p m.owner) (codes "java/lang/String") ≡ true
  text_of_owner m e = (and_parts m.built_in _ e).1

  not_plain : (m : Method) → is_constructor m ≡ false → is_built_in_constructor m ≡ false
  not_plain m e = ap (λ (z : Bool). m.built_in && (z && is_empty m.params)) e ∙ none m.built_in
    where
      none : (z : Bool) → (z && false) ≡ false
      none true = refl
      none false = refl

  -- a method that is found for a named one
  k_method : (id : MethodId) (m : Method) (args rest : List Value) → method_at p id ≡ Some m → (m.built_in ≡ true → is_of_message m ≡ false → AsksWell p h m args) → Asked p h (calls_method (method_at p id) id args to l rest h)
  k_method id m args rest there well = subst (λ (o : Option Method). Asked p h (calls_method o id args to l rest h)) (sym there) (by m.built_in (is_message_constructor m) (is_get_message m) refl refl refl)
    where
      by : (z keeps gives : Bool) → m.built_in ≡ z → is_message_constructor m ≡ keeps → is_get_message m ≡ gives → Asked p h (cond z (cond keeps (keeps_message args to l rest h) (cond gives (gives_message args to l rest h) (Asks id args to l rest h))) (Calls id args to l rest h))
      by true true gives e k g = k_keeps p h args to l rest
      by true false true e k g = k_gives p h args to l rest
      by true false false e k g = (m, there, well e (ap (λ (z : Bool). z || is_get_message m) k ∙ g))
      by false keeps gives e k g = tt

  -- ---- on an object

  module _ (id : MethodId) (named : Method) (there : method_at p id ≡ Some named) (instance : named.is_static ≡ false) (plain : is_constructor named ≡ false) where
    chosen_asks : is_text_method p named ≡ false → (v : Value) (vs rest : List Value) → NotNull v → AreThere h (v ∷ reverse vs) → (ty : Ty) → has_instances p ty.dims ty.base ≡ true → fits_type p ty (class_type named.owner.0) ≡ true →
        Asked p h (calls_on p named id (reverse vs) to l rest h v (Some ty))
    chosen_asks other v vs rest nn args ty has fits =
        let sel = facts.selects id named there instance plain ty has fits in
        k_method (chosen p named id ty) sel.0.method (v ∷ reverse vs) rest sel.0.there (λ own message. record {
          plain = not_plain sel.0.method sel.0.plain;
          no_message = message;
          other = is_other (is_text_method p sel.0.method) (λ e. text_alone p keeps form id named there other plain sel.0.method.owner (text_of_owner sel.0.method e) (subst (λ (c : Ty). fits_type p c (class_type named.owner.0) ≡ true) (alone p keeps sel.0.method.owner (text_of_owner sel.0.method e) ty sel.1) fits));
          taken = λ t. absurd (false≢true (sym sel.0.instance ∙ t));
          first = λ f. nn;
          there = args;
        })

    on_class : is_text_method p named ≡ false → Receives p (instr.Invokevirtual id) s h → (v : Value) (vs rest : List Value) → below_arguments (length named.params) s ≡ v ∷ rest → IsThere h v → AreThere h vs → Asked p h (as_class p v h (calls_on p named id (reverse vs) to l rest h v))
    on_class other receives (Int x) vs rest b t tv = tt
    on_class other receives (Long x) vs rest b t tv = tt
    on_class other receives Null vs rest b t tv = tt
    on_class other receives (Ref k) vs rest b t tv =
        subst (λ (o : Option HeapObject). Asked p h (with_some o (λ object. calls_on p named id (reverse vs) to l rest h (Ref k) (Some object.class)))) (sym t.1)
        (chosen_asks other (Ref k) vs rest (λ e. absurd (cc)) (t, there_reverse h vs tv) t.0.class (instances_of p of t.0.class.dims t.0.class.base t.0 (heap.objects k t.0 t.1)) (receives named there (Ref k) rest b t.0.class (ap class_if t.1)))
    on_class other receives (Text units) vs rest b t tv = by (named_type p (codes "java/lang/String")) refl
      where
        by : (o : Option Ty) → named_type p (codes "java/lang/String") ≡ o → Asked p h (calls_on p named id (reverse vs) to l rest h (Text units) o)
        by None e = tt
        by (Some ty) e = chosen_asks other (Text units) vs rest (λ e. absurd (cc)) (tt, there_reverse h vs tv) ty (facts.values (codes "java/lang/String") ty e refl) (receives named there (Text units) rest b ty e)
    on_class other receives (Box box) vs rest b t tv = by (named_type p (codes "kilim/Mailbox")) refl
      where
        by : (o : Option Ty) → named_type p (codes "kilim/Mailbox") ≡ o → Asked p h (calls_on p named id (reverse vs) to l rest h (Box box) o)
        by None e = tt
        by (Some ty) e = chosen_asks other (Box box) vs rest (λ e. absurd (cc)) (tt, there_reverse h vs tv) ty (facts.values (codes "kilim/Mailbox") ty e refl) (receives named there (Box box) rest b ty e)
    on_class other receives Fiber vs rest b t tv = subst (λ (o : Option Ty). Asked p h (calls_on p named id (reverse vs) to l rest h Fiber o)) (sym (no_fiber_class p keeps form)) tt

    virtual_asks : Receives p (instr.Invokevirtual id) s h → Asked p h (does p own (instr.Invokevirtual id) to l s h)
    unfolding does
    virtual_asks receives =
        subst (λ (o : Option Method). Asked p h (with_some o (λ method. on_values (length method.params) s (λ args below. on_value below (λ receiver rest. cond (is_text_method p method) (calls_text method (reverse args) to l rest h receiver) (as_class p receiver h (calls_on p method id (reverse args) to l rest h receiver))))))) (sym there)
        (by (is_text_method p named) refl)
      where
        by : (z : Bool) → is_text_method p named ≡ z → Asked p h (on_values (length named.params) s (λ args below. on_value below (λ receiver rest. cond z (calls_text named (reverse args) to l rest h receiver) (as_class p receiver h (calls_on p named id (reverse args) to l rest h receiver)))))
        by true e = k_values p h (length named.params) s _ here (λ vs r tv tr b. k_value p h r _ (λ v rest is. k_calls_text p h named (reverse vs) to l rest v))
        by false e = k_values p h (length named.params) s _ here (λ vs r tv tr b. k_value p h r _ (λ v rest is. on_class e receives v vs rest (sym b ∙ is) (subst (λ (x : List Value). AreThere h x) is tr).0 tv))

  -- ---- a constructor, and a method of a superclass or of the class itself

  module _ (mid : MethodId) (owned : method_at p mid ≡ Some own) (coded : has_code own ≡ true) (id : MethodId) (named : Method) (there : method_at p id ≡ Some named) where
    constructs : is_constructor named ≡ true → Asked p h (does p own (instr.Invokespecial id) to l s h)
    unfolding does
    constructs con =
        subst (λ (o : Option Method). Asked p h (with_some o (λ method. cond (is_built_in_constructor method) (on_value s (λ v rest. as_receiver v (λ receiver. Goes to l rest h)))
        (on_values (length method.params) s (λ args below. on_value below (λ v rest. as_receiver v (λ receiver. calls_method (method_at p (special p own method id)) (special p own method id) (receiver ∷ reverse args) to l rest h))))))) (sym there)
        (by (is_built_in_constructor named) refl)
      where
        itself : special p own named id ≡ id
        itself = ap (λ (z : Bool). cond (z || eqb named.owner.0 own.owner.0) id (above_of p named id (superclass_of (class_at p own.owner)))) con

        by : (z : Bool) → is_built_in_constructor named ≡ z → Asked p h (cond z (on_value s (λ v rest. as_receiver v (λ receiver. Goes to l rest h)))
            (on_values (length named.params) s (λ args below. on_value below (λ v rest. as_receiver v (λ receiver. calls_method (method_at p (special p own named id)) (special p own named id) (receiver ∷ reverse args) to l rest h)))))
        by true e = k_value p h s _ (λ v rest is. k_receiver p h v _ (λ nn. tt))
        by false e = subst (λ (q : MethodId). Asked p h (on_values (length named.params) s (λ args below. on_value below (λ v rest. as_receiver v (λ receiver. calls_method (method_at p q) q (receiver ∷ reverse args) to l rest h))))) (sym itself)
            (k_values p h (length named.params) s _ here (λ vs r tv tr b. k_value p h r _ (λ v rest is. k_receiver p h v _ (λ nn. k_method id named (v ∷ reverse vs) rest there (λ built message.
            let other = constructs_other p keeps form id named there built e message con in
            record {
              no_message = message;
              plain = e;
              other = other.0;
              taken = λ t. absurd (false≢true (sym other.1 ∙ t));
              first = λ f. nn;
              there = ((subst (λ (x : List Value). AreThere h x) is tr).0, there_reverse h vs tv);
            })))))

    specials : named.is_static ≡ false → is_constructor named ≡ false → may_name own named.is_private named.owner ≡ true → special_fits p own id named ≡ true → Asked p h (does p own (instr.Invokespecial id) to l s h)
    unfolding does
    specials instance plain may fits =
        subst (λ (o : Option Method). Asked p h (with_some o (λ method. cond (is_built_in_constructor method) (on_value s (λ v rest. as_receiver v (λ receiver. Goes to l rest h)))
        (on_values (length method.params) s (λ args below. on_value below (λ v rest. as_receiver v (λ receiver. calls_method (method_at p (special p own method id)) (special p own method id) (receiver ∷ reverse args) to l rest h))))))) (sym there)
        (subst (λ (z : Bool). Asked p h (cond z (on_value s (λ v rest. as_receiver v (λ receiver. Goes to l rest h)))
        (on_values (length named.params) s (λ args below. on_value below (λ v rest. as_receiver v (λ receiver. calls_method (method_at p (special p own named id)) (special p own named id) (receiver ∷ reverse args) to l rest h)))))) (sym (not_plain named plain))
        (k_values p h (length named.params) s _ here (λ vs r tv tr b. k_value p h r _ (λ v rest is. k_receiver p h v _ (λ nn. k_method (special p own named id) sel.0.method (v ∷ reverse vs) rest sel.0.there (λ built message. record {
          no_message = message;
          plain = not_plain sel.0.method sel.0.plain;
          other = is_other (is_text_method p sel.0.method) (λ e. of_text (text_of_owner sel.0.method e));
          taken = λ t. absurd (false≢true (sym sel.0.instance ∙ t));
          first = λ f. nn;
          there = ((subst (λ (x : List Value). AreThere h x) is tr).0, there_reverse h vs tv);
        }))))))
      where
        sel : (x : Selected p named (special p own named id)) × (fits_type p (class_type own.owner.0) (class_type x.method.owner.0) ≡ true)
        sel = facts.specials own id named there instance plain may fits

        -- the class of strings has no code
        of_text : bytes_eq (class_name p sel.0.method.owner) (codes "java/lang/String") ≡ true → ⊥
        of_text e =
            let same = type_number own.owner sel.0.method.owner (alone p keeps sel.0.method.owner e (class_type own.owner.0) sel.1) in
            let text = own_text_is p keeps form mid own owned (ap (λ (j : ℕ). bytes_eq (class_name p (class_id j)) (codes "java/lang/String")) same ∙ e) in
            false≢true (sym (bare p keeps form mid own owned (and_parts own.built_in _ text).0) ∙ coded)

  -- ---- a static method

  static_asks : (id : MethodId) (named : Method) → method_at p id ≡ Some named → named.is_static ≡ true → Asked p h (does p own (instr.Invokestatic id) to l s h)
  unfolding does
  static_asks id named there static =
      subst (λ (o : Option Method). Asked p h (with_some o (λ method. cond (is_handed_out p method) (on_values (length method.params) s (λ args rest. Asks id (reverse args) to l rest h)) (cond method.built_in (takes_element to l s h) (on_values (length method.params) s (λ args rest. Calls id (reverse args) to l rest h)))))) (sym there)
      (by (is_handed_out p named) refl)
    where
      own_or : (z : Bool) → Asked p h (cond z (takes_element to l s h) (on_values (length named.params) s (λ args rest. Calls id (reverse args) to l rest h)))
      own_or true = k_take p h to l s
      own_or false = k_values p h (length named.params) s _ here (λ vs r tv tr b. tt)

      by : (z : Bool) → is_handed_out p named ≡ z → Asked p h (cond z (on_values (length named.params) s (λ args rest. Asks id (reverse args) to l rest h)) (cond named.built_in (takes_element to l s h) (on_values (length named.params) s (λ args rest. Calls id (reverse args) to l rest h))))
      by false e = own_or named.built_in
      by true e =
          let none = or_parts (is_built_in_constructor named) (is_text_method p named || (is_take p named || is_of_message named)) (not-true _ (and_parts named.built_in (not (is_built_in_constructor named || (is_text_method p named || (is_take p named || is_of_message named)))) e).1) in
          let two = or_parts (is_text_method p named) (is_take p named || is_of_message named) none.1 in
          let three = or_parts (is_take p named) (is_of_message named) two.1 in
          k_values p h (length named.params) s _ here (λ vs r tv tr b. (
            named,
            there,
            record {
              plain = none.0;
              other = two.0;
              taken = λ t. three.0;
              no_message = three.1;
              first = λ f. absurd (false≢true (sym f ∙ static));
              there = there_reverse h vs tv;
            },
          ))

  -- ---- all instructions

  module _ (mid : MethodId) (owned : method_at p mid ≡ Some own) (coded : has_code own ≡ true) (at : ℕ) (f g : Types) where
    missing : (i : Instr) → by_row p own at (static_row own None) f ≡ Ok g → Asked p h (does p own i to l s h)
    missing i e = absurd (false≢true (takes_inverse p own at [] [] (needs 8 false ∷ []) f g e).also_hold.0)

    abbrev Row : Instr → Type 0
    Row i = type_step p own at i f ≡ Ok g → Receives p i s h → Asked p h (does p own i to l s h)

    virtual_rows : (id : MethodId) → Row (instr.Invokevirtual id)
    unfolding row
    virtual_rows id step receives = by (method_at p id) refl step
      where
        by : (o : Option Method) → method_at p id ≡ o → by_row p own at (virtual_row own o) f ≡ Ok g → Asked p h (does p own (instr.Invokevirtual id) to l s h)
        by None there e = missing (instr.Invokevirtual id) e
        by (Some named) there e =
            let a = (takes_inverse p own at (arguments named ++ (Is (class_vtype named.owner) ∷ [])) (result_types named.result) (virtual_rules own named) f g e).also_hold in
            let eight = (and_parts (not named.is_static && may_name own named.is_private named.owner) true a.0).0 in
            let instance = not-true named.is_static (and_parts (not named.is_static) (may_name own named.is_private named.owner) eight).0 in
            virtual_asks id named there instance (not-true (is_constructor named) (and_parts (not (is_constructor named)) true a.1.0).0) receives

    static_rows : (id : MethodId) → Row (instr.Invokestatic id)
    unfolding row
    static_rows id step receives = by (method_at p id) refl step
      where
        by : (o : Option Method) → method_at p id ≡ o → by_row p own at (static_row own o) f ≡ Ok g → Asked p h (does p own (instr.Invokestatic id) to l s h)
        by None there e = missing (instr.Invokestatic id) e
        by (Some named) there e =
            let a = (takes_inverse p own at (arguments named) (result_types named.result) (static_rules own named) f g e).also_hold in
            static_asks id named there (and_parts named.is_static (may_name own named.is_private named.owner) (and_parts (named.is_static && may_name own named.is_private named.owner) true a.0).0).0

    special_rows : (id : MethodId) → Row (instr.Invokespecial id)
    unfolding row
    special_rows id step receives = by (method_at p id) refl step
      where
        special_by_kind : (named : Method) → method_at p id ≡ Some named → (z : Bool) → is_constructor named ≡ z → by_row p own at (special_by z p own id named) f ≡ Ok g → Asked p h (does p own (instr.Invokespecial id) to l s h)
        special_by_kind named there true con e = constructs mid owned coded id named there con
        special_by_kind named there false con e =
            let a = (takes_inverse p own at (arguments named ++ (Is (class_vtype named.owner) ∷ [])) (result_types named.result) (special_rules p own id named) f g e).also_hold in
            let eight = and_parts (not named.is_static) (may_name own named.is_private named.owner) (and_parts (not named.is_static && may_name own named.is_private named.owner) true a.1.0).0 in
            specials mid owned coded id named there (not-true named.is_static eight.0) con eight.1 (and_parts (special_fits p own id named) true a.1.1.0).0

        by : (o : Option Method) → method_at p id ≡ o → by_row p own at (special_row p own id o) f ≡ Ok g → Asked p h (does p own (instr.Invokespecial id) to l s h)
        by None there e = missing (instr.Invokespecial id) e
        by (Some named) there e = special_by_kind named there (is_constructor named) refl e

    pub rows : (i : Instr) → type_step p own at i f ≡ Ok g → Receives p i s h → Asked p h (does p own i to l s h)
    rows i = by (seen i)
      where
        by : Seen i → Row i
        by (Virtual id e) = subst Row (sym e) (virtual_rows id)
        by (Static id e) = subst Row (sym e) (static_rows id)
        by (Special id e) = subst Row (sym e) (special_rows id)
        by (Other k) = λ step receives. asked_quiet p h (does p own i to l s h) (quiet p own to l s h i k)
