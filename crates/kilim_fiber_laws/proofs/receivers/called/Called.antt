-- A call makes a frame that stands behind it, with what verification says of the call's place.
use Rattle.std.proofs.Common.{◌≡◌, cond, eqb, ℕ, zero, suc, ◌+◌, ℤ, pos, negsuc, Bool, true, false, List, [], ◌∷◌, ◌++◌, drop, length, Option, Some, None, Ok, refl, sym, ap, subst, ◌∙◌, arith}
use Rattle.std.specs.Prelude.{◌&&◌, ◌||◌, not, reverse, codes, slice_get}
use Rattle.std.specs.Str.{bytes_eq}
use Rattle.std.proofs.lemmas.Bool.{and_from, and_parts, false≢true, not-true}
use Rattle.kilim_program.specs.declared.class.Method.{Method}
use Rattle.kilim_program.specs.declared.instr.Instr.{Instr}
use Rattle.kilim_program.specs.declared.instr.Instr.TheVariants as instr
use Rattle.kilim_program.specs.declared.names.MethodId.{MethodId}
use Rattle.kilim_program.specs.declared.ty.Base.{Base}
use Rattle.kilim_program.specs.declared.ty.Base.TheVariants as base
use Rattle.kilim_program.specs.declared.ty.Ty.{Ty}
use Rattle.kilim_program.specs.declared.value.Value.{Value}
use Rattle.kilim_program.specs.declared.value.Value.TheVariants.{Box, Fiber, Int, Long, Null, Ref, Text}
use Rattle.kilim_program.specs.declared.verified.VType.{VType}
use Rattle.kilim_program.specs.declared.verified.VType.TheVariants as vtype
use Rattle.kilim_program.specs.declared.class.Form.TheVariants.{Plain}
use Rattle.kilim_program.specs.BuiltIn.{class_type}
use Rattle.kilim_program.specs.Fits.{fits_type}
use Rattle.kilim_program.specs.Keeps.{Keeps, method_is_sound}
use Rattle.kilim_program.specs.Names.{class_at, method_at}
use Rattle.kilim_program.specs.Program.{Program}
use Rattle.kilim_program.specs.Same.{is_constructor}
use Rattle.kilim_isolation_laws.proofs.typed_threads.fine.Shown.{no_fiber_class}
use Rattle.kilim_type_sound.specs.Facts.{Facts}
use Rattle.kilim_type_laws.specs.members.Chosen.{has_instances}
use Rattle.kilim_type_sound.specs.Fits.{AreThere, Classes, ContentFits, HeapFits, Holds, has_type, have_types}
use Rattle.kilim_type_sound.specs.Law.{Extends}
use Rattle.kilim_type_sound.proofs.Basics.{takes_inverse}
use Rattle.kilim_type_laws.proofs.members.FromKeeps.{all_at}
use Rattle.kilim_type_sound.proofs.Grounds.{facts_hold}
use Rattle.kilim_type_sound.proofs.Grown.{type_grown}
use Rattle.kilim_isolation_pauses.specs.Pausing.{called}
use Rattle.kilim_run_state.specs.declared.value.Object.{Object as HeapObject}
use Rattle.kilim_run_machine.specs.Does.{above_of, at_unit, calls_method, calls_on, calls_text, chosen, does, gives_message, keeps_message, special, superclass_of, takes_element, text_answers, unit_at}
use Rattle.kilim_run_machine.specs.Effect.{Asks, Calls, Effect, Ends, Goes, Makes, Opens, Raises, Throws, Returns, Stuck, as_class, as_receiver, on_value, on_values, with_some}
use Rattle.kilim_program.specs.Members.{named_type}
use Rattle.kilim_run_state.specs.Machine.{Objects}
use Rattle.kilim_run_machine.specs.Natives.{is_built_in_constructor, is_get_message, is_handed_out, is_message_constructor, is_text_method}
use Rattle.kilim_type_spec.specs.Step.{Is, Types, arguments, by_row, class_vtype, may_name, needs, peek, result_types, row, special_by, special_fits, special_row, special_rules, static_row, static_rules, type_step, virtual_row, virtual_rules}
use Rattle.kilim_type_laws.specs.Laws.{typing_at}
use Rattle.kilim_fiber_laws.proofs.courses.answers.Asked.{Other, Seen, Special, Static, Virtual, quiet, seen}
use Rattle.kilim_fiber_laws.specs.receivers.called.Law.{Boundary, Target, class_named, is_object}
use Rattle.kilim_weave_spec.specs.Woven.{first_of, taken}
use Rattle.kilim_fiber_spec.proofs.alike.Lands.{hushed, q_if, q_index, q_int, q_object, q_receiver, q_some, q_value, q_when}
use Rattle.kilim_fiber_spec.specs.Form.{is_pausable}
use Rattle.kilim_fiber_spec.specs.Rows.{Receives, below_arguments, class_if}
use Rattle.kilim_fiber_spec.specs.Thread.{fetch, self_in, self_of}
use Rattle.kilim_fiber_spec.specs.Thread as thread

module _ (p : Program) where
  -- ---- with more classes of names

  module _ (of more : Classes) (grows : Extends of more) where
    pub types_grown : (m : Method) (ts : List VType) (vs : List Value) → have_types p m of ts vs ≡ true → have_types p m more ts vs ≡ true
    types_grown m [] [] e = e
    types_grown m [] (v ∷ vs) e = absurd (false≢true e)
    types_grown m (t ∷ ts) [] e = absurd (false≢true e)
    types_grown m (t ∷ ts) (v ∷ vs) e =
        let es = and_parts (has_type p m of t v) (have_types p m of ts vs) e in
        and_from (has_type p m more t v) (have_types p m more ts vs) (type_grown p of more grows m t v es.0) (types_grown m ts vs es.1)

    class_grown : (v : Value) (c : Ty) → class_named p of v ≡ Some c → class_named p more v ≡ Some c
    class_grown (Ref n) c e = grows n c e
    class_grown (Text units) c e = e
    class_grown (Box box) c e = e
    class_grown Fiber c e = e
    class_grown (Int x) c e = e
    class_grown (Long x) c e = e
    class_grown Null c e = e

    holds_grown : (m : Method) (t : VType) (o : Option Value) → Holds p m of t o → Holds p m more t o
    holds_grown m vtype.Top o e = tt
    holds_grown m vtype.Int None e = e
    holds_grown m vtype.Long None e = e
    holds_grown m vtype.Null None e = e
    holds_grown m vtype.UninitThis None e = e
    holds_grown m (vtype.Uninit q) None e = e
    holds_grown m (vtype.Object ty) None e = e
    holds_grown m vtype.Int (Some v) e = type_grown p of more grows m vtype.Int v e
    holds_grown m vtype.Long (Some v) e = type_grown p of more grows m vtype.Long v e
    holds_grown m vtype.Null (Some v) e = type_grown p of more grows m vtype.Null v e
    holds_grown m vtype.UninitThis (Some v) e = type_grown p of more grows m vtype.UninitThis v e
    holds_grown m (vtype.Uninit q) (Some v) e = type_grown p of more grows m (vtype.Uninit q) v e
    holds_grown m (vtype.Object ty) (Some v) e = type_grown p of more grows m (vtype.Object ty) v e

    target_grown : (own : Method) (i : Instr) (named : Method) (c : MethodId) (y : Value) → Target p of own i named c y → Target p more own i named c y
    target_grown own (instr.Invokestatic id) named c y t = t
    target_grown own (instr.Invokevirtual id) named c y t = (t.0, t.1, (t.2.0, class_grown y t.2.0 t.2.1, t.2.2, t.2.3))
    target_grown own (instr.Invokespecial id) named c y t = t
    target_grown own i named c y t = absurd t

    pub boundary_grown : (c : MethodId) (y : Value) (m : MethodId) (to : ℕ) (l s : List Value) → Boundary p of c y m to l s → Boundary p more c y m to l s
    boundary_grown c y m to l s b = record {
      own = b.own;
      there = b.there;
      from = b.from;
      i = b.i;
      fetched = b.fetched;
      named = b.named;
      names = b.names;
      target = target_grown b.own b.i b.named c y b.target;
      callee = b.callee;
      entered = b.entered;
      coded = b.coded;
      static = b.static;
      params = b.params;
      result = b.result;
      stack = types_grown b.own (drop (taken b.named) (typing_at p m b.from).stack) s b.stack;
      receiver = λ e. type_grown p of more grows b.own (first_of (drop (length b.named.params) (typing_at p m b.from).stack)) y (b.receiver e);
      slots = λ k. holds_grown b.own (peek (typing_at p m b.from).locals k) (slice_get l k) (b.slots k);
    }

-- ---- a call makes such a frame

q_unit : (o : Option ℕ) (go : Value → Effect) → hushed (at_unit o go) ≡ at_unit o (λ v. hushed (go v))
q_unit None go = refl
q_unit (Some u) go = refl

q_units : (units : List ℕ) (i : ℤ) (go : Value → Effect) → hushed (unit_at units i go) ≡ unit_at units i (λ v. hushed (go v))
q_units units (pos i) go = q_unit (slice_get units i) go
q_units units (negsuc i) go = refl

q_answers : (name units : List ℕ) (args : List Value) (to : ℕ) (l s : List Value) (h : Objects) → hushed (text_answers name units args (λ v. Goes to l (v ∷ s) h)) ≡ text_answers name units args (λ v. Goes to l (v ∷ s) h)
q_answers name units [] to l s h = q_when (bytes_eq name (codes "length")) _
q_answers name units (v ∷ []) to l s h = simp (q_if, q_when, q_int, q_units)
q_answers name units (v ∷ w ∷ vs) to l s h = refl

text_hushed : (named : Method) (args : List Value) (to : ℕ) (l s : List Value) (h : Objects) (v : Value) → hushed (calls_text named args to l s h v) ≡ calls_text named args to l s h v
text_hushed named args to l s h v = simp (q_receiver, q_some, q_answers)

take_hushed : (to : ℕ) (l s : List Value) (h : Objects) → hushed (takes_element to l s h) ≡ takes_element to l s h
take_hushed to l s h = simp (q_value, q_int, q_object, q_index)

-- a constructor never pauses
pub no_pause : (p : Program) → Keeps p → (id : MethodId) (named : Method) → method_at p id ≡ Some named → is_constructor named ≡ true → is_pausable p id ≡ true → ⊥
unfolding method_is_sound
no_pause p keeps id named named_there con pauses =
    let sound : method_is_sound named ≡ true = all_at method_is_sound p.methods id.0 named keeps.methods named_there in
    let none : not (is_constructor named && named.pausable) ≡ true = (and_parts _ _ (and_parts _ _ sound).1).1 in
    let pausable : named.pausable ≡ true = sym (ap (λ (o : Option Method). elim o [ None ↦ false | Some z ↦ z.pausable ]) named_there) ∙ pauses in
    false≢true (sym (not-true (is_constructor named && named.pausable) none) ∙ and_from (is_constructor named) named.pausable con pausable)

-- what an effect that calls leaves: a frame behind the call, where the method is pausable
abbrev pub CallsFrom : Program → Classes → MethodId → Effect → Type 0
CallsFrom p of m (Calls c args q l2 s2 k) = is_pausable p c ≡ true → Boundary p of c (self_of p c args) m q l2 s2
CallsFrom p of m e = Unit {0}

stuck_calls : (c : MethodId) (args : List Value) (q : ℕ) (l s : List Value) (k : Objects) → Stuck ≡ Calls c args q l s k → ⊥
stuck_calls c args q l s k e = cc

instances_of : (p : Program) (of : Classes) (d : ℕ) (b : Base) (o : HeapObject) → ContentFits p of d b o → has_instances p d b ≡ true
instances_of p of zero (base.Class c) o e = (and_parts _ _ e.0).0
instances_of p of (suc d) b o e = refl
instances_of p of zero base.Bool o e = absurd e
instances_of p of zero base.Byte o e = absurd e
instances_of p of zero base.Char o e = absurd e
instances_of p of zero base.Short o e = absurd e
instances_of p of zero base.Int o e = absurd e
instances_of p of zero base.Long o e = absurd e

module _ (p : Program) (keeps : Keeps p) (form : p.form ≡ Plain) (of : Classes) (h : Objects) (heap : HeapFits p of h) (m : MethodId) (own : Method) (there : method_at p m ≡ Some own) (at to : ℕ) (l s : List Value) (here : AreThere h s)
    (stack : have_types p own of (typing_at p m at).stack s ≡ true) (slots : (k : ℕ) → Holds p own of (peek (typing_at p m at).locals k) (slice_get l k)) where
  facts : Facts p
  facts = facts_hold p keeps

  -- what is on the stack below so many items
  record IsRest (n : ℕ) (r : List Value) : Type 0 where
    types : have_types p own of (drop n (typing_at p m at).stack) r ≡ true
    inside : AreThere h r
    below : r ≡ below_arguments n s

  one_more : (n : ℕ) (ts : List VType) (v : Value) (rest : List Value) → have_types p own of (drop n ts) (v ∷ rest) ≡ true → (has_type p own of (first_of (drop n ts)) v ≡ true) × (have_types p own of (drop (n + 1) ts) rest ≡ true)
  one_more zero [] v rest e = absurd (false≢true e)
  one_more zero (t ∷ ts) v rest e = and_parts (has_type p own of t v) (have_types p own of ts rest) e
  one_more (suc n) [] v rest e = absurd (false≢true e)
  one_more (suc n) (t ∷ ts) v rest e =
      let r = one_more n ts v rest e in
      let z : suc n + 1 ≡ suc (n + 1) = omega arith in
      (r.0, subst (λ (k : ℕ). have_types p own of (drop k (t ∷ ts)) rest ≡ true) (sym z) r.1)

  from_quiet : (e : Effect) → hushed e ≡ e → CallsFrom p of m e
  from_quiet (Calls c args q l2 s2 k) e = absurd (stuck_calls c args q l2 s2 k e)
  from_quiet (Asks c args q l2 s2 k) e = tt
  from_quiet (Goes q l2 s2 k) e = tt
  from_quiet (Makes o q l2 s2 k) e = tt
  from_quiet (Opens q l2 s2 k) e = tt
  from_quiet (Returns v k) e = tt
  from_quiet (Raises c) e = tt
  from_quiet (Throws object class c) e = tt
  from_quiet (Ends c) e = tt
  from_quiet Stuck e = tt

  c_values_from : (n : ℕ) (ts : List VType) (vs : List Value) (go : List Value → List Value → Effect) → have_types p own of ts vs ≡ true → AreThere h vs → ((xs r : List Value) → have_types p own of (drop n ts) r ≡ true → AreThere h r → r ≡ below_arguments n vs → CallsFrom p of m (go xs r)) → CallsFrom p of m (on_values n vs go)
  c_values_from zero ts vs go e t k = k [] vs e t refl
  c_values_from (suc n) ts [] go e t k = tt
  c_values_from (suc n) [] (v ∷ vs) go e t k = absurd (false≢true e)
  c_values_from (suc n) (u ∷ ts) (v ∷ vs) go e t k = c_values_from n ts vs (λ xs r. go (v ∷ xs) r) (and_parts (has_type p own of u v) (have_types p own of ts vs) e).1 t.1 (λ xs r er tr b. k (v ∷ xs) r er tr b)

  c_values : (n : ℕ) (go : List Value → List Value → Effect) → ((xs r : List Value) → IsRest n r → CallsFrom p of m (go xs r)) → CallsFrom p of m (on_values n s go)
  c_values n go k = c_values_from n (typing_at p m at).stack s go stack here (λ xs r er tr b. k xs r (record { types = er; inside = tr; below = b }))

  c_value : (r : List Value) (go : Value → List Value → Effect) → ((v : Value) (rest : List Value) → r ≡ v ∷ rest → CallsFrom p of m (go v rest)) → CallsFrom p of m (on_value r go)
  c_value [] go k = tt
  c_value (v ∷ rest) go k = k v rest refl

  c_receiver : (v : Value) (go : Value → Effect) → (is_object v ≡ true → CallsFrom p of m (go v)) → CallsFrom p of m (as_receiver v go)
  c_receiver (Int x) go k = tt
  c_receiver (Long x) go k = tt
  c_receiver Null go k = tt
  c_receiver (Ref n) go k = k refl
  c_receiver (Text units) go k = k refl
  c_receiver (Box box) go k = k refl
  c_receiver Fiber go k = k refl

  -- a method that is called
  c_method : (c : MethodId) (callee : Method) (args rest : List Value) → method_at p c ≡ Some callee → (callee.built_in ≡ false → is_pausable p c ≡ true → Boundary p of c (self_of p c args) m to l rest) → CallsFrom p of m (calls_method (method_at p c) c args to l rest h)
  c_method c callee args rest at_c k = subst (λ (o : Option Method). CallsFrom p of m (calls_method o c args to l rest h)) (sym at_c) (by callee.built_in (is_message_constructor callee) (is_get_message callee) refl)
    where
      keeps_quiet : (args : List Value) → CallsFrom p of m (keeps_message args to l rest h)
      keeps_quiet [] = tt
      keeps_quiet (v ∷ []) = tt
      keeps_quiet (v ∷ w ∷ []) = from_quiet (keeps_message (v ∷ w ∷ []) to l rest h) (simp (q_object, q_some))
      keeps_quiet (v ∷ w ∷ x ∷ vs) = tt

      gives_quiet : (args : List Value) → CallsFrom p of m (gives_message args to l rest h)
      gives_quiet [] = tt
      gives_quiet (v ∷ []) = from_quiet (gives_message (v ∷ []) to l rest h) (simp (q_object, q_some))
      gives_quiet (v ∷ w ∷ vs) = tt

      by : (z keeps gives : Bool) → callee.built_in ≡ z → CallsFrom p of m (cond z (cond keeps (keeps_message args to l rest h) (cond gives (gives_message args to l rest h) (Asks c args to l rest h))) (Calls c args to l rest h))
      by true true gives e = keeps_quiet args
      by true false true e = gives_quiet args
      by true false false e = tt
      by false keeps gives e = k e

  -- the frame, where an object is called
  on_object : (i : Instr) → fetch p m at ≡ Some (i, to) → (named : Method) → called p i ≡ Some named → named.is_static ≡ false → (c : MethodId) (callee : Method) → method_at p c ≡ Some callee → callee.is_static ≡ false → callee.built_in ≡ false → callee.params ≡ named.params → callee.result ≡ named.result → (v : Value) (args rest r : List Value) → IsRest (length named.params) r → r ≡ v ∷ rest → Target p of own i named c v →
      Boundary p of c (self_of p c (v ∷ args)) m to l rest
  on_object i f named names instance c callee at_c plain coded params result v args rest r is e target =
      let types = one_more (length named.params) (typing_at p m at).stack v rest (subst (λ (x : List Value). have_types p own of (drop (length named.params) (typing_at p m at).stack) x ≡ true) e is.types) in
      subst (λ (y : Value). Boundary p of c y m to l rest) (sym (ap (λ (o : Option Method). self_in o (v ∷ args)) at_c ∙ ap (λ (z : Bool). cond z Null v) plain)) (record {
        own = own;
        there = there;
        from = at;
        i = i;
        fetched = f;
        named = named;
        names = names;
        target = target;
        callee = callee;
        entered = at_c;
        coded = coded;
        static = plain ∙ sym instance;
        params = params;
        result = result;
        stack = subst (λ (z : Bool). have_types p own of (drop (length named.params + cond z 0 1) (typing_at p m at).stack) rest ≡ true) (sym instance) types.1;
        receiver = λ z. types.0;
        slots = slots;
      })

  -- ---- virtual

  module _ (id : MethodId) (named : Method) (named_there : method_at p id ≡ Some named) (f : fetch p m at ≡ Some (instr.Invokevirtual id, to)) (instance : named.is_static ≡ false) (plain : is_constructor named ≡ false) (other : is_text_method p named ≡ false) (receives : Receives p (instr.Invokevirtual id) s h) where
    chosen_from : (v : Value) (vs rest r : List Value) → IsRest (length named.params) r → r ≡ v ∷ rest → (ty : Ty) → class_named p of v ≡ Some ty → has_instances p ty.dims ty.base ≡ true → fits_type p ty (class_type named.owner.0) ≡ true → CallsFrom p of m (calls_on p named id (reverse vs) to l rest h v (Some ty))
    chosen_from v vs rest r is e ty class has fits =
        let sel = facts.selects id named named_there instance plain ty has fits in
        c_method (chosen p named id ty) sel.0.method (v ∷ reverse vs) rest sel.0.there
        (λ own pauses. on_object (instr.Invokevirtual id) f named named_there instance (chosen p named id ty) sel.0.method sel.0.there sel.0.instance own sel.0.params sel.0.result v (reverse vs) rest r is e (instance, other, (ty, class, fits, refl)))

    on_class : (v : Value) (vs rest r : List Value) → IsRest (length named.params) r → r ≡ v ∷ rest → CallsFrom p of m (as_class p v h (calls_on p named id (reverse vs) to l rest h v))
    on_class (Int x) vs rest r is e = tt
    on_class (Long x) vs rest r is e = tt
    on_class Null vs rest r is e = tt
    on_class (Ref k) vs rest r is e =
        let t = (subst (λ (x : List Value). AreThere h x) e is.inside).0 in
        subst (λ (o : Option HeapObject). CallsFrom p of m (with_some o (λ object. calls_on p named id (reverse vs) to l rest h (Ref k) (Some object.class)))) (sym t.1)
        (chosen_from (Ref k) vs rest r is e t.0.class (heap.classes k t.0 t.1) (instances_of p of t.0.class.dims t.0.class.base t.0 (heap.objects k t.0 t.1)) (receives named named_there (Ref k) rest (sym is.below ∙ e) t.0.class (ap class_if t.1)))
    on_class (Text units) vs rest r is e = by (named_type p (codes "java/lang/String")) refl
      where
        by : (o : Option Ty) → named_type p (codes "java/lang/String") ≡ o → CallsFrom p of m (calls_on p named id (reverse vs) to l rest h (Text units) o)
        by None c = tt
        by (Some ty) c = chosen_from (Text units) vs rest r is e ty c (facts.values (codes "java/lang/String") ty c refl) (receives named named_there (Text units) rest (sym is.below ∙ e) ty c)
    on_class (Box box) vs rest r is e = by (named_type p (codes "kilim/Mailbox")) refl
      where
        by : (o : Option Ty) → named_type p (codes "kilim/Mailbox") ≡ o → CallsFrom p of m (calls_on p named id (reverse vs) to l rest h (Box box) o)
        by None c = tt
        by (Some ty) c = chosen_from (Box box) vs rest r is e ty c (facts.values (codes "kilim/Mailbox") ty c refl) (receives named named_there (Box box) rest (sym is.below ∙ e) ty c)
    on_class Fiber vs rest r is e = subst (λ (o : Option Ty). CallsFrom p of m (calls_on p named id (reverse vs) to l rest h Fiber o)) (sym (no_fiber_class p keeps form)) tt

    virtual_from : CallsFrom p of m (does p own (instr.Invokevirtual id) to l s h)
    unfolding does
    virtual_from =
        subst (λ (o : Option Method). CallsFrom p of m (with_some o (λ method. on_values (length method.params) s (λ args below. on_value below (λ receiver rest. cond (is_text_method p method) (calls_text method (reverse args) to l rest h receiver) (as_class p receiver h (calls_on p method id (reverse args) to l rest h receiver))))))) (sym named_there)
        (subst (λ (z : Bool). CallsFrom p of m (on_values (length named.params) s (λ args below. on_value below (λ receiver rest. cond z (calls_text named (reverse args) to l rest h receiver) (as_class p receiver h (calls_on p named id (reverse args) to l rest h receiver)))))) (sym other)
        (c_values (length named.params) _ (λ vs r is. c_value r _ (λ v rest e. on_class v vs rest r is e))))

  -- a method of strings is called by none
  text_quiet : (id : MethodId) (named : Method) → method_at p id ≡ Some named → is_text_method p named ≡ true → (f : fetch p m at ≡ Some (instr.Invokevirtual id, to)) → CallsFrom p of m (does p own (instr.Invokevirtual id) to l s h)
  unfolding does
  text_quiet id named named_there text f =
      subst (λ (o : Option Method). CallsFrom p of m (with_some o (λ method. on_values (length method.params) s (λ args below. on_value below (λ receiver rest. cond (is_text_method p method) (calls_text method (reverse args) to l rest h receiver) (as_class p receiver h (calls_on p method id (reverse args) to l rest h receiver))))))) (sym named_there)
      (subst (λ (z : Bool). CallsFrom p of m (on_values (length named.params) s (λ args below. on_value below (λ receiver rest. cond z (calls_text named (reverse args) to l rest h receiver) (as_class p receiver h (calls_on p named id (reverse args) to l rest h receiver)))))) (sym text)
      (c_values (length named.params) _ (λ vs r is. c_value r _ (λ v rest e. from_quiet (calls_text named (reverse vs) to l rest h v) (text_hushed named (reverse vs) to l rest h v)))))

  -- ---- special

  module _ (id : MethodId) (named : Method) (named_there : method_at p id ≡ Some named) (f : fetch p m at ≡ Some (instr.Invokespecial id, to)) (instance : named.is_static ≡ false) where
    special_from : (found : MethodId) (callee : Method) → special p own named id ≡ found → method_at p found ≡ Some callee → callee.is_static ≡ false → callee.params ≡ named.params → callee.result ≡ named.result → CallsFrom p of m (does p own (instr.Invokespecial id) to l s h)
    unfolding does
    special_from found callee is callee_there plain params result =
        subst (λ (o : Option Method). CallsFrom p of m (with_some o (λ method. cond (is_built_in_constructor method) (on_value s (λ v rest. as_receiver v (λ receiver. Goes to l rest h)))
        (on_values (length method.params) s (λ args below. on_value below (λ v rest. as_receiver v (λ receiver. calls_method (method_at p (special p own method id)) (special p own method id) (receiver ∷ reverse args) to l rest h))))))) (sym named_there)
        (by (is_built_in_constructor named) refl)
      where
        by : (z : Bool) → is_built_in_constructor named ≡ z → CallsFrom p of m (cond z (on_value s (λ v rest. as_receiver v (λ receiver. Goes to l rest h)))
            (on_values (length named.params) s (λ args below. on_value below (λ v rest. as_receiver v (λ receiver. calls_method (method_at p (special p own named id)) (special p own named id) (receiver ∷ reverse args) to l rest h)))))
        by true e = c_value s _ (λ v rest is. c_receiver v _ (λ o. tt))
        by false e = c_values (length named.params) _ (λ vs r rest_is. c_value r _ (λ v rest eq. c_receiver v _ (λ o.
            c_method (special p own named id) callee (v ∷ reverse vs) rest (ap (method_at p) is ∙ callee_there)
            (λ coded pauses. on_object (instr.Invokespecial id) f named named_there instance (special p own named id) callee (ap (method_at p) is ∙ callee_there) plain coded params result v (reverse vs) rest r rest_is eq (instance, o, refl, e)))))

  -- ---- a constructor

  constructs_from : (id : MethodId) (named : Method) → method_at p id ≡ Some named → is_constructor named ≡ true → CallsFrom p of m (does p own (instr.Invokespecial id) to l s h)
  unfolding does
  constructs_from id named named_there con =
      subst (λ (o : Option Method). CallsFrom p of m (with_some o (λ method. cond (is_built_in_constructor method) (on_value s (λ v rest. as_receiver v (λ receiver. Goes to l rest h)))
      (on_values (length method.params) s (λ args below. on_value below (λ v rest. as_receiver v (λ receiver. calls_method (method_at p (special p own method id)) (special p own method id) (receiver ∷ reverse args) to l rest h))))))) (sym named_there)
      (by (is_built_in_constructor named))
    where
      itself : special p own named id ≡ id
      itself = ap (λ (z : Bool). cond (z || eqb named.owner.0 own.owner.0) id (above_of p named id (superclass_of (class_at p own.owner)))) con

      by : (z : Bool) → CallsFrom p of m (cond z (on_value s (λ v rest. as_receiver v (λ receiver. Goes to l rest h)))
          (on_values (length named.params) s (λ args below. on_value below (λ v rest. as_receiver v (λ receiver. calls_method (method_at p (special p own named id)) (special p own named id) (receiver ∷ reverse args) to l rest h)))))
      by true = c_value s _ (λ v rest is. c_receiver v _ (λ o. tt))
      by false = subst (λ (q : MethodId). CallsFrom p of m (on_values (length named.params) s (λ args below. on_value below (λ v rest. as_receiver v (λ receiver. calls_method (method_at p q) q (receiver ∷ reverse args) to l rest h))))) (sym itself)
          (c_values (length named.params) _ (λ vs r rest_is. c_value r _ (λ v rest is. c_receiver v _ (λ o. c_method id named (v ∷ reverse vs) rest named_there (λ coded pauses. absurd (no_pause p keeps id named named_there con pauses))))))

  -- ---- static

  static_from : (id : MethodId) (named : Method) → method_at p id ≡ Some named → named.is_static ≡ true → (f : fetch p m at ≡ Some (instr.Invokestatic id, to)) → CallsFrom p of m (does p own (instr.Invokestatic id) to l s h)
  unfolding does
  static_from id named named_there static f =
      subst (λ (o : Option Method). CallsFrom p of m (with_some o (λ method. cond (is_handed_out p method) (on_values (length method.params) s (λ args rest. Asks id (reverse args) to l rest h)) (cond method.built_in (takes_element to l s h) (on_values (length method.params) s (λ args rest. Calls id (reverse args) to l rest h)))))) (sym named_there)
      (by (is_handed_out p named))
    where
      no_more : length named.params + 0 ≡ length named.params
      no_more = omega arith

      own_or : (z : Bool) → named.built_in ≡ z → CallsFrom p of m (cond z (takes_element to l s h) (on_values (length named.params) s (λ args rest. Calls id (reverse args) to l rest h)))
      own_or true e = from_quiet (takes_element to l s h) (take_hushed to l s h)
      own_or false e = c_values (length named.params) _ (λ vs r is pauses.
          subst (λ (y : Value). Boundary p of id y m to l r) (sym (ap (λ (o : Option Method). self_in o (reverse vs)) named_there ∙ ap (λ (z : Bool). cond z Null (thread.first_of (reverse vs))) static)) (record {
            own = own;
            there = there;
            from = at;
            i = instr.Invokestatic id;
            fetched = f;
            named = named;
            names = named_there;
            target = (refl, refl, static, e);
            callee = named;
            entered = named_there;
            coded = e;
            static = refl;
            params = refl;
            result = refl;
            stack = subst (λ (z : Bool). have_types p own of (drop (length named.params + cond z 0 1) (typing_at p m at).stack) r ≡ true) (sym static) (subst (λ (k : ℕ). have_types p own of (drop k (typing_at p m at).stack) r ≡ true) (sym no_more) is.types);
            receiver = λ z. absurd (false≢true (sym z ∙ static));
            slots = slots;
          }))

      by : (z : Bool) → CallsFrom p of m (cond z (on_values (length named.params) s (λ args rest. Asks id (reverse args) to l rest h)) (cond named.built_in (takes_element to l s h) (on_values (length named.params) s (λ args rest. Calls id (reverse args) to l rest h))))
      by true = c_values (length named.params) _ (λ vs r is. tt)
      by false = own_or named.built_in refl

  -- ---- all instructions

  missing : (g : Types) {A : Type 0} → by_row p own at (static_row own None) (typing_at p m at) ≡ Ok g → A
  missing g e = absurd (false≢true (takes_inverse p own at [] [] (needs 8 false ∷ []) (typing_at p m at) g e).also_hold.0)

  abbrev Row : Types → Instr → Type 0
  Row g i = fetch p m at ≡ Some (i, to) → type_step p own at i (typing_at p m at) ≡ Ok g → Receives p i s h → CallsFrom p of m (does p own i to l s h)

  virtual_calls : (g : Types) (id : MethodId) → Row g (instr.Invokevirtual id)
  unfolding row
  virtual_calls g id f step receives = by (method_at p id) refl step
    where
      kinds : (named : Method) → method_at p id ≡ Some named → named.is_static ≡ false → is_constructor named ≡ false → (z : Bool) → is_text_method p named ≡ z → CallsFrom p of m (does p own (instr.Invokevirtual id) to l s h)
      kinds named named_there instance plain true text = text_quiet id named named_there text f
      kinds named named_there instance plain false text = virtual_from id named named_there f instance plain text receives

      by : (o : Option Method) → method_at p id ≡ o → by_row p own at (virtual_row own o) (typing_at p m at) ≡ Ok g → CallsFrom p of m (does p own (instr.Invokevirtual id) to l s h)
      by None named_there e = missing g e
      by (Some named) named_there e =
          let a = (takes_inverse p own at (arguments named ++ (Is (class_vtype named.owner) ∷ [])) (result_types named.result) (virtual_rules own named) (typing_at p m at) g e).also_hold in
          let eight = (and_parts (not named.is_static && may_name own named.is_private named.owner) true a.0).0 in
          kinds named named_there (not-true named.is_static (and_parts (not named.is_static) (may_name own named.is_private named.owner) eight).0) (not-true (is_constructor named) (and_parts (not (is_constructor named)) true a.1.0).0) (is_text_method p named) refl

  static_calls : (g : Types) (id : MethodId) → Row g (instr.Invokestatic id)
  unfolding row
  static_calls g id f step receives = by (method_at p id) refl step
    where
      by : (o : Option Method) → method_at p id ≡ o → by_row p own at (static_row own o) (typing_at p m at) ≡ Ok g → CallsFrom p of m (does p own (instr.Invokestatic id) to l s h)
      by None named_there e = missing g e
      by (Some named) named_there e =
          let a = (takes_inverse p own at (arguments named) (result_types named.result) (static_rules own named) (typing_at p m at) g e).also_hold in
          static_from id named named_there (and_parts named.is_static (may_name own named.is_private named.owner) (and_parts (named.is_static && may_name own named.is_private named.owner) true a.0).0).0 f

  special_calls : (g : Types) (id : MethodId) → Row g (instr.Invokespecial id)
  unfolding row
  special_calls g id f step receives = by (method_at p id) refl step
    where
      kinds : (named : Method) → method_at p id ≡ Some named → (z : Bool) → is_constructor named ≡ z → by_row p own at (special_by z p own id named) (typing_at p m at) ≡ Ok g → CallsFrom p of m (does p own (instr.Invokespecial id) to l s h)
      kinds named named_there true con e = constructs_from id named named_there con
      kinds named named_there false con e =
          let a = (takes_inverse p own at (arguments named ++ (Is (class_vtype named.owner) ∷ [])) (result_types named.result) (special_rules p own id named) (typing_at p m at) g e).also_hold in
          let eight = and_parts (not named.is_static) (may_name own named.is_private named.owner) (and_parts (not named.is_static && may_name own named.is_private named.owner) true a.1.0).0 in
          let instance = not-true named.is_static eight.0 in
          let sel = facts.specials own id named named_there instance con eight.1 (and_parts (special_fits p own id named) true a.1.1.0).0 in
          special_from id named named_there f instance (special p own named id) sel.0.method refl sel.0.there sel.0.instance sel.0.params sel.0.result

      by : (o : Option Method) → method_at p id ≡ o → by_row p own at (special_row p own id o) (typing_at p m at) ≡ Ok g → CallsFrom p of m (does p own (instr.Invokespecial id) to l s h)
      by None named_there e = missing g e
      by (Some named) named_there e = kinds named named_there (is_constructor named) refl e

  pub calls_from : (g : Types) (i : Instr) (f : fetch p m at ≡ Some (i, to)) → type_step p own at i (typing_at p m at) ≡ Ok g → Receives p i s h → CallsFrom p of m (does p own i to l s h)
  calls_from g i = by (seen i)
    where
      by : Seen i → Row g i
      by (Virtual id e) = subst (Row g) (sym e) (virtual_calls g id)
      by (Static id e) = subst (Row g) (sym e) (static_calls g id)
      by (Special id e) = subst (Row g) (sym e) (special_calls g id)
      by (Other k) = λ f step receives. from_quiet (does p own i to l s h) (quiet p own to l s h i k)
