-- What fits goes on fitting: objects come and go, results come, methods begin.
use Rattle.std.proofs.Common.{◌≡◌, ◌⊎◌, inl, inr, ℕ, zero, suc, Bool, true, false, cond, eqb, List, [], ◌∷◌, ◌++◌, map, Option, Some, None, refl, sym, ap, subst, ◌∙◌}
use Rattle.std.specs.Prelude.{slice_get, codes}
use Rattle.std.specs.FinMap.{get, insert}
use Rattle.std.specs.List.{list_all}
use Rattle.std.proofs.lemmas.Bool.{and_parts, and_from, eqb-true, eq-eqb}
use Rattle.std.proofs.lemmas.Bool.Decides.{eqb_tells}
use Rattle.kilim_program.specs.declared.class.Field.{Field}
use Rattle.kilim_program.specs.declared.class.Method.{Method}
use Rattle.kilim_program.specs.declared.names.FieldId.{FieldId}
use Rattle.kilim_program.specs.declared.names.MethodId.{MethodId}
use Rattle.kilim_program.specs.declared.names.ClassId.{ClassId}
use Rattle.kilim_program.specs.declared.ty.Base.{Base}
use Rattle.kilim_program.specs.declared.ty.Base.TheVariants as base
use Rattle.kilim_program.specs.declared.ty.Ty.{Ty}
use Rattle.kilim_run_state.specs.declared.value.Object.{Object as HeapObject}
use Rattle.kilim_program.specs.declared.value.Value.{Value}
use Rattle.kilim_program.specs.declared.value.Value.TheVariants as value
use Rattle.kilim_program.specs.declared.verified.VType.{VType}
use Rattle.kilim_program.specs.declared.verified.VType.TheVariants.{Top, Int, Long, Null, UninitThis, Uninit, Object}
use Rattle.kilim_program.specs.Program.{Program}
use Rattle.kilim_run_state.specs.Machine.{Objects, Activation}
use Rattle.kilim_program.specs.BuiltIn.{class_type}
use Rattle.kilim_program.specs.Names.{method_at, field_of}
use Rattle.kilim_program.specs.Members.{object_fields}
use Rattle.kilim_program.specs.Same.{is_constructor}
use Rattle.kilim_program.specs.Members.{named_type}
use Rattle.kilim_run_machine.specs.Moves.{push_value}
use Rattle.kilim_type_spec.specs.Step.{vtype, made_at, peek, class_vtype}
use Rattle.kilim_type_sound.specs.Fits.{Classes, Typing, Wanted, is_of, is_made, refers, has_type, have_types, Holds, is_value_of, FieldFits, FieldsFit, ContentFits, ObjectFits, HeapFits, Awaited, Nothing, AValue, AReference, StackFits, FrameFits, result_awaited, result_of, BelowFit, FramesFit, StandsAtCall, Fits}
use Rattle.kilim_program.specs.Lengths.{is_reference_type}
use Rattle.kilim_type_sound.specs.Sound.{argument_types}
use Rattle.kilim_type_sound.specs.Facts.{Facts}
use Rattle.kilim_type_sound.specs.Law.{with_class, Extends, AnswersFit, AllAnswersFit, BeginningsFit}
use Rattle.kilim_type_sound.proofs.Maps.{put_there, put_other}
use Rattle.kilim_type_sound.proofs.Steps.{value_comes_by, reference_comes_by, entered_fits, vtype_set}

module _ (p : Program) (of more : Classes) (grows : Extends of more) where
  of_grown : (ty : Ty) (o q : Option Ty) → ((c : Ty) → o ≡ Some c → q ≡ Some c) → is_of p o ty ≡ true → is_of p q ty ≡ true
  of_grown ty None q g e = absurd (cc)
  of_grown ty (Some c) q g e = subst (λ (z : Option Ty). is_of p z ty ≡ true) (sym (g c refl)) e

  made_grown : (k : Option ClassId) (o q : Option Ty) → ((c : Ty) → o ≡ Some c → q ≡ Some c) → is_made p o k ≡ true → is_made p q k ≡ true
  made_grown None o q g e = absurd (cc)
  made_grown (Some class) o q g e = of_grown (class_type class.0) o q g e

  refers_grown : (m : Method) (t : VType) (o q : Option Ty) → ((c : Ty) → o ≡ Some c → q ≡ Some c) → refers p m t o ≡ true → refers p m t q ≡ true
  refers_grown m (Object ty) o q g e = of_grown ty o q g e
  refers_grown m UninitThis o q g e = of_grown (class_type m.owner.0) o q g e
  refers_grown m (Uninit at) o q g e = made_grown (made_at m.code at) o q g e
  refers_grown m Top o q g e = absurd (cc)
  refers_grown m Int o q g e = absurd (cc)
  refers_grown m Long o q g e = absurd (cc)
  refers_grown m Null o q g e = absurd (cc)

  pub type_grown : (m : Method) (t : VType) (v : Value) → has_type p m of t v ≡ true → has_type p m more t v ≡ true
  type_grown m t (value.Int x) e = e
  type_grown m t (value.Long x) e = e
  type_grown m t value.Null e = e
  type_grown m t (value.Ref n) e = refers_grown m t (of n) (more n) (grows n) e
  type_grown m t (value.Text u) e = e
  type_grown m t (value.Box x) e = e
  type_grown m t value.Fiber e = e

  types_grown : (m : Method) (ts : List VType) (vs : List Value) → have_types p m of ts vs ≡ true → have_types p m more ts vs ≡ true
  types_grown m [] [] e = refl
  types_grown m [] (v ∷ vs) e = absurd (cc)
  types_grown m (t ∷ ts) [] e = absurd (cc)
  types_grown m (t ∷ ts) (v ∷ vs) e =
      let es = and_parts (has_type p m of t v) (have_types p m of ts vs) e in
      and_from (has_type p m more t v) (have_types p m more ts vs) (type_grown m t v es.0) (types_grown m ts vs es.1)

  holds_grown : (m : Method) (t : VType) (o : Option Value) → Holds p m of t o → Holds p m more t o
  holds_grown m Top o e = tt
  holds_grown m Int None e = e
  holds_grown m Long None e = e
  holds_grown m Null None e = e
  holds_grown m UninitThis None e = e
  holds_grown m (Uninit q) None e = e
  holds_grown m (Object ty) None e = e
  holds_grown m Int (Some v) e = type_grown m Int v e
  holds_grown m Long (Some v) e = type_grown m Long v e
  holds_grown m Null (Some v) e = type_grown m Null v e
  holds_grown m UninitThis (Some v) e = type_grown m UninitThis v e
  holds_grown m (Uninit q) (Some v) e = type_grown m (Uninit q) v e
  holds_grown m (Object ty) (Some v) e = type_grown m (Object ty) v e

  stack_grown : (m : Method) (w : Awaited) (ts : List VType) (vs : List Value) → StackFits p m of w ts vs → StackFits p m more w ts vs
  stack_grown m Nothing ts vs e = types_grown m ts vs e
  stack_grown m (AValue t) [] vs e = absurd e
  stack_grown m (AReference c) [] vs e = absurd e
  stack_grown m (AValue t) (u ∷ ts) vs e = (e.0, e.1, types_grown m ts vs e.2)
  stack_grown m (AReference c) (u ∷ ts) vs e = (e.0, types_grown m ts vs e.1)

  module _ (typing : Typing) (live : Wanted) where
    pub frame_grown : (w : Awaited) (a : Activation) → FrameFits p typing live of w a → FrameFits p typing live more w a
    frame_grown w a f = record {
      method = f.method;
      there = f.there;
      code = f.code;
      stands = f.stands;
      locals = record { room = f.locals.room; slots = λ k l. holds_grown f.method (peek (typing a.method a.place).locals k) (slice_get a.locals k) (f.locals.slots k l) };
      stack = stack_grown f.method w (typing a.method a.place).stack a.stack f.stack;
    }

    stands_grown : (a : Activation) → StandsAtCall p typing live of a → StandsAtCall p typing live more a
    stands_grown a s = record {
      method = s.method;
      there = s.there;
      code = s.code;
      call = s.call;
      here = s.here;
      behind = s.behind;
      locals = record { room = s.locals.room; slots = λ k l. holds_grown s.method (peek (typing a.method s.call.0).locals k) (slice_get a.locals k) (s.locals.slots k l) };
    }

    pub below_grown : (r : Option Ty) (as1 : List Activation) → BelowFit p typing live of r as1 → BelowFit p typing live more r as1
    below_grown r [] f = tt
    below_grown r (a ∷ as1) f = (frame_grown (result_awaited r) a f.0, stands_grown a f.1, below_grown (result_of (method_at p a.method)) as1 f.2)

    pub frames_grown : (w : Awaited) (as1 : List Activation) → FramesFit p typing live of w as1 → FramesFit p typing live more w as1
    frames_grown w [] f = tt
    frames_grown w (a ∷ as1) f = (frame_grown w a f.0, below_grown (result_of (method_at p a.method)) as1 f.1)

  -- ---- objects

  value_grown : (ty : Ty) (v : Value) → is_value_of p of ty v ≡ true → is_value_of p more ty v ≡ true
  value_grown ty (value.Int x) e = e
  value_grown ty (value.Long x) e = e
  value_grown ty value.Null e = e
  value_grown ty (value.Ref n) e = of_grown ty (of n) (more n) (grows n) e
  value_grown ty (value.Text u) e = e
  value_grown ty (value.Box x) e = e
  value_grown ty value.Fiber e = e

  all_grown : (ty : Ty) (vs : List Value) → list_all (is_value_of p of ty) vs ≡ true → list_all (is_value_of p more ty) vs ≡ true
  all_grown ty [] e = refl
  all_grown ty (v ∷ vs) e =
      let es = and_parts (is_value_of p of ty v) (list_all (is_value_of p of ty) vs) e in
      and_from (is_value_of p more ty v) (list_all (is_value_of p more ty) vs) (value_grown ty v es.0) (all_grown ty vs es.1)

  field_grown : (o : Option Field) (v : Value) → FieldFits p of o v → FieldFits p more o v
  field_grown None v e = e
  field_grown (Some field) v e = value_grown field.ty v e

  fields_grown : (fs : List FieldId) (es : List (FieldId × Value)) → FieldsFit p of fs es → FieldsFit p more fs es
  fields_grown [] [] e = tt
  fields_grown [] (x ∷ es) e = absurd e
  fields_grown (x ∷ fs) [] e = absurd e
  fields_grown (x ∷ fs) (y ∷ es) e = (e.0, field_grown (field_of p x) y.1 e.1, fields_grown fs es e.2)

  content_grown : (d : ℕ) (b : Base) (o : HeapObject) → ContentFits p of d b o → ContentFits p more d b o
  content_grown zero (base.Class c) o e = (e.0, fields_grown (object_fields p c) o.fields e.1, e.2)
  content_grown (suc d) b o e = (e.0, all_grown (record { dims = d; base = b }) o.elements e.1, e.2)
  content_grown zero base.Bool o e = e
  content_grown zero base.Byte o e = e
  content_grown zero base.Char o e = e
  content_grown zero base.Short o e = e
  content_grown zero base.Int o e = e
  content_grown zero base.Long o e = e

  pub object_grown : (o : HeapObject) → ObjectFits p of o → ObjectFits p more o
  object_grown o e = content_grown o.class.dims o.class.base o e

  pub came : (h after : Objects) → HeapFits p of h → ((n : ℕ) (c : Ty) → more n ≡ Some c → is_reference_type c.dims c.base ≡ true) →
      ((n : ℕ) (o : HeapObject) → get after n ≡ Some o → (get h n ≡ Some o) ⊎ ((more n ≡ Some o.class) × ObjectFits p more o)) → HeapFits p more after
  came h after heap proper each = record {
    proper = proper;
    classes = λ n o e. elim (each n o e) [ inl g ↦ grows n o.class (heap.classes n o g) | inr g ↦ g.0 ];
    objects = λ n o e. elim (each n o e) [ inl g ↦ object_grown o (heap.objects n o g) | inr g ↦ g.1 ];
  }

reference_class : (p : Program) (of : Classes) (d : ℕ) (b : Base) (o : HeapObject) → ContentFits p of d b o → is_reference_type d b ≡ true
reference_class p of zero (base.Class c) o e = refl
reference_class p of (suc d) b o e = refl
reference_class p of zero base.Bool o e = absurd e
reference_class p of zero base.Byte o e = absurd e
reference_class p of zero base.Char o e = absurd e
reference_class p of zero base.Short o e = absurd e
reference_class p of zero base.Int o e = absurd e
reference_class p of zero base.Long o e = absurd e

module _ (p : Program) (typing : Typing) (live : Wanted) (facts : Facts p) where
  pub grown_by : (of : Classes) (n : ℕ) (c : Ty) → of n ≡ None → Extends of (with_class of n c)
  grown_by of n c e q d k = by (eqb n q) refl
    where
      by : (z : Bool) → eqb n q ≡ z → cond z (Some c) (of q) ≡ Some d
      by true z = absurd (let s = subst (λ (j : ℕ). of j ≡ None) (eqb-true n q z) e in cc)
      by false z = k

  push_reference : (of : Classes) (c : Option Ty) (v : Value) → ((m : Method) (t : VType) → refers p m t c ≡ true → has_type p m of t v ≡ true) → (frames : List Activation) → FramesFit p typing live of (AReference c) frames → FramesFit p typing live of Nothing (push_value v frames)
  push_reference of c v h [] f = tt
  push_reference of c v h (a ∷ as1) f = (reference_comes_by p typing live facts.order of a c v h f.0, f.1)

  push_typed : (of : Classes) (ty : Ty) (w : Method) (v : Value) → has_type p w of (vtype ty) v ≡ true → (frames : List Activation) → FramesFit p typing live of (AValue (vtype ty)) frames → FramesFit p typing live of Nothing (push_value v frames)
  push_typed of ty w v h [] f = tt
  push_typed of ty w v h (a ∷ as1) f = (value_comes_by p typing live facts.order of a (vtype ty) w v (vtype_set ty) h f.0, f.1)

  -- the heap with one more object
  pub heap_added : (of : Classes) (object : HeapObject) (h : Objects) (n : ℕ) → of n ≡ None → ObjectFits p of object → HeapFits p of h → HeapFits p (with_class of n object.class) (insert h n object)
  heap_added of object h n e o heap =
      let more = with_class of n object.class in
      let grows = grown_by of n object.class e in
      let here : more n ≡ Some object.class = ap (λ (z : Bool). cond z (Some object.class) (of n)) (eq-eqb n n refl) in
      came p of more grows h (insert h n object) heap (proper more here) (each more here grows)
    where
      proper : (more : Classes) → more n ≡ Some object.class → (q : ℕ) (c : Ty) → with_class of n object.class q ≡ Some c → is_reference_type c.dims c.base ≡ true
      proper more here q c k = by (eqb n q) k
        where
          by : (z : Bool) → cond z (Some object.class) (of q) ≡ Some c → is_reference_type c.dims c.base ≡ true
          by true k = subst (λ (ty : Ty). is_reference_type ty.dims ty.base ≡ true) (let s : object.class ≡ c = cc in s) (reference_class p of object.class.dims object.class.base object o)
          by false k = heap.proper q c k

      each : (more : Classes) → with_class of n object.class n ≡ Some object.class → Extends of (with_class of n object.class) → (q : ℕ) (x : HeapObject) → get (insert h n object) q ≡ Some x → (get h q ≡ Some x) ⊎ ((with_class of n object.class q ≡ Some x.class) × ObjectFits p (with_class of n object.class) x)
      each more here grows q x g = elim (eqb_tells n q) [
        | inl z ↦ inr (let s : object ≡ x = let a = put_there h n object in let b = subst (λ (j : ℕ). get (insert h n object) j ≡ Some x) (sym z.1) g in cc in (
          subst (λ (j : ℕ). with_class of n object.class j ≡ Some x.class) z.1 (subst (λ (y : HeapObject). with_class of n object.class n ≡ Some y.class) s here),
          subst (λ (y : HeapObject). ObjectFits p (with_class of n object.class) y) s (object_grown p of (with_class of n object.class) grows object o),
        ))
        | inr z ↦ inl (sym (put_other h n object q (λ w. z.1 (sym w))) ∙ g)
      ]

  added : (of : Classes) (object : HeapObject) (frames : List Activation) (h : Objects) (n : ℕ) → of n ≡ None → ObjectFits p of object → FramesFit p typing live of (AReference (Some object.class)) frames → HeapFits p of h →
      Fits p typing live (with_class of n object.class) (push_value (value.Ref n) frames) (insert h n object)
  added of object frames h n e o fs heap =
      let more = with_class of n object.class in
      let grows = grown_by of n object.class e in
      let here : more n ≡ Some object.class = ap (λ (z : Bool). cond z (Some object.class) (of n)) (eq-eqb n n refl) in
      record {
        frames = push_reference more (Some object.class) (value.Ref n) (λ m t r. subst (λ (k : Option Ty). refers p m t k ≡ true) (sym here) r) frames (frames_grown p of more grows typing live (AReference (Some object.class)) frames fs);
        heap = heap_added of object h n e o heap;
      }

  same_callee : (id : MethodId) (a b : Method) → method_at p id ≡ Some a → method_at p id ≡ Some b → a ≡ b
  same_callee id a b e d = cc

  pub answers_fit : AnswersFit p typing live
  answers_fit = record {
    added = λ of object frames h n e m. added of object frames h n e m.0 m.1 m.2;
    opened = λ of frames h box m. record { frames = push_reference of (named_type p (codes "kilim/Mailbox")) (value.Box box) (λ k t r. r) frames m.0; heap = m.1 };
    done = λ of id args frames h callee there none m. record {
      frames = subst (λ (r : Option Ty). FramesFit p typing live of (result_awaited r) frames) (ap (λ (k : Method). k.result) (same_callee id m.callee callee m.there there) ∙ none) m.frames;
      heap = m.heap;
    };
    answered = λ of more id args frames h callee ty v there some grows typed m after heap. record {
      frames = push_typed more ty callee v typed frames (frames_grown p of more grows typing live (AValue (vtype ty)) frames
          (subst (λ (r : Option Ty). FramesFit p typing live of (result_awaited r) frames) (ap (λ (k : Method). k.result) (same_callee id m.callee callee m.there there) ∙ some) m.frames));
      heap = heap;
    };
    gone = λ of frames h after within f. record {
      frames = f.frames;
      heap = record { proper = f.heap.proper; classes = λ n o e. f.heap.classes n o (within n o e); objects = λ n o e. f.heap.objects n o (within n o e) };
    };
    came = λ of more h after grows heap proper each. came p of more grows h after heap proper each;
  }

pub all_answers_fit : AllAnswersFit
all_answers_fit p typing live facts = answers_fit p typing live facts

pub beginnings_fit : BeginningsFit
beginnings_fit p typing live of facts verified id m n h there code inst none is heap = record {
  frames = (entered_fits p typing live verified facts.order of id m (value.Ref n ∷ []) there code arguments, tt);
  heap = heap;
}
  where
    by : (z : Bool) → have_types p m of (cond z UninitThis (class_vtype m.owner) ∷ []) (value.Ref n ∷ []) ≡ true
    by true = and_from (is_of p (of n) (class_type m.owner.0)) true is refl
    by false = and_from (is_of p (of n) (class_type m.owner.0)) true is refl

    arguments : have_types p m of (argument_types m) (value.Ref n ∷ []) ≡ true
    arguments = subst (λ (tys : List Ty). have_types p m of ((cond m.is_static [] (cond (is_constructor m) UninitThis (class_vtype m.owner) ∷ [])) ++ map vtype tys) (value.Ref n ∷ []) ≡ true) (sym none)
        (subst (λ (z : Bool). have_types p m of ((cond z [] (cond (is_constructor m) UninitThis (class_vtype m.owner) ∷ [])) ++ []) (value.Ref n ∷ []) ≡ true) (sym inst) (by (is_constructor m)))
