-- What is known of the thread of a course in verified code whose threads keep what they reach.
use Rattle.std.proofs.Common.{◌≡◌, ◌≢◌, cond, eqb, inl, inr, ℕ, zero, suc, ◌<◌, Bool, true, false, List, [], ◌∷◌, Option, Some, None, refl, sym, ap, subst, ◌∙◌, ltb-true}
use Rattle.std.specs.Prelude.{codes, is_some, length}
use Rattle.std.specs.FinMap.{get}
use Rattle.std.proofs.lemmas.Bool.{and_parts, false≢true}
use Rattle.std.proofs.lemmas.Option.{same_Some, slice_get_within}
use Rattle.kilim_program.specs.declared.class.Class.{Class}
use Rattle.kilim_program.specs.declared.class.Method.{Method}
use Rattle.kilim_program.specs.declared.instr.Instr.{Instr}
use Rattle.kilim_program.specs.declared.names.ClassId.{ClassId}
use Rattle.kilim_program.specs.declared.names.MethodId.{MethodId}
use Rattle.kilim_program.specs.declared.ty.Base.{Base}
use Rattle.kilim_program.specs.declared.ty.Base.TheVariants as base
use Rattle.kilim_program.specs.declared.ty.Ty.{Ty}
use Rattle.kilim_program.specs.declared.value.Value.{Value}
use Rattle.kilim_program.specs.declared.value.Value.TheVariants as value
use Rattle.kilim_program.specs.declared.verified.VType.{VType}
use Rattle.kilim_program.specs.declared.verified.VType.TheVariants.{Top, Int, Long, Null, UninitThis, Uninit, Object}
use Rattle.kilim_program.specs.BuiltIn.{class_type}
use Rattle.kilim_program.specs.Keeps.{has_base}
use Rattle.kilim_program.specs.Lengths.{fetched, first_place}
use Rattle.kilim_program.specs.Names.{class_at, method_at}
use Rattle.kilim_program.specs.Program.{Program}
use Rattle.kilim_isolation_laws.proofs.typed_threads.fine.Fine.{fitting_is_fine}
use Rattle.kilim_isolation_laws.proofs.typed_threads.fine.Shown.{no_fiber_class}
use Rattle.kilim_isolation_laws.specs.typed_threads.fine.Typed.{IsVerified, TopIsThere, frames_of}
use Rattle.kilim_type_sound.proofs.Grounds.{facts_hold}
use Rattle.kilim_type_sound.proofs.Narrowed.{narrows}
use Rattle.kilim_type_sound.proofs.Table.{table_fits}
use Rattle.kilim_type_sound.proofs.Walk.{stands_at}
use Rattle.kilim_type_sound.specs.Sound.{CallFits, EffectFits, argument_types}
use Rattle.kilim_type_sound.specs.Fits.{AreThere, Classes, ContentFits, HeapFits, IsThere, Typing, Wanted, has_objects, has_type, have_types, is_made, refers}
use Rattle.kilim_run_state.specs.declared.value.Object.{Object as HeapObject}
use Rattle.kilim_run_machine.specs.Does.{does}
use Rattle.kilim_run_machine.specs.Effect.{Calls, Effect, Stuck, Throws}
use Rattle.kilim_run_machine.specs.Raising.{is_throwable}
use Rattle.kilim_run_state.specs.declared.cause.EndCause.{EndCause}
use Rattle.kilim_program.specs.Members.{named_type}
use Rattle.kilim_run_state.specs.Machine.{Objects}
use Rattle.kilim_program.specs.Members.{execute_of, is_concrete}
use Rattle.kilim_run_machine.specs.Natives.{native_of}
use Rattle.kilim_run_model.specs.Kept.{Kept}
use Rattle.kilim_run_model.specs.Reach.{Below, Here, Liveness, Names, OptionNames, SomeNames}
use Rattle.kilim_run_model.specs.State.{Alive, Ended, Setting, Thread as ModelThread, is_fit}
use Rattle.kilim_type_spec.specs.Step.{Types, made_at, made_by}
use Rattle.kilim_type_spec.specs.Typed.{edges}
use Rattle.kilim_isolation_laws.proofs.typed_threads.Threads.{threads_are_typed}
use Rattle.kilim_isolation_laws.specs.typed_threads.Typed.{IsTyped, StacksAreThere}
use Rattle.kilim_fiber_laws.proofs.courses.GoesOn.{goes_on}
use Rattle.kilim_fiber_laws.proofs.courses.Receives.{receives_typed}
use Rattle.kilim_fiber_laws.proofs.courses.Takes.{takes_typed}
use Rattle.kilim_fiber_laws.proofs.courses.Unstuck.{is_lost, not_lost, step_not}
use Rattle.kilim_fiber_laws.proofs.courses.Roomy.{gives_of, low_of, room_of}
use Rattle.kilim_fiber_laws.proofs.courses.Executes.{executes, has_execute, takes_object}
use Rattle.kilim_fiber_laws.proofs.courses.Few.{few_on}
use Rattle.kilim_fiber_laws.specs.courses.Law.{HasFew, IsOfCourse, Rest}
use Rattle.kilim_fiber_spec.specs.lone.Law.{lone_at}
use Rattle.kilim_fiber_spec.specs.Acts.{Lost, World, asks, with_heap}
use Rattle.kilim_fiber_spec.specs.Links.{Forms}
use Rattle.kilim_fiber_spec.specs.Rows.{Clean, Receives, OldHeap, is_old_base}
use Rattle.kilim_fiber_spec.specs.Serves.{From, Known}
use Rattle.kilim_fiber_spec.specs.Thread.{Frame, Run, Stop, Thread, code_in, fetch, own_in, own_of, push, step, steps, At, raised_behind}

-- ---- what stacks name is there

named_there : (h : Objects) (vs : List Value) → ((n : ℕ) → SomeNames vs n → (o : HeapObject) × (get h n ≡ Some o)) → AreThere h vs
named_there h [] e = tt
named_there h (v ∷ vs) e = (by v (λ n s. e n (inl s)), named_there h vs (λ n s. e n (inr s)))
  where
    by : (v : Value) → ((n : ℕ) → Names v n → (o : HeapObject) × (get h n ≡ Some o)) → IsThere h v
    by (value.Ref n) e = e n refl
    by (value.Int x) e = tt
    by (value.Long x) e = tt
    by value.Null e = tt
    by (value.Text units) e = tt
    by (value.Box box) e = tt
    by value.Fiber e = tt

kept_stacks : (live : Liveness) (set : Setting) → Kept live set → StacksAreThere set
kept_stacks live set kept t c last l lone quiet = by l.thread (λ n names. there n n names (Here refl))
  where
    there : (n x : ℕ) → OptionNames live (Some l.thread) l.kept n → Below l.heap n x → (o : HeapObject) × (get l.heap x ≡ Some o)
    there = (kept t c last l lone quiet).there

    by : (th : ModelThread) → ((n : ℕ) → OptionNames live (Some th) l.kept n → (o : HeapObject) × (get l.heap n ≡ Some o)) → TopIsThere l.heap (frames_of th)
    by (Ended cause) e = tt
    by (Alive [] done boxes) e = tt
    by (Alive (top ∷ below) done boxes) e = named_there l.heap top.stack (λ n s. e n (inl (inl s)))

-- ---- a class that has objects is there

class_there : (p : Program) (c : ClassId) → has_objects p c ≡ true → c.0 < length p.classes
class_there p c h = by (class_at p c) refl (and_parts (is_concrete (class_at p c)) _ h).0
  where
    by : (o : Option Class) → class_at p c ≡ o → is_concrete o ≡ true → c.0 < length p.classes
    by None e is = absurd (false≢true is)
    by (Some class) e is = slice_get_within p.classes c.0 class e

base_there : (p : Program) (b : Base) → has_base p b ≡ true → is_old_base p b
base_there p (base.Class c) h = ltb-true c.0 (length p.classes) h
base_there p base.Bool h = tt
base_there p base.Byte h = tt
base_there p base.Char h = tt
base_there p base.Short h = tt
base_there p base.Int h = tt
base_there p base.Long h = tt

content_old : (p : Program) (of : Classes) (o : HeapObject) (d : ℕ) (b : Base) → ContentFits p of d b o → is_old_base p b
content_old p of o zero (base.Class c) f = class_there p c f.0
content_old p of o zero base.Bool f = absurd f
content_old p of o zero base.Byte f = absurd f
content_old p of o zero base.Char f = absurd f
content_old p of o zero base.Short f = absurd f
content_old p of o zero base.Int f = absurd f
content_old p of o zero base.Long f = absurd f
content_old p of o (suc n) b f = base_there p b f.2

heap_old : (p : Program) (of : Classes) (h : Objects) → HeapFits p of h → OldHeap p h
heap_old p of h f n o e = content_old p of o o.class.dims o.class.base (f.objects n o e)

-- ---- no fiber is of a type

module _ (p : Program) (none : named_type p (codes "kilim/Fiber") ≡ None) (m : Method) (of : Classes) where
  no_fiber : (t : VType) → has_type p m of t value.Fiber ≡ true → ⊥
  no_fiber t e = never t (sym (ap (refers p m t) none) ∙ e)
    where
      never : (t : VType) → refers p m t None ≡ true → ⊥
      never (Object ty) e = false≢true e
      never UninitThis e = false≢true e
      never (Uninit at) e = made (made_at m.code at) e
        where
          made : (o : Option ClassId) → is_made p None o ≡ true → ⊥
          made None e = false≢true e
          made (Some c) e = false≢true e
      never Top e = false≢true e
      never Int e = false≢true e
      never Long e = false≢true e
      never Null e = false≢true e

  stack_clean : (ts : List VType) (vs : List Value) → have_types p m of ts vs ≡ true → Clean vs
  stack_clean [] [] e = tt
  stack_clean (t ∷ ts) [] e = tt
  stack_clean [] (v ∷ vs) e = absurd (false≢true e)
  stack_clean (t ∷ ts) (v ∷ vs) e =
      let parts = and_parts (has_type p m of t v) (have_types p m of ts vs) e in
      (λ same. no_fiber t (subst (λ (z : Value). has_type p m of t z ≡ true) same parts.0), stack_clean ts vs parts.1)

-- ---- places of `new`

made_there : (es : List (ℕ × Instr)) (end at : ℕ) (i : Instr) (next : ℕ) → fetched es end at ≡ Some (i, next) → made_at es at ≡ made_by i
made_there [] end at i next e = absurd (cc)
made_there (x ∷ es) end at i next e = by (eqb x.0 at) e (made_there es end at i next)
  where
    by : (z : Bool) → cond z (Some (x.1, first_place es end)) (fetched es end at) ≡ Some (i, next) → (fetched es end at ≡ Some (i, next) → made_at es at ≡ made_by i) → cond z (made_by x.1) (made_at es at) ≡ made_by i
    by true e again = let pair : (x.1, first_place es end) ≡ (i, next) = cc in ap (λ (y : Instr × ℕ). made_by y.0) pair
    by false e again = again e

-- ---- all states

steps_last : (set : Setting) (n : ℕ) (t : Thread) → steps set n (step set t) ≡ step set (steps set n t)
steps_last set zero t = refl
steps_last set (suc n) t = steps_last set n (step set t)

all_of_course : (set : Setting) (n : ℕ) (t : Thread) → IsOfCourse set t → IsOfCourse set (steps set n t)
all_of_course set zero t is = is
all_of_course set (suc n) t is = all_of_course set n (step set t) (goes_on set t is)

all_few : (set : Setting) (n : ℕ) (t : Thread) → HasFew t → HasFew (steps set n t)
all_few set zero t few = few
all_few set (suc n) t few = all_few set n (step set t) (few_on set t few)

module _ (set : Setting) (typing : Typing) (wanted : Wanted) (live : Liveness) (is : IsVerified set typing wanted) (main : is_fit set ≡ true) (kept : Kept live set) where
  none_named : named_type set.program (codes "kilim/Fiber") ≡ None
  none_named = no_fiber_class set.program is.keeps is.form

  typed_at : (m : MethodId) (p : ℕ) (l s : List Value) (x : Value) (b : List Frame) (w : World) → IsOfCourse set (Run m p l s x b w) → IsTyped set typing wanted (lone_at m p l s b w)
  typed_at m p l s x b w here = threads_are_typed set typing wanted is main (kept_stacks live set kept) w.task here.0 here.1 (lone_at m p l s b w) here.2 here.3

  stack_at : (m : MethodId) (p : ℕ) (l s : List Value) (x : Value) (b : List Frame) (w : World) → IsOfCourse set (Run m p l s x b w) → AreThere w.heap s
  stack_at m p l s x b w here = kept_stacks live set kept w.task here.0 here.1 (lone_at m p l s b w) here.2 here.3

  record Standing (m : MethodId) (p : ℕ) (l s : List Value) (w : World) : Type 0 where
    there : (i : Instr) × (to : ℕ) × (fetch set.program m p ≡ Some (i, to))
    old : OldHeap set.program w.heap
    clean : Clean s
    sound : (i : Instr) (to : ℕ) → fetch set.program m p ≡ Some (i, to) → does set.program (own_of set.program m) i to l s w.heap ≢ Stuck
    receives : (i : Instr) (to : ℕ) → fetch set.program m p ≡ Some (i, to) → Receives set.program i s w.heap
    calls : (i : Instr) (to q : ℕ) (l2 s2 args : List Value) (heap : Objects) (c : MethodId) → fetch set.program m p ≡ Some (i, to) → does set.program (own_of set.program m) i to l s w.heap ≡ Calls c args q l2 s2 heap
        → (callee : Method) × (of : Classes) × (method_at set.program c ≡ Some callee) × (have_types set.program callee of (argument_types callee) args ≡ true)
    throws : (i : Instr) (to n : ℕ) (c : ClassId) (why : EndCause) → fetch set.program m p ≡ Some (i, to) → does set.program (own_of set.program m) i to l s w.heap ≡ Throws n c why → c.0 < length set.program.classes

  standing : (m : MethodId) (p : ℕ) (l s : List Value) (x : Value) (b : List Frame) (w : World) → IsOfCourse set (Run m p l s x b w) → Standing m p l s w
  standing m p l s x b w here =
      let typed = threads_are_typed set typing wanted is main (kept_stacks live set kept) w.task here.0 here.1 (lone_at m p l s b w) here.2 here.3 in
      let fits = typed.is.fits in
      let top = fits.frames.0 in
      let effect : (i : Instr) (to : ℕ) → fetch set.program m p ≡ Some (i, to) → (g : Types) × EffectFits set.program top.method typed.of (wanted m) to l w.heap (edges i to) g (does set.program (own_of set.program m) i to l s w.heap) = λ i to f.
      let own : fetched top.method.code top.method.code_length p ≡ Some (i, to) = ap (λ (o : Option Method). code_in o p) (sym top.there) ∙ f in
      let well = is.verified.typed m top.method top.there top.code in
      let at = stands_at set.program top.method (typing m) well p i to own in
      let effect = table_fits set.program (facts_hold set.program is.keeps) narrows top.method typed.of w.heap fits.heap (wanted m) p to (typing m p) at.after l s i
      (record { wants = is.verified.wants m top.method top.there p (i, to) own; locals = top.locals; stack = top.stack; there = kept_stacks live set kept w.task here.0 here.1 (lone_at m p l s b w) here.2 here.3 })
      (made_there top.method.code top.method.code_length p i to own)
      (is.verified.proper m top.method top.there p (i, to) own)
      at.step in
      (at.after, subst (λ (z : Effect). EffectFits set.program top.method typed.of (wanted m) to l w.heap (edges i to) at.after z) (ap (λ (o : Option Method). does set.program (own_in o) i to l s w.heap) (sym top.there)) effect) in
      record {
        there = stands top.method top.there (fetched top.method.code top.method.code_length p) refl top.stands;
        old = heap_old set.program typed.of w.heap fits.heap;
        clean = stack_clean set.program none_named top.method typed.of (typing m p).stack s top.stack;
        receives = λ i to f.
            let own : fetched top.method.code top.method.code_length p ≡ Some (i, to) = ap (λ (o : Option Method). code_in o p) (sym top.there) ∙ f in
            let at = stands_at set.program top.method (typing m) (is.verified.typed m top.method top.there top.code) p i to own in
            receives_typed set.program (facts_hold set.program is.keeps).order top.method typed.of w.heap fits.heap p i (typing m p) at.after s top.stack at.step;
        sound = λ i to f e.
            let r = effect i to f in
            absurd (subst (λ (z : Effect). EffectFits set.program top.method typed.of (wanted m) to l w.heap (edges i to) r.0 z) e r.1);
        calls = λ i to q l2 s2 args heap c f e.
            let r = effect i to f in
            let called : CallFits set.program top.method typed.of (wanted m) to l w.heap (edges i to) r.0 c args q l2 s2 heap = subst (λ (z : Effect). EffectFits set.program top.method typed.of (wanted m) to l w.heap (edges i to) r.0 z) e r.1 in
            (called.callee, typed.of, called.there, called.arguments);
        throws = λ i to n c why f e.
            let r = effect i to f in
            let thrown : (typed.of n ≡ Some (class_type c.0)) × (is_throwable set.program c ≡ true) × IsThere w.heap (value.Ref n) = subst (λ (z : Effect). EffectFits set.program top.method typed.of (wanted m) to l w.heap (edges i to) r.0 z) e r.1 in
            let object = thrown.2 in
            let same : object.0.class ≡ class_type c.0 = same_Some object.0.class (class_type c.0) (sym (fits.heap.classes n object.0 object.1) ∙ thrown.0) in
            subst (λ (ty : Ty). is_old_base set.program ty.base) same (heap_old set.program typed.of w.heap fits.heap n object.0 object.1);
      }
    where
      stands : (method : Method) → method_at set.program m ≡ Some method → (o : Option (Instr × ℕ)) → fetched method.code method.code_length p ≡ o → is_some o ≡ true → (i : Instr) × (to : ℕ) × (fetch set.program m p ≡ Some (i, to))
      stands method at None e some = absurd (false≢true some)
      stands method at (Some found) e some = (found.0, found.1, ap (λ (o : Option Method). code_in o p) at ∙ e)

  module _ (W : Program) (marks : List (List Bool)) (form : Forms set W marks) (first : Thread) (begins : IsOfCourse set first) (few : HasFew first) (stands : first ≢ Stop Lost) (rest : Rest set W marks form (From set first)) where
    at_all : (t : Thread) → From set first t → IsOfCourse set t
    at_all t f = subst (λ (z : Thread). IsOfCourse set z) f.1 (all_of_course set f.0 first begins)

    few_at : (t : Thread) → From set first t → HasFew t
    few_at t f = subst HasFew f.1 (all_few set f.0 first few)

    execute : (f : MethodId) × (execute_of set.program set.main ≡ Some f)
    execute = has_execute set.program is.keeps is.form set.main main

    step_on : (t : Thread) → From set first t → is_lost t ≡ false → is_lost (step set t) ≡ false
    step_on (Stop o) f h = h
    step_on (Run m p l s x b w) f h =
        let k = standing m p l s x b w (at_all (Run m p l s x b w) f) in
        let e = executes set.program is.keeps is.form set.main main execute.0 execute.1 in
        step_not set execute.0 e.method execute.1 e.there m p k.there.1 k.there.0 l s x b w k.there.2 (k.sound k.there.0 k.there.1 k.there.2)
        (λ c args q l2 s2 heap d. not_lost (asks set (with_heap w heap) Stop (λ after v. Run m q l2 (push v s2) x b after) (raised_behind set (At m q l2 s2 x ∷ b) (with_heap w heap)) (native_of set.program c) args) (rest.answers m p k.there.1 q k.there.0 l s l2 s2 args x b w heap c f k.there.2 d))

    none_lost : (n : ℕ) → is_lost (steps set n first) ≡ false
    none_lost zero = not_lost first stands
    none_lost (suc n) = subst (λ (z : Thread). is_lost z ≡ false) (sym (steps_last set n first)) (step_on (steps set n first) (n, refl) (none_lost n))

    unlost : (t : Thread) → From set first t → is_lost (step set t) ≡ false
    unlost t f = step_on t f (subst (λ (z : Thread). is_lost z ≡ false) f.1 (none_lost f.0))

    pub known : Known set W marks form (From set first)
    known = record {
      keeps = λ t f. (suc f.0, steps_last set f.0 first ∙ ap (step set) f.1);
      there = λ m p l s x b w f. (standing m p l s x b w (at_all (Run m p l s x b w) f)).there;
      unstuck = λ t f e. false≢true (sym (unlost t f) ∙ ap is_lost e);
      old_heap = λ m p l s x b w f. (standing m p l s x b w (at_all (Run m p l s x b w) f)).old;
      clean = λ m p to i l s x b w f e. record { clean = (standing m p l s x b w (at_all (Run m p l s x b w) f)).clean; receives = (standing m p l s x b w (at_all (Run m p l s x b w) f)).receives i to e };
      takes = λ m p to q i l s l2 s2 args x b w heap c f e d.
          let k = (standing m p l s x b w (at_all (Run m p l s x b w) f)).calls i to q l2 s2 args heap c e d in
          takes_typed set W marks form c k.0 k.2 k.1 args k.3;
      begins = λ c n e. takes_object set is.keeps is.form main W marks form c n e;
      ready = rest.ready;
      stack_there = λ m p l s x b w f. stack_at m p l s x b w (at_all (Run m p l s x b w) f);
      self_there = rest.selves;
      low = λ m p l s x b w f. let t = typed_at m p l s x b w (at_all (Run m p l s x b w) f) in low_of set typing wanted is t.of m p l s b w t.is;
      room = λ m p to i l s x b w f g. let t = typed_at m p l s x b w (at_all (Run m p l s x b w) f) in room_of set typing wanted is t.of m p l s b w t.is (stack_at m p l s x b w (at_all (Run m p l s x b w) f)) i to g;
      gives = λ m p to i l s x b w f g.
          let here = at_all (Run m p l s x b w) f in
          let t = typed_at m p l s x b w here in
          gives_of set live m p l s b w (kept w.task here.0 here.1 (lone_at m p l s b w) here.2 here.3) (fitting_is_fine set typing wanted t.of (lone_at m p l s b w) is t.is (stack_at m p l s x b w here)) (stack_at m p l s x b w here) i to g;
      throws = λ m p to i l s x b w n c why f e d. (standing m p l s x b w (at_all (Run m p l s x b w) f)).throws i to n c why e d;
      few_frames = λ m p l s x b w f. few_at (Run m p l s x b w) f;
    }
