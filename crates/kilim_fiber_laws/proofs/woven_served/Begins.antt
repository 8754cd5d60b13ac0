-- At its beginning a fiber does what its task does.
use Rattle.std.proofs.Common.{◌≡◌, ◌≢◌, ℕ, Bool, true, false, cond, List, [], ◌∷◌, length, Option, Some, None, refl, sym, ap, subst, ◌∙◌}
use Rattle.std.specs.Prelude.{◌&&◌, nat_le, not}
use Rattle.std.specs.FinMap.{empty, get, insert}
use Rattle.std.proofs.lemmas.Bool.{and_parts, false≢true}
use Rattle.std.proofs.lemmas.Option.{none-some, same_Some}
use Rattle.kilim_program.specs.declared.class.Method.{Method}
use Rattle.kilim_program.specs.declared.names.ClassId.{ClassId}
use Rattle.kilim_program.specs.declared.names.MethodId.{MethodId}
use Rattle.kilim_program.specs.declared.ty.Ty.{Ty}
use Rattle.kilim_program.specs.declared.value.Value.TheVariants.{Null, Ref}
use Rattle.kilim_program.specs.Names.{◌>>=◌, class_at, is_task, method_at}
use Rattle.kilim_program.specs.Program.{Program}
use Rattle.kilim_run_state.specs.declared.cause.EndCause.{EndCause}
use Rattle.kilim_run_state.specs.declared.cause.EndCause.TheVariants as cause
use Rattle.kilim_run_state.specs.declared.value.Object.{Object}
use Rattle.kilim_run_state.specs.declared.value.Token.{Token}
use Rattle.kilim_run_state.specs.Machine.{Objects}
use Rattle.kilim_program.specs.Members.{constructor_of, execute_of, is_concrete, is_own_constructor}
use Rattle.kilim_run_machine.specs.Moves.{entered}
use Rattle.kilim_run_state.specs.Objects.{new_object}
use Rattle.kilim_run_state.specs.Trees.{OfTask, built, with_objects}
use Rattle.kilim_isolation_laws.specs.Laws.{IsRunOfAccepted}
use Rattle.kilim_run_model.specs.declared.deed.Beginning.{Beginning}
use Rattle.kilim_run_model.specs.declared.deed.Beginning.TheVariants.{Boot, Begun}
use Rattle.kilim_run_model.specs.declared.deed.Deed.{Deed}
use Rattle.kilim_run_model.specs.Course.{lone_begun, lone_built, lone_in}
use Rattle.kilim_run_model.specs.Lone.{Lone}
use Rattle.kilim_run_model.specs.State.{Setting, begun_in, begun_on, class_of, execute_frames}
use Rattle.kilim_fiber_laws.specs.simulation.beginnings.Law.{ServesAlong}
use Rattle.kilim_fiber_laws.proofs.receivers.called.Begins as called
use Rattle.kilim_weave_spec.specs.Form.{WovenForm}
use Rattle.kilim_fiber_laws.proofs.woven_served.gives.Gives.{Hands}
use Rattle.kilim_fiber_laws.proofs.woven_served.gives.Gives as gives
use Rattle.kilim_fiber_laws.proofs.woven_served.ready.Executes.{execute_same}
use Rattle.kilim_fiber_laws.specs.woven_served.ready.Law.{MayBegin, ServesTasks}
use Rattle.kilim_fiber_laws.proofs.receivers.Begins.{root_task, task_class}
use Rattle.kilim_fiber_spec.specs.Acts.{Lost, Over, Wants, World, ending, last, spending}
use Rattle.kilim_fiber_spec.specs.Acts as action
use Rattle.kilim_fiber_spec.specs.Fibers.{Woven_state, executes_on, new_fiber, wstarted}
use Rattle.kilim_fiber_spec.specs.Form.{is_pausable}
use Rattle.kilim_fiber_spec.specs.Links.{Forms}
use Rattle.kilim_fiber_spec.specs.Runs.{most_uncounted}
use Rattle.kilim_fiber_spec.specs.Thread.{Run, Stop, Thread, self_in, started, started_in}
use Rattle.kilim_fiber_laws.proofs.woven_served.Constructors.{constructor_is_same}
use Rattle.kilim_fiber_laws.specs.woven_served.Served.{constructing_in, first_fiber}
use Rattle.kilim_fiber_laws.proofs.receivers.states.Whole as states
use Rattle.kilim_fiber_laws.specs.receivers.states.Law.{constructing, first_thread, world_at}

self_own : (o : Option Method) → is_own_constructor o ≡ true → self_in o (Ref 0 ∷ []) ≡ Ref 0
self_own None e = absurd (false≢true e)
self_own (Some method) e = by method.is_static method.built_in e
  where
    by : (s z : Bool) → (not s && not z) ≡ true → cond s Null (Ref 0) ≡ Ref 0
    by false z e = refl
    by true z e = absurd (false≢true e)

-- a task that is over at its beginning isn't lost
ending_begins : (set : Setting) (w : World) (why : EndCause) → MayBegin set (ending set w Stop why)
ending_begins set w why = by w.deeds
  where
    by : (ds : List Deed) → MayBegin set (elim ds [ [] ↦ Stop (Wants (action.Ends why) w) | d ∷ rest ↦ last set w Stop why rest ])
    by [] = λ e. cc
    by (d ∷ []) = λ e. cc
    by (d ∷ e ∷ rest) = λ e. cc

module _ (set : Setting) (run : IsRunOfAccepted set) (W : Program) (marks : List (List Bool)) (woven : WovenForm set.program W marks) (form : Forms set W marks) (tasks : ServesTasks set W marks form) (k : ℕ) (ds : List Deed) (pauses : List ℕ) where
  pub record Starts (first : Thread) (x : Woven_state) : Type 0 where
    pub may : MayBegin set first
    pub hands : Hands set first
    pub serves : ServesAlong set W marks form most_uncounted first x

  not_pausable : (c : MethodId) → (is_pausable set.program c ≡ true → ⊥) → is_pausable set.program c ≡ false
  not_pausable c never = by (is_pausable set.program c) refl
    where
      by : (z : Bool) → is_pausable set.program c ≡ z → is_pausable set.program c ≡ false
      by true e = absurd (never e)
      by false e = e

  -- ---- task 0

  boots_on : (o : Option MethodId) → constructor_of set.program set.main ≡ o → is_own_constructor (o >>= method_at set.program) ≡ true → (l : Lone) → lone_begun set Boot ≡ Some l → lone_in (insert empty 0 (new_object set.program set.main)) 1 (Some 0) (begun_on set.program o 0) ≡ Some l
      → Starts (constructing set (world_at k l ds []) o) (constructing_in set W marks (world_at k l ds []) pauses o)
  boots_on None is own l begun e = absurd (none-some l e)
  boots_on (Some c) is own l begun e =
      let at = states.constructs set k ds (insert empty 0 (new_object set.program set.main)) (Some c) own l e in
      let may : MayBegin set (constructing set (world_at k l ds []) (Some c)) = (Boot, begun ∙ ap (λ (z : Lone). Some z) (sym at.0), self_own (method_at set.program c) own) in
      record { may = may; hands = tt; serves = tasks.constructs c (world_at k l ds []) pauses (not_pausable c (called.constructs set run c is)) may }

  boots : (l : Lone) → lone_begun set Boot ≡ Some l → Starts (first_thread set Boot (world_at k l ds [])) (first_fiber set W marks Boot (world_at k l ds []) pauses)
  boots l e =
      let parts = and_parts (is_concrete (class_at set.program set.main)) _ run.main in
      let own = (and_parts (is_task set.program set.main) _ parts.1).1 in
      let there : class_at set.program set.main ≢ None = λ none. false≢true (sym (ap is_concrete none) ∙ parts.0) in
      subst (λ (o : Option MethodId). Starts (first_thread set Boot (world_at k l ds [])) (constructing_in set W marks (world_at k l ds []) pauses o)) (sym (constructor_is_same set.program W marks run.keeps run.form woven set.main there))
      (boots_on (constructor_of set.program set.main) refl own l e e)

  -- ---- a started task

  spent_begins : (w : World) (z : Bool) → MayBegin set (cond z (ending set w Stop cause.Spent) (ending set w Stop cause.Done))
  spent_begins w true = ending_begins set w cause.Spent
  spent_begins w false = ending_begins set w cause.Done

  spent_hands : (w : World) (z : Bool) → Hands set (cond z (ending set w Stop cause.Spent) (ending set w Stop cause.Done))
  spent_hands w true = gives.ended set w cause.Spent
  spent_hands w false = gives.ended set w cause.Done

  may_start : (shape : List Token) (heap : Objects) (n : ℕ) (c : MethodId) (o : Option Method) (l : Lone) → lone_begun set (Begun shape) ≡ Some l → lone_in heap n None (begun_in set.program c 0 o) ≡ Some l → MayBegin set (started_in set c 0 (world_at k l ds []) o) × Hands set (started_in set c 0 (world_at k l ds []) o)
  may_start shape heap n c None l begun e = absurd (none-some l e)
  may_start shape heap n c (Some method) l begun e = by method.built_in e
    where
      w : World
      w = world_at k l ds []

      by : (z : Bool) → lone_in heap n None (Some (cond z [] (entered set.program c (Ref 0 ∷ []) ∷ []))) ≡ Some l
          → MayBegin set (cond z (spending set (world_at k l ds []) Stop (ending set (world_at k l ds []) Stop cause.Done)) (Run c 0 (entered set.program c (Ref 0 ∷ [])).locals [] (Ref 0) [] (world_at k l ds [])))
          × Hands set (cond z (spending set (world_at k l ds []) Stop (ending set (world_at k l ds []) Stop cause.Done)) (Run c 0 (entered set.program c (Ref 0 ∷ [])).locals [] (Ref 0) [] (world_at k l ds [])))
      by true e = (spent_begins w (nat_le set.limits.steps w.done), spent_hands w (nat_le set.limits.steps w.done))
      by false e = subst (λ (z : Lone). lone_begun set (Begun shape) ≡ Some z → MayBegin set (Run c 0 (entered set.program c (Ref 0 ∷ [])).locals [] (Ref 0) [] (world_at k z ds [])) × Unit {0}) (same_Some _ l e) (λ b. ((Begun shape, b, refl), tt)) begun

  starts_on : (shape : List Token) (heap : Objects) (n : ℕ) (class : ClassId) → is_task set.program class ≡ true → (o : Option MethodId) → execute_of set.program class ≡ o → (l : Lone) → lone_begun set (Begun shape) ≡ Some l → lone_in heap n None (begun_on set.program o 0) ≡ Some l
      → Starts (started set 0 (world_at k l ds []) o) (wstarted set W marks 0 (world_at k l ds []) new_fiber pauses o)
  starts_on shape heap n class task None is l begun e = absurd (none-some l e)
  starts_on shape heap n class task (Some c) is l begun e =
      let m = may_start shape heap n c (method_at set.program c) l begun e in
      record { may = m.0; hands = m.1; serves = tasks.executes class c (world_at k l ds []) pauses task is m.0 }

  starts_in : (shape : List Token) (objects : List Object) → built set.program OfTask 0 shape ≡ Some objects → (l : Lone) → lone_begun set (Begun shape) ≡ Some l → (z : Option Object) → get (with_objects empty 0 objects) 0 ≡ z
      → lone_in (with_objects empty 0 objects) (length objects) None (begun_on set.program (z >>= λ (object : Object). class_of object.class.base >>= λ c. execute_of set.program c) 0) ≡ Some l
      → Starts (started set 0 (world_at k l ds []) (z >>= λ (object : Object). class_of object.class.base >>= λ c. execute_of set.program c)) (wstarted set W marks 0 (world_at k l ds []) new_fiber pauses (z >>= λ (object : Object). class_of object.class.base >>= λ c. execute_of W c))
  starts_in shape objects at l begun None there e = absurd (none-some l e)
  starts_in shape objects at l begun (Some object) there e =
      let t = task_class set run object.class (root_task set run shape objects at object there) in
      let same : class_of object.class.base ≡ Some t.class = ap (λ (ty : Ty). class_of ty.base) t.is in
      let old : (class_of object.class.base >>= λ c. execute_of set.program c) ≡ execute_of set.program t.class = ap (λ (o : Option ClassId). o >>= λ c. execute_of set.program c) same in
      let new : (class_of object.class.base >>= λ c. execute_of W c) ≡ execute_of set.program t.class = ap (λ (o : Option ClassId). o >>= λ c. execute_of W c) same ∙ execute_same set.program W marks run.keeps run.form woven t.class t.task in
      subst (λ (o : Option MethodId). Starts (started set 0 (world_at k l ds []) o) (wstarted set W marks 0 (world_at k l ds []) new_fiber pauses (class_of object.class.base >>= λ c. execute_of W c))) (sym old)
      (subst (λ (o : Option MethodId). Starts (started set 0 (world_at k l ds []) (execute_of set.program t.class)) (wstarted set W marks 0 (world_at k l ds []) new_fiber pauses o)) (sym new)
      (starts_on shape (with_objects empty 0 objects) (length objects) t.class t.task (execute_of set.program t.class) refl l begun
      (subst (λ (o : Option MethodId). lone_in (with_objects empty 0 objects) (length objects) None (begun_on set.program o 0) ≡ Some l) old e)))

  starts_from : (shape : List Token) (o : Option (List Object)) → built set.program OfTask 0 shape ≡ o → (l : Lone) → lone_begun set (Begun shape) ≡ Some l → lone_built set.program o ≡ Some l → Starts (first_thread set (Begun shape) (world_at k l ds [])) (first_fiber set W marks (Begun shape) (world_at k l ds []) pauses)
  starts_from shape None at l begun e = absurd (none-some l e)
  starts_from shape (Some objects) at l begun e =
      let heap = with_objects empty 0 objects in
      let same : l.heap ≡ heap = states.heap_is set k ds heap (length objects) (execute_frames set.program heap 0) l e in
      subst (λ (h : Objects). Starts (started set 0 (world_at k l ds []) (get h 0 >>= λ (object : Object). class_of object.class.base >>= λ c. execute_of set.program c)) (wstarted set W marks 0 (world_at k l ds []) new_fiber pauses (executes_on W h (Ref 0)))) (sym same)
      (starts_in shape objects at l begun (get heap 0) refl e)

  pub begins : (b : Beginning) (l : Lone) → lone_begun set b ≡ Some l → Starts (first_thread set b (world_at k l ds [])) (first_fiber set W marks b (world_at k l ds []) pauses)
  begins Boot l e = boots l e
  begins (Begun shape) l e = starts_from shape (built set.program OfTask 0 shape) refl l e e
