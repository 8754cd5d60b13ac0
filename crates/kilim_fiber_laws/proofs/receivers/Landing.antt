-- What is kept stays kept where something is raised or thrown: by the frames that are left, from the first that catches on.
use Rattle.std.proofs.Common.{◌≡◌, ◌≢◌, ℕ, suc, ◌≤◌, true, List, [], ◌∷◌, length, Option, Some, None, refl, sym, ap, subst, ◌∙◌, arith}
use Rattle.std.specs.FinMap.{get, insert}
use Rattle.kilim_program.specs.declared.class.Method.{Method}
use Rattle.kilim_program.specs.declared.instr.Instr.{Instr}
use Rattle.kilim_program.specs.declared.names.ClassId.{ClassId}
use Rattle.kilim_program.specs.declared.names.MethodId.{MethodId}
use Rattle.kilim_program.specs.declared.value.Value.{Value}
use Rattle.kilim_program.specs.declared.value.Value.TheVariants.{Ref}
use Rattle.kilim_program.specs.BuiltIn.{class_type}
use Rattle.kilim_program.specs.Lengths.{fetched}
use Rattle.kilim_program.specs.Names.{method_at}
use Rattle.kilim_run_state.specs.declared.cause.EndCause.{EndCause}
use Rattle.kilim_run_state.specs.declared.value.Object.{Object}
use Rattle.kilim_run_state.specs.Machine.{Activation, Objects}
use Rattle.kilim_run_state.specs.Objects.{new_object}
use Rattle.kilim_run_machine.specs.Raising.{call_in, caught_behind, caught_in, index_at, is_throwable, or_below, other_index, raised_class, thrown, unwound}
use Rattle.kilim_type_laws.specs.Laws.{typing_at}
use Rattle.kilim_type_sound.proofs.Caught.{index_is, other_is}
use Rattle.kilim_type_sound.proofs.Grounds.{facts_hold}
use Rattle.kilim_type_sound.proofs.Maps.{put_other, put_there}
use Rattle.kilim_type_sound.specs.Facts.{IsIndexName}
use Rattle.kilim_type_sound.specs.Fits.{Classes, HeapFits}
use Rattle.kilim_isolation_laws.proofs.graph_rows.Making.{new_object_fits, zero_holds}
use Rattle.kilim_isolation_laws.proofs.reached_objects.graphs.Raising.{new_objects_keep, throws_keep}
use Rattle.kilim_isolation_laws.specs.graph_rows.Holds.{IsOf, Own, object_sort, sort_by}
use Rattle.kilim_isolation_laws.specs.Laws.{IsRunOfAccepted, listed_at}
use Rattle.kilim_isolation_laws.specs.reached_objects.graphs.Threads.{AskFits, CaughtFit, IsThrown}
use Rattle.kilim_run_model.specs.State.{Setting}
use Rattle.kilim_fiber_laws.proofs.receivers.Chain.{IsWell, as_well, wants_all}
use Rattle.kilim_fiber_laws.proofs.receivers.Held.{Held, HeldIn, IsPrivate, Keeps, effect_is, held_map, rules_hold, verified}
use Rattle.kilim_isolation_laws.proofs.Keeping.{stack_there}
use Rattle.kilim_run_machine.specs.Does.{does}
use Rattle.kilim_run_machine.specs.Effect.{Effect, Throws}
use Rattle.kilim_run_machine.specs.Moves.{effect_of, move_by, moves}
use Rattle.kilim_run_machine.specs.Moves as move
use Rattle.kilim_type_sound.proofs.Theorem.{thrown_is_there}
use Rattle.kilim_fiber_spec.specs.lone.Law.{lone_at, lone_frames}
use Rattle.kilim_fiber_laws.proofs.receivers.called.Left.{behind_method, in_method, method_or}
use Rattle.kilim_fiber_spec.specs.Acts.{World, counted, ending, raises, thrown_to, with_new}
use Rattle.kilim_fiber_spec.specs.Fibers.{frame}
use Rattle.kilim_fiber_spec.specs.Thread.{At, Frame, Stop, code_in, fetch, left_at, left_behind, or_left, own_of, raised_behind, stands_at}

some_same : {A : Type 0} (o : Option A) (x y : A) → o ≡ Some x → o ≡ Some y → x ≡ y
some_same o x y e f = cc

module _ (set : Setting) (run : IsRunOfAccepted set) where
  -- of the frames that are left, in a heap
  abbrev pub HeldLeft : Objects → List Frame → Type 0
  HeldLeft k [] = Unit {0}
  HeldLeft k (At m q l s x ∷ b) = Held set run k (λ pre. frame m q l s ∷ pre) m x b

  pub stands : (k : Objects) (f : Frame) (fs : List Frame) (after : World) → after.heap ≡ k → HeldLeft k (f ∷ fs) → HeldIn set run (stands_at set f fs after)
  stands k (At m q l s x) fs after e h = subst (λ (z : Objects). Held set run z (λ pre. frame m q l s ∷ pre) m x fs) (sym e) h

  -- ---- an object is thrown, in the heap k

  module _ (h k : Objects) (private : (o : ℕ) → IsPrivate set run h o → IsPrivate set run k o) (c : ClassId) (n : ℕ) where
    abbrev pub Fit : ℕ → List Activation → Type 0
    Fit o frames = CaughtFit set.program (typing_at set.program) (listed_at set.program) (Some o) k frames

    -- the frame that catches, in the place of one of the method m
    catches : (a : Activation) (m : MethodId) (x : Value) (b : List Frame) → a.method ≡ m → (f : List Activation → List Activation) → ((pre : List Activation) → length pre ≤ length b → (o : ℕ) → Keeps set run h (f pre) o → Fit o (a ∷ pre)) →
        Held set run h f m x b → HeldLeft k (At a.method a.place a.locals a.stack x ∷ b)
    catches a m x b same f fits held = subst (λ (j : MethodId). Held set run k (λ pre. a ∷ pre) j x b) (sym same) (held_map set run b h k f (λ pre. a ∷ pre) fits private m x held)

    pub behind_held : (b : List Frame) (m : MethodId) (x : Value) (f : List Activation → List Activation) → ((pre : List Activation) → length pre ≤ length b → (o : ℕ) → Keeps set run h (f pre) o → Fit o (unwound set.program c (Ref n) pre)) →
        Held set run h f m x b → HeldLeft k (left_behind set.program c (Ref n) b)
    behind_held [] m x f fits held = tt
    behind_held (At j q l s y ∷ b) m x f fits held =
        by (caught_behind set.program c (Ref n) (frame j q l s) (call_in (method_at set.program j) q)) refl
        (λ e. behind_held b j y (λ pre. f (frame j q l s ∷ pre)) (λ pre le o t. subst (λ (z : Option Activation). Fit o (or_below z pre (unwound set.program c (Ref n) pre))) e (fits (frame j q l s ∷ pre) (omega (arith, le)) o t)) held.1)
      where
        by : (z : Option Activation) → caught_behind set.program c (Ref n) (frame j q l s) (call_in (method_at set.program j) q) ≡ z →
            (caught_behind set.program c (Ref n) (frame j q l s) (call_in (method_at set.program j) q) ≡ None → HeldLeft k (left_behind set.program c (Ref n) b)) → HeldLeft k (or_left y z b (left_behind set.program c (Ref n) b))
        by None e later = later e
        by (Some a) e later =
            catches a j y b (sym (ap (method_or j) e) ∙ behind_method set.program c (Ref n) (frame j q l s) (call_in (method_at set.program j) q)) (λ pre. f (frame j q l s ∷ pre))
            (λ pre le o t. subst (λ (z : Option Activation). Fit o (or_below z pre (unwound set.program c (Ref n) pre))) e (fits (frame j q l s ∷ pre) (omega (arith, le)) o t)) held.1

    -- behind a call: the frames are those with the top frame as it stands then
    pub called_held : (j : MethodId) (q : ℕ) (l s : List Value) (y : Value) (b : List Frame) (f : List Activation → List Activation) → ((pre : List Activation) → length pre ≤ length b → (o : ℕ) → Keeps set run h (f pre) o → Fit o (unwound set.program c (Ref n) (frame j q l s ∷ pre))) →
        Held set run h f j y b → HeldLeft k (left_behind set.program c (Ref n) (At j q l s y ∷ b))
    called_held j q l s y b f fits held = by (caught_behind set.program c (Ref n) (frame j q l s) (call_in (method_at set.program j) q)) refl
      where
        by : (z : Option Activation) → caught_behind set.program c (Ref n) (frame j q l s) (call_in (method_at set.program j) q) ≡ z → HeldLeft k (or_left y z b (left_behind set.program c (Ref n) b))
        by None e = behind_held b j y f (λ pre le o t. subst (λ (z : Option Activation). Fit o (or_below z pre (unwound set.program c (Ref n) pre))) e (fits pre le o t)) held
        by (Some a) e =
            catches a j y b (sym (ap (method_or j) e) ∙ behind_method set.program c (Ref n) (frame j q l s) (call_in (method_at set.program j) q)) f
            (λ pre le o t. subst (λ (z : Option Activation). Fit o (or_below z pre (unwound set.program c (Ref n) pre))) e (fits pre le o t)) held

    -- at the instruction of the top frame
    pub at_held : (top : Activation) (y : Value) (b : List Frame) → ((pre : List Activation) → length pre ≤ length b → (o : ℕ) → Keeps set run h (top ∷ pre) o → Fit o (thrown set.program c (Ref n) top pre)) → Held set run h (λ pre. top ∷ pre) top.method y b →
        HeldLeft k (left_at set.program c (Ref n) top y b)
    at_held top y b fits held = by (caught_in set.program c (Ref n) top top.place (method_at set.program top.method)) refl
      where
        by : (z : Option Activation) → caught_in set.program c (Ref n) top top.place (method_at set.program top.method) ≡ z → HeldLeft k (or_left y z b (left_behind set.program c (Ref n) b))
        by None e = behind_held b top.method y (λ pre. top ∷ pre) (λ pre le o t. subst (λ (z : Option Activation). Fit o (or_below z pre (unwound set.program c (Ref n) pre))) e (fits pre le o t)) held
        by (Some a) e =
            catches a top.method y b (sym (ap (method_or top.method) e) ∙ in_method set.program c (Ref n) top top.place (method_at set.program top.method)) (λ pre. top ∷ pre)
            (λ pre le o t. subst (λ (z : Option Activation). Fit o (or_below z pre (unwound set.program c (Ref n) pre))) e (fits pre le o t)) held

  -- ---- a new object, of a class that can be thrown

  pub object_thrown : (h : Objects) (n : ℕ) (c : ClassId) → is_throwable set.program c ≡ true → IsThrown set.program (insert h n (new_object set.program c)) c n
  object_thrown h n c throwable =
      let own : object_sort set.program (class_type c.0) ≡ Own = ap (sort_by set.program (class_type c.0)) ((rules_hold set run).keeps.thrown c throwable) in
      record { is = (new_object set.program c, put_there h n (new_object set.program c), own); own = own; throwable = throwable }

  -- a name without a class names no object
  pub unnamed : (of : Classes) (h : Objects) (n : ℕ) → HeapFits set.program of h → of n ≡ None → get h n ≡ None
  unnamed of h n heap new = by (get h n) refl
    where
      by : (o : Option Object) → get h n ≡ o → o ≡ None
      by None at = refl
      by (Some object) at = absurd (let e = sym (heap.classes n object at) ∙ new in cc)

  -- and an object that is no tree stays so beside a new one
  pub stays_private : (of : Classes) (h : Objects) (n : ℕ) (object : Object) → HeapFits set.program of h → of n ≡ None → (o : ℕ) → IsPrivate set run h o → IsPrivate set run (insert h n object) o
  stays_private of h n object heap new o z = (z.0, put_other h n object o other ∙ z.1, z.2)
    where
      other : o ≢ n
      other e = absurd (let c = sym (heap.classes o z.0 z.1) ∙ (ap of e ∙ new) in cc)

  -- ---- where something is raised or thrown, the thread keeps what is held

  pub thrown_held : (k : Objects) (w : World) (why : EndCause) → HeldIn set run (ending set w Stop why) → (after : World) → after.heap ≡ k → (left : List Frame) → HeldLeft k left → HeldIn set run (thrown_to set Stop (stands_at set) w why after left)
  thrown_held k w why ends after e [] h = ends
  thrown_held k w why ends after e (f ∷ fs) h = stands k f fs after e h

  pub raises_held : (w : World) (why : EndCause) → HeldIn set run (ending set (counted w) Stop why) → (left : ClassId → List Frame) (o : Option ClassId) → ((c : ClassId) → o ≡ Some c → HeldLeft (insert w.heap w.next (new_object set.program c)) (left c)) →
      HeldIn set run (raises set Stop (stands_at set) (counted w) why set.program left o)
  raises_held w why ends left None each = ends
  raises_held w why ends left (Some c) each = thrown_held (insert w.heap w.next (new_object set.program c)) (counted w) why ends (with_new (counted w) (new_object set.program c)) refl (left c) (each c refl)

  -- by an instruction
  module _ (of : Classes) (m : MethodId) (p : ℕ) (l s : List Value) (x : Value) (b : List Frame) (w : World) (is : IsWell set run of (lone_at m p l s b w)) (i : Instr) (to : ℕ) (f : fetch set.program m p ≡ Some (i, to)) (held : Held set run w.heap (λ pre. frame m p l s ∷ pre) m x b) where
    there : (method : Method) × (method_at set.program m ≡ Some method) × (fetched method.code method.code_length p ≡ Some (i, to))
    there = by (method_at set.program m) refl f
      where
        by : (o : Option Method) → method_at set.program m ≡ o → code_in o p ≡ Some (i, to) → (method : Method) × (method_at set.program m ≡ Some method) × (fetched method.code method.code_length p ≡ Some (i, to))
        by None e found = absurd (cc)
        by (Some method) e found = (method, e, found)

    -- an object that it throws, which is in the heap k
    left_held : (k : Objects) → ((o : ℕ) → IsPrivate set run w.heap o → IsPrivate set run k o) → (c : ClassId) (n : ℕ) → IsThrown set.program k c n →
        ((pre : List Activation) (o : ℕ) → Keeps set run w.heap (frame m p l s ∷ pre) o → Keeps set run k (frame m p l s ∷ pre) o) → HeldLeft k (left_at set.program c (Ref n) (frame m p l s) x b)
    left_held k private c n thrown grows =
        at_held w.heap k private c n (frame m p l s) x b
        (λ pre le o t. throws_keep set.program (typing_at set.program) (listed_at set.program) (Some o) (frame m p l s) pre k (rules_hold set run) (grows pre o t) there.0 i to there.1 there.2 c n thrown) held

    new : of w.next ≡ None
    new = is.fits.fresh w.next (omega arith)

    pub raised_held : (why : EndCause) → HeldIn set run (ending set (counted w) Stop why) →
        HeldIn set run (raises set Stop (stands_at set) (counted w) why set.program (λ c. left_at set.program c (Ref w.next) (frame m p l s) x b) (raised_class set.program (index_at set.program (frame m p l s)) why))
    raised_held why ends =
        raises_held w why ends (λ c. left_at set.program c (Ref w.next) (frame m p l s) x b) (raised_class set.program (index_at set.program (frame m p l s)) why)
        (λ c e. left_held (insert w.heap w.next (new_object set.program c)) (stays_private of w.heap w.next (new_object set.program c) is.fits.fits.heap new) c w.next
        (object_thrown w.heap w.next c ((facts_hold set.program run.keeps).raised (index_at set.program (frame m p l s)) (index_is set.program (frame m p l s)) why c e).0)
        (λ pre o t. new_objects_keep set.program (typing_at set.program) (listed_at set.program) (Some o) (frame m p l s) pre w.heap w.next (new_object set.program c) (unnamed of w.heap w.next is.fits.fits.heap new) (zero_holds set.program c)
        (new_object_fits set.program (rules_hold set run).keeps.may c w.heap w.next) t))

    pub object_held : (n : ℕ) (c : ClassId) (why : EndCause) → does set.program (own_of set.program m) i to l s w.heap ≡ Throws n c why → HeldIn set run (ending set (counted w) Stop why) →
        HeldIn set run (thrown_to set Stop (stands_at set) (counted w) why (counted w) (left_at set.program c (Ref n) (frame m p l s) x b))
    unfolding moves
    object_held n c why same ends =
        let moved : move_by set.program (effect_of set.program (frame m p l s) w.heap) (frame m p l s) (lone_frames b) ≡ move.Throws n c why =
        ap (λ (e : Effect). move_by set.program e (frame m p l s) (lone_frames b)) (effect_is set run (frame m p l s) w.heap i to (method_at set.program m) f ∙ same) in
        let is_there = thrown_is_there set.program (typing_at set.program) wants_all of run.keeps (verified set run).verified (frame m p l s) (lone_frames b) w.heap is.fits.fits
        (stack_there set run.keeps run.form run.well run.accepted run.main run.begins (lone_at m p l s b w) (as_well set run of (lone_at m p l s b w) is)) n c why moved in
        let own : object_sort set.program (class_type c.0) ≡ Own = ap (sort_by set.program (class_type c.0)) ((rules_hold set run).keeps.thrown c is_there.1) in
        let class_is = some_same (of n) is_there.2.0.class (class_type c.0) (is.fits.fits.heap.classes n is_there.2.0 is_there.2.1) is_there.0 in
        thrown_held w.heap (counted w) why ends (counted w) refl (left_at set.program c (Ref n) (frame m p l s) x b)
        (left_held w.heap (λ o z. z) c n (record { is = (is_there.2.0, is_there.2.1, ap (object_sort set.program) class_is ∙ own); own = own; throwable = is_there.1 }) (λ pre o t. t))

  -- by a built-in method: `before` puts the top frame as it stood at the call before those below
  module _ (of : Classes) (h : Objects) (next : ℕ) (heap : HeapFits set.program of h) (new : of next ≡ None) (m : MethodId) (q : ℕ) (l s : List Value) (x : Value) (b : List Frame) (id : MethodId) (args : List Value) (before : List Activation → List Activation)
      (each : (pre : List Activation) → length pre ≤ length b → (o : ℕ) → Keeps set run h (before pre) o → AskFits set.program (typing_at set.program) (listed_at set.program) (Some o) id args (frame m q l s ∷ pre) h) (held : Held set run h before m x b) where
    made_held : (why : EndCause) (c : ClassId) → raised_class set.program other_index why ≡ Some c → HeldLeft (insert h next (new_object set.program c)) (left_behind set.program c (Ref next) (At m q l s x ∷ b))
    made_held why c e =
        called_held h (insert h next (new_object set.program c)) (stays_private of h next (new_object set.program c) heap new) c next m q l s x b before
        (λ pre le o t. (each pre le o t).raises c next (unnamed of h next heap new) (new_object_fits set.program (rules_hold set run).keeps.may c h next)
        (object_thrown h next c ((facts_hold set.program run.keeps).raised other_index other_is why c e).0)) held

    pub asked_raised : (w : World) → w.heap ≡ h → w.next ≡ next → (why : EndCause) → HeldIn set run (ending set (counted w) Stop why) → HeldIn set run (raised_behind set (At m q l s x ∷ b) w why)
    asked_raised w same_heap same_next why ends =
        raises_held w why ends (λ c. left_behind set.program c (Ref w.next) (At m q l s x ∷ b)) (raised_class set.program other_index why)
        (λ c e. subst (λ (k : Objects). HeldLeft (insert k w.next (new_object set.program c)) (left_behind set.program c (Ref w.next) (At m q l s x ∷ b))) (sym same_heap)
        (subst (λ (n : ℕ). HeldLeft (insert h n (new_object set.program c)) (left_behind set.program c (Ref n) (At m q l s x ∷ b))) (sym same_next) (made_held why c e)))
