-- A task begins with the constructor of its class, which doesn't pause, or with `execute`.
use Rattle.std.proofs.Common.{◌≡◌, cond, ℕ, Bool, true, false, List, [], ◌∷◌, length, Option, Some, None, refl, sym, ap, subst, ◌∙◌}
use Rattle.std.specs.Prelude.{◌&&◌, codes, is_none}
use Rattle.std.specs.FinMap.{empty, get, insert}
use Rattle.std.specs.Str.{bytes_eq}
use Rattle.std.proofs.lemmas.Bool.{and_parts, false≢true}
use Rattle.kilim_program.specs.declared.class.Method.{Method}
use Rattle.kilim_program.specs.declared.names.ClassId.{ClassId}
use Rattle.kilim_program.specs.declared.names.MethodId.{MethodId}
use Rattle.kilim_program.specs.declared.ty.Ty.{Ty}
use Rattle.kilim_program.specs.declared.value.Value.{Value}
use Rattle.kilim_program.specs.declared.value.Value.TheVariants.{Ref}
use Rattle.kilim_program.specs.Names.{◌>>=◌, first_that, is_empty, method_at, methods_of}
use Rattle.kilim_run_state.specs.declared.value.Object.{Object}
use Rattle.kilim_run_state.specs.Machine.{Activation, Objects}
use Rattle.kilim_program.specs.Members.{constructor_of, execute_of, is_plain_method}
use Rattle.kilim_run_machine.specs.Moves.{entered}
use Rattle.kilim_run_state.specs.Objects.{new_object}
use Rattle.kilim_run_state.specs.Trees.{OfTask, built, with_objects}
use Rattle.kilim_isolation_laws.specs.typed_threads.fine.Typed.{frames_of}
use Rattle.kilim_type_sound.specs.Fits.{Classes}
use Rattle.kilim_isolation_laws.specs.Laws.{IsRunOfAccepted}
use Rattle.kilim_run_model.specs.declared.deed.Beginning.{Beginning}
use Rattle.kilim_run_model.specs.declared.deed.Beginning.TheVariants.{Begun, Boot}
use Rattle.kilim_run_model.specs.Course.{lone_begun, lone_built}
use Rattle.kilim_run_model.specs.Lone.{Lone}
use Rattle.kilim_run_model.specs.State.{Setting, begun_on, class_of, execute_frames}
use Rattle.kilim_fiber_laws.proofs.receivers.called.Called.{no_pause}
use Rattle.kilim_fiber_laws.specs.receivers.called.Law.{Bottom, CalledAs}
use Rattle.kilim_fiber_spec.specs.lone.Law.{lone_at}
use Rattle.kilim_fiber_laws.proofs.receivers.Begins.{IsMade, begins_held, entered_is, made, one_frame, root_task, task_class, top_is}
use Rattle.kilim_fiber_laws.proofs.receivers.Chain.{IsWell, WellAs}
use Rattle.kilim_fiber_laws.specs.receivers.Law.{IsBegun}
use Rattle.kilim_fiber_spec.specs.Acts.{World}
use Rattle.kilim_fiber_spec.specs.Fibers.{frame}
use Rattle.kilim_fiber_spec.specs.Form.{is_pausable}
use Rattle.kilim_fiber_spec.specs.Thread.{At, Frame, Run, Stop, Thread}

some_is : {A : Type 0} (x y : A) → Some x ≡ Some y → x ≡ y
some_is x y e = cc

passes : (test : MethodId → Bool) (xs : List MethodId) (x : MethodId) → first_that test xs ≡ Some x → test x ≡ true
passes test [] x e = absurd (none e)
  where
    none : None ≡ Some x → ⊥
    none e = cc
passes test (y ∷ xs) x e = by (test y) refl e (λ later. passes test xs x later)
  where
    by : (z : Bool) → test y ≡ z → cond z (Some y) (first_that test xs) ≡ Some x → (first_that test xs ≡ Some x → test x ≡ true) → test x ≡ true
    by true t e again = subst (λ (k : MethodId). test k ≡ true) (some_is y x e) t
    by false t e again = again e

module _ (set : Setting) (run : IsRunOfAccepted set) where
  pub constructs : (c : MethodId) → constructor_of set.program set.main ≡ Some c → is_pausable set.program c ≡ true → ⊥
  constructs c e pauses = by (method_at set.program c) refl (passes (is_plain_method set.program (codes "<init>")) (methods_of set.program set.main) c e)
    where
      by : (o : Option Method) → method_at set.program c ≡ o → elim o [ None ↦ false | Some method ↦ bytes_eq method.name (codes "<init>") && (is_empty method.params && is_none method.result) ] ≡ true → ⊥
      by None at t = false≢true t
      by (Some method) at t = no_pause set.program run.keeps c method at (and_parts (bytes_eq method.name (codes "<init>")) _ t).0 pauses

  -- the frame with which a task begins
  bottom_of : (m : MethodId) (p : ℕ) (l s : List Value) (w : World) (of : Classes) → IsWell set run of (lone_at m p l s [] w) → (begins : Beginning) → lone_begun set begins ≡ Some (lone_at m p l s [] w) → is_pausable set.program m ≡ true → Bottom set.program of w.kept m (Ref 0)
  bottom_of m p l s w of is Boot e pauses =
      let x = made (insert empty 0 (new_object set.program set.main)) 1 (Some 0) (begun_on set.program (constructor_of set.program set.main) 0) (lone_at m p l s [] w) e in
      let same : frame m p l s ∷ [] ≡ x.frames = ap (λ (y : Lone). frames_of y.thread) x.is in
      let n = entered_is set run (constructor_of set.program set.main) 0 (frame m p l s) [] (x.begun ∙ ap (λ (fs : List Activation). Some fs) (sym same)) in
      let here : m ≡ n.method = ap (λ (a : Activation). a.method) (top_is set run (entered set.program n.method (Ref 0 ∷ [])) (frame m p l s) [] n.frames_are) in
      absurd (constructs n.method n.is (subst (λ (c : MethodId). is_pausable set.program c ≡ true) here pauses))
  bottom_of m p l s w of is (Begun shape) e pauses = by (built set.program OfTask 0 shape) refl e
    where
      none : None ≡ Some (lone_at m p l s [] w) → ⊥
      none e = cc

      by : (o : Option (List Object)) → built set.program OfTask 0 shape ≡ o → lone_built set.program o ≡ Some (lone_at m p l s [] w) → Bottom set.program of w.kept m (Ref 0)
      by None at e = absurd (none e)
      by (Some objects) at e = on (get (with_objects empty 0 objects) 0) refl
        where
          x : IsMade (with_objects empty 0 objects) (length objects) None (execute_frames set.program (with_objects empty 0 objects) 0) (lone_at m p l s [] w)
          x = made (with_objects empty 0 objects) (length objects) None (execute_frames set.program (with_objects empty 0 objects) 0) (lone_at m p l s [] w) e

          frames_same : frame m p l s ∷ [] ≡ x.frames
          frames_same = ap (λ (y : Lone). frames_of y.thread) x.is

          heap_same : w.heap ≡ with_objects empty 0 objects
          heap_same = ap (λ (y : Lone). y.heap) x.is

          entered_on : (z : Option Object) → get (with_objects empty 0 objects) 0 ≡ z → begun_on set.program (z >>= λ (object : Object). class_of object.class.base >>= λ c. execute_of set.program c) 0 ≡ Some (frame m p l s ∷ []) → Bottom set.program of w.kept m (Ref 0)
          entered_on None there begun = absurd (none_begun begun)
            where
              none_begun : None ≡ Some (frame m p l s ∷ []) → ⊥
              none_begun e = cc
          entered_on (Some object) there begun =
              let k = task_class set run object.class (root_task set run shape objects at object there) in
              let same : class_of object.class.base ≡ Some k.class = ap (λ (ty : Ty). class_of ty.base) k.is in
              let n = entered_is set run (execute_of set.program k.class) 0 (frame m p l s) [] (sym (ap (λ (z : Option ClassId). begun_on set.program (z >>= λ c. execute_of set.program c) 0) same) ∙ begun) in
              let here : m ≡ n.method = ap (λ (a : Activation). a.method) (top_is set run (entered set.program n.method (Ref 0 ∷ [])) (frame m p l s) [] n.frames_are) in
              record {
                given = ap (λ (y : Lone). y.kept) x.is;
                class = k.class;
                task = k.task;
                begins = n.is ∙ ap (λ (c : MethodId). Some c) (sym here);
                name = 0;
                self = refl;
                is = is.fits.fits.heap.classes 0 object (ap (λ (h : Objects). get h 0) heap_same ∙ there) ∙ ap (λ (ty : Ty). Some ty) k.is;
              }

          on : (z : Option Object) → get (with_objects empty 0 objects) 0 ≡ z → Bottom set.program of w.kept m (Ref 0)
          on z there = entered_on z there (ap (λ (z : Option Object). begun_on set.program (z >>= λ (object : Object). class_of object.class.base >>= λ c. execute_of set.program c) 0) (sym there) ∙ (x.begun ∙ ap (λ (fs : List Activation). Some fs) (sym frames_same)))

  pub begins_called : (t : Thread) → IsBegun set t → (of : Classes) × WellAs set run of t × CalledAs set of t
  begins_called (Stop o) is = absurd is
  begins_called (Run m p l s x b w) is = let h = begins_held set run (Run m p l s x b w) is in by b x (one_frame set run m p l s b w is.0 is.1) is.2 is.1 h.0 h.1
    where
      by : (b : List Frame) (x : Value) → b ≡ [] → x ≡ Ref 0 → lone_begun set is.0 ≡ Some (lone_at m p l s b w) → (of : Classes) → WellAs set run of (Run m p l s x b w) → (of : Classes) × WellAs set run of (Run m p l s x b w) × CalledAs set of (Run m p l s x b w)
      by [] x none self e of well = (of, well, λ pauses. subst (λ (y : Value). Bottom set.program of w.kept m y) (sym self) (bottom_of m p l s w of well is.0 e pauses))
      by (At m2 p2 l2 s2 x2 ∷ b) x none self e of well = absurd (not_empty none)
        where
          not_empty : At m2 p2 l2 s2 x2 ∷ b ≡ [] → ⊥
          not_empty e = cc
