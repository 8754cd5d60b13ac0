-- A task begins with one frame, which keeps its object.
use Rattle.std.proofs.Common.{◌≡◌, inl, cond, ℕ, Bool, true, false, List, [], ◌∷◌, length, Option, Some, None, refl, sym, ap, subst, ◌∙◌}
use Rattle.std.specs.Prelude.{◌==◌}
use Rattle.std.specs.FinMap.{empty, get, insert}
use Rattle.std.proofs.lemmas.Bool.{and_parts, eqb-true, false≢true}
use Rattle.kilim_program.specs.declared.class.Method.{Method}
use Rattle.kilim_program.specs.declared.names.ClassId.{ClassId}
use Rattle.kilim_program.specs.declared.names.MethodId.{MethodId}
use Rattle.kilim_program.specs.declared.ty.Base.{Base}
use Rattle.kilim_program.specs.declared.ty.Base.TheVariants as base
use Rattle.kilim_program.specs.declared.ty.Ty.{Ty}
use Rattle.kilim_program.specs.declared.value.Value.{Value}
use Rattle.kilim_program.specs.declared.value.Value.TheVariants.{Ref}
use Rattle.kilim_program.specs.BuiltIn.{class_type}
use Rattle.kilim_program.specs.Names.{◌>>=◌, is_task, method_at}
use Rattle.kilim_isolation_laws.specs.graph_rows.Holds.{object_sort}
use Rattle.kilim_run_state.specs.declared.value.Object.{Object}
use Rattle.kilim_run_state.specs.declared.value.Token.{Token}
use Rattle.kilim_run_state.specs.Machine.{Activation, Objects}
use Rattle.kilim_program.specs.Members.{constructor_of, execute_of}
use Rattle.kilim_run_machine.specs.Moves.{entered}
use Rattle.kilim_run_state.specs.Objects.{new_object}
use Rattle.kilim_run_state.specs.Trees.{OfTask, built, is_root, with_objects}
use Rattle.kilim_isolation_laws.specs.Laws.{IsRunOfAccepted, listed_at}
use Rattle.kilim_isolation_laws.proofs.Beginning.{beginnings_stand, kind_of_task, task_sort}
use Rattle.kilim_isolation_laws.proofs.Moving.{top_coded}
use Rattle.kilim_isolation_laws.specs.reached_objects.graphs.Threads.{TopIsCoded}
use Rattle.kilim_run_model.specs.declared.deed.Beginning.{Beginning}
use Rattle.kilim_run_model.specs.declared.deed.Beginning.TheVariants.{Begun, Boot}
use Rattle.kilim_run_model.specs.Course.{lone_begun, lone_built, lone_in}
use Rattle.kilim_run_model.specs.Lone.{Lone}
use Rattle.kilim_run_model.specs.State.{Alive, Setting, begun_in, begun_on, class_of, execute_frames}
use Rattle.kilim_isolation_laws.proofs.heaps.Heaps.{get_new}
use Rattle.kilim_isolation_laws.proofs.typed_threads.Read.{built_is}
use Rattle.kilim_isolation_laws.proofs.typed_threads.Threads.{beginnings_are_typed}
use Rattle.kilim_type_laws.specs.Laws.{typing_at}
use Rattle.kilim_fiber_spec.specs.lone.Law.{lone_at, lone_frames}
use Rattle.kilim_fiber_laws.proofs.receivers.Chain.{IsWell, WellAs, wants_all}
use Rattle.kilim_fiber_laws.proofs.receivers.Guards.{task_guards}
use Rattle.kilim_fiber_laws.proofs.receivers.Held.{Guard, HeldIn, rules_hold, verified}
use Rattle.kilim_fiber_laws.specs.receivers.Law.{IsBegun}
use Rattle.kilim_fiber_spec.specs.Acts.{World}
use Rattle.kilim_fiber_spec.specs.Fibers.{frame}
use Rattle.kilim_fiber_spec.specs.Thread.{At, Frame, Run, Stop, Thread}
use Rattle.kilim_isolation_laws.specs.typed_threads.fine.Typed.{frames_of}

one_of : {A : Type 0} (x y : A) → Some x ≡ Some y → x ≡ y
one_of x y e = cc

-- what the beginning of a task is made of
pub record IsMade (heap : Objects) (next : ℕ) (kept : Option ℕ) (o : Option (List Activation)) (l : Lone) : Type 0 where
  pub frames : List Activation
  pub begun : o ≡ Some frames
  pub is : l ≡ record { heap = heap; next = next; thread = Alive frames 0 0; kept = kept }

pub made : (heap : Objects) (next : ℕ) (kept : Option ℕ) (o : Option (List Activation)) (l : Lone) → lone_in heap next kept o ≡ Some l → IsMade heap next kept o l
made heap next kept None l e = absurd (none e)
  where
    none : None ≡ Some l → ⊥
    none e = cc
made heap next kept (Some frames) l e = record { frames = frames; begun = refl; is = sym (one_of (record { heap = heap; next = next; thread = Alive frames 0 0; kept = kept }) l e) }

module _ (set : Setting) (run : IsRunOfAccepted set) where
  -- the one frame with which a method begins on an object
  pub record IsEntered (o : Option MethodId) (n : ℕ) (frames : List Activation) : Type 0 where
    pub method : MethodId
    pub is : o ≡ Some method
    pub frames_are : frames ≡ entered set.program method (Ref n ∷ []) ∷ []

  pub entered_is : (o : Option MethodId) (n : ℕ) (top : Activation) (rest : List Activation) → begun_on set.program o n ≡ Some (top ∷ rest) → IsEntered o n (top ∷ rest)
  entered_is None n top rest e = absurd (none e)
    where
      none : None ≡ Some (top ∷ rest) → ⊥
      none e = cc
  entered_is (Some c) n top rest e = at (method_at set.program c) e
    where
      empty_not : [] ≡ top ∷ rest → ⊥
      empty_not e = cc

      by : (z : Bool) → Some (cond z [] (entered set.program c (Ref n ∷ []) ∷ [])) ≡ Some (top ∷ rest) → IsEntered (Some c) n (top ∷ rest)
      by true e = absurd (empty_not (one_of [] (top ∷ rest) e))
      by false e = record { method = c; is = refl; frames_are = sym (one_of (entered set.program c (Ref n ∷ []) ∷ []) (top ∷ rest) e) }

      at : (x : Option Method) → begun_in set.program c n x ≡ Some (top ∷ rest) → IsEntered (Some c) n (top ∷ rest)
      at None e = absurd (none e)
        where
          none : None ≡ Some (top ∷ rest) → ⊥
          none e = cc
      at (Some method) e = by method.built_in e

  pub begun_well : (m : MethodId) (p : ℕ) (l s : List Value) (b : List Frame) (w : World) (begins : Beginning) → lone_begun set begins ≡ Some (lone_at m p l s b w) → (of : _) × IsWell set run of (lone_at m p l s b w)
  begun_well m p l s b w begins e =
      let t = beginnings_are_typed set (typing_at set.program) wants_all (verified set run) run.main begins (lone_at m p l s b w) e in
      (t.of, record { fits = t.is; stands = beginnings_stand set wants_all (listed_at set.program) (rules_hold set run) (verified set run) run.main run.begins t.of begins (lone_at m p l s b w) e t.is })

  none_below : (a : Activation) (m : MethodId) (p : ℕ) (l s : List Value) (b : List Frame) → frame m p l s ∷ lone_frames b ≡ a ∷ [] → b ≡ []
  none_below a m p l s [] e = refl
  none_below a m p l s (At m2 p2 l2 s2 x2 ∷ b) e = absurd (two (frame m p l s) (frame m2 p2 l2 s2) (lone_frames b) e)
    where
      two : (x y : Activation) (rest : List Activation) → x ∷ y ∷ rest ≡ a ∷ [] → ⊥
      two x y rest e = cc

  pub top_is : (a x : Activation) (rest : List Activation) → x ∷ rest ≡ a ∷ [] → x ≡ a
  top_is a x rest e = cc

  -- ---- a started task's object

  pub root_task : (shape : List Token) (objects : List Object) → built set.program OfTask 0 shape ≡ Some objects → (object : Object) → get (with_objects empty 0 objects) 0 ≡ Some object → is_root set.program OfTask object.class ≡ true
  root_task shape objects at object there =
      let b = built_is set.program OfTask 0 shape objects at in
      let first : get (with_objects empty 0 objects) 0 ≡ Some b.first = ap (λ (os : List Object). get (with_objects empty 0 os) 0) b.is ∙ get_new empty 0 (b.first ∷ b.rest) 0 b.first refl in
      subst (λ (ty : Ty). is_root set.program OfTask ty ≡ true) (sym b.class ∙ ap (λ (o : Object). o.class) (one_of b.first object (sym first ∙ there))) b.kind

  -- the class of a task's object
  pub record IsTaskClass (c : Ty) : Type 0 where
    pub class : ClassId
    pub is : c ≡ class_type class.0
    pub task : is_task set.program class ≡ true

  pub task_class : (c : Ty) → is_root set.program OfTask c ≡ true → IsTaskClass c
  task_class c e = by c.dims c.base refl refl (and_parts (c.dims == 0) _ e).0 (and_parts (c.dims == 0) _ e).1
    where
      by : (d : ℕ) (b : Base) → c.dims ≡ d → c.base ≡ b → (d == 0) ≡ true → elim b [ base.Class k ↦ is_task set.program k | _ ↦ false ] ≡ true → IsTaskClass c
      by d (base.Class k) ed eb z t = record { class = k; is = ap (λ (j : ℕ). record { dims = j; base = c.base }) (ed ∙ eqb-true d 0 z) ∙ ap (λ (x : Base). record { dims = 0; base = x }) eb; task = t }
      by d base.Bool ed eb z t = absurd (false≢true t)
      by d base.Byte ed eb z t = absurd (false≢true t)
      by d base.Char ed eb z t = absurd (false≢true t)
      by d base.Short ed eb z t = absurd (false≢true t)
      by d base.Int ed eb z t = absurd (false≢true t)
      by d base.Long ed eb z t = absurd (false≢true t)

  -- ---- what is held

  module _ (m : MethodId) (p : ℕ) (l s : List Value) (w : World) (of : _) (is : IsWell set run of (lone_at m p l s [] w)) where
    boot_guard : w.kept ≡ Some 0 → Guard set run w.heap (frame m p l s ∷ []) m (Ref 0)
    boot_guard kept pausable o own = inl (subst (λ (j : ℕ). Rattle.kilim_fiber_laws.proofs.receivers.Held.Keeps set run w.heap (frame m p l s ∷ []) j) (name own)
        (subst (λ (k : Option ℕ). Rattle.kilim_isolation_laws.specs.reached_objects.graphs.Threads.FramesFit set.program (typing_at set.program) (listed_at set.program) k w.heap (frame m p l s ∷ [])) kept is.stands))
      where
        name : Ref 0 ≡ Ref o → 0 ≡ o
        name e = cc

    task_guard : (object : Object) → get w.heap 0 ≡ Some object → (k : IsTaskClass object.class) → (c : MethodId) → execute_of set.program k.class ≡ Some c → frame m p l s ≡ entered set.program c (Ref 0 ∷ []) → Guard set run w.heap (frame m p l s ∷ []) m (Ref 0)
    task_guard object there k c e same =
        subst (λ (x : MethodId). Guard set run w.heap (frame m p l s ∷ []) x (Ref 0)) (sym (ap (λ (a : Activation). a.method) same))
        (subst (λ (a : Activation). Guard set run w.heap (a ∷ []) c (Ref 0)) (sym same)
        (task_guards set run w.heap 0 k.class k.task (kind_of_task set wants_all (listed_at set.program) (rules_hold set run) (verified set run) run.main k.class k.task) is.stands.top_fits.stands.holds.heap is.stands.top_fits.stands.holds.forest
        (object, there, ap (object_sort set.program) k.is ∙ task_sort set wants_all (listed_at set.program) (rules_hold set run) (verified set run) run.main k.class k.task) c e
        (subst (λ (a : Activation). TopIsCoded set.program (a ∷ [])) same (top_coded set wants_all (listed_at set.program) (rules_hold set run) (verified set run) run.main of (frame m p l s ∷ []) is.fits.fits.frames))))

  heap_of : Lone → Objects
  heap_of l = l.heap

  -- a task with that beginning: its frames, and the guard of the only one
  guard_of : (m : MethodId) (p : ℕ) (l s : List Value) (w : World) (of : _) → IsWell set run of (lone_at m p l s [] w) → (begins : Beginning) → lone_begun set begins ≡ Some (lone_at m p l s [] w) → Guard set run w.heap (frame m p l s ∷ []) m (Ref 0)
  guard_of m p l s w of is Boot e = boot_guard m p l s w of is (ap (λ (x : Lone). x.kept) (made (insert empty 0 (new_object set.program set.main)) 1 (Some 0) (begun_on set.program (constructor_of set.program set.main) 0) (lone_at m p l s [] w) e).is)
  guard_of m p l s w of is (Begun shape) e = by (built set.program OfTask 0 shape) refl e
    where
      none : None ≡ Some (lone_at m p l s [] w) → ⊥
      none e = cc

      by : (o : Option (List Object)) → built set.program OfTask 0 shape ≡ o → lone_built set.program o ≡ Some (lone_at m p l s [] w) → Guard set run w.heap (frame m p l s ∷ []) m (Ref 0)
      by None at e = absurd (none e)
      by (Some objects) at e = on (get (with_objects empty 0 objects) 0) refl
        where
          x : IsMade (with_objects empty 0 objects) (length objects) None (execute_frames set.program (with_objects empty 0 objects) 0) (lone_at m p l s [] w)
          x = made (with_objects empty 0 objects) (length objects) None (execute_frames set.program (with_objects empty 0 objects) 0) (lone_at m p l s [] w) e

          frames_same : frame m p l s ∷ [] ≡ x.frames
          frames_same = ap (λ (y : Lone). frames_of y.thread) x.is

          heap_same : w.heap ≡ with_objects empty 0 objects
          heap_same = ap (λ (y : Lone). y.heap) x.is

          entered_on : (z : Option Object) → get (with_objects empty 0 objects) 0 ≡ z → begun_on set.program (z >>= λ (object : Object). class_of object.class.base >>= λ c. execute_of set.program c) 0 ≡ Some (frame m p l s ∷ []) → Guard set run w.heap (frame m p l s ∷ []) m (Ref 0)
          entered_on None there begun = absurd (none_begun begun)
            where
              none_begun : None ≡ Some (frame m p l s ∷ []) → ⊥
              none_begun e = cc
          entered_on (Some object) there begun =
              let k = task_class object.class (root_task shape objects at object there) in
              let same : class_of object.class.base ≡ Some k.class = ap (λ (ty : Ty). class_of ty.base) k.is in
              let n = entered_is (execute_of set.program k.class) 0 (frame m p l s) [] (sym (ap (λ (z : Option ClassId). begun_on set.program (z >>= λ c. execute_of set.program c) 0) same) ∙ begun) in
              task_guard m p l s w of is object (ap (λ (h : Objects). get h 0) heap_same ∙ there) k n.method n.is (top_is (entered set.program n.method (Ref 0 ∷ [])) (frame m p l s) [] n.frames_are)

          on : (z : Option Object) → get (with_objects empty 0 objects) 0 ≡ z → Guard set run w.heap (frame m p l s ∷ []) m (Ref 0)
          on z there = entered_on z there (ap (λ (z : Option Object). begun_on set.program (z >>= λ (object : Object). class_of object.class.base >>= λ c. execute_of set.program c) 0) (sym there) ∙ (x.begun ∙ ap (λ (fs : List Activation). Some fs) (sym frames_same)))

  pub one_frame : (m : MethodId) (p : ℕ) (l s : List Value) (b : List Frame) (w : World) (begins : Beginning) → lone_begun set begins ≡ Some (lone_at m p l s b w) → b ≡ []
  one_frame m p l s b w Boot e =
      let x = made (insert empty 0 (new_object set.program set.main)) 1 (Some 0) (begun_on set.program (constructor_of set.program set.main) 0) (lone_at m p l s b w) e in
      let same : frame m p l s ∷ lone_frames b ≡ x.frames = ap (λ (y : Lone). frames_of y.thread) x.is in
      let n = entered_is (constructor_of set.program set.main) 0 (frame m p l s) (lone_frames b) (x.begun ∙ ap (λ (fs : List Activation). Some fs) (sym same)) in
      none_below (entered set.program n.method (Ref 0 ∷ [])) m p l s b n.frames_are
  one_frame m p l s b w (Begun shape) e = by (built set.program OfTask 0 shape) e
    where
      none : None ≡ Some (lone_at m p l s b w) → ⊥
      none e = cc

      by : (o : Option (List Object)) → lone_built set.program o ≡ Some (lone_at m p l s b w) → b ≡ []
      by None e = absurd (none e)
      by (Some objects) e =
          let x = made (with_objects empty 0 objects) (length objects) None (execute_frames set.program (with_objects empty 0 objects) 0) (lone_at m p l s b w) e in
          let same : frame m p l s ∷ lone_frames b ≡ x.frames = ap (λ (y : Lone). frames_of y.thread) x.is in
          let n = entered_is (get (with_objects empty 0 objects) 0 >>= λ (object : Object). class_of object.class.base >>= λ c. execute_of set.program c) 0 (frame m p l s) (lone_frames b) (x.begun ∙ ap (λ (fs : List Activation). Some fs) (sym same)) in
          none_below (entered set.program n.method (Ref 0 ∷ [])) m p l s b n.frames_are

  pub begins_held : (t : Thread) → IsBegun set t → (of : _) × WellAs set run of t × HeldIn set run t
  begins_held (Stop o) is = absurd is
  begins_held (Run m p l s x b w) is = by b x (one_frame m p l s b w is.0 is.1) is.2 is.1
    where
      by : (b : List Frame) (x : Value) → b ≡ [] → x ≡ Ref 0 → lone_begun set is.0 ≡ Some (lone_at m p l s b w) → (of : _) × WellAs set run of (Run m p l s x b w) × HeldIn set run (Run m p l s x b w)
      by [] x none self e =
          let v = begun_well m p l s [] w is.0 e in
          (v.0, v.1, subst (λ (y : Value). Guard set run w.heap (frame m p l s ∷ []) m y) (sym self) (guard_of m p l s w v.0 v.1 is.0 e))
      by (At m2 p2 l2 s2 x2 ∷ b) x none self e = absurd (not_empty none)
        where
          not_empty : At m2 p2 l2 s2 x2 ∷ b ≡ [] → ⊥
          not_empty e = cc
