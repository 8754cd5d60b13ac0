-- From the beginning of a task on, the calls of all frames can be made again at a pause.
use Rattle.std.proofs.Common.{◌≡◌, ◌≢◌, inl, ℕ, zero, suc, ◌+◌, Bool, true, false, cond, List, [], ◌∷◌, Option, Some, None, Ok, refl, sym, ap, subst, ◌∙◌}
use Rattle.std.specs.Prelude.{◌&&◌, nat_le, slice_get}
use Rattle.std.proofs.lemmas.Bool.{and_from, and_parts, false≢true}
use Rattle.std.proofs.lemmas.Option.{none-some}
use Rattle.kilim_program.specs.declared.class.Method.{Method}
use Rattle.kilim_program.specs.declared.instr.Instr.{Instr}
use Rattle.kilim_program.specs.declared.instr.Instr.TheVariants as instr
use Rattle.kilim_program.specs.declared.names.BoxName.{BoxName}
use Rattle.kilim_program.specs.declared.names.ClassId.{ClassId}
use Rattle.kilim_program.specs.declared.names.MethodId.{MethodId}
use Rattle.kilim_program.specs.declared.value.Value.{Value}
use Rattle.kilim_program.specs.declared.value.Value.TheVariants.{Box, Fiber, Int, Long, Null, Ref, Text}
use Rattle.kilim_program.specs.Lengths.{ends_path, fetched, jump_targets}
use Rattle.kilim_program.specs.Names.{is_task, method_at}
use Rattle.kilim_program.specs.Program.{Program}
use Rattle.kilim_type_sound.specs.Fits.{AreThere, Classes, HeapFits, IsThere}
use Rattle.kilim_type_sound.proofs.Grounds.{facts_hold}
use Rattle.kilim_type_sound.proofs.Walk.{stands_at}
use Rattle.kilim_isolation_laws.proofs.kept.Serving.{accepted_is_kept}
use Rattle.kilim_run_machine.specs.Does.{does}
use Rattle.kilim_run_machine.specs.Effect.{Asks, Effect}
use Rattle.kilim_run_state.specs.Machine.{Objects}
use Rattle.kilim_run_state.specs.Shapes.{shape_of}
use Rattle.kilim_run_state.specs.Trees.{tree_names, without}
use Rattle.kilim_run_state.specs.declared.cause.EndCause.{EndCause}
use Rattle.kilim_run_state.specs.declared.cause.EndCause.TheVariants as cause
use Rattle.kilim_run_state.specs.declared.value.Token.{Token}
use Rattle.kilim_run_journal.specs.declared.entry.Act.TheVariants as act
use Rattle.kilim_run_model.specs.Course.{plain}
use Rattle.kilim_program.specs.Members.{execute_of}
use Rattle.kilim_run_machine.specs.Natives.{Native, native_of}
use Rattle.kilim_run_machine.specs.Natives as native
use Rattle.kilim_isolation_laws.specs.Laws.{IsRunOfAccepted}
use Rattle.kilim_isolation_laws.proofs.Keeping.{is_verified}
use Rattle.kilim_run_model.specs.Kept.{Kept}
use Rattle.kilim_run_model.specs.Reach.{Here}
use Rattle.kilim_run_model.specs.State.{Setting}
use Rattle.kilim_type_spec.specs.Typed.{GoesOn, Live}
use Rattle.kilim_type_laws.specs.Laws.{typing_at}
use Rattle.kilim_type_spec.specs.Step.{Types, type_step}
use Rattle.kilim_isolation_laws.proofs.typed_threads.Came.{left_old}
use Rattle.kilim_fiber_laws.specs.woven_served.accepted.Law.{CanPause}
use Rattle.kilim_fiber_laws.proofs.courses.answers.Answers.{natives_answer}
use Rattle.kilim_fiber_laws.proofs.courses.GoesOn.{goes_on}
use Rattle.kilim_fiber_laws.proofs.receivers.Begins.{begins_held}
use Rattle.kilim_fiber_laws.proofs.receivers.Chain.{WellAs, step_well}
use Rattle.kilim_fiber_laws.proofs.receivers.Held.{HeldIn}
use Rattle.kilim_fiber_laws.proofs.receivers.Steps.{step_held}
use Rattle.kilim_fiber_laws.proofs.receivers.called.Begins.{begins_called}
use Rattle.kilim_fiber_laws.proofs.receivers.called.Steps.{step_called}
use Rattle.kilim_fiber_laws.specs.receivers.called.Law.{CalledAs, TypedAs}
use Rattle.kilim_fiber_laws.proofs.courses.Receives.{receives_typed}
use Rattle.kilim_fiber_laws.specs.courses.Law.{IsOfCourse}
use Rattle.kilim_weave_spec.specs.Woven.{pausable_callee}
use Rattle.kilim_fiber_spec.specs.lone.Law.{lone_at, lone_frames}
use Rattle.kilim_weave_laws.specs.woven_programs.Law.{KeepsPauses}
use Rattle.kilim_fiber_laws.proofs.woven_served.ready.Chained.{live_in, ready_below, self_of_first}
use Rattle.kilim_fiber_laws.proofs.woven_served.ready.Leaf.{IsSound, fit_get, fit_yield}
use Rattle.kilim_fiber_laws.proofs.woven_served.ready.Waiting.{fit_wait}
use Rattle.kilim_fiber_laws.proofs.woven_served.ready.There.{AllThere, local_of, rest_of, stack_of}
use Rattle.kilim_fiber_laws.proofs.receivers.Along.{receivers_stay, selves_in}
use Rattle.kilim_fiber_laws.specs.receivers.Law.{IsBegun, SelvesIn}
use Rattle.kilim_fiber_spec.specs.alike.Shares.{Agree}
use Rattle.kilim_fiber_spec.specs.Acts.{Lost, Over, World, asks, ending, native_does, put_waits, spending, with_heap}
use Rattle.kilim_fiber_spec.specs.Fibers.{frame}
use Rattle.kilim_fiber_spec.specs.Form.{Facts}
use Rattle.kilim_fiber_spec.specs.Links.{AllStand, AreReady, Fit, Forms, Leaf, Link, Lk, code, u_frames}
use Rattle.kilim_fiber_spec.specs.Rows.{Receives}
use Rattle.kilim_fiber_spec.specs.Serves.{From, MayPause, SelvesAreThere, is_leaf, leaf_receiver, resting_heap}
use Rattle.kilim_fiber_spec.specs.Thread.{At, Run, Stop, Thread, code_in, effect_does, fetch, found_does, own_of, push, raised_behind, step, steps}
use Rattle.kilim_fiber_laws.specs.stands.Law.{IsFormOf}

-- the task's thread begins; one that is over has nothing lost
abbrev is_run : Thread → Bool
is_run (Run m p l s x b w) = true
is_run (Stop o) = false

-- a slot that is live behind a call is live at it
live_before : (p : Program) (i : Instr) (callee own : Method) (q to j : ℕ) → pausable_callee p i ≡ Some callee → fetched own.code own.code_length q ≡ Some (i, to) → Live own j to → Live own j q
unfolding ends_path jump_targets
live_before p (instr.Invokevirtual id) callee own q to j hp f live = GoesOn q to to (instr.Invokevirtual id) f refl (inl refl) live
live_before p (instr.Invokespecial id) callee own q to j hp f live = GoesOn q to to (instr.Invokespecial id) f refl (inl refl) live
live_before p (instr.Invokestatic id) callee own q to j hp f live = GoesOn q to to (instr.Invokestatic id) f refl (inl refl) live
live_before p i callee own q to j hp f live = absurd (none-some callee hp)

-- ---- what `get` and `yield` take, where the thread isn't lost

module _ (set : Setting) (w : World) (go : World → Option Value → Thread) (raise : EndCause → Thread) where
  box_args : (args : List Value) → native_does set w Stop go raise native.Get args ≢ Stop Lost → (b : BoxName) × (args ≡ Box b ∷ [])
  box_args (Box b ∷ []) n = (b, refl)
  box_args [] n = absurd (n refl)
  box_args (Box b ∷ v ∷ vs) n = absurd (n refl)
  box_args (Int x ∷ vs) n = absurd (n refl)
  box_args (Long x ∷ vs) n = absurd (n refl)
  box_args (Null ∷ vs) n = absurd (n refl)
  box_args (Ref k ∷ vs) n = absurd (n refl)
  box_args (Text units ∷ vs) n = absurd (n refl)
  box_args (Fiber ∷ vs) n = absurd (n refl)

  no_args : (args : List Value) → native_does set w Stop go raise native.Yield args ≢ Stop Lost → args ≡ []
  no_args [] n = refl
  no_args (v ∷ vs) n = absurd (n refl)

module _ (set : Setting) (run : IsRunOfAccepted set) (pauses : KeepsPauses set.program) (sound : IsSound set.program) (W : Program) (marks : List (List Bool)) (form : Forms set W marks)
    (is_form : (m : MethodId) (a : Method) → method_at set.program m ≡ Some a → IsFormOf set.program W (code set W marks) m (form m) a) (agree : Agree set.program W) (facts : (m : MethodId) → Facts set.program W (code set W marks) (form m))
    (executes_same : (c : ClassId) → is_task set.program c ≡ true → execute_of W c ≡ execute_of set.program c) where
  kept : Kept (live_in set run pauses W marks form is_form agree facts executes_same) set
  kept = accepted_is_kept set run (live_in set run pauses W marks form is_form agree facts executes_same) (is_live, λ id m at k there live. inl (is_live id m at k there live))
    where
      is_live : (id : MethodId) (m : Method) (at k : ℕ) → method_at set.program id ≡ Some m → ((form id).has_calls && (form id).live at k) ≡ true → Live m k at
      is_live id m at k there live =
          let both = and_parts (form id).has_calls ((form id).live at k) live in
          ((is_form id m there).live both.0 at k).0 both.1

  -- ---- what is known of the thread on its way, with whatever deeds to come

  record StandsSo (t : Thread) : Type 0 where
    course : IsOfCourse set t
    of : Classes
    well : WellAs set run of t
    called : CalledAs set of t
    held : HeldIn set run t

  begins_so : (first : Thread) → IsBegun set first → IsOfCourse set first → StandsSo first
  begins_so first begun course = let called = begins_called set run first begun in record { course = course; of = called.0; well = called.1; called = called.2; held = (begins_held set run first begun).2 }

  step_so : (t : Thread) → StandsSo t → StandsSo (step set t)
  step_so t w =
      let next = step_well set run w.of t w.well in
      record { course = goes_on set t w.course; of = next.0; well = next.2; called = step_called set run w.of next.0 next.1 t w.well w.called; held = step_held set run w.of t w.well w.held (next.0, next.2) }

  steps_so : (n : ℕ) (t : Thread) → StandsSo t → StandsSo (steps set n t)
  steps_so zero t w = w
  steps_so (suc n) t w = steps_so n (step set t) (step_so t w)

  module _ (m : MethodId) (p to : ℕ) (i : Instr) (callee : Method) (l s s2 args wl : List Value) (x : Value) (old : ℕ) (was : Value) (links : List Link) (w : World) (c : MethodId) (f : fetch set.program m p ≡ Some (i, to)) (hp : pausable_callee set.program i ≡ Some callee)
      (d : does set.program (own_of set.program m) i to l s w.heap ≡ Asks c args to l s2 w.heap) (stand : AllStand set W marks form links) (so : StandsSo (Run m p l s x (u_frames links) w)) where
    abbrev of : Classes
    of = so.of

    course : IsOfCourse set (Run m p l s x (u_frames links) w)
    course = so.course

    typed : TypedAs set so.of (Run m p l s x (u_frames links) w)
    typed = so.well.fits

    called : CalledAs set so.of (Run m p l s x (u_frames links) w)
    called = so.called

    selves : SelvesIn set (Run m p l s x (u_frames links) w)
    selves = selves_in set run (Run m p l s x (u_frames links) w) so.held

    there : AllThere w.heap (live_in set run pauses W marks form is_form agree facts executes_same) (frame m p l s ∷ lone_frames (u_frames links))
    there = λ n names. (kept w.task course.0 course.1 (lone_at m p l s (u_frames links) w) course.2 course.3).there n n (inl names) (Here refl)

    below : (w.kept ≡ None) × AreReady set W marks form w.heap (Rattle.kilim_fiber_spec.specs.Links.Inner m) x links
    below =
        ready_below set run pauses W marks form is_form agree facts executes_same of w.heap typed.fits.heap links m x w.kept ((facts m).group p to i callee f hp).pausable called selves
        (rest_of w.heap (live_in set run pauses W marks form is_form agree facts executes_same) (frame m p l s) (lone_frames (u_frames links)) there) stand

    own_fetched : fetched typed.fits.frames.0.method.code typed.fits.frames.0.method.code_length p ≡ Some (i, to)
    own_fetched = ap (λ (o : Option Method). code_in o p) (sym typed.fits.frames.0.there) ∙ f

    self_here : IsThere w.heap x
    self_here = self_of_first set w.heap (u_frames links) m x selves ((facts m).group p to i callee f hp).pausable

    -- a local that is live behind the call is in the heap
    locals : (j : ℕ) → (form m).live to j ≡ true → (v : Value) → slice_get l j ≡ Some v → IsThere w.heap v
    locals j live v at =
        let group = (facts m).group p to i callee f hp in
        let table = (is_form m typed.fits.frames.0.method typed.fits.frames.0.there).live group.has_calls in
        let before = (table p j).1 (live_before set.program i callee typed.fits.frames.0.method p to j hp own_fetched ((table to j).0 live)) in
        local_of w.heap (live_in set run pauses W marks form is_form agree facts executes_same) (frame m p l s) (lone_frames (u_frames links)) there j (and_from (form m).has_calls ((form m).live p j) group.has_calls before) v at

    -- the rows of verification at the call
    at : (g : Types) × (type_step set.program typed.fits.frames.0.method p i (typing_at set.program m p) ≡ Ok g)
    at =
        let top = typed.fits.frames.0 in
        let v = is_verified set run.keeps run.form run.well run.accepted run.main run.begins in
        let row = stands_at set.program top.method (typing_at set.program m) (v.verified.typed m top.method top.there top.code) p i to own_fetched in
        (row.after, row.step)

    receives : Receives set.program i s w.heap
    receives = receives_typed set.program (facts_hold set.program run.keeps).order typed.fits.frames.0.method of w.heap typed.fits.heap p i (typing_at set.program m p) at.0 s typed.fits.frames.0.stack at.1

    inside : AreThere w.heap s
    inside = stack_of w.heap (live_in set run pauses W marks form is_form agree facts executes_same) (frame m p l s) (lone_frames (u_frames links)) there

    unlost : (leaf : Native) → native_of set.program c ≡ Some leaf → native_does set (with_heap w w.heap) Stop (λ after r. Run m to l (push r s2) x (u_frames links) after) (raised_behind set (At m to l s2 x ∷ u_frames links) (with_heap w w.heap)) leaf args ≢ Stop Lost
    unlost leaf named =
        subst (λ (o : Option Native). asks set (with_heap w w.heap) Stop (λ after r. Run m to l (push r s2) x (u_frames links) after) (raised_behind set (At m to l s2 x ∷ u_frames links) (with_heap w w.heap)) o args ≢ Stop Lost) named
        (natives_answer set (typing_at set.program) (λ id at k. true) (is_verified set run.keeps run.form run.well run.accepted run.main run.begins) of m p to to i l s l s2 args x (u_frames links) w w.heap c typed.fits.frames.0 typed.fits.heap inside f d)

    get_fits : native_of set.program c ≡ Some native.Get → Fit set W marks form w.heap (Leaf native.Get) (leaf_receiver native.Get args) (Lk m p to i callee s2 l wl x old was)
    get_fits named =
        let b = box_args set (with_heap w w.heap) (λ after r. Run m to l (push r s2) x (u_frames links) after) (raised_behind set (At m to l s2 x ∷ u_frames links) (with_heap w w.heap)) args (unlost native.Get named) in
        fit_get set run pauses sound W marks form is_form agree of w.heap typed.fits.heap m typed.fits.frames.0.method typed.fits.frames.0.there p to l s typed.fits.frames.0.stack at.0 callee c args s2 i f hp receives (λ k. typed.fits.frames.0.locals.slots k refl) locals wl x old was self_here inside d named at.1 b.0 b.1

    yield_fits : native_of set.program c ≡ Some native.Yield → Fit set W marks form w.heap (Leaf native.Yield) (leaf_receiver native.Yield args) (Lk m p to i callee s2 l wl x old was)
    yield_fits named =
        fit_yield set run pauses sound W marks form is_form agree of w.heap typed.fits.heap m typed.fits.frames.0.method typed.fits.frames.0.there p to l s typed.fits.frames.0.stack at.0 callee c args s2 i f hp receives (λ k. typed.fits.frames.0.locals.slots k refl) locals wl x old was self_here inside d named
        (no_args set (with_heap w w.heap) (λ after r. Run m to l (push r s2) x (u_frames links) after) (raised_behind set (At m to l s2 x ∷ u_frames links) (with_heap w w.heap)) args (unlost native.Yield named))

    -- ---- A put that waits: were it made now, its tree would be gone, and what is left in the frames would be there. So it is there without the tree.

    module _ (box : BoxName) (n : ℕ) (shape : List Token) (are : args ≡ Box box ∷ Ref n ∷ []) (has : shape_of set.program w.heap n ≡ Some shape) (left : nat_le set.limits.steps w.done ≡ false) (named : native_of set.program c ≡ Some native.PutWait) where
      -- its deed is to come
      abbrev told : World
      told = record w { deeds = plain (act.Put box 0 shape) ∷ [] }

      abbrev rest : Objects
      rest = without w.heap (tree_names set.program w.heap n)

      abbrev put : World
      put = record told { heap = rest; deeds = []; acts = act.Put box 0 shape ∷ w.acts; done = w.done + 1 }

      goes : step set (Run m p l s x (u_frames links) told) ≡ Run m to l s2 x (u_frames links) put
      goes =
          ap (λ (o : Option (Instr × ℕ)). spending set told Stop (found_does set o (frame m p l s) x (u_frames links) told)) f
          ∙ (ap (λ (z : Bool). cond z (ending set told Stop cause.Spent) (effect_does set (does set.program (own_of set.program m) i to l s w.heap) (frame m p l s) x (u_frames links) told)) left
          ∙ (ap (λ (e : Effect). effect_does set e (frame m p l s) x (u_frames links) told) d
          ∙ (ap (λ (o : Option Native). asks set (with_heap told w.heap) Stop (λ after r. Run m to l (push r s2) x (u_frames links) after) (raised_behind set (At m to l s2 x ∷ u_frames links) (with_heap told w.heap)) o args) named
          ∙ (ap (λ (xs : List Value). native_does set (with_heap told w.heap) Stop (λ after r. Run m to l (push r s2) x (u_frames links) after) (raised_behind set (At m to l s2 x ∷ u_frames links) (with_heap told w.heap)) native.PutWait xs) are
          ∙ ap (λ (o : Option (List Token)). put_waits set (with_heap told w.heap) Stop (λ after r. Run m to l (push r s2) x (u_frames links) after) box n o) has))))

      behind : StandsSo (Run m to l s2 x (u_frames links) put)
      behind = subst StandsSo goes (step_so (Run m p l s x (u_frames links) told) (record { course = so.course; of = so.of; well = so.well; called = so.called; held = so.held }))

      left_heap : HeapFits set.program of rest
      left_heap = record {
        proper = typed.fits.heap.proper;
        classes = λ q o e. typed.fits.heap.classes q o (left_old w.heap (tree_names set.program w.heap n) q o e);
        objects = λ q o e. typed.fits.heap.objects q o (left_old w.heap (tree_names set.program w.heap n) q o e);
      }

      left_there : AllThere rest (live_in set run pauses W marks form is_form agree facts executes_same) (frame m to l s2 ∷ lone_frames (u_frames links))
      left_there = λ q names. (kept w.task behind.course.0 behind.course.1 (lone_at m to l s2 (u_frames links) put) behind.course.2 behind.course.3).there q q (inl names) (Here refl)

      left_selves : SelvesIn set (Run m to l s2 x (u_frames links) put)
      left_selves = selves_in set run (Run m to l s2 x (u_frames links) put) behind.held

      left_below : (w.kept ≡ None) × AreReady set W marks form rest (Rattle.kilim_fiber_spec.specs.Links.Inner m) x links
      left_below =
          ready_below set run pauses W marks form is_form agree facts executes_same of rest left_heap links m x w.kept ((facts m).group p to i callee f hp).pausable called left_selves
          (rest_of rest (live_in set run pauses W marks form is_form agree facts executes_same) (frame m to l s2) (lone_frames (u_frames links)) left_there) stand

      left_locals : (j : ℕ) → (form m).live to j ≡ true → (v : Value) → slice_get l j ≡ Some v → IsThere rest v
      left_locals j live v at =
          local_of rest (live_in set run pauses W marks form is_form agree facts executes_same) (frame m to l s2) (lone_frames (u_frames links)) left_there j (and_from (form m).has_calls ((form m).live to j) ((facts m).group p to i callee f hp).has_calls live) v at

      wait_fits : Fit set W marks form rest (Leaf native.PutWait) (Box box) (Lk m p to i callee s2 l wl x old was)
      wait_fits =
          fit_wait set run pauses sound W marks form is_form agree of w.heap rest typed.fits.heap left_heap m typed.fits.frames.0.method typed.fits.frames.0.there p to l s typed.fits.frames.0.stack at.0 callee c args s2 box n i f hp receives (λ k. typed.fits.frames.0.locals.slots k refl) left_locals wl x old was
          (self_of_first set rest (u_frames links) m x left_selves ((facts m).group p to i callee f hp).pausable) (stack_of rest (live_in set run pauses W marks form is_form agree facts executes_same) (frame m to l s2) (lone_frames (u_frames links)) left_there) d named at.1 are

      wait_ready : (w.kept ≡ None) × AreReady set W marks form (resting_heap set.program native.PutWait args w.heap) (Leaf native.PutWait) (leaf_receiver native.PutWait args) (Lk m p to i callee s2 l wl x old was ∷ links)
      wait_ready =
          subst (λ (xs : List Value). (w.kept ≡ None) × AreReady set W marks form (resting_heap set.program native.PutWait xs w.heap) (Leaf native.PutWait) (leaf_receiver native.PutWait xs) (Lk m p to i callee s2 l wl x old was ∷ links)) (sym are)
          (left_below.0, (wait_fits, left_below.1))

    ready : (leaf : Native) → native_of set.program c ≡ Some leaf → is_leaf leaf ≡ true → MayPause set leaf args w → (w.kept ≡ None) × AreReady set W marks form (resting_heap set.program leaf args w.heap) (Leaf leaf) (leaf_receiver leaf args) (Lk m p to i callee s2 l wl x old was ∷ links)
    ready native.Get named is may = (below.0, (get_fits named, below.1))
    ready native.Yield named is may = (below.0, (yield_fits named, below.1))
    ready native.PutWait named is (box, n, shape, are, has, left) = wait_ready box n shape are has left named
    ready leaf named is may = absurd (false≢true is)

  selves_there : (first : Thread) → IsBegun set first → SelvesAreThere set (From set first)
  selves_there first begun m p l s x b w from pausable = self_of_first set w.heap b m x (subst (λ (t : Thread). SelvesIn set t) from.1 (receivers_stay set run first begun from.0)) pausable

  pub can_pause : (first : Thread) → IsBegun set first → IsOfCourse set first → CanPause set W marks form (From set first)
  can_pause first begun course = (
    selves_there first begun,
    λ m p to i callee l s s2 args wl x old was links w c leaf from f hp d named is stand may.
        ready m p to i callee l s s2 args wl x old was links w c f hp d stand (subst StandsSo from.1 (steps_so from.0 first (begins_so first begun course))) leaf named is may,
  )

  stays : (n : ℕ) (o : Over) → steps set n (Stop o) ≡ Stop o
  stays zero o = refl
  stays (suc n) o = stays n o

  -- one that is over pauses nowhere
  pub over_pauses : (o : Over) → CanPause set W marks form (From set (Stop o))
  over_pauses o = (
    λ m p l s x b w from pausable. absurd (false≢true (ap is_run (sym (stays from.0 o) ∙ from.1))),
    λ m p to i callee l s s2 args wl x old was links w c leaf from f hp d named is stand may. absurd (false≢true (ap is_run (sym (stays from.0 o) ∙ from.1))),
  )
