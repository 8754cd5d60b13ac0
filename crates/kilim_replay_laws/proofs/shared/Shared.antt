-- Over one heap threads of verified code go on fitting.
use Rattle.std.proofs.Common.{◌≡◌, ℕ, zero, suc, ◌+◌, ◌<◌, ◌≤◌, Bool, true, false, cond, eqb, List, [], ◌∷◌, ◌++◌, length, Option, Some, None, ◌⊎◌, inl, inr, refl, sym, ap, subst, ◌∙◌, arith, rules}
use Rattle.std.specs.Prelude.{nat_lt, slice_get, slice_set, IsSome}
use Rattle.std.specs.FinMap.{get}
use Rattle.std.proofs.lemmas.Bool.{and_parts, eqb-true}
use Rattle.std.proofs.lemmas.Bool.Decides.{eqb_tells}
use Rattle.kilim_lemmas.proofs.Lists.{set_there, set_other}
use Rattle.kilim_program.specs.Names.{◌>>=◌, class_at, is_task}
use Rattle.kilim_program.specs.Program.{Program}
use Rattle.kilim_program.specs.BuiltIn.{class_type}
use Rattle.kilim_program.specs.declared.class.Method.{Method}
use Rattle.kilim_program.specs.declared.names.BoxName.{BoxName}
use Rattle.kilim_program.specs.declared.names.ClassId.{ClassId}
use Rattle.kilim_run_state.specs.declared.cause.EndCause.{EndCause}
use Rattle.kilim_run_state.specs.declared.cause.EndCause.TheVariants as cause
use Rattle.kilim_run_state.specs.declared.value.Object.{Object as HeapObject}
use Rattle.kilim_run_state.specs.declared.value.Token.{Token}
use Rattle.kilim_program.specs.declared.ty.Base.{Base}
use Rattle.kilim_program.specs.declared.ty.Base.TheVariants as base
use Rattle.kilim_program.specs.declared.ty.Ty.{Ty}
use Rattle.kilim_program.specs.declared.value.Value.{Value}
use Rattle.kilim_program.specs.declared.value.Value.TheVariants.{Int, Long, Null, Ref, Text, Box, Fiber}
use Rattle.kilim_program.specs.declared.verified.VType.{VType}
use Rattle.kilim_program.specs.declared.verified.VType.TheVariants as vt
use Rattle.kilim_run_state.specs.Machine.{Objects, Activation}
use Rattle.kilim_program.specs.Members.{constructor_of, execute_of, is_concrete}
use Rattle.kilim_run_state.specs.Trees.{OfTask, is_root}
use Rattle.kilim_run_journal.specs.declared.entry.Act.TheVariants.{End}
use Rattle.kilim_type_spec.specs.Step.{vtype}
use Rattle.kilim_type_sound.specs.Fits.{Classes, ContentFits, Fits, FramesFit, HeapFits, Nothing, Typing, Wanted, AreThere, IsThere, has_objects, has_type, have_types, is_of, is_made, refers}
use Rattle.kilim_type_sound.specs.Law.{Extends}
use Rattle.kilim_type_sound.proofs.Grown.{frames_grown}
use Rattle.kilim_run_model.specs.State.{Setting, Thread, Alive, State, Mailbox, bounded, is_full, begun_on, class_of, execute_frames, first_state, is_fit, new_thread, same_box, with_mailbox, with_message, with_queue}
use Rattle.kilim_run_model.specs.Lone.{Lone, Next, Goes, Puts, PutWaits, Bounds, Gets, Probes, Starts, Prints, Ends, Stands, ended, next_move, pushed}
use Rattle.kilim_run_model.specs.Turn.{Moved, acted, puts, quiet, kept_by, lone_of, with_lone, takes, gets, probes, starts, starts_with, task_limit, moved_by, thread_moved, moved}
use Rattle.kilim_run_model.specs.Course.{lone_begun, lone_in}
use Rattle.kilim_run_model.specs.declared.deed.Beginning.TheVariants.{Boot}
use Rattle.kilim_fiber_spec.specs.fiber_kin.Served.{IsFineThread}
use Rattle.kilim_isolation_laws.specs.typed_threads.fine.Typed.{FitsAs, IsVerified, StackIsThere, TopIsThere, frames_of}
use Rattle.kilim_isolation_laws.proofs.typed_threads.fine.Fine.{fitting_is_fine}
use Rattle.kilim_isolation_laws.proofs.typed_threads.fine.Natives.{first}
use Rattle.kilim_isolation_laws.proofs.typed_threads.Executing.{execute_begins}
use Rattle.kilim_isolation_laws.proofs.typed_threads.Threads.{beginnings_are_typed}
use Rattle.kilim_isolation_laws.proofs.states.Roots.{task_root}
use Rattle.kilim_type_sound.specs.Sound.{MoveFits, native_types}
use Rattle.kilim_type_sound.proofs.Grounds.{facts_hold}
use Rattle.kilim_type_sound.proofs.Theorem.{moves_fit}
use Rattle.kilim_run_machine.specs.Moves.{Move, moves}
use Rattle.kilim_run_machine.specs.Moves as move
use Rattle.kilim_replay_laws.proofs.shared.Closed.{all_there, closed, suits}
use Rattle.kilim_replay_laws.specs.shared.Shared.{AskedAreThere, AskedIsFine, Serves, IsFull, AreOf, SharedFits, IsTypedState, VerifiedIsShared}
use Rattle.kilim_replay_laws.proofs.shared.Begun.{constructs, task_begun}
use Rattle.kilim_replay_laws.proofs.shared.Calls.{calls_fine}
use Rattle.kilim_replay_laws.proofs.shared.Full.{FullL, NextFull, next_full}
use Rattle.kilim_replay_laws.proofs.shared.Nexts.{NextFits, Waits, next_fits}

some_same : {A : Type 0} (x y : A) → Some x ≡ Some y → x ≡ y
some_same x y e = cc

-- ---- a list with one more

get_more : {A : Type 0} (xs : List A) (x y : A) (u : ℕ) → slice_get (xs ++ x ∷ []) u ≡ Some y → (slice_get xs u ≡ Some y) ⊎ (x ≡ y)
get_more [] x y zero e = inr (some_same x y e)
get_more [] x y (suc u) e = absurd (cc)
get_more (z ∷ zs) x y zero e = inl e
get_more (z ∷ zs) x y (suc u) e = get_more zs x y u e

module _ (set : Setting) (typing : Typing) (live : Wanted) (is : IsVerified set typing live) (main : is_fit set ≡ true) where
  abbrev p : Program
  p = set.program

  abbrev n : ℕ
  n = first p is.keeps is.form

  abbrev message : Ty
  message = class_type (n + 2)

  -- ---- queues

  abbrev Are : Classes → List (ℕ × ℕ) → Type 0
  Are of q = AreOf p of message q

  of_grown : (of more : Classes) → Extends of more → (q : ℕ) (ty : Ty) → is_of p (of q) ty ≡ true → is_of p (more q) ty ≡ true
  of_grown of more grows q ty e = by (of q) refl e
    where
      by : (o : Option Ty) → of q ≡ o → is_of p o ty ≡ true → is_of p (more q) ty ≡ true
      by None at e = absurd (cc)
      by (Some c) at e = ap (λ (o : Option Ty). is_of p o ty) (grows q c at) ∙ e

  are_grown : (of more : Classes) → Extends of more → (q : List (ℕ × ℕ)) → Are of q → Are more q
  are_grown of more grows [] a = tt
  are_grown of more grows (e ∷ es) a = (of_grown of more grows e.1 message a.0, are_grown of more grows es a.1)

  are_more : (of : Classes) (q : List (ℕ × ℕ)) (i root : ℕ) → Are of q → is_of p (of root) message ≡ true → Are of (q ++ (i, root) ∷ [])
  are_more of [] i root a e = (e, tt)
  are_more of (x ∷ xs) i root a e = (a.0, are_more of xs i root a.1 e)

  either_box : (of : Classes) (z : Bool) (a b : Mailbox ℕ) → Are of a.queue → Are of b.queue → Are of (cond z a b).queue
  either_box of true a b p q = p
  either_box of false a b p q = q

  -- ---- what stacks name

  refers_some : (m : Method) (t : VType) (o : Option Ty) → refers p m t o ≡ true → (c : Ty) × (o ≡ Some c)
  refers_some m t (Some c) e = (c, refl)
  refers_some m (vt.Object ty) None e = absurd (cc)
  refers_some m vt.UninitThis None e = absurd (cc)
  refers_some m (vt.Uninit at) None e = absurd (none (Rattle.kilim_type_spec.specs.Step.made_at m.code at) e)
    where
      none : (o : Option ClassId) → is_made p None o ≡ true → ⊥
      none None e = cc
      none (Some c) e = cc
  refers_some m vt.Top None e = absurd (cc)
  refers_some m vt.Int None e = absurd (cc)
  refers_some m vt.Long None e = absurd (cc)
  refers_some m vt.Null None e = absurd (cc)

  module _ (of : Classes) (s : State) (fits : SharedFits set typing live is of s) where
    named_below : (q : ℕ) (c : Ty) → of q ≡ Some c → q < s.next
    named_below q c e = elim (tells q s.next) [ inl lt ↦ lt | inr le ↦ absurd (let z = fits.fresh q le in let y : None ≡ Some c = sym z ∙ e in cc) ]
      where
        tells : (a b : ℕ) → (a < b) ⊎ (b ≤ a)
        tells zero zero = inr (omega arith)
        tells zero (suc b) = inl (omega arith)
        tells (suc a) zero = inr (omega arith)
        tells (suc a) (suc b) = elim (tells a b) [ inl e ↦ inl (omega (arith, e)) | inr e ↦ inr (omega (arith, e)) ]

    value_there : (m : Method) (t : VType) (v : Value) → has_type p m of t v ≡ true → IsThere s.heap v
    value_there m t (Ref q) e = let c = refers_some m t (of q) e in fits.full q (named_below q c.0 c.1)
    value_there m t (Int x) e = tt
    value_there m t (Long x) e = tt
    value_there m t Null e = tt
    value_there m t (Text u) e = tt
    value_there m t (Box b) e = tt
    value_there m t Fiber e = tt

    stack_there : (m : Method) (ts : List VType) (vs : List Value) → have_types p m of ts vs ≡ true → AreThere s.heap vs
    stack_there m [] [] e = tt
    stack_there m (t ∷ ts) [] e = tt
    stack_there m [] (v ∷ vs) e = absurd (cc)
    stack_there m (t ∷ ts) (v ∷ vs) e =
        let parts = and_parts (has_type p m of t v) (have_types p m of ts vs) e in
        (value_there m t v parts.0, stack_there m ts vs parts.1)

    top_there : (frames : List Activation) → FramesFit p typing live of Nothing frames → TopIsThere s.heap frames
    top_there [] f = tt
    top_there (top ∷ below) f = stack_there f.0.method (typing top.method top.place).stack top.stack f.0.stack

    -- ---- one thread of the state

    kept_of : (t : ℕ) (q : ℕ) → kept_by s t ≡ Some q → of q ≡ Some (class_type set.main.0)
    kept_of t q e = by (eqb t 0) e
      where
        by : (z : Bool) → cond z s.kept None ≡ Some q → of q ≡ Some (class_type set.main.0)
        by true e = fits.kept q e
        by false e = absurd (cc)

    lone_fits : (t : ℕ) (th : Thread) → slice_get s.threads t ≡ Some th → FitsAs set typing live of (lone_of s t th)
    lone_fits t th at = record { fits = record { frames = fits.threads t th at; heap = fits.heap }; fresh = fits.fresh; kept = kept_of t }

    lone_there : (t : ℕ) (th : Thread) → slice_get s.threads t ≡ Some th → StackIsThere (lone_of s t th)
    lone_there t th at = top_there (frames_of th) (fits.threads t th at)

    -- ---- the state with that thread

    module _ (t : ℕ) (th : Thread) (at : slice_get s.threads t ≡ Some th) where
      set_by : (after : Thread) (more : Classes) → Extends of more → FramesFit p typing live more Nothing (frames_of after) → (u : ℕ) (x : Thread) → slice_get (slice_set s.threads t after) u ≡ Some x → FramesFit p typing live more Nothing (frames_of x)
      set_by after more grows f u x e = elim (eqb_tells u t) [
        | inl z ↦ subst (λ (y : Thread). FramesFit p typing live more Nothing (frames_of y)) (some_same after x (sym (set_there s.threads t th after at) ∙ subst (λ (j : ℕ). slice_get (slice_set s.threads t after) j ≡ Some x) z.1 e)) f
        | inr z ↦ frames_grown p of more grows typing live Nothing (frames_of x) (fits.threads u x (sym (set_other s.threads t u after z.1) ∙ e))
      ]

      kept_with : (after : Lone) (more : Classes) → Extends of more → ((q : ℕ) → after.kept ≡ Some q → more q ≡ Some (class_type set.main.0)) → (q : ℕ) → (cond (eqb t 0) after.kept s.kept) ≡ Some q → more q ≡ Some (class_type set.main.0)
      kept_with after more grows k q e = by (eqb t 0) e
        where
          by : (z : Bool) → cond z after.kept s.kept ≡ Some q → more q ≡ Some (class_type set.main.0)
          by true e = k q e
          by false e = grows q (class_type set.main.0) (fits.kept q e)

      went_on : (after : Lone) (more : Classes) → Extends of more → FitsAs set typing live more after → FullL after → SharedFits set typing live is more (with_lone s t after)
      went_on after more grows on full = record {
        threads = λ u x e. set_by after.thread more grows on.fits.frames u x e;
        heap = on.fits.heap;
        full = full;
        fresh = on.fresh;
        kept = λ q e. kept_with after more grows on.kept q e;
        queued = λ box. are_grown of more grows (s.mailboxes box).queue (fits.queued box);
      }

      same : Extends of of
      same q c e = e

      -- with another mailbox
      with_box : (after : Lone) (box : BoxName) (mailbox : Mailbox ℕ) → FitsAs set typing live of after → FullL after → Are of mailbox.queue → SharedFits set typing live is of (record (with_lone s t after) { mailboxes = with_mailbox s.mailboxes box mailbox })
      with_box after box mailbox on full q = let w = went_on after of same on full in record {
        threads = w.threads;
        heap = w.heap;
        full = w.full;
        fresh = w.fresh;
        kept = w.kept;
        queued = λ b. either_box of (same_box b box) mailbox (s.mailboxes b) q (fits.queued b);
      }

      received : (after : Lone) (v : Value) → Waits set typing live of is main after → ((m : Method) → has_type p m of (vtype message) v ≡ true) → FitsAs set typing live of (pushed v after)
      received after v w typed = w.comes of v after.heap after.next same w.heap w.fresh typed

      taken : (box : BoxName) (after : Lone) (e : ℕ × ℕ) (rest : List (ℕ × ℕ)) → Waits set typing live of is main after → FullL after → Are of (e ∷ rest) → IsTypedState set typing live is (takes s t box after e rest).state
      taken box after e rest w full a = (of, with_box (pushed (Ref e.1) after) box (with_queue (s.mailboxes box) rest) (received after (Ref e.1) w (λ m. a.0)) full a.1)

      gets_fit : (box : BoxName) (after : Lone) (q : List (ℕ × ℕ)) → Waits set typing live of is main after → FullL after → Are of q → IsTypedState set typing live is (gets s t box after q).state
      gets_fit box after [] w full a = (of, fits)
      gets_fit box after (e ∷ rest) w full a = taken box after e rest w full a

      probes_fit : (box : BoxName) (after : Lone) (q : List (ℕ × ℕ)) → Waits set typing live of is main after → FullL after → Are of q → IsTypedState set typing live is (probes s t box after q).state
      probes_fit box after [] w full a = (of, went_on (pushed Null after) of same (received after Null w (λ m. refl)) full)
      probes_fit box after (e ∷ rest) w full a = taken box after e rest w full a

      -- ---- a start

      is_concrete_of : (c : ClassId) → has_objects p c ≡ true → is_concrete (class_at p c) ≡ true
      is_concrete_of c e = (and_parts (is_concrete (class_at p c)) _ e).0

      task_begins : (h : Objects) → HeapFits p of h → (root d : ℕ) (b : Base) (o : HeapObject) → of root ≡ Some (record { dims = d; base = b }) → is_root p OfTask (record { dims = d; base = b }) ≡ true → ContentFits p of d b o → (frames : List Activation) →
          begun_on p (class_of b >>= λ c. execute_of p c) root ≡ Some frames → Fits p typing live of frames h
      task_begins h heap root zero (base.Class c) o here kind content frames e = execute_begins p is.keeps is.form typing live is.verified of h heap c root frames (is_concrete_of c content.0) kind here e
      task_begins h heap root (suc d) b o here kind content frames e = absurd (let z = eqb-true (suc d) 0 (and_parts _ _ kind).0 in omega (arith, z))
      task_begins h heap root zero base.Bool o here kind content frames e = absurd content
      task_begins h heap root zero base.Byte o here kind content frames e = absurd content
      task_begins h heap root zero base.Char o here kind content frames e = absurd content
      task_begins h heap root zero base.Short o here kind content frames e = absurd content
      task_begins h heap root zero base.Int o here kind content frames e = absurd content
      task_begins h heap root zero base.Long o here kind content frames e = absurd content

      of_task : (root : ℕ) (c : Ty) → of root ≡ Some c → is_of p (of root) (class_type (n + 4)) ≡ true → is_root p OfTask c ≡ true
      of_task root c e typed = task_root p is.keeps is.form c (subst (λ (o : Option Ty). is_of p o (class_type (n + 4)) ≡ true) e typed)

      root_begins : (h : Objects) → HeapFits p of h → (root : ℕ) → is_of p (of root) (class_type (n + 4)) ≡ true → (o : Option HeapObject) → get h root ≡ o → (frames : List Activation) →
          begun_on p (o >>= λ (object : HeapObject). class_of object.class.base >>= λ c. execute_of p c) root ≡ Some frames → Fits p typing live of frames h
      root_begins h heap root typed None at frames e = absurd (cc)
      root_begins h heap root typed (Some object) at frames e =
          let own = heap.classes root object at in
          task_begins h heap root object.class.dims object.class.base object own (of_task root object.class own typed) (heap.objects root object at) frames e

      begun_fit : (root : ℕ) (shape : List Token) (after : Lone) (o : Option (List Activation)) → execute_frames p after.heap root ≡ o → FitsAs set typing live of after → is_of p (of root) (class_type (n + 4)) ≡ true → FullL after → IsTypedState set typing live is (starts_with s shape (with_lone s t after) o).state
      begun_fit root shape after None e on typed full = (of, fits)
      begun_fit root shape after (Some frames) e on typed full =
          let w = went_on after of same on full in
          let f = root_begins after.heap on.fits.heap root typed (get after.heap root) refl frames e in (
            of,
            record {
              threads = λ u x at. elim (get_more (slice_set s.threads t after.thread) (Alive frames 0 0) x u at) [
                | inl g ↦ w.threads u x g
                | inr g ↦ subst (λ (y : Thread). FramesFit p typing live of Nothing (frames_of y)) g f.frames
              ];
              heap = w.heap;
              full = w.full;
              fresh = w.fresh;
              kept = w.kept;
              queued = w.queued;
            },
          )

      over_on : (after : Lone) (why : EndCause) → FitsAs set typing live of after → FitsAs set typing live of (ended after why)
      over_on after why on = record { fits = record { frames = tt; heap = on.fits.heap }; fresh = on.fresh; kept = λ q e. absurd (cc) }

      starts_fit : (root : ℕ) (shape : List Token) (after : Lone) → FitsAs set typing live of after → is_of p (of root) (class_type (n + 4)) ≡ true → FullL after → IsTypedState set typing live is (starts set s t root shape after).state
      starts_fit root shape after on typed full = by (nat_lt (length s.threads) task_limit)
        where
          by : (z : Bool) → IsTypedState set typing live is (cond z (starts_with s shape (with_lone s t after) (execute_frames p after.heap root)) (acted (with_lone s t (ended after cause.Tasks)) (End cause.Tasks))).state
          by true = begun_fit root shape after (execute_frames p after.heap root) refl on typed full
          by false = (of, went_on (ended after cause.Tasks) of same (over_on after cause.Tasks on) full)

      -- ---- what it does next

      puts_typed : (box : BoxName) (root : ℕ) (shape : List Token) (after : Lone) → FitsAs set typing live of after × (is_of p (of root) (class_type (n + 2)) ≡ true) → FullL after → IsTypedState set typing live is (puts (with_lone s t after) box root shape).state
      puts_typed box root shape after f full = (of, with_box after box (with_message (s.mailboxes box) root) f.0 full (are_more of (s.mailboxes box).queue (s.mailboxes box).puts root (fits.queued box) f.1))

      either_typed : (z : Bool) (x y : Moved) → IsTypedState set typing live is x.state → IsTypedState set typing live is y.state → IsTypedState set typing live is (cond z x y).state
      either_typed true x y a b = a
      either_typed false x y a b = b

      next_typed : (x : Next) → NextFits set typing live of is main x → NextFull x → IsTypedState set typing live is (moved_by set s t x).state
      next_typed (Goes after) f full = (f.more, went_on after f.more f.grows f.is full)
      next_typed (Puts box root shape after) f full =
          either_typed (is_full (s.mailboxes box)) (acted (with_lone s t (ended after cause.Full)) (End cause.Full)) (puts (with_lone s t after) box root shape) (of, went_on (ended after cause.Full) of same (over_on after cause.Full f.0) full) (puts_typed box root shape after f full)
      next_typed (PutWaits box root shape after) f full = either_typed (is_full (s.mailboxes box)) (quiet s) (puts (with_lone s t after) box root shape) (of, fits) (puts_typed box root shape after f full)
      next_typed (Bounds box most after) f full = (of, with_box after box (bounded (s.mailboxes box) most) f full (fits.queued box))
      next_typed (Gets box after) f full = gets_fit box after (s.mailboxes box).queue f full (fits.queued box)
      next_typed (Probes box after) f full = probes_fit box after (s.mailboxes box).queue f full (fits.queued box)
      next_typed (Starts root shape after) f full = starts_fit root shape after f.0 f.1 full
      next_typed (Prints token after) f full = (of, went_on after of same f full)
      next_typed (Ends c after) f full = (of, went_on after of same f full)
      next_typed Stands f full = (of, fits)

      moved_typed : IsTypedState set typing live is (moved_by set s t (next_move set t (lone_of s t th))).state
      moved_typed = next_typed (next_move set t (lone_of s t th)) (next_fits set typing live of is main t (lone_of s t th) (lone_fits t th at) (lone_there t th at)) (next_full set t (lone_of s t th) fits.full)

    thread_typed : (t : ℕ) (o : Option Thread) → slice_get s.threads t ≡ o → IsTypedState set typing live is (thread_moved set s t o).state
    thread_typed t None at = (of, fits)
    thread_typed t (Some th) at = moved_typed t th at

    all_typed : (t : ℕ) → IsTypedState set typing live is (moved set s t).state
    unfolding moved
    all_typed t = thread_typed t (slice_get s.threads t) refl

    thread_fine : (t : ℕ) (th : Thread) → slice_get s.threads t ≡ Some th → IsFineThread set (lone_of s t th)
    thread_fine t th at = fitting_is_fine set typing live of (lone_of s t th) is (lone_fits t th at) (lone_there t th at)

    -- ---- what is shown

    some_there : (q : ℕ) (o : HeapObject) → get s.heap q ≡ Some o → IsSome (get s.heap q)
    some_there q o e = subst (λ (z : Option HeapObject). IsSome z) (sym e) (search rules)

    known : (q : ℕ) (c : Ty) → of q ≡ Some c → IsSome (get s.heap q)
    known q c e = let o = fits.full q (named_below q c e) in some_there q o.0 o.1

    asked_there : (m : Move) → MoveFits p typing live of m → AskedAreThere s.heap m
    asked_there (move.Asks id args frames h) f = stack_there f.callee (native_types f.callee) args f.arguments
    asked_there (move.Runs change frames h) f = tt
    asked_there (move.Makes object frames h) f = tt
    asked_there (move.Opens frames h) f = tt
    asked_there (move.Returns h) f = tt
    asked_there (move.Raises c) f = tt
    asked_there (move.Throws object class c) f = tt
    asked_there (move.Ends c) f = tt
    asked_there move.Stuck f = tt

    frames_asked : (th : Thread) → FramesFit p typing live of Nothing (frames_of th) → (top : Activation) (below : List Activation) (done boxes : ℕ) → th ≡ Alive (top ∷ below) done boxes → AskedAreThere s.heap (moves p top below s.heap)
    frames_asked th f top below done boxes e =
        let own : FramesFit p typing live of Nothing (top ∷ below) = subst (λ (x : Thread). FramesFit p typing live of Nothing (frames_of x)) e f in
        asked_there (moves p top below s.heap) (moves_fit p typing live of (facts_hold p is.keeps) is.verified top below s.heap (record { frames = own; heap = fits.heap }) (top_there (top ∷ below) own))

    frames_call : (th : Thread) → FramesFit p typing live of Nothing (frames_of th) → (top : Activation) (below : List Activation) (done boxes : ℕ) → th ≡ Alive (top ∷ below) done boxes → AskedIsFine set s.heap (moves p top below s.heap)
    frames_call th f top below done boxes e =
        let own : FramesFit p typing live of Nothing (top ∷ below) = subst (λ (x : Thread). FramesFit p typing live of Nothing (frames_of x)) e f in
        calls_fine set typing live of is main s.heap fits.heap top own.0 (top_there (top ∷ below) own) below

    main_begins : (k : ℕ) → begun_on p (execute_of p set.main) k ≡ None → ⊥
    main_begins k = task_begun p is.keeps is.form set.main main set.main k (and_parts (is_task p set.main) _ (and_parts (is_concrete (class_at p set.main)) _ main).1).0

    thread_serves : (t : ℕ) (th : Thread) → slice_get s.threads t ≡ Some th → Serves set (lone_of s t th)
    thread_serves t th at =
        let fine = thread_fine t th at in
        record {
          fine = fine;
          heap = record { suits = suits p is.keeps of s.heap fits.heap known fine.shown; there = all_there s.heap (closed p is.keeps of s.heap fits.heap known) };
          asked = frames_asked th (fits.threads t th at);
          calls = frames_call th (fits.threads t th at);
          executes = main_begins;
        }

  -- ---- the beginning

  begins_some : (o : Option (List Activation)) → begun_on p (constructor_of p set.main) 0 ≡ o → (frames : List Activation) × (begun_on p (constructor_of p set.main) 0 ≡ Some frames)
  begins_some (Some frames) e = (frames, e)
  begins_some None e = absurd (constructs p set.main 0 main e)

  zero_below : (q : ℕ) → q < 1 → q ≡ 0
  zero_below zero lt = refl
  zero_below (suc q) lt = absurd (omega (arith, lt))

  first_full : (h : Objects) (o : HeapObject) → get h 0 ≡ Some o → IsFull h 1
  first_full h o e q lt = subst (λ (j : ℕ). (x : HeapObject) × (get h j ≡ Some x)) (sym (zero_below q lt)) (o, e)

  first_one : (frames : List Activation) (u : ℕ) (x : Thread) → slice_get (Alive frames 0 0 ∷ []) u ≡ Some x → x ≡ Alive frames 0 0
  first_one frames zero x e = sym (some_same (Alive frames 0 0) x e)
  first_one frames (suc u) x e = absurd (cc)

  first_typed : IsTypedState set typing live is (first_state set)
  first_typed =
      let b = begins_some (begun_on p (constructor_of p set.main) 0) refl in
      let heap : Objects = (first_state set).heap in
      let l : Lone = record { heap = heap; next = 1; thread = Alive b.0 0 0; kept = Some 0 } in
      let begins : lone_begun set Boot ≡ Some l = ap (λ (o : Option (List Activation)). lone_in heap 1 (Some 0) o) b.1 in
      let typed = beginnings_are_typed set typing live is main Boot l begins in
      let here = Rattle.kilim_lemmas.proofs.Maps.put_there Rattle.std.specs.FinMap.empty 0 (Rattle.kilim_run_state.specs.Objects.new_object p set.main) in (
        typed.of,
        record {
          threads = λ u x e. subst (λ (y : Thread). FramesFit p typing live typed.of Nothing (frames_of y)) (sym (first_one b.0 u x (subst (λ (o : Option (List Activation)). slice_get (new_thread o) u ≡ Some x) b.1 e))) typed.is.fits.frames;
          heap = typed.is.fits.heap;
          full = first_full heap _ here;
          fresh = typed.is.fresh;
          kept = typed.is.kept;
          queued = λ box. tt;
        },
      )

pub verified_is_shared : VerifiedIsShared
verified_is_shared set typing live is main = record {
  first = first_typed set typing live is main;
  moves = λ s t f. all_typed set typing live is main f.0 s f.1 t;
  serves = λ s t th f at. thread_serves set typing live is main f.0 s f.1 t th at;
}
