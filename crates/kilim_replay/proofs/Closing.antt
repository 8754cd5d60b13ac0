-- What a task that is let go on comes to, where all entries are replayed, and what it does there.
use Rattle.std.proofs.lemmas.Bool.{eqb-true}
use Rattle.std.proofs.Common.{◌≡◌, ◌≤◌, ◌+◌, ℕ, suc, Bool, true, false, cond, List, [], ◌∷◌, Option, Some, None, length, refl, sym, ap, subst, ◌∙◌, arith}
use Rattle.std.specs.Prelude.{◌==◌, is_some, slice_get, slice_set}
use Rattle.kilim_lemmas.proofs.Lists.{set_length, set_other, set_there}
use Rattle.kilim_program.specs.declared.names.BoxName.{BoxName}
use Rattle.kilim_program.specs.declared.value.Value.TheVariants.{Ref, Box}
use Rattle.kilim_program.specs.Program.{Program}
use Rattle.kilim_run_state.specs.declared.cause.EndCause.{EndCause}
use Rattle.kilim_run_state.specs.declared.value.Token.{Token}
use Rattle.kilim_run_state.specs.Machine.{Objects}
use Rattle.kilim_run_state.specs.Shapes.{shape_of}
use Rattle.kilim_run_machine.specs.Moves.{moves}
use Rattle.kilim_run_model.specs.State.{Mailbox, Setting, State, Thread, Alive, Ended, is_full}
use Rattle.kilim_run_model.specs.Lone.{Lone, Next, Stands, asks_next, get_at, next_move, put_wait_next, thread_next}
use Rattle.kilim_run_model.specs.Turn.{lone_of, with_lone}
use Rattle.kilim_run_model.specs.Runs.{if_waits, is_at_rest, waits_at, where_empty}
use Rattle.kilim_run_model.specs.Course.{Quiet, Stays}
use Rattle.kilim_run_model.specs.declared.waits.Waits.{Waits}
use Rattle.kilim_run_model.specs.declared.waits.Waits.TheVariants as wait
use Rattle.kilim_isolation_laws.specs.at_rest.Laws.{is_going}
use Rattle.kilim_isolation_laws.proofs.at_rest.Stays.{get_stays}
use Rattle.kilim_type_sound.specs.Fits.{AreThere}
use Rattle.kilim_replay_laws.specs.shared.Runs.{CanGo, IsTypedRun}
use Rattle.kilim_replay_laws.specs.shared.Shared.{AskedAreThere}
use Rattle.kilim_replay_laws.proofs.One.{ended_still, is_halt, still_before}
use Rattle.kilim_replay_laws.proofs.Settling.{settled_is}
use Rattle.kilim_replay_laws.proofs.Waiting.{IsWaitNext, ask_tells, asks_is, waits_ask}
use Rattle.kilim_replay_laws.proofs.shared.Going.{typed_runs_go}
use Rattle.kilim_replay_thread.specs.Comes.{CanShow}
use Rattle.kilim_replay_thread.specs.Live.{behind_at, lone_at, thread_in}
use Rattle.kilim_replay_thread.specs.Reach.{IsComing, PutsThere, Reaches, Stood, WaitsNowhere}
use Rattle.kilim_replay_thread.specs.declared.task.Came.{Came}
use Rattle.kilim_replay_thread.specs.declared.task.Came.TheVariants as came
use Rattle.kilim_replay_thread.specs.declared.task.Live.{Live}
use Rattle.kilim_replay_thread.specs.declared.task.World.{World}
use Rattle.kilim_replay_thread.proofs.Asking.{can_show}
use Rattle.kilim_replay.specs.Machine.{thread_of}
use Rattle.kilim_replay.specs.Mailboxes.{mail_of}
use Rattle.kilim_replay.specs.Rest.{HasCome, HasSettled, IsFrom, IsIn, IsSettled, Says, StandsSo, settled_of, standing_of}
use Rattle.kilim_replay.specs.declared.machine.Machine.{Machine}
use Rattle.kilim_replay.specs.declared.machine.Task.{Task}
use Rattle.kilim_replay.specs.declared.machine.Task.TheVariants as a_task
use Rattle.kilim_replay.specs.declared.mailboxes.Mailboxes.{Mailboxes}
use Rattle.kilim_replay.specs.declared.rest.Standing.{Standing}
use Rattle.kilim_replay.specs.declared.rest.Standing.TheVariants as standing
use Rattle.kilim_replay.specs.declared.rest.Settled.TheVariants as settled

-- ---- one thread

ended_stands : (set : Setting) (t : ℕ) (l : Lone) (why : EndCause) → l.thread ≡ Ended why → next_move set t l ≡ Stands
unfolding next_move
ended_stands set t l why e = ap (thread_next set t l) e

nowhere_by : (set : Setting) (t : ℕ) (mid : Lone) (n : Next) → next_move set t mid ≡ n → ((w : Waits) → IsWaitNext w n → ⊥) → WaitsNowhere set t mid.thread
nowhere_by set t mid n does never x same = by (get_at (next_move set t x)) refl
  where
    by : (o : Option Waits) → get_at (next_move set t x) ≡ o → o ≡ None
    by None e = refl
    by (Some w) e = absurd (never w (subst (IsWaitNext w) does (ask_tells set t w mid (waits_ask set t x mid w same e))))

alive_by : (set : Setting) (t : ℕ) (mid : Lone) (n : Next) → next_move set t mid ≡ n → (n ≡ Stands → ⊥) → (why : EndCause) → mid.thread ≡ Ended why → ⊥
alive_by set t mid n does other why e = other (sym does ∙ ended_stands set t mid why e)

module _ (set : Setting) (t : ℕ) (first : Lone) (done : ℕ) (w : World) (l : Live) where
  shared : (th : Thread) → Rattle.kilim_replay_thread.specs.Reach.Shares t (lone_at t w l) w
  shared th = record { heap = refl; next = refl; kept = refl }

  goes_so : (n : Next) → Stood set t first w l n → is_going n ≡ false → ((v : Waits) → IsWaitNext v n → ⊥) → (n ≡ Stands → ⊥) → HasCome set t first w standing.Goes
  goes_so n r still never other = record {
    mid = lone_at t w l;
    quiet = r.quiet;
    stops = ap is_going r.does ∙ still;
    shares = shared (thread_in l);
    says = (alive_by set t (lone_at t w l) n r.does other, nowhere_by set t (lone_at t w l) n r.does never);
  }

  pub has_come : (c : Came) → Reaches set t first done w l c → IsComing c → HasCome set t first w (standing_of c)
  has_come came.On r coming = absurd coming
  has_come (came.Puts box root shape) r coming = goes_so _ r refl never (λ e. absurd (cc))
    where
      never : (v : Waits) → IsWaitNext v (Rattle.kilim_run_model.specs.Lone.Puts box root shape (behind_at t w l)) → ⊥
      never (wait.Take b) i = i
      never (wait.Put b) i = i
  has_come (came.PutsWaiting box root shape) r coming = record { mid = lone_at t w l; quiet = r.0.quiet; stops = ap is_going r.0.does; shares = shared (thread_in l); says = r.1 }
  has_come (came.TooLarge box root) r coming = record { mid = r.mid; quiet = r.quiet; stops = ap is_going r.does; shares = r.shares; says = r.puts }
  has_come (came.Bounds box most) r coming = goes_so _ r refl never (λ e. absurd (cc))
    where
      never : (v : Waits) → IsWaitNext v (Rattle.kilim_run_model.specs.Lone.Bounds box most (behind_at t w l)) → ⊥
      never (wait.Take b) i = i
      never (wait.Put b) i = i
  has_come (came.Takes box) r coming = record {
    mid = lone_at t w l;
    quiet = r.quiet;
    stops = ap is_going r.does;
    shares = shared (thread_in l);
    says = λ x same. get_stays set t (lone_at t w l) x (wait.Take box) (sym same) (ap get_at r.does);
  }
  has_come (came.Probes box) r coming = goes_so _ r refl never (λ e. absurd (cc))
    where
      never : (v : Waits) → IsWaitNext v (Rattle.kilim_run_model.specs.Lone.Probes box (behind_at t w l)) → ⊥
      never (wait.Take b) i = i
      never (wait.Put b) i = i
  has_come (came.Starts root shape) r coming = goes_so _ r refl never (λ e. absurd (cc))
    where
      never : (v : Waits) → IsWaitNext v (Rattle.kilim_run_model.specs.Lone.Starts root shape (behind_at t w l)) → ⊥
      never (wait.Take b) i = i
      never (wait.Put b) i = i
  has_come (came.Prints shape) r coming = goes_so _ r.2 refl never (λ e. absurd (cc))
    where
      never : (v : Waits) → IsWaitNext v (Rattle.kilim_run_model.specs.Lone.Prints r.0 (behind_at t w l)) → ⊥
      never (wait.Take b) i = i
      never (wait.Put b) i = i
  has_come (came.Ends why) r coming = record {
    mid = r.mid;
    quiet = r.quiet;
    stops = ap is_going r.does;
    shares = r.shares;
    says = (alive_by set t r.mid _ r.does (λ e. absurd (cc)), r.nowhere);
  }

-- ---- a task of the state

halts_by : (n : Next) → is_going n ≡ false → is_halt n ≡ true
halts_by (Rattle.kilim_run_model.specs.Lone.Goes after) e = absurd (cc)
halts_by n e = refl

some_same : {A : Type 0} (a b : A) → Some a ≡ Some b → a ≡ b
some_same a b e = cc

kept_as : (t : ℕ) (a b : Option ℕ) → (t ≡ 0 → a ≡ b) → cond (t == 0) a None ≡ cond (t == 0) b None
kept_as t a b f = by (t == 0) (λ e. f (eqb-true t 0 e))
  where
    by : (z : Bool) → (z ≡ true → a ≡ b) → cond z a None ≡ cond z b None
    by true g = g refl
    by false g = refl

module _ (set : Setting) (t : ℕ) (m : Machine) (s : State) (from : IsFrom set t m s) where
  pub thread_at : (task : Task) → slice_get m.tasks.items t ≡ Some task → slice_get s.threads t ≡ Some (thread_of task)
  thread_at task at = from.views.threads t task (omega arith) at

  lone_as : (l : Live) → lone_of s t (thread_in l) ≡ lone_at t m.world l
  lone_as l = λ i. record { heap = from.views.heap i; next = from.views.next i; thread = thread_in l; kept = kept_as t s.kept m.world.kept from.views.kept i }

  pub can_go : (l : Live) → slice_get m.tasks.items t ≡ Some (a_task.Live l) → CanGo set t (lone_at t m.world l)
  can_go l at = subst (CanGo set t) (lone_as l) (typed_runs_go.goes set s t (thread_in l) from.typed (thread_at (a_task.Live l) at))

  others : (tasks : List Task) (x other : Task) → tasks ≡ slice_set m.tasks.items t other → (u : ℕ) (task : Task) → suc t ≤ u → slice_get tasks u ≡ Some task → slice_get m.tasks.items u ≡ Some task
  others tasks x other is u task le at = sym (set_other m.tasks.items t u other (λ e. absurd (omega (arith, le, e)))) ∙ (ap (λ (ts : List Task). slice_get ts u) (sym is) ∙ at)

  -- one that hasn't ended
  pub settled_live : (l : Live) → slice_get m.tasks.items t ≡ Some (a_task.Live l) → (other : Task) (after : Machine) → after.tasks.items ≡ slice_set m.tasks.items t other → after.mailboxes ≡ m.mailboxes → (st : Standing) → HasCome set t (lone_at t m.world l) after.world st → HasSettled set s t after st
  settled_live l at other after tasks boxes st come =
      let there : slice_get s.threads t ≡ Some (thread_in l) = thread_at (a_task.Live l) at in
      let quiet : Quiet set t (lone_of s t (thread_in l)) come.mid = subst (λ (x : Lone). Quiet set t x come.mid) (sym (lone_as l)) come.quiet in
      let is : settled_of set s t ≡ with_lone s t come.mid = settled_is set s t (thread_in l) come.mid there quiet (halts_by (next_move set t come.mid) come.stops) in
      subst (λ (x : State). IsFrom set (suc t) after x × StandsSo set x t st) (sym is) (
        record {
          typed = typed_runs_go.along set s t (thread_in l) come.mid from.typed there quiet;
          views = record {
            heap = come.shares.heap;
            next = come.shares.next;
            kept = λ z. absurd (omega (arith, z));
            many = set_length s.threads t come.mid.thread ∙ (from.views.many ∙ (sym (set_length m.tasks.items t other) ∙ ap length (sym tasks)));
            threads = λ u task le got. set_other s.threads t u come.mid.thread (λ e. absurd (omega (arith, le, e))) ∙ from.views.threads u task (omega (arith, le)) (others after.tasks.items (a_task.Live l) other tasks u task le got);
            mailboxes = λ box. from.views.mailboxes box ∙ ap (λ (b : Mailboxes). mail_of b box) (sym boxes);
          };
        },
        record { thread = come.mid.thread; there = set_there s.threads t (thread_in l) come.mid.thread there; says = come.says },
      )

  -- one that has
  pub settled_over : (why : EndCause) → slice_get m.tasks.items t ≡ Some (a_task.Ended why) → (other : Task) (after : Machine) → after.tasks.items ≡ slice_set m.tasks.items t other → after.mailboxes ≡ m.mailboxes → after.world ≡ m.world → HasSettled set s t after standing.Over
  settled_over why at other after tasks boxes world =
      let there : slice_get s.threads t ≡ Some (Ended why) = thread_at (a_task.Ended why) at in
      let is : settled_of set s t ≡ s = still_before set (suc set.limits.steps) s t (ended_still set s t why there) in
      subst (λ (x : State). IsFrom set (suc t) after x × StandsSo set x t standing.Over) (sym is) (
        record {
          typed = from.typed;
          views = record {
            heap = from.views.heap ∙ ap (λ (x : World). x.heap) (sym world);
            next = from.views.next ∙ ap (λ (x : World). x.next) (sym world);
            kept = λ z. absurd (omega (arith, z));
            many = from.views.many ∙ (sym (set_length m.tasks.items t other) ∙ ap length (sym tasks));
            threads = λ u task le got. from.views.threads u task (omega (arith, le)) (others after.tasks.items (a_task.Ended why) other tasks u task le got);
            mailboxes = λ box. from.views.mailboxes box ∙ ap (λ (b : Mailboxes). mail_of b box) (sym boxes);
          };
        },
        record { thread = Ended why; there = there; says = (why, refl) },
      )

-- ---- what it does where it stands

rest_as : (set : Setting) (s : State) (t : ℕ) (th : Thread) → ((why : EndCause) → th ≡ Ended why → ⊥) → is_at_rest set s t th ≡ is_some (waits_at set s t th)
rest_as set s t (Ended why) alive = absurd (alive why refl)
rest_as set s t (Alive frames done boxes) alive = refl

waits_alive : (set : Setting) (s : State) (t : ℕ) (th : Thread) (w : Waits) → get_at (next_move set t (lone_of s t th)) ≡ Some w → (why : EndCause) → th ≡ Ended why → ⊥
waits_alive set s t th w e why is = let z : None ≡ Some w = ap get_at (sym (ended_stands set t (lone_of s t th) why is)) ∙ e in cc

empty_at : (q : List (ℕ × ℕ)) (box : BoxName) → (length q == 0) ≡ true → where_empty q box ≡ Some box
empty_at [] box e = refl
empty_at (x ∷ xs) box e = absurd (let z = eqb-true (length (x ∷ xs)) 0 e in omega (arith, z))

some_at : (q : List (ℕ × ℕ)) (box : BoxName) → (length q == 0) ≡ false → is_some (where_empty q box) ≡ false
some_at [] box e = absurd (cc)
some_at (x ∷ xs) box e = refl

module _ (p : Program) (h : Objects) (boxes : Mailboxes) (set : Setting) (s : State) (t : ℕ) (th : Thread) (in-state : IsIn p h boxes set s) where
  pub takes_wait : (box : BoxName) → Says set t th (standing.Takes box) → (length (mail_of boxes box).queue == 0) ≡ true → IsSettled set s t th (settled.Waits box)
  takes_wait box says none =
      ap (if_waits s) (says (lone_of s t th) refl) ∙ (ap (λ (m : Mailbox ℕ). where_empty m.queue box) (in-state.mailboxes box) ∙ empty_at (mail_of boxes box).queue box none)

  pub takes_go : (box : BoxName) → Says set t th (standing.Takes box) → (length (mail_of boxes box).queue == 0) ≡ false → IsSettled set s t th settled.Goes
  takes_go box says some =
      rest_as set s t th (waits_alive set s t th (wait.Take box) (says (lone_of s t th) refl))
      ∙ (ap (λ (o : Option Waits). is_some (if_waits s o)) (says (lone_of s t th) refl)
      ∙ (ap (λ (m : Mailbox ℕ). is_some (where_empty m.queue box)) (in-state.mailboxes box) ∙ some_at (mail_of boxes box).queue box some))

  pub goes_so_here : Says set t th standing.Goes → IsSettled set s t th settled.Goes
  goes_so_here says = rest_as set s t th says.0 ∙ ap (λ (o : Option Waits). is_some (if_waits s o)) (says.1 (lone_of s t th) refl)

  module _ (box : BoxName) (root : ℕ) (says : PutsThere set th box root) where
    puts_next : next_move set t (lone_of s t th) ≡ put_wait_next (record { heap = s.heap; next = s.next; thread = Alive says.frames (says.done + 1) says.boxes; kept = (lone_of s t th).kept }) box root (shape_of set.program s.heap root)
    puts_next =
        asks_is set t (lone_of s t th) says.top says.below says.done says.boxes says.method (Box box ∷ Ref root ∷ []) says.frames says.alive says.few (says.asks s.heap)
        ∙ ap (asks_next set (record { heap = s.heap; next = s.next; thread = Alive says.frames (says.done + 1) says.boxes; kept = (lone_of s t th).kept }) (Box box ∷ Ref root ∷ [])) says.native

    not_over : (why : EndCause) → th ≡ Ended why → ⊥
    not_over why e = let z : Alive (says.top ∷ says.below) says.done says.boxes ≡ Ended why = sym says.alive ∙ e in cc

    shape_is : (o : Option (List Token)) → shape_of p h root ≡ o → shape_of set.program s.heap root ≡ o
    shape_is o e = (λ i. shape_of (in-state.program i) (in-state.heap i) root) ∙ e

    full_is : (z : Bool) → is_full (mail_of boxes box) ≡ z → is_full (s.mailboxes box) ≡ z
    full_is z e = ap (λ (m : Mailbox ℕ). is_full m) (in-state.mailboxes box) ∙ e

    put_get : (x : Lone) (o : Option (List Token)) → shape_of set.program s.heap root ≡ o → next_move set t (lone_of s t th) ≡ put_wait_next x box root (shape_of set.program s.heap root) → get_at (next_move set t (lone_of s t th)) ≡ get_at (put_wait_next x box root o)
    put_get x o shape e = ap get_at (e ∙ ap (put_wait_next x box root) shape)

    pub puts_wait : (shape : List Token) → shape_of p h root ≡ Some shape → is_full (mail_of boxes box) ≡ true → IsSettled set s t th (settled.Waits box)
    puts_wait shape is full =
        ap (if_waits s) (put_get _ (Some shape) (shape_is (Some shape) is) puts_next) ∙ ap (λ (z : Bool). cond z (Some box) None) (full_is true full)

    -- whatever its tree is, it doesn't wait where there is room
    no_full : (x : Lone) (o : Option (List Token)) → is_full (s.mailboxes box) ≡ false → is_some (if_waits s (get_at (put_wait_next x box root o))) ≡ false
    no_full x None e = refl
    no_full x (Some shape) e = ap (λ (z : Bool). is_some (cond z (Some box) None)) e

    pub puts_go : is_full (mail_of boxes box) ≡ false → IsSettled set s t th settled.Goes
    puts_go room =
        rest_as set s t th not_over
        ∙ (ap (λ (n : Next). is_some (if_waits s (get_at n))) puts_next ∙ no_full _ (shape_of set.program s.heap root) (full_is false room))

    pub puts_large : shape_of p h root ≡ None → IsSettled set s t th settled.Goes
    puts_large is = rest_as set s t th not_over ∙ ap (λ (o : Option Waits). is_some (if_waits s o)) (put_get _ None (shape_is None is) puts_next)

    -- its tree is there
    pub put_shown : IsTypedRun set s → slice_get s.threads t ≡ Some th → CanShow set.program s.heap root
    put_shown run at =
        let serves = typed_runs_go.goes set s t th run at (lone_of s t th) (Stays refl) in
        let asked : AskedAreThere s.heap (moves set.program says.top says.below s.heap) = serves.asked says.top says.below says.done says.boxes says.alive in
        let args : AreThere s.heap (Box box ∷ Ref root ∷ []) = subst (AskedAreThere s.heap) (says.asks s.heap) asked in
        can_show set.program s.heap root [] serves.heap args.1
