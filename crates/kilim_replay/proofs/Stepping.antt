-- What an entry's task does next, as an action of the shared machine.
use Rattle.std.proofs.lemmas.Bool.Decides.{nat_tests}
use Rattle.std.proofs.Common.{◌≡◌, ◌<◌, ◌+◌, ◌^◌, ℕ, suc, Bool, true, false, cond, List, [], ◌∷◌, Option, Some, None, length, refl, sym, ap, subst, ◌∙◌, arith}
use Rattle.std.specs.Prelude.{◌==◌, is_some, nat_lt, slice_get, slice_set}
use Rattle.kilim_lemmas.proofs.Lists.{set_there}
use Rattle.kilim_program.specs.declared.names.BoxName.{BoxName}
use Rattle.kilim_run_state.specs.Machine.{Activation}
use Rattle.kilim_run_state.specs.declared.cause.EndCause.{EndCause}
use Rattle.kilim_run_state.specs.declared.cause.EndCause.TheVariants as cause
use Rattle.kilim_run_journal.specs.declared.entry.Act.{Act}
use Rattle.kilim_run_journal.specs.declared.entry.Act.TheVariants as an_act
use Rattle.kilim_run_journal.specs.Readable.{is_readable_act}
use Rattle.kilim_run_model.specs.State.{Mailbox, Setting, State, execute_frames, is_full, noted}
use Rattle.kilim_run_model.specs.Lone.{Lone, Next, Ends, ended, get_at, next_move}
use Rattle.kilim_run_model.specs.Turn.{Moved, acted, gets, lone_of, moved, moved_by, probes, puts, quiet, starts_with, task_limit, with_lone}
use Rattle.kilim_run_model.specs.Runs.{acted_or, acted_within, before_action, if_waits, where_empty, where_full}
use Rattle.kilim_run_model.specs.Course.{Quiet}
use Rattle.kilim_run_model.specs.declared.waits.Waits.{Waits}
use Rattle.kilim_run_model.specs.declared.waits.Waits.TheVariants as wait
use Rattle.kilim_isolation_laws.proofs.at_rest.readable.Nexts.{CanRead, move_can}
use Rattle.kilim_replay_laws.specs.Leads.{Leads, more}
use Rattle.kilim_replay_laws.specs.Verdicts.{is_waiting, is_waiting_thread}
use Rattle.kilim_replay_laws.specs.shared.Runs.{CanGo, IsTypedRun}
use Rattle.kilim_replay_laws.proofs.Leads.{state_twice, threads_lead}
use Rattle.kilim_replay_laws.proofs.shared.Going.{typed_runs_go}
use Rattle.kilim_replay_thread.specs.Live.{behind_at, ended_at, lone_at, thread_in}
use Rattle.kilim_replay_thread.specs.Reach.{IsComing, Reaches, Stood}
use Rattle.kilim_replay_thread.specs.declared.task.Came.{Came}
use Rattle.kilim_replay_thread.specs.declared.task.Came.TheVariants as came
use Rattle.kilim_replay_thread.specs.declared.task.Live.{Live}
use Rattle.kilim_replay_thread.specs.declared.task.World.{World}
use Rattle.kilim_replay.specs.Fold.{waits_with}
use Rattle.kilim_replay.specs.Machine.{CanDo, IsAt, IsDone, IsNextOf, Views}
use Rattle.kilim_replay.specs.Mailboxes.{mail_of}
use Rattle.kilim_replay.specs.declared.machine.Machine.{Machine}
use Rattle.kilim_replay.specs.declared.machine.Task.{Task}
use Rattle.kilim_replay.specs.declared.machine.Task.TheVariants as a_task
use Rattle.kilim_replay.specs.declared.mailboxes.Mailboxes.{Mailboxes}
use Rattle.kilim_replay.proofs.Viewing.{lone_is, thread_there, views_with}

-- a state whose journal is another one
pub viewed_noted : (w : World) (tasks : List Task) (boxes : Mailboxes) (s : State) (t : ℕ) (act : Act) → Views w tasks boxes s → Views w tasks boxes (noted s t act)
viewed_noted w tasks boxes s t act v = record { heap = v.heap; next = v.next; kept = v.kept; threads = v.threads; mailboxes = v.mailboxes }

acted_one : (set : Setting) (x : State) (t : ℕ) (act : Act) (m : Moved) → moved set x t ≡ m → m.act ≡ Some act → acted_within set 1 x t ≡ Some (act, noted m.state t act)
unfolding acted_within
acted_one set x t act m is does =
    ap (λ (y : Moved). acted_or y.state t y.act None) is ∙ ap (λ (o : Option Act). acted_or m.state t o None) does

before_none : (set : Setting) (t : ℕ) (x : State) → before_action set 0 x t ≡ x
unfolding before_action
before_none set t x = refl

some_is : {A : Type 0} (a b : A) → Some a ≡ Some b → a ≡ b
some_is a b e = cc

-- what can be read of what is next
readable_by : (n : Next) (t : ℕ) (w : World) (l : Live) (c : Came) (set : Setting) (s : State) (m : Machine) (act : Act) → CanRead n → IsNextOf t w l c n → IsDone (moved_by set s t n) m act → is_readable_act act ≡ true
readable_by n t w l came.On set s m act can is done = absurd is
readable_by n t w l (came.Puts box root shape) set s m act can is done = filled (is_full (s.mailboxes box)) (subst (λ (x : Next). (moved_by set s t x).act ≡ Some act) is done.told)
  where
    filled : (z : Bool) → (cond z (acted (with_lone s t (ended (behind_at t w l) cause.Full)) (an_act.End cause.Full)) (puts (with_lone s t (behind_at t w l)) box root shape)).act ≡ Some act → is_readable_act act ≡ true
    filled true e = subst (λ (x : Act). is_readable_act x ≡ true) (some_is _ act e) refl
    filled false e = subst (λ (x : Act). is_readable_act x ≡ true) (some_is _ act e) (subst CanRead is can)
readable_by n t w l (came.PutsWaiting box root shape) set s m act can is done = waited (is_full (s.mailboxes box)) (subst (λ (x : Next). (moved_by set s t x).act ≡ Some act) is done.told)
  where
    waited : (z : Bool) → (cond z (quiet s) (puts (with_lone s t (behind_at t w l)) box root shape)).act ≡ Some act → is_readable_act act ≡ true
    waited true e = absurd (cc)
    waited false e = subst (λ (x : Act). is_readable_act x ≡ true) (some_is _ act e) (subst CanRead is can)
readable_by n t w l (came.TooLarge box root) set s m act can is done =
    let a : Some (an_act.End cause.Large) ≡ Some act = subst (λ (x : Next). (moved_by set s t x).act ≡ Some act) is done.told in
    subst (λ (x : Act). is_readable_act x ≡ true) (some_is _ act a) refl
readable_by n t w l (came.Bounds box most) set s m act can is done =
    let a : Some (an_act.Bound box most) ≡ Some act = subst (λ (x : Next). (moved_by set s t x).act ≡ Some act) is done.told in
    subst (λ (x : Act). is_readable_act x ≡ true) (some_is _ act a) refl
readable_by n t w l (came.Takes box) set s m act can is done = took (s.mailboxes box).queue (subst (λ (x : Next). (moved_by set s t x).act ≡ Some act) is done.told)
  where
    took : (q : List (ℕ × ℕ)) → (gets s t box (behind_at t w l) q).act ≡ Some act → is_readable_act act ≡ true
    took [] e = absurd (cc)
    took (first ∷ rest) e = subst (λ (x : Act). is_readable_act x ≡ true) (some_is _ act e) refl
readable_by n t w l (came.Probes box) set s m act can is done = probed (s.mailboxes box).queue (subst (λ (x : Next). (moved_by set s t x).act ≡ Some act) is done.told)
  where
    probed : (q : List (ℕ × ℕ)) → (probes s t box (behind_at t w l) q).act ≡ Some act → is_readable_act act ≡ true
    probed [] e = subst (λ (x : Act). is_readable_act x ≡ true) (some_is _ act e) refl
    probed (first ∷ rest) e = subst (λ (x : Act). is_readable_act x ≡ true) (some_is _ act e) refl
readable_by n t w l (came.Starts root shape) set s m act can is done = started (nat_lt (length s.threads) task_limit) (execute_frames set.program w.heap root) (subst (λ (x : Next). (moved_by set s t x).act ≡ Some act) is done.told)
  where
    started : (z : Bool) (o : Option (List Activation)) → (cond z (starts_with s shape (with_lone s t (behind_at t w l)) o) (acted (with_lone s t (ended (behind_at t w l) cause.Tasks)) (an_act.End cause.Tasks))).act ≡ Some act → is_readable_act act ≡ true
    started true None e = absurd (cc)
    started true (Some frames) e = subst (λ (x : Act). is_readable_act x ≡ true) (some_is _ act e) (subst CanRead is can)
    started false o e = subst (λ (x : Act). is_readable_act x ≡ true) (some_is _ act e) refl
readable_by n t w l (came.Prints shape) set s m act can is done =
    let a : Some (an_act.Print (is.0 ∷ [])) ≡ Some act = subst (λ (x : Next). (moved_by set s t x).act ≡ Some act) is.2 done.told in
    subst (λ (x : Act). is_readable_act x ≡ true) (some_is _ act a) (subst CanRead is.2 can)
readable_by n t w l (came.Ends why) set s m act can is done =
    let a : Some (an_act.End why) ≡ Some act = subst (λ (x : Next). (moved_by set s t x).act ≡ Some act) is done.told in
    subst (λ (x : Act). is_readable_act x ≡ true) (some_is _ act a) refl

-- what a task that comes to that may have to wait for
abbrev pub wait_of : Came → Option Waits
wait_of (came.Takes box) = Some (wait.Take box)
wait_of (came.PutsWaiting box root shape) = Some (wait.Put box)
wait_of c = None

pub next_get : (t : ℕ) (w : World) (l : Live) (c : Came) (n : Next) → IsNextOf t w l c n → get_at n ≡ wait_of c
next_get t w l came.On n is = absurd is
next_get t w l (came.Puts box root shape) n is = ap get_at is
next_get t w l (came.PutsWaiting box root shape) n is = ap get_at is
next_get t w l (came.TooLarge box root) n is = ap get_at is
next_get t w l (came.Bounds box most) n is = ap get_at is
next_get t w l (came.Takes box) n is = ap get_at is
next_get t w l (came.Probes box) n is = ap get_at is
next_get t w l (came.Starts root shape) n is = ap get_at is
next_get t w l (came.Prints shape) n is = ap get_at is.2
next_get t w l (came.Ends why) n is = ap get_at is

where_none : (q : List (ℕ × ℕ)) (box : BoxName) → is_some (where_empty q box) ≡ (length q == 0)
where_none [] box = refl
where_none (x ∷ xs) box = sym (not_zero (length xs))
  where
    not_zero : (n : ℕ) → (suc n == 0) ≡ false
    not_zero n = grind (arith, nat_tests)

where_filled : (m : Mailbox ℕ) (box : BoxName) → is_some (where_full m box) ≡ is_full m
where_filled m box = by (is_full m)
  where
    by : (z : Bool) → is_some (cond z (Some box) None) ≡ z
    by true = refl
    by false = refl

-- it waits exactly where the mailbox is so
pub waits_as : (boxes : Mailboxes) (c : Came) (x : State) → ((box : BoxName) → x.mailboxes box ≡ mail_of boxes box) → is_some (if_waits x (wait_of c)) ≡ waits_with boxes c
waits_as boxes (came.Takes box) x same = where_none (x.mailboxes box).queue box ∙ ap (λ (m : Mailbox ℕ). length m.queue == 0) (same box)
waits_as boxes (came.PutsWaiting box root shape) x same = where_filled (x.mailboxes box) box ∙ ap (λ (m : Mailbox ℕ). is_full m) (same box)
waits_as boxes came.On x same = refl
waits_as boxes (came.Puts box root shape) x same = refl
waits_as boxes (came.TooLarge box root) x same = refl
waits_as boxes (came.Bounds box most) x same = refl
waits_as boxes (came.Probes box) x same = refl
waits_as boxes (came.Starts root shape) x same = refl
waits_as boxes (came.Prints shape) x same = refl
waits_as boxes (came.Ends why) x same = refl

module _ (set : Setting) (t : ℕ) (w : World) (tasks : List Task) (boxes : Mailboxes) (l : Live) (s : State) (run : IsTypedRun set s) (views : Views w (slice_set tasks t (a_task.Live l)) boxes s) (lt : t < length tasks) where
  pub at : slice_get s.threads t ≡ Some (thread_in l)
  at = thread_there t w tasks boxes l s views lt

  is_lone : lone_of s t (thread_in l) ≡ lone_at t w l
  is_lone = lone_is t w tasks boxes l s views

  pub can_reach : CanGo set t (lone_at t w l)
  can_reach = subst (CanGo set t) is_lone (typed_runs_go.goes set s t (thread_in l) run at)

  pub quiet_of : (m : Lone) → Quiet set t (lone_at t w l) m → Quiet set t (lone_of s t (thread_in l)) m
  quiet_of m q = subst (λ (x : Lone). Quiet set t x m) (sym is_lone) q

  pub leads_to : (m : Lone) → Quiet set t (lone_at t w l) m → Leads set s t m
  leads_to m q = threads_lead set s t (thread_in l) m at (quiet_of m q)

  pub typed_at : (m : Lone) → Quiet set t (lone_at t w l) m → IsTypedRun set (with_lone s t m)
  typed_at m q = typed_runs_go.along set s t (thread_in l) m run at (quiet_of m q)

  -- the thread stands at what is next, and the machine where the task came to
  pub record NextAt (w' : World) (l' : Live) (c : Came) : Type 0 where
    pub lone : Lone
    pub quiet : Quiet set t (lone_at t w l) lone
    pub next : Next
    pub does : next_move set t lone ≡ next
    pub is : IsNextOf t w' l' c next
    pub moves : moved_by set (with_lone s t lone) t next ≡ moved_by set (with_lone s t (lone_at t w' l')) t next

  stood : (w' : World) (l' : Live) (c : Came) (n : Next) → Stood set t (lone_at t w l) w' l' n → IsNextOf t w' l' c n → NextAt w' l' c
  stood w' l' c n st is = record { lone = lone_at t w' l'; quiet = st.quiet; next = n; does = st.does; is = is; moves = refl }

  ends : (w' : World) (l' : Live) (c : Came) (mid : Lone) → Quiet set t (lone_at t w l) mid → (why : EndCause) → next_move set t mid ≡ Ends why (ended_at w' why) → IsNextOf t w' l' c (Ends why (ended_at w' why)) → NextAt w' l' c
  ends w' l' c mid quiet why does is = record {
    lone = mid;
    quiet = quiet;
    next = Ends why (ended_at w' why);
    does = does;
    is = is;
    moves = ap (λ (x : State). record { state = x; act = Some (an_act.End why) }) (state_twice set s t mid (ended_at w' why) ∙ sym (state_twice set s t (lone_at t w' l') (ended_at w' why)));
  }

  pub next_at : (w' : World) (l' : Live) (c : Came) → Reaches set t (lone_at t w l) l.done w' l' c → IsComing c → NextAt w' l' c
  next_at w' l' came.On r coming = absurd coming
  next_at w' l' (came.Puts box root shape) r coming = stood w' l' (came.Puts box root shape) _ r refl
  next_at w' l' (came.PutsWaiting box root shape) r coming = stood w' l' (came.PutsWaiting box root shape) _ r.0 refl
  next_at w' l' (came.TooLarge box root) r coming = ends w' l' (came.TooLarge box root) r.mid r.quiet cause.Large r.does refl
  next_at w' l' (came.Bounds box most) r coming = stood w' l' (came.Bounds box most) _ r refl
  next_at w' l' (came.Takes box) r coming = stood w' l' (came.Takes box) _ r refl
  next_at w' l' (came.Probes box) r coming = stood w' l' (came.Probes box) _ r refl
  next_at w' l' (came.Starts root shape) r coming = stood w' l' (came.Starts root shape) _ r refl
  next_at w' l' (came.Prints shape) r coming = stood w' l' (came.Prints shape) _ r.2 (r.0, r.1, refl)
  next_at w' l' (came.Ends why) r coming = ends w' l' (came.Ends why) r.mid r.quiet why r.does refl

  -- ---- the action

  module _ (w' : World) (l' : Live) (c : Came) (n : NextAt w' l' c) (kept : (t == 0) ≡ false → w'.kept ≡ w.kept) where
    abbrev pub here : State
    here = with_lone s t (lone_at t w' l')

    pub views_here : Views w' (slice_set tasks t (a_task.Live l')) boxes here
    views_here = views_with t w tasks boxes l s views w' (a_task.Live l') kept

    moved_is : moved set (with_lone s t n.lone) t ≡ moved_by set here t n.next
    moved_is = (leads_to n.lone n.quiet).next ∙ (ap (moved_by set (with_lone s t n.lone) t) n.does ∙ n.moves)

    pub record DidAct (m : Machine) (act : Act) : Type 0 where
      pub moves : ℕ
      pub after : State
      pub acts : acted_within set moves s t ≡ Some (act, after)
      pub at : IsAt set m after
      pub readable : is_readable_act act ≡ true

    pub did_act : (m : Machine) (act : Act) → IsDone (moved_by set here t n.next) m act → DidAct m act
    did_act m act done =
        let leads = leads_to n.lone n.quiet in
        let after : State = (moved_by set here t n.next).state in
        record {
          moves = more leads.moves 1;
          after = noted after t act;
          acts = leads.acts 1 ∙ acted_one set (with_lone s t n.lone) t act (moved_by set here t n.next) moved_is done.told;
          at = record {
            typed = typed_runs_go.noted set after t act (subst (λ (x : Moved). IsTypedRun set x.state) moved_is (typed_runs_go.moves set (with_lone s t n.lone) t (typed_at n.lone n.quiet)));
            views = viewed_noted m.world m.tasks.items m.mailboxes after t act done.views;
          };
          readable = readable_by n.next t w' l' c set here m act (subst CanRead n.does (move_can set t n.lone)) n.is done;
        }

    -- ---- a task that has to wait

    pub waits : waits_with boxes c ≡ true → (k : ℕ) × (is_waiting set (before_action set k s t) t ≡ true)
    waits e =
        let leads = leads_to n.lone n.quiet in
        let standing : get_at (next_move set t (lone_of (with_lone s t n.lone) t n.lone.thread)) ≡ wait_of c = ap (λ (x : Lone). get_at (next_move set t x)) leads.stands ∙ (ap get_at n.does ∙ next_get t w' l' c n.next n.is) in
        let there : slice_get (with_lone s t n.lone).threads t ≡ Some n.lone.thread = set_there s.threads t (thread_in l) n.lone.thread at in (
          more leads.moves 0,
          ap (λ (x : State). is_waiting set x t) (leads.before 0 ∙ before_none set t (with_lone s t n.lone))
              ∙ (ap (is_waiting_thread set (with_lone s t n.lone) t) there
              ∙ (ap (λ (o : Option Waits). is_some (if_waits (with_lone s t n.lone) o)) standing ∙ (waits_as boxes c (with_lone s t n.lone) views.mailboxes ∙ e))),
        )

-- ---- what can be done

full_by : (q : List (ℕ × ℕ)) → (length q == 0) ≡ false → q ≡ [] → ⊥
full_by q e is = absurd (let z = ap (λ (p : List (ℕ × ℕ)). length p == 0) (sym is) ∙ e in cc)

counts : (done steps : ℕ) → done < steps → steps < 2 ^ 64 → done + 1 < 2 ^ 64
counts done steps few fits = omega (arith, few, fits)

pub can_do : (set : Setting) (t : ℕ) (first : Lone) (done : ℕ) (w : World) (l : Live) (c : Came) (boxes : Mailboxes) → Reaches set t first done w l c → IsComing c → waits_with boxes c ≡ false → set.limits.steps < 2 ^ 64 → CanDo boxes l.done c
can_do set t first done w l came.On boxes r coming other fits = coming
can_do set t first done w l (came.Puts box root shape) boxes r coming other fits = counts l.done set.limits.steps r.few fits
can_do set t first done w l (came.PutsWaiting box root shape) boxes r coming other fits = (other, counts l.done set.limits.steps r.0.few fits)
can_do set t first done w l (came.TooLarge box root) boxes r coming other fits = tt
can_do set t first done w l (came.Bounds box most) boxes r coming other fits = counts l.done set.limits.steps r.few fits
can_do set t first done w l (came.Takes box) boxes r coming other fits = (full_by (mail_of boxes box).queue other, counts l.done set.limits.steps r.few fits)
can_do set t first done w l (came.Probes box) boxes r coming other fits = counts l.done set.limits.steps r.few fits
can_do set t first done w l (came.Starts root shape) boxes r coming other fits = counts l.done set.limits.steps r.few fits
can_do set t first done w l (came.Prints shape) boxes r coming other fits = counts l.done set.limits.steps r.2.few fits
can_do set t first done w l (came.Ends why) boxes r coming other fits = tt
