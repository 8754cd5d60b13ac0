-- Entries one after the other.
use Rattle.std.proofs.Common.{◌≡◌, ◌≤◌, ◌+◌, ℕ, zero, suc, List, [], ◌∷◌, ◌++◌, Option, Some, None, Result, Ok, Err, length, take, drop, refl, sym, ap, subst, ◌∙◌, arith}
use Rattle.std.specs.Prelude.{IfOk, slice_get, slice_set}
use Rattle.kilim_program.specs.Program.{Program}
use Rattle.kilim_run_state.specs.declared.cause.EndCause.{EndCause}
use Rattle.kilim_run_journal.specs.declared.entry.Entry.{Entry}
use Rattle.kilim_run_model.specs.State.{Setting, State, Thread, Ended, first_state}
use Rattle.kilim_run_model.specs.Runs.{Replays, acted_within}
use Rattle.kilim_replay_laws.specs.Verdicts.{FaultAt}
use Rattle.kilim_replay_laws.specs.declared.verdict.Verdict.{Verdict}
use Rattle.kilim_replay_laws.specs.declared.verdict.Verdict.TheVariants as verdict
use Rattle.kilim_replay.specs.Fold.{HasStepped, IsReadableVerdict, IsReplayed, IsStoppedBy, StopsIn}
use Rattle.kilim_replay.specs.Machine.{AreRoomyTasks, IsAt, IsRoomyTask, Views}
use Rattle.kilim_replay.specs.declared.fold.Step.{Step}
use Rattle.kilim_replay.specs.declared.fold.Step.TheVariants as step
use Rattle.kilim_replay.specs.declared.machine.Machine.{Machine}
use Rattle.kilim_replay.specs.declared.machine.Task.{Task}
use Rattle.kilim_replay.specs.declared.machine.Task.TheVariants as a_task
use Rattle.kilim_replay.specs.declared.mailboxes.Mailboxes.{Mailboxes}
use Rattle.kilim_replay_thread.specs.declared.task.World.{World}
use Rattle.kilim_replay.proofs.Viewing.{map_got, map_none, set_again, set_none}

pub over_ok : {A E : Type 0} (P Q : A → Type 0) (r : Result A E) → IfOk r P → ((a : A) → P a → Q a) → IfOk r Q
over_ok P Q (Ok a) p f = f a p
over_ok P Q (Err e) p f = tt

-- ---- room in all tasks

pub roomy_set : (p : Program) (xs : List Task) (i : ℕ) (x : Task) → AreRoomyTasks p xs → IsRoomyTask p x → AreRoomyTasks p (slice_set xs i x)
roomy_set p [] i x all is = tt
roomy_set p (y ∷ ys) zero x all is = (is, all.1)
roomy_set p (y ∷ ys) (suc i) x all is = (all.0, roomy_set p ys i x all.1 is)

pub roomy_more : (p : Program) (xs : List Task) (x : Task) → AreRoomyTasks p xs → IsRoomyTask p x → AreRoomyTasks p (xs ++ x ∷ [])
roomy_more p [] x all is = (is, tt)
roomy_more p (y ∷ ys) x all is = (all.0, roomy_more p ys x all.1 is)

pub roomy_got : (p : Program) (xs : List Task) (i : ℕ) (x : Task) → slice_get xs i ≡ Some x → AreRoomyTasks p xs → IsRoomyTask p x
roomy_got p [] i x e all = absurd (cc)
roomy_got p (y ∷ ys) zero x e all = subst (IsRoomyTask p) (some_same y x e) all.0
  where
    some_same : (a b : Task) → Some a ≡ Some b → a ≡ b
    some_same a b f = cc
roomy_got p (y ∷ ys) (suc i) x e all = roomy_got p ys i x e all.1

-- ---- a task's place

pub exchanged : (xs : List Task) (i : ℕ) (x other : Task) → slice_get xs i ≡ Some x → slice_set (slice_set xs i other) i x ≡ xs
exchanged xs i x other at = set_again xs i other x ∙ set_none xs i x at

-- the state in which the task that is out stands in its place
pub views_out : (w : World) (boxes : Mailboxes) (xs ys : List Task) (i : ℕ) (x other : Task) (s : State) → slice_get xs i ≡ Some x → ys ≡ slice_set xs i other → Views w xs boxes s → Views w (slice_set ys i x) boxes s
views_out w boxes xs ys i x other s at is v = subst (λ (ts : List Task). Views w ts boxes s) (sym (ap (λ (zs : List Task). slice_set zs i x) is ∙ exchanged xs i x other at)) v

pub absent : (m : Machine) (s : State) (t : ℕ) → Views m.world m.tasks.items m.mailboxes s → length m.tasks.items ≤ t → slice_get s.threads t ≡ None
absent m s t v le = ap (λ (ths : List Thread). slice_get ths t) v.threads ∙ map_none m.tasks.items t le

pub has_ended : (m : Machine) (s : State) (t : ℕ) (why : EndCause) → Views m.world m.tasks.items m.mailboxes s → slice_get m.tasks.items t ≡ Some (a_task.Ended why) → slice_get s.threads t ≡ Some (Ended why)
has_ended m s t why v at = ap (λ (ths : List Thread). slice_get ths t) v.threads ∙ map_got m.tasks.items t (a_task.Ended why) at

-- ---- one entry more

replays_more : (set : Setting) (s : State) (es : List Entry) (e : Entry) (mid last : State) (n : ℕ) → Replays set s es mid → acted_within set n mid e.task ≡ Some (e.act, last) → Replays set s (es ++ e ∷ []) last
replays_more set s [] e mid last n r a = (n, last, ap (λ (x : State). acted_within set n x e.task) r ∙ a, refl)
replays_more set s (x ∷ xs) e mid last n r a = (r.0, r.1, r.2, replays_more set r.1 xs e mid last n r.3 a)

take_more : (es : List Entry) (k : ℕ) (e : Entry) → slice_get es k ≡ Some e → take (suc k) es ≡ take k es ++ e ∷ []
take_more [] k e at = absurd (cc)
take_more (x ∷ xs) zero e at = ap (λ y. y ∷ []) (some_same x e at)
  where
    some_same : (a b : Entry) → Some a ≡ Some b → a ≡ b
    some_same a b f = cc
take_more (x ∷ xs) (suc k) e at = ap (λ ys. x ∷ ys) (take_more xs k e at)

parted : (es : List Entry) (k : ℕ) (e : Entry) → slice_get es k ≡ Some e → es ≡ take k es ++ e ∷ drop (suc k) es
parted [] k e at = absurd (cc)
parted (x ∷ xs) zero e at = ap (λ y. y ∷ xs) (some_same x e at)
  where
    some_same : (a b : Entry) → Some a ≡ Some b → a ≡ b
    some_same a b f = cc
parted (x ∷ xs) (suc k) e at = ap (λ ys. x ∷ ys) (parted xs k e at)

taken_length : (es : List Entry) (k : ℕ) → k ≤ length es → length (take k es) ≡ k
taken_length es zero le = refl
taken_length [] (suc k) le = absurd (omega (arith, le))
taken_length (x ∷ xs) (suc k) le = ap suc (taken_length xs k (omega (arith, le)))

taken_all : (es : List Entry) (k : ℕ) → length es ≤ k → take k es ≡ es
taken_all [] zero le = refl
taken_all [] (suc k) le = refl
taken_all (x ∷ xs) zero le = absurd (omega (arith, le))
taken_all (x ∷ xs) (suc k) le = ap (λ ys. x ∷ ys) (taken_all xs k (omega (arith, le)))

-- so many entries are replayed
abbrev pub Done : Setting → List Entry → ℕ → Machine → Type 0
Done set es k m = IsReplayed set (take k es) m

module _ (set : Setting) (es : List Entry) (k : ℕ) (e : Entry) (at : slice_get es k ≡ Some e) (before after : Machine) (done : Done set es k before) where
  pub goes_on : (s : Step) (v : Option Verdict) → v ≡ None → HasStepped set done.last e after s → IsStoppedBy s (k + 1) e.task v → Done set es (suc k) after
  goes_on step.Same v none h i = record { last = h.after; replays = subst (λ (xs : List Entry). Replays set (first_state set) xs h.after) (sym (take_more es k e at)) (replays_more set (first_state set) (take k es) e done.last h.after h.moves done.replays h.acts); at = h.at }
  goes_on step.Absent v none h i = absurd (let z = sym none ∙ i in cc)
  goes_on step.Ended v none h i = absurd (let z = sym none ∙ i in cc)
  goes_on step.Waits v none h i = absurd (let z = sym none ∙ i in cc)
  goes_on (step.Made act) v none h i = absurd (let z = sym none ∙ i in cc)

  same_of : (a b : Verdict) → Some a ≡ Some b → a ≡ b
  same_of a b f = cc

  stops_with : (x : Verdict) → k ≤ length es → FaultAt set done.last e (k + 1) x → IsReadableVerdict x → StopsIn set es x
  stops_with x le fault readable = record {
    before = take k es;
    entry = e;
    behind = drop (suc k) es;
    parts = parted es k e at;
    last = done.last;
    replays = done.replays;
    fault = subst (λ (n : ℕ). FaultAt set done.last e (n + 1) x) (sym (taken_length es k le)) fault;
    readable = readable;
  }

  of_verdict : (x y : Verdict) (v : Option Verdict) → v ≡ Some x → v ≡ Some y → StopsIn set es y → StopsIn set es x
  of_verdict x y v a b stops = subst (StopsIn set es) (same_of y x (sym b ∙ a)) stops

  pub stops : k ≤ length es → (s : Step) (v : Option Verdict) (x : Verdict) → v ≡ Some x → HasStepped set done.last e after s → IsStoppedBy s (k + 1) e.task v → StopsIn set es x
  stops le step.Same v x is h i = absurd (let z = sym is ∙ i in cc)
  stops le step.Absent v x is h i = of_verdict x (verdict.Absent (k + 1)) v is i (stops_with (verdict.Absent (k + 1)) le (refl, h) tt)
  stops le step.Ended v x is h i = of_verdict x (verdict.Ended (k + 1)) v is i (stops_with (verdict.Ended (k + 1)) le (refl, h.0, h.1) tt)
  stops le step.Waits v x is h i = of_verdict x (verdict.Waits (k + 1)) v is i (stops_with (verdict.Waits (k + 1)) le (refl, h.0, h.1) tt)
  stops le (step.Made act) v x is h i =
      of_verdict x (verdict.Made (k + 1) (record { task = e.task; act = act })) v is i
      (stops_with (verdict.Made (k + 1) (record { task = e.task; act = act })) le (refl, refl, h.0, h.2.0, h.2.1, h.2.2) h.1)

pub all_done : (set : Setting) (es : List Entry) (k : ℕ) (m : Machine) → length es ≤ k → Done set es k m → IsReplayed set es m
all_done set es k m le done = subst (λ (xs : List Entry). IsReplayed set xs m) (taken_all es k le) done

pub first_done : (set : Setting) (es : List Entry) (m : Machine) → IsAt set m (first_state set) → Done set es 0 m
first_done set es m at = record { last = first_state set; replays = refl; at = at }

-- it is back again
pub views_back : (w : World) (boxes : Mailboxes) (xs ys zs : List Task) (i : ℕ) (x other : Task) (s : State) → slice_get xs i ≡ Some x → ys ≡ slice_set xs i other → zs ≡ slice_set ys i x → Views w xs boxes s → Views w zs boxes s
views_back w boxes xs ys zs i x other s at is back v = subst (λ (ts : List Task). Views w ts boxes s) (sym back) (views_out w boxes xs ys i x other s at is v)
