-- A state of a replay in which one task stands elsewhere, as a state of the shared machine.
use Rattle.std.proofs.Common.{◌≡◌, ◌<◌, ◌≤◌, ℕ, zero, suc, Bool, true, false, cond, List, [], ◌∷◌, ◌++◌, Option, Some, None, map, length, refl, sym, ap, subst, ◌∙◌, arith}
use Rattle.std.specs.Prelude.{◌==◌, slice_get, slice_set}
use Rattle.kilim_program.specs.declared.names.BoxName.{BoxName}
use Rattle.kilim_run_model.specs.State.{Mailbox, State, Thread, same_box, with_mailbox}
use Rattle.kilim_run_model.specs.Turn.{lone_of, with_lone}
use Rattle.kilim_replay_thread.specs.Live.{kept_for, lone_at, thread_in, with_thread}
use Rattle.kilim_replay_thread.specs.declared.task.Live.{Live}
use Rattle.kilim_replay_thread.specs.declared.task.World.{World}
use Rattle.kilim_replay.specs.Machine.{StandsAt, Views, thread_of}
use Rattle.kilim_replay.specs.Mailboxes.{mail_of}
use Rattle.kilim_replay.specs.declared.machine.Task.{Task}
use Rattle.kilim_replay.specs.declared.machine.Task.TheVariants as a_task
use Rattle.kilim_replay.specs.declared.mailboxes.Mailboxes.{Mailboxes}

-- ---- lists

pub set_again : {A : Type 0} (xs : List A) (i : ℕ) (x y : A) → slice_set (slice_set xs i x) i y ≡ slice_set xs i y
set_again [] i x y = refl
set_again (z ∷ zs) zero x y = refl
set_again (z ∷ zs) (suc i) x y = ap (λ ys. z ∷ ys) (set_again zs i x y)

some_same : {A : Type 0} (a b : A) → Some a ≡ Some b → b ≡ a
some_same a b f = cc

pub set_none : {A : Type 0} (xs : List A) (i : ℕ) (x : A) → slice_get xs i ≡ Some x → slice_set xs i x ≡ xs
set_none [] i x e = absurd (cc)
set_none (z ∷ zs) zero x e = ap (λ y. y ∷ zs) (some_same z x e)
set_none (z ∷ zs) (suc i) x e = ap (λ ys. z ∷ ys) (set_none zs i x e)

pub map_set : (xs : List Task) (i : ℕ) (x : Task) → map thread_of (slice_set xs i x) ≡ slice_set (map thread_of xs) i (thread_of x)
map_set [] i x = refl
map_set (z ∷ zs) zero x = refl
map_set (z ∷ zs) (suc i) x = ap (λ ys. thread_of z ∷ ys) (map_set zs i x)

pub map_length : (xs : List Task) → length (map thread_of xs) ≡ length xs
map_length [] = refl
map_length (x ∷ xs) = ap suc (map_length xs)

pub map_more : (xs : List Task) (x : Task) → map thread_of (xs ++ x ∷ []) ≡ map thread_of xs ++ thread_of x ∷ []
map_more [] x = refl
map_more (z ∷ zs) x = ap (λ ys. thread_of z ∷ ys) (map_more zs x)

pub map_got : (xs : List Task) (i : ℕ) (x : Task) → slice_get xs i ≡ Some x → slice_get (map thread_of xs) i ≡ Some (thread_of x)
map_got [] i x e = absurd (cc)
map_got (z ∷ zs) zero x e = ap (λ (o : Option Task). of o) e
  where
    of : Option Task → Option Thread
    of None = None
    of (Some y) = Some (thread_of y)
map_got (z ∷ zs) (suc i) x e = map_got zs i x e

pub map_none : (xs : List Task) (i : ℕ) → length xs ≤ i → slice_get (map thread_of xs) i ≡ None
map_none [] i le = refl
map_none (z ∷ zs) zero le = absurd (omega (arith, le))
map_none (z ∷ zs) (suc i) le = map_none zs i (omega (arith, le))

pub got_set : (xs : List Task) (i : ℕ) (x : Task) → i < length xs → slice_get (map thread_of (slice_set xs i x)) i ≡ Some (thread_of x)
got_set [] i x lt = absurd (omega (arith, lt))
got_set (z ∷ zs) zero x lt = refl
got_set (z ∷ zs) (suc i) x lt = got_set zs i x (omega (arith, lt))

-- ---- one task

module _ (t : ℕ) (w : World) (tasks : List Task) (boxes : Mailboxes) (l : Live) (s : State) (views : Views w (slice_set tasks t (a_task.Live l)) boxes s) where
  pub thread_there : t < length tasks → slice_get s.threads t ≡ Some (thread_in l)
  thread_there lt = ap (λ (ths : List Thread). slice_get ths t) views.threads ∙ got_set tasks t (a_task.Live l) lt

  pub lone_is : lone_of s t (thread_in l) ≡ lone_at t w l
  lone_is = λ i. record { heap = views.heap i; next = views.next i; thread = thread_in l; kept = cond (t == 0) (views.kept i) None }

  threads_set : (x : Task) → slice_set s.threads t (thread_of x) ≡ map thread_of (slice_set tasks t x)
  threads_set x =
      ap (λ (ths : List Thread). slice_set ths t (thread_of x)) (views.threads ∙ map_set tasks t (a_task.Live l))
      ∙ (set_again (map thread_of tasks) t (thread_in l) (thread_of x) ∙ sym (map_set tasks t x))

  kept_set : (w' : World) → ((t == 0) ≡ false → w'.kept ≡ w.kept) → cond (t == 0) (kept_for t w'.kept) s.kept ≡ w'.kept
  kept_set w' same = by (t == 0) same
    where
      by : (z : Bool) → (z ≡ false → w'.kept ≡ w.kept) → cond z (cond z w'.kept None) s.kept ≡ w'.kept
      by true f = refl
      by false f = views.kept ∙ sym (f refl)

  -- the task stands elsewhere, and what all share is another world
  pub views_with : (w' : World) (x : Task) → ((t == 0) ≡ false → w'.kept ≡ w.kept) → Views w' (slice_set tasks t x) boxes (with_lone s t (with_thread t w' (thread_of x)))
  views_with w' x same = record { heap = refl; next = refl; kept = kept_set w' same; threads = threads_set x; mailboxes = views.mailboxes }

  -- it stands behind an action
  pub stood_views : (thread : Thread) (new : List Task) → StandsAt t thread tasks new → Views w new boxes (with_lone s t (with_thread t w thread))
  stood_views thread new stands =
      subst (λ (th : Thread). Views w new boxes (with_lone s t (with_thread t w th))) stands.behind
      (subst (λ (ts : List Task). Views w ts boxes (with_lone s t (with_thread t w (thread_in stands.live)))) (sym stands.is) (views_with w (a_task.Live stands.live) (λ z. refl)))

-- ---- mailboxes

-- one mailbox is another
pub mailed : (ms ns : BoxName → Mailbox ℕ) (name : BoxName) (a b : Mailbox ℕ) → ((box : BoxName) → ms box ≡ ns box) → a ≡ b → (box : BoxName) → with_mailbox ms name a box ≡ with_mailbox ns name b box
mailed ms ns name a b same e box = λ i. cond (same_box box name) (e i) (same box i)

pub with_mails : (w : World) (tasks : List Task) (boxes new : Mailboxes) (s : State) (ms : BoxName → Mailbox ℕ) → Views w tasks boxes s → ((box : BoxName) → ms box ≡ mail_of new box) → Views w tasks new (record s { mailboxes = ms })
with_mails w tasks boxes new s ms views same = record { heap = views.heap; next = views.next; kept = views.kept; threads = views.threads; mailboxes = same }

pub in_world : (w w' : World) (tasks : List Task) (boxes : Mailboxes) (s : State) → w' ≡ w → Views w tasks boxes s → Views w' tasks boxes s
in_world w w' tasks boxes s e views = subst (λ (x : World). Views x tasks boxes s) (sym e) views

pub of_boxes : (w : World) (tasks : List Task) (boxes boxes' : Mailboxes) (s : State) → boxes' ≡ boxes → Views w tasks boxes s → Views w tasks boxes' s
of_boxes w tasks boxes boxes' s e views = subst (λ (x : Mailboxes). Views w tasks x s) (sym e) views
