-- Where all tasks stand, one after the other, and what they do there.
use Rattle.std.proofs.Common.{◌≡◌, ◌<◌, ◌≤◌, ℕ, zero, suc, true, List, [], ◌∷◌, ◌++◌, Option, Some, None, ◌⊎◌, inl, inr, get_or, length, refl, sym, ap, subst, ◌∙◌, arith}
use Rattle.std.specs.Prelude.{is_some, slice_get}
use Rattle.std.specs.List.{AllByRecursion}
use Rattle.kilim_program.specs.declared.names.BoxName.{BoxName}
use Rattle.kilim_run_state.specs.Machine.{Objects}
use Rattle.kilim_run_state.specs.declared.cause.EndCause.{EndCause}
use Rattle.kilim_run_journal.specs.declared.entry.Act.TheVariants.{Wait}
use Rattle.kilim_run_journal.specs.declared.entry.Entry.{Entry}
use Rattle.kilim_program.specs.Program.{Program}
use Rattle.kilim_run_model.specs.State.{Setting, State, Thread, Alive, Ended}
use Rattle.kilim_run_model.specs.Lone.{next_move}
use Rattle.kilim_run_model.specs.Runs.{all_at_rest, is_at_rest, wait_entry, waits_at, waits_from}
use Rattle.kilim_isolation_laws.proofs.at_rest.Rest.{before_keeps}
use Rattle.kilim_replay_laws.specs.Verdicts.{all_settled}
use Rattle.kilim_replay_laws.proofs.Settling.{RestBefore, Settles, all_rest, begins, goes_first, rest_begins, rest_on, rest_whole, settles_all, settles_on}
use Rattle.kilim_replay.specs.Machine.{IsAt}
use Rattle.kilim_replay.specs.Rest.{AllStand, AsksAll, AsksOne, HasRested, HasSettled, IsFrom, IsIn, IsSettled, IsShownFor, RestsSo, StandsSo, settled_of}
use Rattle.kilim_replay.specs.declared.machine.Machine.{Machine}
use Rattle.kilim_replay.specs.declared.mailboxes.Mailboxes.{Mailboxes}
use Rattle.kilim_replay.specs.declared.rest.Rested.{Rested}
use Rattle.kilim_replay.specs.declared.rest.Rested.TheVariants as rested
use Rattle.kilim_replay.specs.declared.rest.Settled.{Settled}
use Rattle.kilim_replay.specs.declared.rest.Settled.TheVariants as settled
use Rattle.kilim_replay.specs.declared.rest.Standing.{Standing}
use Rattle.kilim_replay.specs.declared.rest.Standing.TheVariants as standing
use Rattle.kilim_replay.proofs.Closing.{put_shown}
use Rattle.kilim_replay.proofs.Viewing.{map_got, map_length}

-- ---- lists

got_within : {A : Type 0} (xs : List A) (k : ℕ) → k < length xs → (x : A) × (slice_get xs k ≡ Some x)
got_within [] k lt = absurd (omega (arith, lt))
got_within (x ∷ xs) zero lt = (x, refl)
got_within (x ∷ xs) (suc k) lt = got_within xs k (omega (arith, lt))

some_same : {A : Type 0} (a b : A) → Some a ≡ Some b → a ≡ b
some_same a b e = cc

got_more : {A : Type 0} (xs : List A) (x : A) (u : ℕ) (y : A) → slice_get (xs ++ x ∷ []) u ≡ Some y → (slice_get xs u ≡ Some y) ⊎ ((u ≡ length xs) × (x ≡ y))
got_more [] x zero y e = inr (refl, some_same x y e)
got_more [] x (suc u) y e = absurd (cc)
got_more (z ∷ zs) x zero y e = inl e
got_more (z ∷ zs) x (suc u) y e = further (got_more zs x u y e)
  where
    further : (slice_get zs u ≡ Some y) ⊎ ((u ≡ length zs) × (x ≡ y)) → (slice_get zs u ≡ Some y) ⊎ ((suc u ≡ suc (length zs)) × (x ≡ y))
    further (inl f) = inl f
    further (inr f) = inr (ap suc f.0, f.1)

got_less : {A : Type 0} (xs : List A) (u : ℕ) (x : A) → slice_get xs u ≡ Some x → u < length xs
got_less [] u x e = absurd (cc)
got_less (y ∷ ys) zero x e = omega arith
got_less (y ∷ ys) (suc u) x e = let z = got_less ys u x e in omega (arith, z)

longer : {A : Type 0} (xs : List A) (x : A) → length (xs ++ x ∷ []) ≡ suc (length xs)
longer [] x = refl
longer (y ∷ ys) x = ap suc (longer ys x)

-- ---- all move, one after the other

-- the tasks before a number have moved, and it is known where they stand
pub record Passed (set : Setting) (s : State) (k : ℕ) (m : Machine) (sts : List Standing) : Type 0 where
  pub now : State
  pub from : IsFrom set k m now
  pub settles : Settles set s k now
  pub stand : AllStand set now sts
  pub count : length sts ≡ k
  pub threads : length now.threads ≡ length s.threads

pub first_passed : (set : Setting) (s : State) (m : Machine) → IsAt set m s → Passed set s 0 m []
first_passed set s m at = record {
  now = s;
  from = record {
    typed = at.typed;
    views = record {
      heap = at.views.heap;
      next = at.views.next;
      kept = λ z. at.views.kept;
      many = ap length at.views.threads ∙ map_length m.tasks.items;
      threads = λ t task le got. ap (λ (ths : List Thread). slice_get ths t) at.views.threads ∙ map_got m.tasks.items t task got;
      mailboxes = at.views.mailboxes;
    };
  };
  settles = begins set s;
  stand = λ t st got. absurd (cc);
  count = refl;
  threads = refl;
}

module _ (set : Setting) (s : State) (k : ℕ) (m : Machine) (sts : List Standing) (p : Passed set s k m sts) (lt : k < length m.tasks.items) where
  was : (th : Thread) × (slice_get s.threads k ≡ Some th)
  was = let a = p.from.views.many in let b = p.threads in got_within s.threads k (omega (arith, lt, a, b))

  abbrev next : State
  next = settled_of set p.now k

  still : (u : ℕ) (st : Standing) → u < k → StandsSo set p.now u st → StandsSo set next u st
  still u st less so = record { thread = so.thread; there = (before_keeps set (suc set.limits.steps) p.now k).others u (λ e. absurd (omega (arith, less, e))) ∙ so.there; says = so.says }

  stand_more : (st : Standing) → StandsSo set next k st → AllStand set next (sts ++ st ∷ [])
  stand_more st so u x got = by (got_more sts st u x got)
    where
      by : (slice_get sts u ≡ Some x) ⊎ ((u ≡ length sts) × (st ≡ x)) → StandsSo set next u x
      by (inl f) = let a = got_less sts u x f in let b = p.count in still u x (omega (arith, a, b)) (p.stand u x f)
      by (inr f) = subst (λ (n : ℕ). StandsSo set next n x) (sym (f.0 ∙ p.count)) (subst (StandsSo set next k) f.1 so)

  pub pass_more : (after : Machine) (st : Standing) → length after.tasks.items ≡ length m.tasks.items → HasSettled set p.now k after st → Passed set s (suc k) after (sts ++ st ∷ [])
  pass_more after st same h = record {
    now = next;
    from = h.0;
    settles = settles_on set s k p.now p.settles was.0 was.1;
    stand = stand_more st h.1;
    count = longer sts st ∙ ap suc p.count;
    threads = h.0.views.many ∙ (same ∙ (sym p.from.views.many ∙ p.threads));
  }

-- all have
module _ (set : Setting) (s : State) (k : ℕ) (m : Machine) (sts : List Standing) (p : Passed set s k m sts) (le : length m.tasks.items ≤ k) where
  pub settled_now : all_settled set s ≡ p.now
  settled_now = let a = p.from.views.many in let b = p.threads in settles_all set s k p.now p.settles (omega (arith, le, a, b))

  pub many_now : length m.tasks.items ≡ k → length p.now.threads ≡ length sts
  many_now e = p.from.views.many ∙ (e ∙ sym p.count)

  pub in_now : IsIn set.program m.world.heap m.mailboxes set p.now
  in_now = record { program = refl; heap = p.from.views.heap; mailboxes = p.from.views.mailboxes }

  shown_one : (t : ℕ) (st : Standing) → StandsSo set p.now t st → IsShownFor set.program m.world.heap st
  shown_one t (standing.Puts box root) so =
      subst (λ (h : Objects). IsShownFor set.program h (standing.Puts box root)) p.from.views.heap
      (put_shown set.program m.world.heap m.mailboxes set p.now t so.thread in_now box root so.says p.from.typed so.there)
  shown_one t standing.Over so = tt
  shown_one t (standing.Takes box) so = tt
  shown_one t standing.Goes so = tt

  shown_from : (xs : List Standing) (n : ℕ) → ((u : ℕ) (st : Standing) → slice_get xs u ≡ Some st → (t : ℕ) × StandsSo set p.now t st) → AllByRecursion (IsShownFor set.program m.world.heap) xs
  shown_from [] n f = tt
  shown_from (x ∷ xs) n f = (let z = f 0 x refl in shown_one z.0 x z.1, shown_from xs (suc n) (λ u st got. f (suc u) st got))

  pub all_shown : AllByRecursion (IsShownFor set.program m.world.heap) sts
  all_shown = shown_from sts 0 (λ u st got. (u, p.stand u st got))

  pub rests_all : (x : Rested) → RestsSo set p.now x → HasRested set s x
  rests_all (rested.Goes t) r = subst (λ (f : State). RestsSo set f (rested.Goes t)) (sym settled_now) r
  rests_all (rested.Waits waits) r = all_rest set p.now s settled_now waits.items r.0 r.1

-- ---- what they do

pub all_got : (p : Program) (h : Objects) (xs : List Standing) (i : ℕ) (x : Standing) → slice_get xs i ≡ Some x → AllByRecursion (IsShownFor p h) xs → IsShownFor p h x
all_got p h [] i x e all = absurd (cc)
all_got p h (y ∷ ys) zero x e all = subst (IsShownFor p h) (some_same y x e) all.0
all_got p h (y ∷ ys) (suc i) x e all = all_got p h ys i x e all.1

ended_none : (set : Setting) (x : State) (t : ℕ) (why : EndCause) → waits_at set x t (Ended why) ≡ None
unfolding next_move
ended_none set x t why = refl

none_more : (es : List Entry) → es ++ [] ≡ es
none_more [] = refl
none_more (e ∷ es) = ap (λ ds. e ∷ ds) (none_more es)

-- who waits rests
waits_rest : (set : Setting) (x : State) (t : ℕ) (th : Thread) (box : BoxName) → waits_at set x t th ≡ Some box → is_at_rest set x t th ≡ true
waits_rest set x t (Ended why) box e = refl
waits_rest set x t (Alive frames done boxes) box e = ap (λ (o : Option BoxName). is_some o) e

-- those before a number rest, with these waits
abbrev pub Asked : Program → Objects → Mailboxes → List Standing → ℕ → List Entry → Type 0
Asked p h boxes sts k waits = (set : Setting) (s : State) → IsIn p h boxes set s → AllStand set s sts → RestBefore set s k waits

pub first_asked : (p : Program) (h : Objects) (boxes : Mailboxes) (sts : List Standing) → Asked p h boxes sts 0 []
first_asked p h boxes sts set s in-state stand = rest_begins set s

got_as : {A : Type 0} (xs : List A) (i : ℕ) (d : A) → i < length xs → slice_get xs i ≡ Some (get_or xs i d)
got_as [] i d lt = absurd (omega (arith, lt))
got_as (x ∷ xs) zero d lt = refl
got_as (x ∷ xs) (suc i) d lt = got_as xs i d (omega (arith, lt))

pub shown_as : (p : Program) (h : Objects) (xs : List Standing) (i : ℕ) (d : Standing) → i < length xs → AllByRecursion (IsShownFor p h) xs → IsShownFor p h (get_or xs i d)
shown_as p h xs i d lt all = all_got p h xs i (get_or xs i d) (got_as xs i d lt) all

module _ (p : Program) (h : Objects) (boxes : Mailboxes) (sts : List Standing) (k : ℕ) (d : Standing) (lt : k < length sts) (waits : List Entry) (before : Asked p h boxes sts k waits) (x : Settled) where
  so : (set : Setting) (s : State) → AllStand set s sts → StandsSo set s k (get_or sts k d)
  so set s stand = stand k (get_or sts k d) (got_as sts k d lt)

  pub asked_over : x ≡ settled.Over → AsksOne p h boxes (get_or sts k d) x → Asked p h boxes sts (suc k) waits
  asked_over is one set s in-state stand =
      let here = so set s stand in
      let over : IsSettled set s k here.thread settled.Over = subst (IsSettled set s k here.thread) is (one set s k here.thread in-state here.says) in
      let there : slice_get s.threads k ≡ Some (Ended over.0) = here.there ∙ ap (λ (th : Thread). Some th) over.1 in
      let next = rest_on set s k waits (before set s in-state stand) (Ended over.0) there refl in
      subst (RestBefore set s (suc k)) (ap (λ (o : Option BoxName). waits ++ wait_entry k o) (ended_none set s k over.0) ∙ none_more waits) next

  pub asked_waits : (box : BoxName) → x ≡ settled.Waits box → AsksOne p h boxes (get_or sts k d) x → Asked p h boxes sts (suc k) (waits ++ record { task = k; act = Wait box } ∷ [])
  asked_waits box is one set s in-state stand =
      let here = so set s stand in
      let waits-at : waits_at set s k here.thread ≡ Some box = subst (IsSettled set s k here.thread) is (one set s k here.thread in-state here.says) in
      let next = rest_on set s k waits (before set s in-state stand) here.thread here.there (waits_rest set s k here.thread box waits-at) in
      subst (RestBefore set s (suc k)) (ap (λ (o : Option BoxName). waits ++ wait_entry k o) waits-at) next

  pub asked_goes : x ≡ settled.Goes → AsksOne p h boxes (get_or sts k d) x → AsksAll p h boxes sts (rested.Goes k)
  asked_goes is one set s in-state stand many =
      let here = so set s stand in
      goes_first set s k waits (before set s in-state stand) here.thread here.there (subst (IsSettled set s k here.thread) is (one set s k here.thread in-state here.says))

pub asked_all : (p : Program) (h : Objects) (boxes : Mailboxes) (sts : List Standing) (k : ℕ) (es : List Entry) → Asked p h boxes sts k es → length sts ≤ k → (set : Setting) (s : State) → IsIn p h boxes set s → AllStand set s sts → length s.threads ≡ length sts →
    (all_at_rest set s 0 s.threads ≡ true) × (es ≡ waits_from set s 0 s.threads)
asked_all p h boxes sts k es asked le set s in-state stand many = rest_whole set s k es (asked set s in-state stand) (omega (arith, le, many))
