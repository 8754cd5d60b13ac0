-- From one step of the runner to the next.
use Rattle.std.proofs.Common.{◌<◌, ◌≤◌, ◌==◌, ◌⊎◌, inl, inr, arith, ◌≡◌, ℕ, Bool, false, [], ◌∷◌, List, Option, Some, None, true, refl, sym, ap, subst, ◌∙◌, length}
use Rattle.std.specs.Prelude.{slice_get, slice_set}
use Rattle.kilim_run_state.specs.declared.cause.EndCause.{EndCause}
use Rattle.kilim_run_model.specs.declared.waits.Waits.{Waits}
use Rattle.kilim_run_model.specs.declared.waits.Waits.TheVariants as wait
use Rattle.kilim_run_model.specs.State.{Setting}
use Rattle.kilim_run_board.specs.fibers.Fibers.{Asks, Resumed, Fits, course_after, CanAnswer, RestsRightly, CountsRightly, StartsAtNone, StartsFresh, StandsFor}
use Rattle.kilim_run_board.specs.declared.fibers.Wants.{Wants}
use Rattle.kilim_run_board.specs.declared.fibers.Wants.TheVariants as wants
use Rattle.kilim_run_board.specs.declared.fibers.Answer.{Answer}
use Rattle.kilim_run_board.specs.declared.fibers.Answer.TheVariants as answer
use Rattle.kilim_run_board.specs.declared.board.Acted.{Acted}
use Rattle.kilim_run_board.specs.declared.board.Acted.TheVariants as acted
use Rattle.kilim_program.specs.declared.names.ClassId.{ClassId}
use Rattle.kilim_run_state.specs.declared.run.Limits.{Limits}
use Rattle.kilim_run_board.specs.declared.board.Board as kept
use Rattle.kilim_run_board.specs.declared.board.Lent.{Lent}
use Rattle.kilim_run_board.specs.declared.board.Lent.TheVariants as lent
use Rattle.kilim_run_board.specs.Board.{Board, BoardStands, IsQuiet, lent_of, Parks}
use Rattle.kilim_run_board.specs.waiting.Mailboxes.{has_to_wait}
use Rattle.kilim_run_workers.specs.one_worker.Pool.{IsOf, IsLending, IsResting, IsCalm, WaitsAt, todo, left, one_if_none}
use Rattle.kilim_run_workers.proofs.one_worker.Measures.{IsOver, IsRefused, same_left, act_left, back_left, park_left, refused_left, same_calm, act_calm, back_calm, park_calm}
use Rattle.kilim_run_board.specs.Seen.{seen, IsRoomy, LendAnswers, GiveAnswers, gives_at, LentStands, CourseAt, SameBoard, ActAnswers, ActMeets, IsActable, IsAnswered, MayBound, RestsAs, wish_in}
use Rattle.kilim_run_board.proofs.Calls.{may_bound}
use Rattle.kilim_run_workers.specs.declared.one_worker.Next.TheVariants as next
use Rattle.kilim_run_workers.specs.Given.{RestsWaiting}
use Rattle.kilim_run_model.specs.Lone.{Lone}
use Rattle.kilim_run_model.specs.Course.{Course}
use Rattle.kilim_run_model.specs.declared.deed.Deed.{Deed}
use Rattle.kilim_run_model.specs.Moving.{books_from, first_books}
use Rattle.kilim_run_board.specs.fibers.Wishes.{Wish, ToPut, ToPutWait, ToBound, ToTake, ToProbe, ToStart, ToPrint, ToEnd}

-- it is an act but no end
abbrev pub IsGoing : {F : Type 0} → Wants F → Type 0
IsGoing (wants.Rest waits) = ⊥
IsGoing (wants.End why) = ⊥
IsGoing w = Unit {0}

pub going : {F : Type 0} (w : Wants F) → ((o : Option Waits) → w ≡ wants.Rest o → ⊥) → ((why : EndCause) → w ≡ wants.End why → ⊥) → IsGoing w
going (wants.Put box tree shape) no-rest no-end = tt
going (wants.PutWait box tree shape) no-rest no-end = tt
going (wants.Bound box most) no-rest no-end = tt
going (wants.Take box) no-rest no-end = tt
going (wants.Probe box) no-rest no-end = tt
going (wants.Start f shape) no-rest no-end = tt
going (wants.Print shape) no-rest no-end = tt
going (wants.Rest o) no-rest no-end = no-rest o refl
going (wants.End why) no-rest no-end = no-end why refl

module _ {F : Type 0} (task : F → ℕ) (course : F → Course) (holds asked : Setting → F → Lone → Type 0) (set : Setting) where
  pub actable : (count : F → ℕ) (f : F) (w : Wants F) → IsGoing w → Resumed task course holds asked set f w → StartsAtNone count w → IsActable course count w
  actable count f (wants.Put box tree shape) goes r none = tt
  actable count f (wants.PutWait box tree shape) goes r none = tt
  actable count f (wants.Bound box most) goes r none = tt
  actable count f (wants.Take box) goes r none = tt
  actable count f (wants.Probe box) goes r none = tt
  actable count f (wants.Start new shape) goes r none = (r.1, none)
  actable count f (wants.Print shape) goes r none = tt
  actable count f (wants.Rest o) goes r none = absurd goes
  actable count f (wants.End why) goes r none = absurd goes

  pub meets : (f : F) (w : Wants F) → IsGoing w → Resumed task course holds asked set f w → ActMeets task course holds set (task f) (course f) w
  meets f (wants.Put box tree shape) goes r = (r.0.wishes, r.1)
  meets f (wants.PutWait box tree shape) goes r = (r.0.wishes, r.1)
  meets f (wants.Bound box most) goes r = (r.0.wishes, r.1)
  meets f (wants.Take box) goes r = r.wishes
  meets f (wants.Probe box) goes r = r.wishes
  meets f (wants.Start new shape) goes r = (r.0.wishes, r.1, r.2)
  meets f (wants.Print shape) goes r = r.wishes
  meets f (wants.Rest o) goes r = absurd goes
  meets f (wants.End why) goes r = absurd goes

  -- what the answer is to, and the deed that it makes
  pub record IsAsked (b' : Board F) (f : F) (a : Answer) : Type 0 where
    pub wish : Wish
    pub deed : Option Deed
    pub asks : Asks task course asked set f wish
    pub fits : Fits set.program wish a deed
    pub now : CourseAt b' (task f) (course_after (course f) deed)

  pub asked_by : (b' : Board F) (f : F) (w : Wants F) (a : Answer) → IsGoing w → Resumed task course holds asked set f w → IsAnswered set b' (task f) (course f) (wish_in w) (acted.Answer a) → IsAsked b' f a
  asked_by b' f (wants.Put box tree shape) a goes r x = record { wish = ToPut box shape; deed = x.0; asks = r.0; fits = x.1; now = x.2 }
  asked_by b' f (wants.PutWait box tree shape) a goes r x = record { wish = ToPutWait box shape; deed = x.0; asks = r.0; fits = x.1; now = x.2 }
  asked_by b' f (wants.Bound box most) a goes r x = record { wish = ToBound box most; deed = x.0; asks = r.0; fits = x.1; now = x.2 }
  asked_by b' f (wants.Take box) a goes r x = record { wish = ToTake box; deed = x.0; asks = r; fits = x.1; now = x.2 }
  asked_by b' f (wants.Probe box) a goes r x = record { wish = ToProbe box; deed = x.0; asks = r; fits = x.1; now = x.2 }
  asked_by b' f (wants.Start new shape) a goes r x = record { wish = ToStart shape; deed = x.0; asks = r.0; fits = x.1; now = x.2 }
  asked_by b' f (wants.Print shape) a goes r x = record { wish = ToPrint shape; deed = x.0; asks = r; fits = x.1; now = x.2 }
  asked_by b' f (wants.Rest o) a goes r x = absurd goes
  asked_by b' f (wants.End why) a goes r x = absurd goes

module _ {F : Type 0} (numbered : F → F → ℕ → Type 0) (b b' : Board F) (seat t : ℕ) where
  pub goes_keeps : (w : Wants F) (a : Answer) → IsGoing w → ActAnswers numbered b seat t b' w (acted.Answer a) → (b'.cells ≡ b.cells) × (b'.stopped ≡ b.stopped)
  goes_keeps (wants.Put box tree shape) (answer.Sent n) goes did = (did.2.cells, did.2.stopped)
  goes_keeps (wants.PutWait box tree shape) (answer.Sent n) goes did = (did.2.cells, did.2.stopped)
  goes_keeps (wants.PutWait box tree shape) (answer.Full back same) goes did = (did.3.spots.cells, did.3.spots.stopped)
  goes_keeps (wants.Bound box most) answer.Done goes did = (did.spots.cells, did.spots.stopped)
  goes_keeps (wants.Take box) (answer.Message tree n) goes did = (did.1.cells, did.1.stopped)
  goes_keeps (wants.Take box) answer.Nothing goes did = (did.1.spots.cells, did.1.spots.stopped)
  goes_keeps (wants.Probe box) (answer.Message tree n) goes did = (did.1.cells, did.1.stopped)
  goes_keeps (wants.Probe box) answer.Nothing goes did = (did.1.spots.cells, did.1.spots.stopped)
  goes_keeps (wants.Start f shape) (answer.Started k) goes did = (did.4.cells, did.4.stopped)
  goes_keeps (wants.Print shape) answer.Done goes did = (did.spots.cells, did.spots.stopped)
  goes_keeps (wants.End why) a goes did = absurd goes
  goes_keeps (wants.Rest o) a goes did = absurd goes
  goes_keeps _ _ goes did = absurd did

  pub over_ends : (w : Wants F) (a : Acted) → IsOver a → ActAnswers numbered b seat t b' w a → (b'.cells ≡ slice_set b.cells seat None) × (b'.stopped ≡ b.stopped)
  over_ends w (acted.Answer x) over did = absurd over
  over_ends (wants.Start f shape) acted.OutOfTasks over did = (did.1.cells, did.1.stopped)
  over_ends (wants.Put box tree shape) acted.OutOfRoom over did = (did.1.cells, did.1.stopped)
  over_ends _ _ over did = absurd did

  pub end_ends : (why : EndCause) (a : Acted) → ActAnswers numbered b seat t b' (wants.End why) a → (b'.cells ≡ slice_set b.cells seat None) × (b'.stopped ≡ b.stopped)
  end_ends why (acted.Answer answer.Done) did = (did.cells, did.stopped)
  end_ends why _ did = absurd did

-- ---- one step

module _ {F C : Type 0} (task : F → ℕ) (course : F → Course) (holds asked : Setting → F → Lone → Type 0) (serves : Setting → C → Type 0) (code : C) (main : ClassId) (limits : Limits) where
  abbrev Of : Setting → Type 0
  Of set = IsOf serves code main limits set

  -- the fiber has been resumed, and there is room for what it wants
  pub record IsResumed (b : kept.Board F) (f : F) (w : Wants F) : Type 0 where
    pub roomy : IsRoomy b
    pub cells : b.cells.items ≡ Some (task f) ∷ []
    pub running : b.stopped ≡ false
    pub stands : (set : Setting) → Of set → BoardStands task course holds set (seen b) × CourseAt (seen b) (task f) (course f) × Resumed task course holds asked set f w

  pub resumed : (b b1 : kept.Board F) (f f' : F) (w : Wants F) → IsLending task course holds Of b f → SameBoard (seen b) (seen b1) → IsRoomy b1 → ((set : Setting) → BoardStands task course holds set (seen b) → BoardStands task course holds set (seen b1)) →
      task f' ≡ task f → course f' ≡ course f → ((set : Setting) → serves set code → set.limits ≡ limits → StandsFor task course holds set f → Resumed task course holds asked set f' w) → IsResumed b1 f' w
  resumed b b1 f f' w lending same roomy kept-it same-task same-course wanted = record {
    roomy = roomy;
    cells = same.spots.cells ∙ (lending.cells ∙ ap (λ t. Some t ∷ []) (sym same-task));
    running = same.spots.stopped ∙ lending.running;
    stands = λ set is.
        let s : BoardStands task course holds set (seen b) × StandsFor task course holds set f × CourseAt (seen b) (task f) (course f) = lending.stands set is in
        let at : CourseAt (seen b1) (task f) (course f) = (s.2.0, ap (books_from first_books) same.run.journal ∙ s.2.1, s.2.2) in
        (kept-it set s.0, subst (λ t. CourseAt (seen b1) t (course f')) (sym same-task) (subst (λ c. CourseAt (seen b1) (task f) c) (sym same-course) at), wanted set is.run.served is.is-limits s.1);
  }

  module _ (b : kept.Board F) (f : F) (w : Wants F) (now : IsResumed b f w) where
    pub lent_now : slice_get b.cells.items 0 ≡ Some (Some (task f))
    lent_now = ap (λ cs. slice_get cs 0) now.cells

    abbrev Does : kept.Board F → Acted → Type 0
    Does b' a = (set : Setting) (t : ℕ) (c : Course) → slice_get b.cells.items 0 ≡ Some (Some t) → CourseAt (seen b) t c → ActMeets task course holds set t c w → BoardStands task course holds set (seen b) → BoardStands task course holds set (seen b') × IsAnswered set (seen b') t c (wish_in w) a

    pub done_now : (b' : kept.Board F) (a : Acted) → IsGoing w → Does b' a → (set : Setting) → Of set → BoardStands task course holds set (seen b') × IsAnswered set (seen b') (task f) (course f) (wish_in w) a
    done_now b' a goes does set is = let s = now.stands set is in does set (task f) (course f) lent_now s.1 (meets task course holds asked set f w goes s.2) s.0

    -- what is bounded is new
    pub may_now : (count : F → ℕ) (refused : F → Option Waits) → IsGoing w → ((set : Setting) × Of set) → MayBound (seen b) w
    may_now count refused goes some =
        let s = now.stands some.0 some.1 in
        may_bound task course count refused holds some.0 (seen b) (task f) (course f) w s.0 s.1 (meets task course holds asked some.0 f w goes s.2)

    pub can_answer : (b' : kept.Board F) (a : Answer) → IsGoing w → Does b' (acted.Answer a) → ((set : Setting) × Of set) → CanAnswer task course asked serves code f a
    can_answer b' a goes does some =
        let s = now.stands some.0 some.1 in
        let d = done_now b' (acted.Answer a) goes does some.0 some.1 in
        let k : IsAsked task course holds asked some.0 (seen b') f a = asked_by task course holds asked some.0 (seen b') f w a goes s.2 d.1 in
        record { set = some.0; served = some.1.run.served; wish = k.wish; deed = k.deed; asks = k.asks; fits = k.fits }

    pub goes_on : (numbered : F → F → ℕ → Type 0) (b' : kept.Board F) (f' : F) (a : Answer) → IsGoing w → Does b' (acted.Answer a) → IsRoomy b' → ActAnswers numbered (seen b) 0 (task f) (seen b') w (acted.Answer a) → task f' ≡ task f →
        ((set : Setting) (wish : Wish) (deed : Option Deed) → serves set code → Asks task course asked set f wish → Fits set.program wish a deed → (course f' ≡ course_after (course f) deed) × StandsFor task course holds set f') → IsLending task course holds Of b' f'
    goes_on numbered b' f' a goes does roomy did same-task answered =
        let k = goes_keeps numbered (seen b) (seen b') 0 (task f) w a goes did in record {
          roomy = roomy;
          cells = k.0 ∙ (now.cells ∙ ap (λ t. Some t ∷ []) (sym same-task));
          running = k.1 ∙ now.running;
          stands = λ set is.
              let s = now.stands set is in
              let d = done_now b' (acted.Answer a) goes does set is in
              let q : IsAsked task course holds asked set (seen b') f a = asked_by task course holds asked set (seen b') f w a goes s.2 d.1 in
              let r : (course f' ≡ course_after (course f) q.deed) × StandsFor task course holds set f' = answered set q.wish q.deed is.run.served q.asks q.fits in
              (d.0, r.1, subst (λ t. CourseAt (seen b') t (course f')) (sym same-task) (subst (λ c. CourseAt (seen b') (task f) c) (sym r.0) q.now));
        }

    pub is_over : (numbered : F → F → ℕ → Type 0) (b' : kept.Board F) (a : Acted) → IsGoing w → IsOver a → Does b' a → IsRoomy b' → ActAnswers numbered (seen b) 0 (task f) (seen b') w a → IsResting task course holds Of b'
    is_over numbered b' a goes over does roomy did =
        let k = over_ends numbered (seen b) (seen b') 0 (task f) w a over did in record {
          roomy = roomy;
          cells = k.0 ∙ ap (λ cs. slice_set cs 0 None) now.cells;
          running = k.1 ∙ now.running;
          stands = λ set is. (done_now b' a goes does set is).0;
        }

  pub is_ended : (numbered : F → F → ℕ → Type 0) (b b' : kept.Board F) (f : F) (w : Wants F) (why : EndCause) (a : Acted) → w ≡ wants.End why → IsResumed b f w →
      ((set : Setting) (t : ℕ) (c : Course) → slice_get b.cells.items 0 ≡ Some (Some t) → CourseAt (seen b) t c → ActMeets task course holds set t c (wants.End why) → BoardStands task course holds set (seen b) → BoardStands task course holds set (seen b') × IsAnswered set (seen b') t c (Some (ToEnd why)) a) →
      IsRoomy b' → ((t : ℕ) → slice_get b.cells.items 0 ≡ Some (Some t) → ActAnswers numbered (seen b) 0 t (seen b') (wants.End why) a) → IsResting task course holds Of b'
  is_ended numbered b b' f w why a is now does roomy did =
      let lent = ap (λ cs. slice_get cs 0) now.cells in
      let k = end_ends numbered (seen b) (seen b') 0 (task f) why a (did (task f) lent) in record {
        roomy = roomy;
        cells = k.0 ∙ ap (λ cs. slice_set cs 0 None) now.cells;
        running = k.1 ∙ now.running;
        stands = λ set of.
            let s = now.stands set of in
            let m : Resumed task course holds asked set f (wants.End why) = subst (λ x. Resumed task course holds asked set f x) is s.2 in
            (does set (task f) (course f) lent s.1 m s.0).0;
      }

  -- a fiber that rests is still lent
  rest_stands : (set : Setting) (f : F) (waits : Option Waits) → Resumed task course holds asked set f (wants.Rest waits) → StandsFor task course holds set f × RestsAs task course holds set f waits
  rest_stands set f None r = (r, r)
  rest_stands set f (Some v) r = (r.stands, r)

  pub rests_now : (b : kept.Board F) (f f' : F) (w : Wants F) (waits : Option Waits) → w ≡ wants.Rest waits → IsLending task course holds Of b f → task f' ≡ task f → course f' ≡ course f →
      ((set : Setting) → serves set code → set.limits ≡ limits → StandsFor task course holds set f → Resumed task course holds asked set f' w) → IsLending task course holds Of b f' × ((set : Setting) → Of set → RestsAs task course holds set f' waits)
  rests_now b f f' w waits is lending same-task same-course wanted =
      let rest : (set : Setting) → Of set → StandsFor task course holds set f' × RestsAs task course holds set f' waits = λ set of.
      let s : BoardStands task course holds set (seen b) × StandsFor task course holds set f × CourseAt (seen b) (task f) (course f) = lending.stands set of in
      rest_stands set f' waits (subst (λ x. Resumed task course holds asked set f' x) is (wanted set of.run.served of.is-limits s.1)) in (
        record {
          roomy = lending.roomy;
          cells = lending.cells ∙ ap (λ t. Some t ∷ []) (sym same-task);
          running = lending.running;
          stands = λ set of.
              let s : BoardStands task course holds set (seen b) × StandsFor task course holds set f × CourseAt (seen b) (task f) (course f) = lending.stands set of in
              (s.0, (rest set of).0, subst (λ t. CourseAt (seen b) t (course f')) (sym same-task) (subst (λ c. CourseAt (seen b) (task f) c) (sym same-course) s.2));
        },
        λ set of. (rest set of).1,
      )

-- ---- lending

module _ {F : Type 0} (task : F → ℕ) (course : F → Course) (holds : Setting → F → Lone → Type 0) (Of : Setting → Type 0) where
  pub lending : (b b' : kept.Board F) (f : F) → IsResting task course holds Of b → IsRoomy b' → LendAnswers task (seen b) 0 (seen b') (lent.Fiber f) →
      ((set : Setting) → BoardStands task course holds set (seen b) → BoardStands task course holds set (seen b') × LentStands task course holds set (seen b') (lent.Fiber f)) → IsLending task course holds Of b' f
  lending b b' f resting roomy did kept-it = record {
    roomy = roomy;
    cells = did.1.cells ∙ ap (λ cs. slice_set cs 0 (Some (task f))) resting.cells;
    running = did.1.stopped ∙ resting.running;
    stands = λ set is. let s = kept-it set (resting.stands set is) in (s.0, s.1.0, s.1.1);
  }

  -- a fiber that rests is given back
  pub given : (b b' : kept.Board F) (f : F) (waits : Option Waits) → IsLending task course holds Of b f → ((set : Setting) → Of set → RestsAs task course holds set f waits) → GiveAnswers (seen b) 0 (seen b') f waits → IsRoomy b' →
      ((set : Setting) → BoardStands task course holds set (seen b) → RestsAs task course holds set f waits → CourseAt (seen b) (task f) (course f) → BoardStands task course holds set (seen b')) → IsResting task course holds Of b'
  given b b' f waits lending rests did roomy kept-it =
      let k = give_keeps (seen b) (seen b') f waits did in record {
        roomy = roomy;
        cells = k.0 ∙ ap (λ cs. slice_set cs 0 None) lending.cells;
        running = k.1 ∙ lending.running;
        stands = λ set of.
            let s : BoardStands task course holds set (seen b) × StandsFor task course holds set f × CourseAt (seen b) (task f) (course f) = lending.stands set of in
            kept-it set s.0 (rests set of) s.2;
      }
    where
      give_keeps : (b b' : Board F) (f : F) (waits : Option Waits) → GiveAnswers b 0 b' f waits → (b'.cells ≡ slice_set b.cells 0 None) × (b'.stopped ≡ b.stopped)
      give_keeps b b' f None did = (did.cells, did.stopped)
      give_keeps b b' f (Some v) did = give_at (has_to_wait b.mails v) did
        where
          give_at : (y : Bool) → gives_at y b 0 b' f v → (b'.cells ≡ slice_set b.cells 0 None) × (b'.stopped ≡ b.stopped)
          give_at true did = (did.cells, did.stopped)
          give_at false did = (did.cells, did.stopped)

  pub quiet_now : (b b' : kept.Board F) (l : Lent F) → ((f : F) → l ≡ lent.Fiber f → ⊥) → LendAnswers task (seen b) 0 (seen b') l → IsResting task course holds Of b → (b'.stopped ≡ false) × IsQuiet (seen b')
  quiet_now b b' (lent.Fiber f) not-fiber did resting = absurd (not-fiber f refl)
  quiet_now b b' lent.Idle not-fiber did resting = absurd (did.3 (ap lent_of resting.cells))
  quiet_now b b' lent.Quiet not-fiber did resting = (ap (λ (x : Board F). x.stopped) did.1 ∙ did.0, subst (λ (x : Board F). IsQuiet x) (sym did.1) (did.2, did.3))
  quiet_now b b' lent.Stopped not-fiber did resting = absurd (let e = sym did.0 ∙ resting.running in cc)

-- ---- less is left to do

module _ {F : Type 0} (task : F → ℕ) (course : F → Course) (holds asked : Setting → F → Lone → Type 0) (set : Setting) where
  pub counted : (b' : Board F) (f : F) (w : Wants F) (a : Answer) (before after : ℕ) (r : Option Waits) → IsGoing w → Resumed task course holds asked set f w → IsAnswered set b' (task f) (course f) (wish_in w) (acted.Answer a) →
      ((wish : Wish) (deed : Option Deed) → Asks task course asked set f wish → Fits set.program wish a deed → CountsRightly wish before after r deed) → ((before < after) × (r ≡ None)) ⊎ ((v : Waits) × IsRefused v w a × (after ≡ before) × (r ≡ Some v))
  counted b' f (wants.Put box tree shape) (answer.Sent n) before after r goes s x ans = inl (subst (λ d. CountsRightly (ToPut box shape) before after r d) x.1 (ans (ToPut box shape) x.0 s.0 x.1))
  counted b' f (wants.PutWait box tree shape) (answer.Sent n) before after r goes s x ans = inl (subst (λ d. CountsRightly (ToPutWait box shape) before after r d) x.1 (ans (ToPutWait box shape) x.0 s.0 x.1))
  counted b' f (wants.PutWait box tree shape) (answer.Full back same) before after r goes s x ans =
      let k : (after ≡ before) × (r ≡ Some (wait.Put box)) = subst (λ d. CountsRightly (ToPutWait box shape) before after r d) x.1.0 (ans (ToPutWait box shape) x.0 s.0 x.1) in inr (wait.Put box, (tree, shape, back, same, refl, refl), k.0, k.1)
  counted b' f (wants.Bound box most) answer.Done before after r goes s x ans = inl (subst (λ d. CountsRightly (ToBound box most) before after r d) x.1 (ans (ToBound box most) x.0 s.0 x.1))
  counted b' f (wants.Take box) (answer.Message tree n) before after r goes s x ans = inl (subst (λ d. CountsRightly (ToTake box) before after r d) x.1.2 (ans (ToTake box) x.0 s x.1))
  counted b' f (wants.Take box) answer.Nothing before after r goes s x ans = let k : (after ≡ before) × (r ≡ Some (wait.Take box)) = subst (λ d. CountsRightly (ToTake box) before after r d) x.1 (ans (ToTake box) x.0 s x.1) in inr (wait.Take box, (refl, refl), k.0, k.1)
  counted b' f (wants.Probe box) (answer.Message tree n) before after r goes s x ans = inl (subst (λ d. CountsRightly (ToProbe box) before after r d) x.1.2 (ans (ToProbe box) x.0 s x.1))
  counted b' f (wants.Probe box) answer.Nothing before after r goes s x ans = inl (subst (λ d. CountsRightly (ToProbe box) before after r d) x.1 (ans (ToProbe box) x.0 s x.1))
  counted b' f (wants.Start new shape) (answer.Started k) before after r goes s x ans = inl (subst (λ d. CountsRightly (ToStart shape) before after r d) x.1 (ans (ToStart shape) x.0 s.0 x.1))
  counted b' f (wants.Print shape) answer.Done before after r goes s x ans = inl (subst (λ d. CountsRightly (ToPrint shape) before after r d) x.1 (ans (ToPrint shape) x.0 s x.1))
  counted b' f (wants.Rest o) a before after r goes s x ans = absurd goes
  counted b' f (wants.End why) a before after r goes s x ans = absurd goes
  counted b' f _ _ before after r goes s x ans = absurd x.1

pub going_none : {F : Type 0} (w : Wants F) (rests : Bool) (r : Option Waits) (before after : ℕ) → IsGoing w → RestsRightly rests r before after w → r ≡ None
going_none (wants.Put box tree shape) rests r before after goes e = e
going_none (wants.PutWait box tree shape) rests r before after goes e = e
going_none (wants.Bound box most) rests r before after goes e = e
going_none (wants.Take box) rests r before after goes e = e
going_none (wants.Probe box) rests r before after goes e = e
going_none (wants.Start f shape) rests r before after goes e = e
going_none (wants.Print shape) rests r before after goes e = e
going_none (wants.Rest o) rests r before after goes e = absurd goes
going_none (wants.End why) rests r before after goes e = absurd goes

module _ {F : Type 0} (task count : F → ℕ) (rests : F → Bool) (refused : F → Option Waits) (n : ℕ) (numbered : F → F → ℕ → Type 0) (same-refused : (f f' : F) (k : ℕ) → numbered f f' k → refused f' ≡ refused f) where
  pub falls_on : (b b1 b2 : kept.Board F) (f f1 f2 : F) (w : Wants F) (a : Answer) → SameBoard (seen b) (seen b1) → ActAnswers numbered (seen b1) 0 (task f1) (seen b2) w (acted.Answer a) → StartsFresh rests refused w → IsCalm refused (seen b) →
      refused f ≡ None → count f ≤ count f1 → count f1 ≤ n → count f2 ≤ n → ((count f1 < count f2) × (refused f2 ≡ None)) ⊎ ((v : Waits) × IsRefused v w a × (count f2 ≡ count f1) × (refused f2 ≡ Some v)) →
      IsCalm refused (seen b2) × WaitsAt refused b2 f2 × (todo count refused n b2 f2 < todo count refused n b f)
  falls_on b b1 b2 f f1 f2 w a same did fresh calm none up most most2 (inl (more, clear)) =
      let l = act_left task count n numbered (seen b1) (seen b2) 0 (task f1) w (acted.Answer a) did in
      let e = same_left task count n (seen b) (seen b1) same.spots.ready same.spots.parked same.run.tasks in
      let r : one_if_none (refused f) ≡ 1 = ap one_if_none none in
      let r2 : one_if_none (refused f2) ≡ 1 = ap one_if_none clear in (
        act_calm refused rests numbered same-refused (seen b1) (seen b2) 0 (task f1) w (acted.Answer a) did fresh (same_calm refused (seen b) (seen b1) same.spots.ready same.spots.parked calm),
        (λ v is. absurd (let k : None ≡ Some v = sym clear ∙ is in cc)),
        omega arith,
      )
  falls_on b b1 b2 f f1 f2 w a same did fresh calm none up most most2 (inr (v, is-refused, still, now)) =
      let l = refused_left task count n numbered (seen b1) (seen b2) 0 (task f1) v w a is-refused did in
      let l0 = l.0 in
      let e = same_left task count n (seen b) (seen b1) same.spots.ready same.spots.parked same.run.tasks in
      let r : one_if_none (refused f) ≡ 1 = ap one_if_none none in
      let r2 : one_if_none (refused f2) ≡ 0 = ap one_if_none now in (
        act_calm refused rests numbered same-refused (seen b1) (seen b2) 0 (task f1) w (acted.Answer a) did fresh (same_calm refused (seen b) (seen b1) same.spots.ready same.spots.parked calm),
        (λ x is. let k : Some v ≡ Some x = sym now ∙ is in let j : v ≡ x = cc in ap (λ (y : Waits). has_to_wait (seen b2).mails y) (sym j) ∙ l.1),
        omega arith,
      )

  pub falls_over : (b b1 b2 : kept.Board F) (f : F) → SameBoard (seen b) (seen b1) → left count n (seen b2) ≡ left count n (seen b1) → IsCalm refused (seen b2) → IsCalm refused (seen b2) × (left count n (seen b2) ≤ todo count refused n b f)
  falls_over b b1 b2 f same e calm = let k = same_left task count n (seen b) (seen b1) same.spots.ready same.spots.parked same.run.tasks in (calm, omega arith)

  -- a fiber that rests is given back: behind a yield it is ready, and at the mailbox that refused it it is parked
  pub falls_rest : (b : kept.Board F) (b1 : Board F) (f f1 : F) (waits : Option Waits) (at-rest : Bool) → GiveAnswers (seen b) 0 b1 f1 waits → RestsRightly {F = F} at-rest (refused f) (count f) (count f1) (wants.Rest waits) → refused f1 ≡ None → count f ≤ count f1 → count f1 ≤ n →
      WaitsAt refused b f → IsCalm refused (seen b) → IsCalm refused b1 × (left count n b1 ≤ todo count refused n b f)
  falls_rest b b1 f f1 None at-rest gives rightly clear up most empty calm =
      let l = back_left task count n (seen b) b1 0 f1 gives in
      let r : one_if_none (refused f) ≡ 1 = ap one_if_none rightly.0 in
      let more = rightly.1 in
      (back_calm refused (seen b) b1 0 f1 gives clear calm, omega arith)
  falls_rest b b1 f f1 (Some v) at-rest gives rightly clear up most waits calm =
      let has : has_to_wait (seen b).mails v ≡ true = waits v rightly.0 in
      let parks : Parks (seen b) 0 b1 f1 v = subst (λ y. gives_at y (seen b) 0 b1 f1 v) has gives in
      let l = park_left task count n (seen b) b1 0 f1 v parks in
      let r : one_if_none (refused f) ≡ 0 = ap one_if_none rightly.0 in
      (park_calm refused (seen b) b1 0 f1 v parks clear calm, omega arith)

-- a fiber that rests at a mailbox has to wait there
pub rests_waiting : {F : Type 0} (refused : F → Option Waits) (b : kept.Board F) (f : F) (rests : Bool) (before after : ℕ) (waits : Option Waits) → WaitsAt refused b f → RestsRightly {F = F} rests (refused f) before after (wants.Rest waits) → RestsWaiting b (next.Rests waits)
rests_waiting refused b f rests before after None at rightly = tt
rests_waiting refused b f rests before after (Some v) at rightly = at v rightly.0
