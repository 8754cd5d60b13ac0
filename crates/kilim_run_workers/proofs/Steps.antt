-- From one step of a worker to the next.
use Rattle.std.proofs.Common.{◌≡◌, ℕ, List, [], Option, Some, None, sym, subst, ◌∙◌}
use Rattle.kilim_run_model.specs.declared.waits.Waits.{Waits}
use Rattle.kilim_run_state.specs.declared.run.Limits.{Limits}
use Rattle.kilim_run_model.specs.State.{Setting}
use Rattle.kilim_run_board.specs.fibers.Fibers.{Asks, Resumed, Fits, course_after, StandsFor}
use Rattle.kilim_run_board.specs.declared.fibers.Wants.{Wants}
use Rattle.kilim_run_board.specs.declared.fibers.Wants.TheVariants as wants
use Rattle.kilim_run_board.specs.declared.fibers.Answer.{Answer}
use Rattle.kilim_run_board.specs.declared.board.Acted.{Acted}
use Rattle.kilim_run_board.specs.declared.board.Acted.TheVariants as acted
use Rattle.kilim_run_board.specs.Seen.{RestsAs, wish_in}
use Rattle.kilim_run_workers.proofs.one_worker.Steps.{IsGoing}
use Rattle.kilim_run_workers.specs.Codes.{lent_numbers}
use Rattle.kilim_run_workers.proofs.one_worker.Measures.{IsOver}
use Rattle.kilim_run_workers.specs.Runs.{fiber_numbers, AllStand, ActedAs, RunsOn}
use Rattle.kilim_run_model.specs.Lone.{Lone}
use Rattle.kilim_run_model.specs.Course.{Course}
use Rattle.kilim_run_model.specs.declared.deed.Deed.{Deed}
use Rattle.kilim_run_board.specs.fibers.Wishes.{Wish, ToPut, ToPutWait, ToBound, ToTake, ToProbe, ToStart, ToPrint, ToEnd}

-- where it rests
pub rested : {F : Type 0} (task : F → ℕ) (course : F → Course) (holds asked : Setting → F → Lone → Type 0) (set : Setting) (f : F) (waits : Option Waits) → Resumed task course holds asked set f (wants.Rest waits) → RestsAs task course holds set f waits
rested task course holds asked set f None r = r
rested task course holds asked set f (Some v) r = r

module _ {F C : Type 0} (task : F → ℕ) (course : F → Course) (holds asked : Setting → F → Lone → Type 0) (serves : Setting → C → Type 0) (Of : Setting → Type 0) (code : C) (limits : Limits) where
  -- what the answer is to, and the course that the cell has
  pub record IsAsked (set : Setting) (f : F) (a : Answer) (cell : List ℕ) : Type 0 where
    pub wish : Wish
    pub deed : Option Deed
    pub asks : Asks task course asked set f wish
    pub fits : Fits set.program wish a deed
    pub now : cell ≡ lent_numbers (task f) (course_after (course f) deed)

  pub asked_in : (set : Setting) → Of set → (f : F) (w : Wants F) (a : Answer) (cell : List ℕ) → IsGoing w → Resumed task course holds asked set f w → ActedAs Of (task f) (course f) cell (wish_in w) (acted.Answer a) → IsAsked set f a cell
  asked_in set is f (wants.Put box tree shape) a cell goes r did = let x = did set is in record { wish = ToPut box shape; deed = x.0; asks = r.0; fits = x.1; now = x.2 }
  asked_in set is f (wants.PutWait box tree shape) a cell goes r did = let x = did set is in record { wish = ToPutWait box shape; deed = x.0; asks = r.0; fits = x.1; now = x.2 }
  asked_in set is f (wants.Bound box most) a cell goes r did = let x = did set is in record { wish = ToBound box most; deed = x.0; asks = r.0; fits = x.1; now = x.2 }
  asked_in set is f (wants.Take box) a cell goes r did = let x = did set is in record { wish = ToTake box; deed = x.0; asks = r; fits = x.1; now = x.2 }
  asked_in set is f (wants.Probe box) a cell goes r did = let x = did set is in record { wish = ToProbe box; deed = x.0; asks = r; fits = x.1; now = x.2 }
  asked_in set is f (wants.Start new shape) a cell goes r did = let x = did set is in record { wish = ToStart shape; deed = x.0; asks = r.0; fits = x.1; now = x.2 }
  asked_in set is f (wants.Print shape) a cell goes r did = let x = did set is in record { wish = ToPrint shape; deed = x.0; asks = r; fits = x.1; now = x.2 }
  asked_in set is f (wants.Rest o) a cell goes r did = absurd goes
  asked_in set is f (wants.End why) a cell goes r did = absurd goes

  pub went_on : (f f' : F) (w : Wants F) (a : Answer) (cell : List ℕ) → ((set : Setting) × Of set) → RunsOn serves Of code limits → IsGoing w → ((set : Setting) → Of set → Resumed task course holds asked set f w) →
      ActedAs Of (task f) (course f) cell (wish_in w) (acted.Answer a) → task f' ≡ task f →
      ((set : Setting) (wish : Wish) (deed : Option Deed) → serves set code → Asks task course asked set f wish → Fits set.program wish a deed → (course f' ≡ course_after (course f) deed) × StandsFor task course holds set f') →
      (cell ≡ fiber_numbers task course f') × AllStand task course holds Of f'
  went_on f f' w a cell some runs goes resumed did same answered =
      let all : (set : Setting) → (is : Of set) → IsAsked set f a cell = λ set is. asked_in set is f w a cell goes (resumed set is) did in
      let k = all some.0 some.1 in
      let r : (course f' ≡ course_after (course f) k.deed) × StandsFor task course holds some.0 f' = answered some.0 k.wish k.deed (runs some.0 some.1).0 k.asks k.fits in (
        k.now ∙ (λ i. lent_numbers (sym same i) (sym r.0 i)),
        λ set is. let q = all set is in (answered set q.wish q.deed (runs set is).0 q.asks q.fits).1,
      )

-- a start where there is no task left, or a put into a full mailbox
module _ (Of : Setting → Type 0) (t : ℕ) (c : Course) (cell : List ℕ) where
  over : (o : Option Wish) (a : Acted) → IsOver a → ActedAs Of t c cell o a → cell ≡ []
  over None a ends did = absurd did
  over (Some (ToEnd why)) a ends did = did
  over (Some w) (acted.Answer x) ends did = absurd ends
  over (Some w) acted.OutOfTasks ends did = did
  over (Some w) acted.OutOfRoom ends did = did

  pub is_over : (o : Option Wish) (a b : Acted) → a ≡ b → IsOver b → ActedAs Of t c cell o a → cell ≡ []
  is_over o a b is ends did = over o b ends (subst (λ x. ActedAs Of t c cell o x) is did)
