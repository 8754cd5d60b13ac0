-- What each call of the board does to the cells as numbers.
use Rattle.std.proofs.Common.{◌≡◌, ℕ, zero, suc, ◌<◌, Bool, true, false, List, [], ◌∷◌, Option, Some, None, refl, ap, subst, ◌∙◌, map, length, ◌==◌}
use Rattle.std.specs.Prelude.{slice_get, slice_set, replicate}
use Rattle.kilim_run_model.specs.State.{Setting}
use Rattle.kilim_run_model.specs.declared.waits.Waits.{Waits}
use Rattle.kilim_run_board.specs.fibers.Fibers.{StartsAtNone, course_after}
use Rattle.kilim_run_board.specs.declared.fibers.Wants.{Wants}
use Rattle.kilim_run_board.specs.declared.fibers.Wants.TheVariants as wants
use Rattle.kilim_run_board.specs.declared.fibers.Answer.TheVariants as answer
use Rattle.kilim_run_board.specs.declared.board.Acted.{Acted}
use Rattle.kilim_run_board.specs.declared.board.Acted.TheVariants as acted
use Rattle.kilim_run_board.specs.declared.board.Lent.{Lent}
use Rattle.kilim_run_board.specs.declared.board.Lent.TheVariants as lent
use Rattle.kilim_run_board.specs.Board.{Board, BoardStands, Stops}
use Rattle.kilim_run_board.specs.Seen.{ActAnswers, ActMeets, IsActable, IsAnswered, MayBound, wish_in, LendAnswers, LentStands, GiveAnswers, gives_at, IsNewBoard, SameBoard, CourseAt}
use Rattle.kilim_run_board.specs.waiting.Mailboxes.{has_to_wait}
use Rattle.kilim_run_board.proofs.Calls.{may_bound}
use Rattle.kilim_lemmas.proofs.Lists.{set_there}
use Rattle.kilim_run_turn.specs.Views.{cell_at}
use Rattle.kilim_run_turn.specs.Turns.{KeepsOthers}
use Rattle.kilim_run_workers.specs.Codes.{lent_numbers, cell_numbers, cells_of}
use Rattle.kilim_run_workers.specs.Runs.{IsTaken, ActedAs}
use Rattle.kilim_run_workers.proofs.Numbers.{free_cell, is_free, lent_cell, is_lent}
use Rattle.kilim_run_workers.proofs.Others.{cell_changed, cells_same, act_others}
use Rattle.kilim_run_model.specs.Lone.{Lone}
use Rattle.kilim_run_model.specs.Course.{Course}
use Rattle.kilim_run_model.specs.Moving.{books_from, first_books}

pub all_keep : (seat : ℕ) (xs ys : List (List ℕ)) → ys ≡ xs → KeepsOthers seat xs ys
all_keep seat xs ys e = record { seats = ap length e; others = λ k ne. ap (λ l. cell_at l k) e }

all_free : (f : Option ℕ → List ℕ) → f None ≡ [] → (n : ℕ) → map f (replicate n None) ≡ replicate n []
all_free f e zero = refl
all_free f e (suc n) = λ i. e i ∷ all_free f e n i

pub cells_new : {F : Type 0} (b : Board F) (f : F) (seats : ℕ) → IsNewBoard b f seats → cells_of b ≡ replicate seats []
cells_new b f seats new = ap (map (cell_numbers (books_from first_books b.journal))) new.cells ∙ all_free (cell_numbers (books_from first_books b.journal)) refl seats

module _ {F : Type 0} (b b' : Board F) (seat : ℕ) where
  -- a cell that is emptied
  pub emptied : (x : Option ℕ) → slice_get b.cells seat ≡ Some x → b'.cells ≡ slice_set b.cells seat None → cell_at (cells_of b') seat ≡ []
  emptied x there e = free_cell b' seat (ap (λ cs. slice_get cs seat) e ∙ set_there b.cells seat x None there)

  pub lend_others : (task : F → ℕ) (l : Lent F) → LendAnswers task b seat b' l → KeepsOthers seat (cells_of b) (cells_of b')
  lend_others task (lent.Fiber f) did = cell_changed b b' seat (Some (task f)) did.1.run.journal did.1.cells
  lend_others task lent.Idle did = all_keep seat _ _ (ap cells_of did.1)
  lend_others task lent.Quiet did = all_keep seat _ _ (ap cells_of did.1)
  lend_others task lent.Stopped did = all_keep seat _ _ (ap cells_of did.1)

  give_how : (f : F) (waits : Option Waits) → GiveAnswers b seat b' f waits → (b'.journal ≡ b.journal) × (b'.cells ≡ slice_set b.cells seat None)
  give_how f None did = (did.run.journal, did.cells)
  give_how f (Some v) did = give_at (has_to_wait b.mails v) did
    where
      give_at : (y : Bool) → gives_at y b seat b' f v → (b'.journal ≡ b.journal) × (b'.cells ≡ slice_set b.cells seat None)
      give_at true did = (did.run.journal, did.cells)
      give_at false did = (did.run.journal, did.cells)

  pub give_others : (f : F) (waits : Option Waits) → GiveAnswers b seat b' f waits → KeepsOthers seat (cells_of b) (cells_of b')
  give_others f waits did = let h = give_how f waits did in cell_changed b b' seat None h.0 h.1

  pub give_empty : (f : F) (waits : Option Waits) (t : ℕ) → slice_get b.cells seat ≡ Some (Some t) → GiveAnswers b seat b' f waits → cell_at (cells_of b') seat ≡ []
  give_empty f waits t lent did = emptied (Some t) lent (give_how f waits did).1

  pub stop_others : Stops b seat b' → KeepsOthers seat (cells_of b) (cells_of b')
  stop_others did = cell_changed b b' seat None did.run.journal did.cells

  module _ (task : F → ℕ) (course : F → Course) (holds : Setting → F → Lone → Type 0) (Of : Setting → Type 0) (some : (set : Setting) × Of set) where
    pub lend_taken : (l : Lent F) → LendAnswers task b seat b' l → seat < length b.cells → cell_at (cells_of b) seat ≡ [] → ((set : Setting) → Of set → LentStands task course holds set b' l) → IsTaken task course holds Of (cell_at (cells_of b') seat) l
    lend_taken (lent.Fiber f) did lt free stands =
        let there = ap (λ cs. slice_get cs seat) did.1.cells ∙ set_there b.cells seat None (Some (task f)) (is_free b seat lt free) in
        (lent_cell b' seat (task f) (course f) there (stands some.0 some.1).1, λ set is. (stands set is).0)
    lend_taken lent.Idle did lt free stands = ap (λ (x : Board F). cell_at (cells_of x) seat) did.1 ∙ free
    lend_taken lent.Quiet did lt free stands = ap (λ (x : Board F). cell_at (cells_of x) seat) did.1 ∙ free
    lend_taken lent.Stopped did lt free stands = ap (λ (x : Board F). cell_at (cells_of x) seat) did.1 ∙ free

    -- what meets a course is an act
    pub is_actable : (count : F → ℕ) (t : ℕ) (c : Course) (w : Wants F) → ((set : Setting) → Of set → ActMeets task course holds set t c w) → StartsAtNone count w → IsActable course count w
    is_actable count t c (wants.Put box tree shape) m none = tt
    is_actable count t c (wants.PutWait box tree shape) m none = tt
    is_actable count t c (wants.Bound box most) m none = tt
    is_actable count t c (wants.Take box) m none = tt
    is_actable count t c (wants.Probe box) m none = tt
    is_actable count t c (wants.Start f shape) m none = ((m some.0 some.1).1, none)
    is_actable count t c (wants.Print shape) m none = tt
    is_actable count t c (wants.Rest waits) m none = m some.0 some.1
    is_actable count t c (wants.End why) m none = tt

    pub acted_as : (numbered : F → F → ℕ → Type 0) (t : ℕ) (c : Course) (w : Wants F) (a : Acted) → slice_get b.cells seat ≡ Some (Some t) → ActAnswers numbered b seat t b' w a → ((set : Setting) → Of set → IsAnswered set b' t c (wish_in w) a) → ActedAs Of t c (cell_at (cells_of b') seat) (wish_in w) a
    acted_as numbered t c (wants.Put box tree shape) (acted.Answer (answer.Sent n)) there did ans = λ set is. let x = ans set is in (x.0, x.1, lent_cell b' seat t (course_after c x.0) (ap (λ cs. slice_get cs seat) did.2.cells ∙ there) x.2)
    acted_as numbered t c (wants.PutWait box tree shape) (acted.Answer (answer.Sent n)) there did ans = λ set is. let x = ans set is in (x.0, x.1, lent_cell b' seat t (course_after c x.0) (ap (λ cs. slice_get cs seat) did.2.cells ∙ there) x.2)
    acted_as numbered t c (wants.PutWait box tree shape) (acted.Answer (answer.Full back same)) there did ans = λ set is. let x = ans set is in (x.0, x.1, lent_cell b' seat t (course_after c x.0) (ap (λ cs. slice_get cs seat) did.3.spots.cells ∙ there) x.2)
    acted_as numbered t c (wants.Bound box most) (acted.Answer answer.Done) there did ans = λ set is. let x = ans set is in (x.0, x.1, lent_cell b' seat t (course_after c x.0) (ap (λ cs. slice_get cs seat) did.spots.cells ∙ there) x.2)
    acted_as numbered t c (wants.Take box) (acted.Answer (answer.Message tree n)) there did ans = λ set is. let x = ans set is in (x.0, x.1, lent_cell b' seat t (course_after c x.0) (ap (λ cs. slice_get cs seat) did.1.cells ∙ there) x.2)
    acted_as numbered t c (wants.Take box) (acted.Answer answer.Nothing) there did ans = λ set is. let x = ans set is in (x.0, x.1, lent_cell b' seat t (course_after c x.0) (ap (λ cs. slice_get cs seat) did.1.spots.cells ∙ there) x.2)
    acted_as numbered t c (wants.Probe box) (acted.Answer (answer.Message tree n)) there did ans = λ set is. let x = ans set is in (x.0, x.1, lent_cell b' seat t (course_after c x.0) (ap (λ cs. slice_get cs seat) did.1.cells ∙ there) x.2)
    acted_as numbered t c (wants.Probe box) (acted.Answer answer.Nothing) there did ans = λ set is. let x = ans set is in (x.0, x.1, lent_cell b' seat t (course_after c x.0) (ap (λ cs. slice_get cs seat) did.1.spots.cells ∙ there) x.2)
    acted_as numbered t c (wants.Start f shape) (acted.Answer (answer.Started k)) there did ans = λ set is. let x = ans set is in (x.0, x.1, lent_cell b' seat t (course_after c x.0) (ap (λ cs. slice_get cs seat) did.4.cells ∙ there) x.2)
    acted_as numbered t c (wants.Start f shape) acted.OutOfTasks there did ans = emptied (Some t) there did.1.cells
    acted_as numbered t c (wants.Put box tree shape) acted.OutOfRoom there did ans = emptied (Some t) there did.1.cells
    acted_as numbered t c (wants.Print shape) (acted.Answer answer.Done) there did ans = λ set is. let x = ans set is in (x.0, x.1, lent_cell b' seat t (course_after c x.0) (ap (λ cs. slice_get cs seat) did.spots.cells ∙ there) x.2)
    acted_as numbered t c (wants.End why) (acted.Answer answer.Done) there did ans = emptied (Some t) there did.cells
    acted_as numbered t c _ _ there did ans = absurd did

-- the fiber's act, once there is room
module _ {F : Type 0} (b b1 : Board F) (seat t : ℕ) (c : Course) (w : Wants F) (task : F → ℕ) (course : F → Course) (holds : Setting → F → Lone → Type 0) (Of : Setting → Type 0) (some : (set : Setting) × Of set)
    (lent : cell_at (cells_of b) seat ≡ lent_numbers t c) (same : SameBoard b b1) (meets : (set : Setting) → Of set → ActMeets task course holds set t c w)
    (st1 : (set : Setting) → Of set → BoardStands task course holds set b1) where
  pub lent_now : (slice_get b1.cells seat ≡ Some (Some t)) × CourseAt b1 t c
  lent_now = is_lent b1 seat t c (ap (λ l. cell_at l seat) (cells_same b b1 seat same.run.journal same.spots.cells) ∙ lent)

  pub bounds_now : (count : F → ℕ) (refused : F → Option Waits) → MayBound b1 w
  bounds_now count refused = may_bound task course count refused holds some.0 b1 t c w (st1 some.0 some.1) lent_now.1 (meets some.0 some.1)

  module _ (b2 : Board F) (a : Acted) (does : (set : Setting) (t : ℕ) (c : Course) → slice_get b1.cells seat ≡ Some (Some t) → CourseAt b1 t c → ActMeets task course holds set t c w → BoardStands task course holds set b1 → BoardStands task course holds set b2 × IsAnswered set b2 t c (wish_in w) a) where
    pub stands_now : (set : Setting) → Of set → BoardStands task course holds set b2 × IsAnswered set b2 t c (wish_in w) a
    stands_now set is = does set t c lent_now.0 lent_now.1 (meets set is) (st1 set is)

    module _ (numbered : F → F → ℕ → Type 0) (did : (t : ℕ) → slice_get b1.cells seat ≡ Some (Some t) → ActAnswers numbered b1 seat t b2 w a) where
      pub others_now : KeepsOthers seat (cells_of b) (cells_of b2)
      others_now = subst (λ l. KeepsOthers seat l (cells_of b2)) (cells_same b b1 seat same.run.journal same.spots.cells)
          (act_others b1 b2 seat task course holds some.0 (st1 some.0 some.1) (stands_now some.0 some.1).0 numbered t w a lent_now.0 (did t lent_now.0))

      pub acted_now : ActedAs Of t c (cell_at (cells_of b2) seat) (wish_in w) a
      acted_now = acted_as b1 b2 seat task course holds Of some numbered t c w a lent_now.0 (did t lent_now.0) (λ set is. (stands_now set is).1)
