-- From one entry to the next.
use Rattle.std.proofs.Common.{◌≡◌, ℕ, suc, ◌<◌, ◌≤◌, ◌==◌, true, false, List, [], ◌∷◌, ◌++◌, Option, Some, None, length, refl, sym, ap, subst, ◌∙◌, arith}
use Rattle.std.specs.Prelude.{slice_get, slice_set, IsPermutation}
use Rattle.std.specs.List.{AllByRecursion}
use Rattle.std.proofs.lemmas.Bool.Decides.{nat_tests}
use Rattle.std.proofs.lemmas.List.Elements.{All-from_recursion, recursion_from_All}
use Rattle.std.proofs.lemmas.List.Sorted.{All-permutation}
use Rattle.kilim_program.specs.Program.{Program}
use Rattle.kilim_program.specs.declared.names.BoxName.{BoxName}
use Rattle.kilim_run_state.specs.declared.value.Token.{Token}
use Rattle.kilim_run_journal.specs.declared.entry.Entry.{Entry}
use Rattle.kilim_run_model.specs.State.{Setting, is_full}
use Rattle.kilim_run_model.specs.Lone.{Lone, Next, Goes, Puts, PutWaits, Bounds, Gets, Probes, Starts, Prints, Ends, Stands, get_at}
use Rattle.kilim_run_model.specs.Course.{Course, IsLone, done_by, next_action, stands_at}
use Rattle.kilim_run_model.specs.declared.deed.Deed.{Deed}
use Rattle.kilim_run_model.specs.declared.waits.Waits.{Waits}
use Rattle.kilim_run_model.specs.declared.waits.Waits.TheVariants as wait
use Rattle.kilim_run_model.specs.Moving.{Books}
use Rattle.kilim_run_board.specs.declared.board.Board as kept
use Rattle.kilim_run_board.specs.declared.waiting.parked.Waiter.{Waiter}
use Rattle.kilim_run_board.specs.Board.{Board, BoardStands, GivesBack, HoldsPost, HoldsQueue}
use Rattle.kilim_run_board.specs.Seen.{seen, CourseAt, IsRoomy}
use Rattle.kilim_run_board.specs.fibers.Fibers.{StandsAt, StandsFor}
use Rattle.kilim_run_board.specs.waiting.Mailboxes.{Mail, Tree, has_to_wait}
use Rattle.kilim_run_board.proofs.Boards.{full_alike}
use Rattle.kilim_run_board.proofs.Calls.{course_of_state}
use Rattle.kilim_run_workers.specs.declared.one_worker.Next.TheVariants as next
use Rattle.kilim_run_workers.specs.one_worker.Pool.{Falls, IsCalm, IsCalmFiber, IsLending, IsResting, WaitsAt, left, one_if_none, todo}
use Rattle.kilim_run_workers.proofs.one_worker.Measures.{back_left}
use Rattle.kilim_run_follow.specs.Follow.{CannotCome}
use Rattle.kilim_run_follow.specs.Lending.{LendsTask, Reorders}
use Rattle.kilim_run_follow.proofs.Orders.{reordered}
use Rattle.kilim_run_follow.proofs.NextEntry.{Allows, Is, LastDeed, at_thread, last_entry, put_is, take_is}

all_shuffled : {A : Type 0} (P : A → Type 0) (xs ys : List A) → IsPermutation xs ys → AllByRecursion P xs → AllByRecursion P ys
all_shuffled P xs ys same all = recursion_from_All P ys (All-permutation P xs ys same (All-from_recursion P xs all))

-- ---- a task's fiber is lent

module _ {F : Type 0} (task : F → ℕ) (course : F → Course) (holds : Setting → F → Lone → Type 0) (Of : Setting → Type 0) where
  pub task_lending : (b b' : kept.Board F) (t : ℕ) (f : F) → IsResting task course holds Of b → IsRoomy b' → LendsTask task (seen b) (seen b') t f
      → ((set : Setting) → BoardStands task course holds set (seen b) → BoardStands task course holds set (seen b') × StandsFor task course holds set f × CourseAt (seen b') (task f) (course f)) → IsLending task course holds Of b' f
  task_lending b b' t f resting roomy l kept-it = record {
    roomy = roomy;
    cells = l.cells ∙ ap (λ (k : ℕ). Some k ∷ []) (sym l.is);
    running = l.stopped ∙ resting.running;
    stands = λ set of. kept-it set (resting.stands set of);
  }

  pub settled : (b b' : kept.Board F) → IsResting task course holds Of b → IsRoomy b' → Reorders (seen b) (seen b') → IsResting task course holds Of b'
  settled b b' resting roomy o = record {
    roomy = roomy;
    cells = o.cells ∙ resting.cells;
    running = o.stopped ∙ resting.running;
    stands = λ set of. reordered task course holds set (seen b) (seen b') o (resting.stands set of);
  }

module _ {F : Type 0} (refused : F → Option Waits) where
  pub task_calm : (task : F → ℕ) (b b' : Board F) (t : ℕ) (f : F) → LendsTask task b b' t f → IsCalm refused b → IsCalm refused b' × (refused f ≡ None)
  task_calm task b b' t f l calm =
      let all : AllByRecursion (IsCalmFiber refused) (f ∷ b'.ready) = all_shuffled (IsCalmFiber refused) b.ready (f ∷ b'.ready) l.ready calm.ready in
      (record { ready = all.1; parked = subst (λ (ws : List (Waiter F)). AllByRecursion (λ (w : Waiter F). refused w.fiber ≡ None) ws) (sym l.parked) calm.parked }, all.0)

  pub settled_calm : (b b' : Board F) → Reorders b b' → IsCalm refused b → IsCalm refused b'
  settled_calm b b' o calm = record {
    ready = all_shuffled (IsCalmFiber refused) b.ready b'.ready o.ready calm.ready;
    parked = subst (λ (ws : List (Waiter F)). AllByRecursion (λ (w : Waiter F). refused w.fiber ≡ None) ws) (sym o.parked) calm.parked;
  }

-- ---- a yield: the fiber goes on at once

all_front : {A : Type 0} (P : A → Type 0) (xs : List A) (y : A) → AllByRecursion P (xs ++ y ∷ []) → AllByRecursion P xs × P y
all_front P [] y all = (tt, all.0)
all_front P (x ∷ xs) y all = let r = all_front P xs y all.1 in ((all.0, r.0), r.1)

pub rests_on : {F : Type 0} (task count : F → ℕ) (refused : F → Option Waits) (n : ℕ) (b : kept.Board F) (f : F) (before : ℕ) → Falls count refused n before b f (next.Rests None) → IsCalm refused (seen b) × WaitsAt refused b f × (todo count refused n b f < before)
rests_on {F} task count refused n b f before falls =
    let b0 = seen b in
    let b1 : Board F = record { journal = b0.journal; tasks = b0.tasks; ready = b0.ready ++ f ∷ []; parked = b0.parked; cells = slice_set b0.cells 0 None; mails = b0.mails; stopped = b0.stopped } in
    let gives : GivesBack b0 0 b1 f = record { run = record { journal = refl; tasks = refl; mails = λ box. refl }; ready = refl; parked = refl; cells = refl; stopped = refl } in
    let r : IsCalm refused b1 × (left count n b1 ≤ before) = falls b1 gives in
    let all = all_front (IsCalmFiber refused) b0.ready f r.0.ready in
    let l = back_left task count n b0 b1 0 f gives in
    let o : one_if_none (refused f) ≡ 1 = ap one_if_none all.1 in
    let most = r.1 in (
      record { ready = all.0; parked = r.0.parked },
      (λ v is. absurd (let k : None ≡ Some v = sym all.1 ∙ is in cc)),
      omega (arith, l, o, most),
    )

-- ---- where a task has to wait, no entry of it can come

none_queued : (p : Program) (ms : List (ℕ × Tree)) (qs : List (ℕ × List Token)) → HoldsQueue p ms qs → (length ms == 0) ≡ true → qs ≡ []
none_queued p [] [] held e = refl
none_queued p [] (q ∷ qs) held e = absurd held
none_queued p (m ∷ ms) qs held e = absurd (let h : suc (length ms) ≡ 0 = grind (arith, nat_tests) in omega arith)

module _ (set : Setting) (books : Books) (mails : BoxName → Mail) (posts : (box : BoxName) → HoldsPost set.program (mails box) (books.mailboxes box)) where
  no_deed : (x : Next) (w : Waits) (d : Deed) → get_at x ≡ Some w → has_to_wait mails w ≡ true → Is (done_by set x d) d.act → Allows books d.act → ⊥
  no_deed (Gets box l) w d at has is allows =
      let t = take_is set.program box l d d.act is in
      let q = subst (Allows books) t.1 allows in
      let same : wait.Take box ≡ w = cc in
      let none = none_queued set.program (mails box).queue (books.mailboxes box).queue (posts box).queue (subst (λ (v : Waits). has_to_wait mails v ≡ true) (sym same) has) in
      let never : (t.0, q.0) ∷ q.1 ≡ [] = sym q.2 ∙ none in
      cc
  no_deed (PutWaits box root shape l) w d at has is allows =
      let t = put_is set.program box root shape l d.act is in
      let free = (subst (Allows books) t.1 allows).1 in
      let same : wait.Put box ≡ w = cc in
      let full : is_full (books.mailboxes box) ≡ true = sym (full_alike set.program (mails box) (books.mailboxes box) (posts box)) ∙ subst (λ (v : Waits). has_to_wait mails v ≡ true) (sym same) has in
      let never : false ≡ true = sym free ∙ full in
      cc
  no_deed (Goes l) w d at has is allows = absurd (cc)
  no_deed (Puts box root shape l) w d at has is allows = absurd (cc)
  no_deed (Bounds box most l) w d at has is allows = absurd (cc)
  no_deed (Probes box l) w d at has is allows = absurd (cc)
  no_deed (Starts root shape l) w d at has is allows = absurd (cc)
  no_deed (Prints token l) w d at has is allows = absurd (cc)
  no_deed (Ends why l) w d at has is allows = absurd (cc)
  no_deed Stands w d at has is allows = absurd (cc)

some_is : (x y : Books) → Some x ≡ Some y → x ≡ y
some_is x y e = cc

pub none_comes : {F : Type 0} (task : F → ℕ) (course : F → Course) (holds : Setting → F → Lone → Type 0) (set : Setting) (b : Board F) (f : F) (w : Waits) → BoardStands task course holds set b → CourseAt b (task f) (course f) → StandsAt task course holds set f w
    → has_to_wait b.mails w ≡ true → (e : Entry) → e.task ≡ task f → CannotCome set b.journal e
unfolding stands_at
none_comes task course holds set b f w st at stands has e own v replay =
    let x = last_entry set b.journal e v replay in
    let books : x.books ≡ st.state.books = some_is x.books st.state.books (sym x.front ∙ st.replay.books) in
    let deed : LastDeed set st.state.books e = subst (λ (k : Books). LastDeed set k e) books x.deed in
    let there : slice_get st.state.books.courses (task f) ≡ Some (course f) = course_of_state task course holds set b st (task f) (course f) at in
    let here : slice_get st.state.books.courses e.task ≡ Some (course f) = ap (slice_get st.state.books.courses) own ∙ there in
    let lone = stands.stands.lone in
    let is = at_thread set st.state.books e deed (course f) lone here (subst (λ (t : ℕ). IsLone set t (course f) lone) (sym own) stands.stands.is) in
    no_deed set st.state.books b.mails st.mails (next_action set e.task lone) w deed.d (ap (λ (t : ℕ). get_at (next_action set t lone)) own ∙ stands.at) has is (subst (Allows st.state.books) (sym deed.is) deed.allows)
