-- Where a task is in no place, no entry of it can come.
use Rattle.std.proofs.Common.{◌≡◌, ◌≢◌, ℕ, ◌==◌, Bool, true, false, cond, List, [], ◌∷◌, Option, Some, None, refl, sym, ap, subst, ◌∙◌, inl, inr, arith}
use Rattle.std.specs.Prelude.{count_by, not}
use Rattle.std.specs.List.{All, AllByRecursion}
use Rattle.std.proofs.lemmas.Bool.{cases_Bool}
use Rattle.std.proofs.lemmas.Bool.Decides.{nat_tests}
use Rattle.std.proofs.lemmas.List.{append-nil}
use Rattle.std.proofs.lemmas.List.Elements.{recursion_from_All}
use Rattle.std.proofs.lemmas.Option.{none-some}
use Rattle.kilim_run_journal.specs.declared.entry.Entry.{Entry}
use Rattle.kilim_run_model.specs.State.{Setting}
use Rattle.kilim_run_model.specs.Lone.{Lone, Next, Stands}
use Rattle.kilim_run_model.specs.Course.{Course, Stays, done_by, has_ended, next_action, next_or, next_within}
use Rattle.kilim_run_model.specs.Moving.{Books}
use Rattle.kilim_run_model.specs.one_heap.Booked.{IsOf}
use Rattle.kilim_run_model.proofs.one_heap.Ends.{ended_is, is_ended, still}
use Rattle.kilim_run_board.specs.declared.waiting.parked.Waiter.{Waiter}
use Rattle.kilim_run_board.specs.Board.{Board, BoardStands, alive_course, is_alive, places_of, ready_of}
use Rattle.kilim_run_board.specs.Places.{Ready, is_task}
use Rattle.kilim_run_board.proofs.Places.{front_no}
use Rattle.kilim_run_follow.specs.Follow.{CannotCome}
use Rattle.kilim_run_follow.proofs.NextEntry.{LastDeed, last_entry}

still_action : (set : Setting) (t : ℕ) (l : Lone) → is_ended l.thread ≡ true → next_action set t l ≡ Stands
unfolding next_action
still_action set t l e = ap (λ (x : Next). next_or x (next_within set t set.limits.steps)) (still set t l e)

none_ready : {F : Type 0} (task : F → ℕ) (t : ℕ) (fs : List F) → AllByRecursion (λ (f : F). task f ≢ t) fs → count_by (is_task t) (ready_of task fs) ≡ 0
none_ready task t [] all = refl
none_ready task t (f ∷ fs) all =
    let other : (task f == t) ≡ false = let no = all.0 in grind (arith, nat_tests) in
    front_no (is_task t) (record { spot = Ready; task = task f }) (ready_of task fs) other ∙ none_ready task t fs all.1

module _ {F : Type 0} (task : F → ℕ) (course : F → Course) (holds : Setting → F → Lone → Type 0) (set : Setting) where
  none_placed : (b : Board F) (t : ℕ) → b.cells ≡ None ∷ [] → b.parked ≡ [] → All (λ (f : F). task f ≢ t) b.ready → count_by (is_task t) (places_of task b.ready b.cells b.parked) ≡ 0
  none_placed b t cells parked all =
      ap (λ (cs : List (Option ℕ)). count_by (is_task t) (places_of task b.ready cs b.parked)) cells
      ∙ (ap (λ (ws : List (Waiter F)). count_by (is_task t) (places_of task b.ready (None ∷ []) ws)) parked
      ∙ (ap (count_by (is_task t)) (append-nil (ready_of task b.ready)) ∙ none_ready task t b.ready (recursion_from_All (λ (f : F). task f ≢ t) b.ready all)))

  pub none_of_gone : (b : Board F) (t : ℕ) → BoardStands task course holds set b → b.stopped ≡ false → b.cells ≡ None ∷ [] → b.parked ≡ [] → All (λ (f : F). task f ≢ t) b.ready → (e : Entry) → e.task ≡ t → CannotCome set b.journal e
  none_of_gone b t st running cells parked all e own v replay =
      let x = last_entry set b.journal e v replay in
      let books : x.books ≡ st.state.books = let s : Some x.books ≡ Some st.state.books = sym x.front ∙ st.replay.books in cc in
      let deed : LastDeed set st.state.books e = subst (λ (k : Books). LastDeed set k e) books x.deed in
      elim (cases_Bool (has_ended deed.c)) [
        | inl z ↦
            let of : IsOf set e.task deed.c deed.thread.lone = record { last = deed.thread.lone; is = deed.thread.is; quiet = Stays refl } in
            let ended : is_ended deed.thread.lone.thread ≡ true = sym (ended_is set e.task deed.c deed.thread.lone of) ∙ z in
            none-some _ (sym (ap (λ (n : Next). done_by set n deed.d) (still_action set e.task deed.thread.lone ended)) ∙ deed.thread.does)
        | inr z ↦
            let alive : is_alive st.state.books e.task ≡ true = ap alive_course deed.at ∙ ap not z in
            let one : count_by (is_task e.task) (places_of task b.ready b.cells b.parked) ≡ 1 = st.stood.placed e.task ∙ ap (λ (y : Bool). cond y 1 0) (st.found running e.task alive) in
            let none : count_by (is_task e.task) (places_of task b.ready b.cells b.parked) ≡ 0 = none_placed b e.task cells parked (subst (λ (k : ℕ). All (λ (f : F). task f ≢ k) b.ready) (sym own) all) in
            omega (arith, one, none)
      ]
