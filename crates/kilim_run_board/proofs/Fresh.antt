-- A mailbox at which nothing was done is as it was.
use Rattle.std.proofs.Common.{◌≡◌, ℕ, false, ◌&&◌, not, ◌==◌, nat_lt, List, [], ◌∷◌, ◌++◌, Some, refl, sym, ap, ◌∙◌, length}
use Rattle.std.specs.Prelude.{if◌then◌else◌, slice_get}
use Rattle.kilim_program.specs.declared.names.BoxName.{BoxName}
use Rattle.kilim_run_state.specs.declared.value.Token.{Token}
use Rattle.kilim_run_journal.specs.declared.entry.Act.{Act}
use Rattle.kilim_run_journal.specs.declared.entry.Act.TheVariants.{Put, Take, Empty, Start, Print, End, Wait, Bound}
use Rattle.kilim_run_journal.specs.declared.entry.Entry.{Entry}
use Rattle.kilim_run_model.specs.State.{same_box, with_message, with_queue, with_mailbox, bounded, is_full}
use Rattle.kilim_run_model.specs.Course.{Course, plain}
use Rattle.kilim_run_model.specs.Turn.{task_limit}
use Rattle.kilim_run_model.specs.declared.deed.Beginning.TheVariants.{Begun}
use Rattle.kilim_run_model.specs.Moving.{Books, with_deed, is_tasks, books_taken, books_empty, books_by, books_after, books_from}
use Rattle.kilim_run_board.specs.NewBounds.{is_done_at, IsNowhere}
use Rattle.kilim_run_board.specs.waiting.Mailboxes.{Post}
use Rattle.kilim_run_board.proofs.Queues.{if_some, if_none, bind_some}

module _ (box : BoxName) (b : Books) where
  abbrev Same : Books → Type 0
  Same last = last.mailboxes box ≡ b.mailboxes box

  apart : (other : BoxName) (m : Post) → same_box box other ≡ false → with_mailbox b.mailboxes other m box ≡ b.mailboxes box
  apart other m isnt = ap (λ y. if y then m else b.mailboxes box) isnt

  at_last : (x last : Books) → x ≡ last → Same x → Same last
  at_last x last e same = sym (ap (λ (y : Books). y.mailboxes box) e) ∙ same

  some_is : (x last : Books) → Some x ≡ Some last → x ≡ last
  some_is x last e = cc

  taken_same : (t : ℕ) (course : Course) (other : BoxName) (n : ℕ) (last : Books) (q : List (ℕ × List Token)) → same_box box other ≡ false → books_taken b t course other n q ≡ Some last → Same last
  taken_same t course other n last [] isnt e = absurd (cc)
  taken_same t course other n last (first ∷ rest) isnt e =
      let courses : List Course = with_deed b.courses t course (record { act = Take other n; taken = first.1 }) in
      let x : Books = record { courses = courses; mailboxes = with_mailbox b.mailboxes other (with_queue (b.mailboxes other) rest) } in
      at_last x last (if_some (first.0 == n) x last e).1 (apart other (with_queue (b.mailboxes other) rest) isnt)

  empty_same : (t : ℕ) (course : Course) (other : BoxName) (last : Books) (q : List (ℕ × List Token)) → books_empty b t course other q ≡ Some last → Same last
  empty_same t course other last [] e = let x : Books = record { courses = with_deed b.courses t course (plain (Empty other)); mailboxes = b.mailboxes } in at_last x last (some_is x last e) refl
  empty_same t course other last (first ∷ rest) e = absurd (cc)

  -- an act that is done elsewhere
  pub act_same : (t : ℕ) (course : Course) (a : Act) (last : Books) → is_done_at box a ≡ false → books_by b t course a ≡ Some last → Same last
  act_same t course (Put other n shape) last isnt e =
      let x : Books = record { courses = with_deed b.courses t course (plain (Put other n shape)); mailboxes = with_mailbox b.mailboxes other (with_message (b.mailboxes other) shape) } in
      at_last x last (if_some (n == (b.mailboxes other).puts && not (is_full (b.mailboxes other))) x last e).1 (apart other (with_message (b.mailboxes other) shape) isnt)
  act_same t course (Take other n) last isnt e = taken_same t course other n last (b.mailboxes other).queue isnt e
  act_same t course (Empty other) last isnt e = empty_same t course other last (b.mailboxes other).queue e
  act_same t course (Start n shape) last isnt e =
      let x : Books = record { courses = with_deed b.courses t course (plain (Start n shape)) ++ record { beginning = Begun shape; deeds = [] } ∷ []; mailboxes = b.mailboxes } in
      at_last x last (if_some (n == length b.courses && nat_lt n task_limit) x last e).1 refl
  act_same t course (Print shape) last isnt e = let x : Books = record { courses = with_deed b.courses t course (plain (Print shape)); mailboxes = b.mailboxes } in at_last x last (some_is x last e) refl
  act_same t course (End why) last isnt e =
      let x : Books = record { courses = with_deed b.courses t course (plain (End why)); mailboxes = b.mailboxes } in at_last x last (if_none (is_tasks why && not (length b.courses == task_limit)) x last e) refl
  act_same t course (Wait other) last isnt e = absurd (cc)
  act_same t course (Bound other n) last isnt e =
      let x : Books = record { courses = with_deed b.courses t course (plain (Bound other n)); mailboxes = with_mailbox b.mailboxes other (bounded (b.mailboxes other) n) } in at_last x last (some_is x last e) (apart other (bounded (b.mailboxes other) n) isnt)

-- a journal of which nothing was done there
pub nowhere_same : (box : BoxName) (es : List Entry) (b last : Books) → IsNowhere box es → books_from b es ≡ Some last → last.mailboxes box ≡ b.mailboxes box
nowhere_same box [] b last none e = sym (ap (λ (y : Books). y.mailboxes box) (some_is box b b last e))
nowhere_same box (entry ∷ es) b last none e =
    let first = bind_some (books_after b entry) (λ (mid : Books). books_from mid es) last e in
    let course = bind_some (slice_get b.courses entry.task) (λ (x : Course). books_by b entry.task x entry.act) first.0 first.1 in
    nowhere_same box es first.0 last none.1 first.2 ∙ act_same box b entry.task course.0 entry.act first.0 none.0 course.2
