-- Each call keeps what the board stands for, and its answer fits.
use Rattle.std.proofs.Common.{◌≡◌, ℕ, suc, ◌<◌, ◌≤◌, nat_lt, Bool, true, false, not, cond, ◌&&◌, ◌==◌, List, [], ◌∷◌, ◌++◌, Option, Some, None, refl, sym, ap, subst, ◌∙◌, ◌⊎◌, inl, inr, arith}
use Rattle.std.specs.Prelude.{length, slice_get, slice_set, if◌then◌else◌}
use Rattle.std.proofs.lemmas.Bool.Decides.{nat_tests}
use Rattle.kilim_run_state.specs.declared.cause.EndCause.{EndCause}
use Rattle.kilim_run_state.specs.declared.cause.EndCause.TheVariants as cause
use Rattle.kilim_program.specs.Program.{Program}
use Rattle.kilim_program.specs.declared.names.BoxName.{BoxName}
use Rattle.kilim_run_state.specs.declared.value.Token.{Token}
use Rattle.kilim_run_journal.specs.declared.entry.Act.{Act}
use Rattle.kilim_run_journal.specs.declared.entry.Act.TheVariants as act
use Rattle.kilim_run_journal.specs.declared.entry.Entry.{Entry}
use Rattle.kilim_program.specs.Names.{◌>>=◌}
use Rattle.kilim_run_model.specs.State.{Setting, bounded, empty_mailbox, is_full, with_mailbox, with_message, with_queue}
use Rattle.kilim_run_model.specs.declared.waits.Waits.{Waits}
use Rattle.kilim_run_model.specs.declared.waits.Waits.TheVariants as wait
use Rattle.kilim_run_model.specs.Turn.{task_limit}
use Rattle.kilim_run_model.specs.Moving.{books_taken, books_empty}
use Rattle.kilim_run_board.specs.NewBounds.{IsNowhere, BoundsAreNew}
use Rattle.kilim_run_board.specs.fibers.Fibers.{NewCourse, StandsFor}
use Rattle.kilim_run_board.specs.declared.fibers.Answer.TheVariants as answer
use Rattle.kilim_run_board.specs.Places.{is_at}
use Rattle.kilim_run_board.specs.Board.{Board, stands_in, may_wait, due_in, HoldsQueue, HoldsPost, IsOwn, BoardStands, Lends, GivesBack, Parks, Stops, PutsMessage, TakesMessage, BoundsMailbox, Notes, StartsTask, EndsTask}
use Rattle.kilim_run_board.specs.waiting.Mailboxes.{Tree, Post, Mail, has_to_wait}
use Rattle.kilim_run_board.specs.declared.fibers.Wants.{Wants}
use Rattle.kilim_run_board.specs.declared.fibers.Wants.TheVariants as wants
use Rattle.kilim_run_board.specs.declared.board.Acted.{Acted}
use Rattle.kilim_run_board.specs.declared.board.Acted.TheVariants as acted
use Rattle.kilim_run_board.specs.Seen.{CourseAt, SameBoard, IsNumbered, ActAnswers, IsUnbounded, MayBound, ActMeets, IsAnswered, wish_in}
use Rattle.kilim_run_board.proofs.waiting.Names.{wait_itself}
use Rattle.kilim_run_board.proofs.Dues.{full_no_room}
use Rattle.kilim_run_board.proofs.Fresh.{nowhere_same}
use Rattle.kilim_lemmas.proofs.Lists.{set_there, get_front}
use Rattle.kilim_run_board.proofs.waiting.Lists.{got_within}
use Rattle.kilim_run_board.proofs.Replays.{some_injective, lone_of, books_on}
use Rattle.kilim_run_model.proofs.Alone.{one_lone}
use Rattle.kilim_run_board.proofs.Deeds.{IsDone, put_done, waiting_done, bounds_next, bound_done, take_done, probe_done, empty_done, start_done, full_done, filled_done, print_done, end_done, never_tasks}
use Rattle.kilim_run_board.proofs.Boards.{same_board, lent_first, back_ready, back_parked, stopped_board, noted_board, put_stands, taken_stands, bounded_board, ended_board, started_board, get_of_wish, wait_of_wish, full_alike, holds_with}
use Rattle.kilim_run_model.specs.Lone.{Lone}
use Rattle.kilim_run_model.specs.Course.{next_action, Course, IsLone, is_end, stands_at, plain}
use Rattle.kilim_run_model.specs.declared.deed.Deed.{Deed}
use Rattle.kilim_run_model.specs.declared.deed.Beginning.TheVariants.{Begun}
use Rattle.kilim_run_model.specs.Moving.{Books, FullHere, books_from, books_after, books_by, is_tasks, first_books, further}
use Rattle.kilim_run_board.specs.fibers.Wishes.{IsMessage, Wish, ToPut, ToPutWait, ToBound, ToTake, ToProbe, ToStart, ToPrint, ToEnd, wish_of, Wishes}

abbrev bit : Bool → ℕ
bit b = cond b 1 0

-- the mailbox of a put
abbrev put_box : BoxName → Wish → BoxName
put_box other (ToPut box shape) = box
put_box other wish = other

module _ {F : Type 0} (task : F → ℕ) (course : F → Course) (holds : Setting → F → Lone → Type 0) (set : Setting) where
  abbrev Stand : Board F → Type 0
  Stand b = BoardStands task course holds set b

  pub course_of_state : (b : Board F) (st : Stand b) (t : ℕ) (c : Course) → CourseAt b t c → slice_get st.state.books.courses t ≡ Some c
  course_of_state b st t c at = subst (λ (x : Books). slice_get x.courses t ≡ Some c) (some_injective at.0 st.state.books (sym at.1 ∙ st.replay.books)) at.2

  pub same_stands : (b b' : Board F) → SameBoard b b' → Stand b → Stand b'
  same_stands b b' same st = same_board task course holds set b b' same.run.journal same.run.tasks same.spots.ready same.spots.parked same.spots.cells same.run.mails same.spots.stopped st

  -- ---- lending and giving back

  pub lend_stands : (b b' : Board F) (seat : ℕ) (f : F) → slice_get b.cells seat ≡ Some None → Lends task b seat b' f → Stand b → Stand b' × StandsFor task course holds set f × CourseAt b' (task f) (course f)
  lend_stands b b' seat f free lends st =
      let b0 : Board F = record { journal = b.journal; tasks = b.tasks; ready = f ∷ b'.ready; parked = b.parked; cells = b.cells; mails = b.mails; stopped = b.stopped } in
      let st0 : Stand b0 = same_board task course holds set b b0 refl refl (sym lends.ready) refl refl (λ box. refl) refl st in
      let b1 : Board F = record { journal = b.journal; tasks = b.tasks; ready = b'.ready; parked = b.parked; cells = slice_set b.cells seat (Some (task f)); mails = b.mails; stopped = b.stopped } in
      let st1 : Stand b1 = lent_first task course holds set b f b'.ready seat free st0 in (
        same_board task course holds set b1 b' lends.run.journal lends.run.tasks refl lends.parked lends.cells lends.run.mails lends.stopped st1,
        st0.ready.0.stands,
        (st0.state.books, ap (books_from first_books) lends.run.journal ∙ st0.replay.books, st0.ready.0.own),
      )

  own_of : (b : Board F) (st : Stand b) (f : F) → StandsFor task course holds set f → CourseAt b (task f) (course f) → IsOwn task course holds set st.state.books.courses f
  own_of b st f stands at = record { stands = stands; own = course_of_state b st (task f) (course f) at }

  pub gives_back_stands : (b b' : Board F) (seat : ℕ) (f : F) → slice_get b.cells seat ≡ Some (Some (task f)) → StandsFor task course holds set f → CourseAt b (task f) (course f) → GivesBack b seat b' f → Stand b → Stand b'
  gives_back_stands b b' seat f lent stands at gives st =
      let b1 : Board F = record { journal = b.journal; tasks = b.tasks; ready = b.ready ++ f ∷ []; parked = b.parked; cells = slice_set b.cells seat None; mails = b.mails; stopped = b.stopped } in
      let st1 : Stand b1 = back_ready task course holds set b st seat (task f) lent f refl (own_of b st f stands at) in
      same_board task course holds set b1 b' gives.run.journal gives.run.tasks gives.ready gives.parked gives.cells gives.run.mails gives.stopped st1

  queue_empty : (p : Program) (ms : List (ℕ × Tree)) (qs : List (ℕ × List Token)) → HoldsQueue p ms qs → ms ≡ [] → qs ≡ []
  queue_empty p [] [] held e = refl
  queue_empty p [] (q ∷ qs) held e = absurd held
  queue_empty p (m ∷ ms) qs held e = absurd (cc)

  is_nothing : {A : Type 0} (xs : List A) → (length xs == 0) ≡ true → xs ≡ []
  is_nothing [] e = refl
  is_nothing (x ∷ xs) e = absurd (let h : suc (length xs) ≡ 0 = grind (arith, nat_tests) in omega arith)

  if_none : (stopped : Bool) (n : ℕ) → n ≡ 0 → (if stopped then 0 else n) ≡ 0
  if_none true n e = refl
  if_none false n e = e

  -- where there is to wait nothing is due, and it can be waited for
  none_due : (p : Program) (stopped : Bool) (mails : BoxName → Mail) (posts : BoxName → Post) → ((box : BoxName) → HoldsPost p (mails box) (posts box)) → (v : Waits) → has_to_wait mails v ≡ true → (due_in stopped posts v ≡ 0) × (may_wait posts v ≡ true)
  none_due p stopped mails posts held (wait.Take box) has =
      (if_none stopped (length (posts box).queue) (ap length (queue_empty p (mails box).queue (posts box).queue (held box).queue (is_nothing (mails box).queue has))), refl)
  none_due p stopped mails posts held (wait.Put box) has =
      let f = full_no_room (posts box).most (length (posts box).queue) (sym (full_alike p (mails box) (posts box) (held box)) ∙ has) in (if_none stopped _ f.0, f.1)

  pub parks_stands : (b b' : Board F) (seat : ℕ) (f : F) (v : Waits) → slice_get b.cells seat ≡ Some (Some (task f)) → (stands : StandsFor task course holds set f) → CourseAt b (task f) (course f) → stands_at set (task f) stands.lone ≡ Some v → has_to_wait b.mails v ≡ true →
      Parks b seat b' f v → Stand b → Stand b'
  parks_stands b b' seat f v lent stands at stands-there has parks st =
      let there-c = course_of_state b st (task f) (course f) at in
      let l : (l : Lone) × (slice_get st.state.lones (task f) ≡ Some l) × IsLone set (task f) (course f) l = lone_of set b.journal st.state st.replay (task f) (course f) there-c in
      let same : stands.lone ≡ l.0 = one_lone set (task f) (course f) stands.lone l.0 stands.is l.2 in
      let where-it-is : stands_in set st.state.lones (task f) ≡ Some v = ap (λ (o : Option Lone). elim o [ None ↦ None | Some x ↦ stands_at set (task f) x ]) l.1 ∙ (ap (stands_at set (task f)) (sym same) ∙ stands-there) in
      let at-it : is_at (stands_in set st.state.lones (task f)) v ≡ true = ap (λ o. is_at o v) where-it-is ∙ wait_itself v in
      let none : (due_in b.stopped st.state.books.mailboxes v ≡ 0) × (may_wait st.state.books.mailboxes v ≡ true) = none_due set.program b.stopped b.mails st.state.books.mailboxes st.mails v has in
      let b1 : Board F = record { journal = b.journal; tasks = b.tasks; ready = b.ready; parked = b'.parked; cells = slice_set b.cells seat None; mails = b.mails; stopped = b.stopped } in
      let st1 : Stand b1 = back_parked task course holds set b st seat (task f) lent f v b'.parked parks.parked refl (own_of b st f stands at) at-it none.1 none.0 in
      same_board task course holds set b1 b' parks.run.journal parks.run.tasks parks.ready refl parks.cells parks.run.mails parks.stopped st1

  pub stops_stands : (b b' : Board F) (seat t : ℕ) → slice_get b.cells seat ≡ Some (Some t) → Stops b seat b' → Stand b → Stand b'
  stops_stands b b' seat t lent stops st =
      let b1 : Board F = record { journal = b.journal; tasks = b.tasks; ready = b.ready; parked = b.parked; cells = slice_set b.cells seat None; mails = b.mails; stopped = true } in
      same_board task course holds set b1 b' stops.run.journal stops.run.tasks stops.ready stops.parked stops.cells stops.run.mails stops.stopped (stopped_board task course holds set b st seat t lent)

  -- ---- acts

  module _ (b b' : Board F) (st : Stand b) (seat t : ℕ) (lent : slice_get b.cells seat ≡ Some (Some t)) (c : Course) (at : CourseAt b t c) (wish : Wish) (wishes : Wishes set t c wish) where
    there-c : slice_get st.state.books.courses t ≡ Some c
    there-c = course_of_state b st t c at

    pub lone : (l : Lone) × (slice_get st.state.lones t ≡ Some l) × IsLone set t c l
    lone = lone_of set b.journal st.state st.replay t c there-c

    pub next : wish_of (next_action set t lone.0) ≡ Some wish
    next = ap (λ l. wish_of (next_action set t l)) (sym (one_lone set t c wishes.lone lone.0 wishes.is lone.2)) ∙ wishes.next

    stands-there : stands_in set st.state.lones t ≡ wait_of_wish wish
    unfolding stands_at
    stands-there = ap (λ (o : Option Lone). elim o [ None ↦ None | Some x ↦ stands_at set t x ]) lone.1 ∙ get_of_wish (next_action set t lone.0) wish next

    away : wait_of_wish wish ≡ None → (w : Waits) → is_at (stands_in set st.state.lones t) w ≡ false
    away none w = ap (λ o. is_at o w) (stands-there ∙ none)

    -- what the journal says then
    now_at : (e : Entry) (courses : List Course) (posts : BoxName → Post) (d : Deed) → b'.journal ≡ b.journal ++ e ∷ [] → books_after st.state.books e ≡ Some (record { courses = courses; mailboxes = posts }) → slice_get courses t ≡ Some (further c d) → CourseAt b' t (further c d)
    now_at e courses posts d journal goes here = (record { courses = courses; mailboxes = posts }, ap (books_from first_books) journal ∙ books_on first_books st.state.books (record { courses = courses; mailboxes = posts }) b.journal e st.replay.books goes, here)

    here_now : (d : Deed) → slice_get (slice_set st.state.books.courses t (further c d)) t ≡ Some (further c d)
    here_now d = set_there st.state.books.courses t c (further c d) there-c

    to_course : (a : Act) → books_after st.state.books (record { task = t; act = a }) ≡ books_by st.state.books t c a
    to_course a = ap (λ o. o >>= λ (x : Course). books_by st.state.books t x a) there-c

    -- a print, or the probe of an empty mailbox
    notes_stands : (a : Act) → is_end a ≡ false → wait_of_wish wish ≡ None → IsDone set (next_action set t lone.0) (plain a) →
        books_by st.state.books t c a ≡ Some (record { courses = slice_set st.state.books.courses t (further c (plain a)); mailboxes = st.state.books.mailboxes }) → Notes b t b' a → Stand b' × CourseAt b' t (further c (plain a))
    notes_stands a going none done books notes =
        let b1 : Board F = record { journal = b.journal ++ record { task = t; act = a } ∷ []; tasks = b.tasks; ready = b.ready; parked = b.parked; cells = b.cells; mails = b.mails; stopped = b.stopped } in
        let st1 : Stand b1 = noted_board task course holds set b st seat t lent c there-c lone.0 lone.1 (plain a) done.0 done.1 (away none) going (to_course a ∙ books) st.mails in (
          same_board task course holds set b1 b' notes.journal notes.tasks notes.spots.ready notes.spots.parked notes.spots.cells notes.mails notes.spots.stopped st1,
          now_at (record { task = t; act = a }) (slice_set st.state.books.courses t (further c (plain a))) st.state.books.mailboxes (plain a) notes.journal (to_course a ∙ books) (here_now (plain a)),
        )

    pub prints_stands : (shape : List Token) → wish ≡ ToPrint shape → Notes b t b' (act.Print shape) → Stand b' × CourseAt b' t (further c (plain (act.Print shape)))
    prints_stands shape is notes = notes_stands (act.Print shape) refl (ap wait_of_wish is) (print_done set (next_action set t lone.0) shape (next ∙ ap (λ w. Some w) is)) refl notes

    pub empty_stands : (box : BoxName) → wish ≡ ToProbe box → (b.mails box).queue ≡ [] → Notes b t b' (act.Empty box) → Stand b' × CourseAt b' t (further c (plain (act.Empty box)))
    empty_stands box is empty notes =
        notes_stands (act.Empty box) refl (ap wait_of_wish is) (empty_done set (next_action set t lone.0) box (next ∙ ap (λ w. Some w) is))
        (ap (books_empty st.state.books t c box) (queue_empty set.program (b.mails box).queue (st.state.books.mailboxes box).queue (st.mails box).queue empty)) notes

    -- An end: where a put ends its task, the mailbox is full.
    pub ends_stands : (why : EndCause) → ((box : BoxName) (shape : List Token) → wish ≡ ToPut box shape → is_full (st.state.books.mailboxes box) ≡ true) → IsDone set (next_action set t lone.0) (plain (act.End why)) → wait_of_wish wish ≡ None → (is_tasks why ≡ true → b.tasks ≡ task_limit) → EndsTask b seat t b' why → Stand b'
    ends_stands why filled done none full ends =
        let b1 : Board F = record { journal = b.journal ++ record { task = t; act = act.End why } ∷ []; tasks = b.tasks; ready = b.ready; parked = b.parked; cells = slice_set b.cells seat None; mails = b.mails; stopped = b.stopped } in
        let st1 : Stand b1 = ended_board task course holds set b st seat t lent c there-c lone.0 lone.1 (plain (act.End why)) done.0 done.1 refl full_here (away none) (to_course (act.End why) ∙ counted why full) in
        same_board task course holds set b1 b' ends.journal ends.tasks ends.ready ends.parked ends.cells ends.mails ends.stopped st1
      where
        full_here : FullHere set st.state.books (record { task = t; act = act.End why })
        full_here ends-full c2 is-c l is-l box root shape after puts =
            let same-c : c ≡ c2 = some_injective c c2 (sym there-c ∙ is-c) in
            let same-l : lone.0 ≡ l = one_lone set t c lone.0 l lone.2 (subst (λ x. IsLone set t x l) (sym same-c) is-l) in
            let same : Some wish ≡ Some (ToPut box shape) = sym next ∙ (ap (λ x. wish_of (next_action set t x)) same-l ∙ ap wish_of puts) in
            filled box shape (some_injective wish (ToPut box shape) same)

        counted : (why : EndCause) → (is_tasks why ≡ true → b.tasks ≡ task_limit) → books_by st.state.books t c (act.End why) ≡ Some (record { courses = slice_set st.state.books.courses t (further c (plain (act.End why))); mailboxes = st.state.books.mailboxes })
        counted cause.Done full = refl
        counted cause.Spent full = refl
        counted cause.Depth full = refl
        counted cause.Null full = refl
        counted cause.Index full = refl
        counted cause.Size full = refl
        counted cause.Large full = refl
        counted cause.Cast full = refl
        counted cause.Store full = refl
        counted cause.Zero full = refl
        counted cause.Boxes full = refl
        counted cause.Full full = refl
        counted cause.Thrown full = refl
        counted cause.Tasks full =
            let e : (length st.state.books.courses == task_limit) ≡ true = let f : length st.state.books.courses ≡ task_limit = sym st.tasks ∙ full refl in grind (arith, nat_tests) in
            ap (λ y. if not y then None else Some (record { courses = slice_set st.state.books.courses t (further c (plain (act.End cause.Tasks))); mailboxes = st.state.books.mailboxes })) e

    -- a put, that waits or not
    pub puts_stands : (box : BoxName) (tree : Tree) (shape : List Token) → (wish ≡ ToPut box shape) ⊎ (wish ≡ ToPutWait box shape) → IsMessage set.program tree shape → is_full (b.mails box) ≡ false → PutsMessage b t b' box tree shape → Stand b' × CourseAt b' t (further c (plain (act.Put box (b.mails box).puts shape)))
    puts_stands box tree shape is message free puts =
        let d : Deed = plain (act.Put box (b.mails box).puts shape) in
        let done : IsDone set (next_action set t lone.0) d = elim is [
          | inl e ↦ put_done set (next_action set t lone.0) box shape (b.mails box).puts (next ∙ ap (λ w. Some w) e)
          | inr e ↦ waiting_done set (next_action set t lone.0) box shape (b.mails box).puts (next ∙ ap (λ w. Some w) e)
        ] in
        let stands-at : (stands_in set st.state.lones t ≡ None) ⊎ (stands_in set st.state.lones t ≡ Some (wait.Put box)) = elim is [ inl e ↦ inl (stands-there ∙ ap wait_of_wish e) | inr e ↦ inr (stands-there ∙ ap wait_of_wish e) ] in
        let st1 = put_stands task course holds set b st seat t lent c there-c lone.0 lone.1 d done.0 done.1 box tree shape refl message stands-at free in
        let counted : ((b.mails box).puts == (st.state.books.mailboxes box).puts) ≡ true = let f = (st.mails box).puts in grind (arith, nat_tests) in
        let has_room : is_full (st.state.books.mailboxes box) ≡ false = sym (full_alike set.program (b.mails box) (st.state.books.mailboxes box) (st.mails box)) ∙ free in
        let same : ((b.mails box).puts == (st.state.books.mailboxes box).puts && not (is_full (st.state.books.mailboxes box))) ≡ true = ap (λ y. y && not (is_full (st.state.books.mailboxes box))) counted ∙ ap not has_room in
        let posts : BoxName → Post = with_mailbox st.state.books.mailboxes box (with_message (st.state.books.mailboxes box) shape) in (
          same_board task course holds set _ b' puts.journal puts.tasks puts.ready puts.parked puts.cells puts.mails puts.stopped st1,
          now_at (record { task = t; act = d.act }) (slice_set st.state.books.courses t (further c d)) posts d puts.journal
              (to_course d.act ∙ ap (λ y. if y then Some (record { courses = slice_set st.state.books.courses t (further c d); mailboxes = posts }) else None) same) (here_now d),
        )

    -- a bound
    pub bounds_stands : (box : BoxName) (most : ℕ) → wish ≡ ToBound box most → (b.mails box).most ≡ None → BoundsMailbox b t b' box most → Stand b' × CourseAt b' t (further c (plain (act.Bound box most)))
    bounds_stands box most is none bounds =
        let d : Deed = plain (act.Bound box most) in
        let done : IsDone set (next_action set t lone.0) d = bound_done set (next_action set t lone.0) box most (next ∙ ap (λ w. Some w) is) in
        let posts : BoxName → Post = with_mailbox st.state.books.mailboxes box (bounded (st.state.books.mailboxes box) most) in
        let mails : BoxName → Mail = with_mailbox b.mails box (bounded (b.mails box) most) in
        let st1 = bounded_board task course holds set b st seat t lent c there-c lone.0 lone.1 d done.0 done.1 box most mails (stands-there ∙ ap wait_of_wish is) (sym (st.mails box).most ∙ none) refl (to_course d.act)
        (holds_with set.program b.mails st.state.books.mailboxes box (bounded (b.mails box) most) (bounded (st.state.books.mailboxes box) most) st.mails (record { most = refl; puts = (st.mails box).puts; queue = (st.mails box).queue })) in (
          same_board task course holds set _ b' bounds.journal bounds.tasks bounds.spots.ready bounds.spots.parked bounds.spots.cells bounds.mails bounds.spots.stopped st1,
          now_at (record { task = t; act = d.act }) (slice_set st.state.books.courses t (further c d)) posts d bounds.journal (to_course d.act) (here_now d),
        )

    -- a take
    pub takes_stands : (box : BoxName) (n : ℕ) (tree : Tree) (rest : List (ℕ × Tree)) → (wish ≡ ToTake box) ⊎ (wish ≡ ToProbe box) → TakesMessage b t b' box n tree rest →
        Stand b' × ((shape : List Token) × IsMessage set.program tree shape × CourseAt b' t (further c (record { act = act.Take box n; taken = shape })))
    takes_stands box n tree rest is takes = taken_by (st.state.books.mailboxes box).queue refl (subst (λ q. HoldsQueue set.program q (st.state.books.mailboxes box).queue) takes.queue (st.mails box).queue)
      where
        stands-at : (stands_in set st.state.lones t ≡ None) ⊎ (stands_in set st.state.lones t ≡ Some (wait.Take box))
        stands-at = elim is [ inl e ↦ inr (stands-there ∙ ap wait_of_wish e) | inr e ↦ inl (stands-there ∙ ap wait_of_wish e) ]

        taken_by : (q : List (ℕ × List Token)) → (st.state.books.mailboxes box).queue ≡ q → HoldsQueue set.program ((n, tree) ∷ rest) q → Stand b' × ((shape : List Token) × IsMessage set.program tree shape × CourseAt b' t (further c (record { act = act.Take box n; taken = shape })))
        taken_by [] is-q held = absurd held
        taken_by (first ∷ others) is-q held =
            let d : Deed = record { act = act.Take box n; taken = first.1 } in
            let done : IsDone set (next_action set t lone.0) d = elim is [
              | inl e ↦ take_done set (next_action set t lone.0) box first.1 n (next ∙ ap (λ w. Some w) e) held.1.allowed
              | inr e ↦ probe_done set (next_action set t lone.0) box first.1 n (next ∙ ap (λ w. Some w) e) held.1.allowed
            ] in
            let posts : BoxName → Post = with_mailbox st.state.books.mailboxes box (with_queue (st.state.books.mailboxes box) others) in
            let mails : BoxName → Mail = with_mailbox b.mails box (with_queue (b.mails box) rest) in
            let same : (first.0 == n) ≡ true = let f = held.0 in grind (arith, nat_tests) in
            let goes : books_by st.state.books t c (act.Take box n) ≡ Some (record { courses = slice_set st.state.books.courses t (further c d); mailboxes = posts }) =
            ap (books_taken st.state.books t c box n) is-q ∙ ap (λ y. if y then Some (record { courses = slice_set st.state.books.courses t (further c d); mailboxes = posts }) else None) same in
            let st1 = taken_stands task course holds set b st seat t lent c there-c lone.0 lone.1 d done.0 done.1 box mails first others stands-at is-q refl (to_course d.act ∙ goes)
            (holds_with set.program b.mails st.state.books.mailboxes box (with_queue (b.mails box) rest) (with_queue (st.state.books.mailboxes box) others) st.mails (record { most = (st.mails box).most; puts = (st.mails box).puts; queue = held.2 })) in (
              same_board task course holds set _ b' takes.journal takes.tasks takes.ready takes.parked takes.cells takes.mails takes.stopped st1,
              (first.1, held.1, now_at (record { task = t; act = d.act }) (slice_set st.state.books.courses t (further c d)) posts d takes.journal (to_course d.act ∙ goes) (here_now d)),
            )

    -- a start
    pub starts_stands : (f : F) (shape : List Token) → wish ≡ ToStart shape → b.tasks < task_limit → task f ≡ b.tasks → NewCourse course f shape → StandsFor task course holds set f → StartsTask b t b' f shape →
        Stand b' × CourseAt b' t (further c (plain (act.Start b.tasks shape)))
    starts_stands f shape is few numbered begins stands starts =
        let d : Deed = plain (act.Start b.tasks shape) in
        let done : IsDone set (next_action set t lone.0) d = start_done set (next_action set t lone.0) shape b.tasks (next ∙ ap (λ w. Some w) is) in
        let below : nat_lt b.tasks task_limit ≡ true = grind (arith, nat_tests) in
        let st1 = started_board task course holds set b st seat t lent c there-c lone.0 lone.1 d done.0 done.1 f shape refl below (away (ap wait_of_wish is)) numbered begins stands in
        let new : Course = record { beginning = Begun shape; deeds = [] } in
        let counted : (b.tasks == length st.state.books.courses && nat_lt b.tasks task_limit) ≡ true = let g = st.tasks in ap (λ y. y && nat_lt b.tasks task_limit) (let h : (b.tasks == length st.state.books.courses) ≡ true = grind (arith, nat_tests) in h) ∙ below in (
          same_board task course holds set _ b' starts.journal starts.tasks starts.ready starts.parked starts.cells starts.mails starts.stopped st1,
          now_at (record { task = t; act = d.act }) (slice_set st.state.books.courses t (further c d) ++ new ∷ []) st.state.books.mailboxes d starts.journal
              (to_course d.act ∙ ap (λ y. if y then Some (record { courses = slice_set st.state.books.courses t (further c d) ++ new ∷ []; mailboxes = st.state.books.mailboxes }) else None) counted)
              (get_front (slice_set st.state.books.courses t (further c d)) (new ∷ []) t (got_within (slice_set st.state.books.courses t (further c d)) t (further c d) (here_now d)) ∙ here_now d),
        )

-- ---- each act at once

module _ {F : Type 0} (task : F → ℕ) (course : F → Course) (count : F → ℕ) (refused : F → Option Waits) (holds : Setting → F → Lone → Type 0) (set : Setting) where
  abbrev Numbered : F → F → ℕ → Type 0
  Numbered f f' k = IsNumbered task course count refused holds f f' k

  unnoted : (b b' : Board F) (t : ℕ) (c : Course) → SameBoard b b' → BoardStands task course holds set b → CourseAt b t c → BoardStands task course holds set b' × CourseAt b' t c
  unnoted b b' t c same st at = (
    same_board task course holds set b b' same.run.journal same.run.tasks same.spots.ready same.spots.parked same.spots.cells same.run.mails same.spots.stopped st,
    (at.0, ap (books_from first_books) same.run.journal ∙ at.1, at.2),
  )

  -- what is bounded is new
  unbounded : (b : Board F) (st : BoardStands task course holds set b) (t : ℕ) (c : Course) (box : BoxName) (most : ℕ) → CourseAt b t c → Wishes set t c (ToBound box most) → BoundsAreNew set → IsUnbounded b box most
  unbounded b st t c box most at wishes new =
      let there = course_of_state task course holds set b st t c at in
      let n = bounds_next (next_action set t wishes.lone) box most wishes.next in
      let h : IsNowhere box b.journal × (1 ≤ most) = new b.journal st.state st.replay t c wishes.lone there wishes.is box most n.0 n.1 in
      let same : st.state.books.mailboxes box ≡ empty_mailbox = nowhere_same box b.journal first_books st.state.books h.0 st.replay.books in
      record { some = h.1; none = (st.mails box).most ∙ ap (λ (m : Post). m.most) same; new = (st.mails box).puts ∙ ap (λ (m : Post). m.puts) same }

  pub may_bound : (b : Board F) (t : ℕ) (c : Course) (w : Wants F) → BoardStands task course holds set b → CourseAt b t c → ActMeets task course holds set t c w → MayBound b w
  may_bound b t c (wants.Put box tree shape) st at meets = tt
  may_bound b t c (wants.PutWait box tree shape) st at meets = tt
  may_bound b t c (wants.Bound box most) st at meets = unbounded b st t c box most at meets.0 meets.1
  may_bound b t c (wants.Take box) st at meets = tt
  may_bound b t c (wants.Probe box) st at meets = tt
  may_bound b t c (wants.Start f shape) st at meets = tt
  may_bound b t c (wants.Print shape) st at meets = tt
  may_bound b t c (wants.Rest waits) st at meets = tt
  may_bound b t c (wants.End why) st at meets = tt

  pub act_stands : (b b' : Board F) (seat t : ℕ) (c : Course) (w : Wants F) (a : Acted) → ActAnswers Numbered b seat t b' w a → slice_get b.cells seat ≡ Some (Some t) → CourseAt b t c → ActMeets task course holds set t c w → BoardStands task course holds set b →
      BoardStands task course holds set b' × IsAnswered set b' t c (wish_in w) a
  act_stands b b' seat t c (wants.Put box tree shape) (acted.Answer (answer.Sent n)) did lent at meets st =
      let r = puts_stands task course holds set b b' st seat t lent c at (ToPut box shape) meets.0 box tree shape (inl refl) meets.1 did.1 did.2 in
      (r.0, (Some (plain (act.Put box n shape)), refl, subst (λ k. CourseAt b' t (further c (plain (act.Put box k shape)))) (sym did.0) r.1))
  act_stands b b' seat t c (wants.Put box tree shape) (acted.Answer answer.Done) did lent at meets st = absurd did
  act_stands b b' seat t c (wants.Put box tree shape) (acted.Answer (answer.Full x y)) did lent at meets st = absurd did
  act_stands b b' seat t c (wants.Put box tree shape) (acted.Answer (answer.Message x n)) did lent at meets st = absurd did
  act_stands b b' seat t c (wants.Put box tree shape) (acted.Answer answer.Nothing) did lent at meets st = absurd did
  act_stands b b' seat t c (wants.Put box tree shape) (acted.Answer (answer.Started k)) did lent at meets st = absurd did
  act_stands b b' seat t c (wants.Put box tree shape) acted.OutOfTasks did lent at meets st = absurd did
  act_stands b b' seat t c (wants.Put box tree shape) acted.OutOfRoom did lent at meets st =
      let l = lone task course holds set b b' st seat t lent c at (ToPut box shape) meets.0 in
      let n = next task course holds set b b' st seat t lent c at (ToPut box shape) meets.0 in
      let same : is_full (b.mails box) ≡ is_full (st.state.books.mailboxes box) = full_alike set.program (b.mails box) (st.state.books.mailboxes box) (st.mails box) in (
        ends_stands task course holds set b b' st seat t lent c at (ToPut box shape) meets.0 cause.Full
            (λ other x e. ap (λ (z : BoxName). is_full (st.state.books.mailboxes z)) (sym (ap (put_box other) e)) ∙ (sym same ∙ did.0)) (filled_done set (next_action set t l.0) box shape n) refl (λ is. absurd (cc)) did.1,
        tt,
      )
  act_stands b b' seat t c (wants.PutWait box tree shape) (acted.Answer (answer.Sent n)) did lent at meets st =
      let r = puts_stands task course holds set b b' st seat t lent c at (ToPutWait box shape) meets.0 box tree shape (inr refl) meets.1 did.1 did.2 in
      (r.0, (Some (plain (act.Put box n shape)), refl, subst (λ k. CourseAt b' t (further c (plain (act.Put box k shape)))) (sym did.0) r.1))
  act_stands b b' seat t c (wants.PutWait box tree shape) (acted.Answer (answer.Full back same)) did lent at meets st =
      let r = unnoted b b' t c did.3 st at in (r.0, (None, (refl, did.2, subst (λ x. IsMessage set.program x shape) (sym did.1) meets.1), r.1))
  act_stands b b' seat t c (wants.PutWait box tree shape) (acted.Answer answer.Done) did lent at meets st = absurd did
  act_stands b b' seat t c (wants.PutWait box tree shape) (acted.Answer (answer.Message x n)) did lent at meets st = absurd did
  act_stands b b' seat t c (wants.PutWait box tree shape) (acted.Answer answer.Nothing) did lent at meets st = absurd did
  act_stands b b' seat t c (wants.PutWait box tree shape) (acted.Answer (answer.Started k)) did lent at meets st = absurd did
  act_stands b b' seat t c (wants.PutWait box tree shape) acted.OutOfTasks did lent at meets st = absurd did
  act_stands b b' seat t c (wants.PutWait box tree shape) acted.OutOfRoom did lent at meets st = absurd did
  act_stands b b' seat t c (wants.Bound box most) (acted.Answer answer.Done) did lent at meets st =
      let new = unbounded b st t c box most at meets.0 meets.1 in
      let r = bounds_stands task course holds set b b' st seat t lent c at (ToBound box most) meets.0 box most refl new.none did in (r.0, (Some (plain (act.Bound box most)), refl, r.1))
  act_stands b b' seat t c (wants.Bound box most) (acted.Answer (answer.Sent n)) did lent at meets st = absurd did
  act_stands b b' seat t c (wants.Bound box most) (acted.Answer (answer.Full x y)) did lent at meets st = absurd did
  act_stands b b' seat t c (wants.Bound box most) (acted.Answer (answer.Message x n)) did lent at meets st = absurd did
  act_stands b b' seat t c (wants.Bound box most) (acted.Answer answer.Nothing) did lent at meets st = absurd did
  act_stands b b' seat t c (wants.Bound box most) (acted.Answer (answer.Started k)) did lent at meets st = absurd did
  act_stands b b' seat t c (wants.Bound box most) acted.OutOfTasks did lent at meets st = absurd did
  act_stands b b' seat t c (wants.Bound box most) acted.OutOfRoom did lent at meets st = absurd did
  act_stands b b' seat t c (wants.Take box) (acted.Answer (answer.Message tree n)) did lent at meets st =
      let r = takes_stands task course holds set b b' st seat t lent c at (ToTake box) meets box n tree did.0 (inl refl) did.1 in
      (r.0, (Some (record { act = act.Take box n; taken = r.1.0 }), (r.1.0, r.1.1, refl), r.1.2))
  act_stands b b' seat t c (wants.Take box) (acted.Answer answer.Nothing) did lent at meets st =
      let r = unnoted b b' t c did.1 st at in (r.0, (None, refl, r.1))
  act_stands b b' seat t c (wants.Take box) (acted.Answer answer.Done) did lent at meets st = absurd did
  act_stands b b' seat t c (wants.Take box) (acted.Answer (answer.Sent n)) did lent at meets st = absurd did
  act_stands b b' seat t c (wants.Take box) (acted.Answer (answer.Full x y)) did lent at meets st = absurd did
  act_stands b b' seat t c (wants.Take box) (acted.Answer (answer.Started k)) did lent at meets st = absurd did
  act_stands b b' seat t c (wants.Take box) acted.OutOfRoom did lent at meets st = absurd did
  act_stands b b' seat t c (wants.Take box) acted.OutOfTasks did lent at meets st = absurd did
  act_stands b b' seat t c (wants.Probe box) (acted.Answer (answer.Message tree n)) did lent at meets st =
      let r = takes_stands task course holds set b b' st seat t lent c at (ToProbe box) meets box n tree did.0 (inr refl) did.1 in
      (r.0, (Some (record { act = act.Take box n; taken = r.1.0 }), (r.1.0, r.1.1, refl), r.1.2))
  act_stands b b' seat t c (wants.Probe box) (acted.Answer answer.Nothing) did lent at meets st =
      let r = empty_stands task course holds set b b' st seat t lent c at (ToProbe box) meets box refl did.0 did.1 in (r.0, (Some (plain (act.Empty box)), refl, r.1))
  act_stands b b' seat t c (wants.Probe box) (acted.Answer answer.Done) did lent at meets st = absurd did
  act_stands b b' seat t c (wants.Probe box) (acted.Answer (answer.Sent n)) did lent at meets st = absurd did
  act_stands b b' seat t c (wants.Probe box) (acted.Answer (answer.Full x y)) did lent at meets st = absurd did
  act_stands b b' seat t c (wants.Probe box) (acted.Answer (answer.Started k)) did lent at meets st = absurd did
  act_stands b b' seat t c (wants.Probe box) acted.OutOfRoom did lent at meets st = absurd did
  act_stands b b' seat t c (wants.Probe box) acted.OutOfTasks did lent at meets st = absurd did
  act_stands b b' seat t c (wants.Start f shape) (acted.Answer (answer.Started k)) did lent at meets st =
      let r = starts_stands task course holds set b b' st seat t lent c at (ToStart shape) meets.0 did.0 shape refl did.3 (did.1.number ∙ did.2) (did.1.same ∙ meets.1) (did.1.stands set meets.2) did.4 in
      (r.0, (Some (plain (act.Start k shape)), refl, subst (λ n. CourseAt b' t (further c (plain (act.Start n shape)))) (sym did.2) r.1))
  act_stands b b' seat t c (wants.Start f shape) acted.OutOfRoom did lent at meets st = absurd did
  act_stands b b' seat t c (wants.Start f shape) acted.OutOfTasks did lent at meets st =
      let l = lone task course holds set b b' st seat t lent c at (ToStart shape) meets.0 in
      let n = next task course holds set b b' st seat t lent c at (ToStart shape) meets.0 in
      (ends_stands task course holds set b b' st seat t lent c at (ToStart shape) meets.0 cause.Tasks (λ box x e. absurd (cc)) (full_done set (next_action set t l.0) shape n) refl (λ _. did.0) did.1, tt)
  act_stands b b' seat t c (wants.Start f shape) (acted.Answer answer.Done) did lent at meets st = absurd did
  act_stands b b' seat t c (wants.Start f shape) (acted.Answer (answer.Sent n)) did lent at meets st = absurd did
  act_stands b b' seat t c (wants.Start f shape) (acted.Answer (answer.Full x y)) did lent at meets st = absurd did
  act_stands b b' seat t c (wants.Start f shape) (acted.Answer (answer.Message x n)) did lent at meets st = absurd did
  act_stands b b' seat t c (wants.Start f shape) (acted.Answer answer.Nothing) did lent at meets st = absurd did
  act_stands b b' seat t c (wants.Print shape) (acted.Answer answer.Done) did lent at meets st =
      let r = prints_stands task course holds set b b' st seat t lent c at (ToPrint shape) meets shape refl did in (r.0, (Some (plain (act.Print shape)), refl, r.1))
  act_stands b b' seat t c (wants.Print shape) (acted.Answer (answer.Sent n)) did lent at meets st = absurd did
  act_stands b b' seat t c (wants.Print shape) (acted.Answer (answer.Full x y)) did lent at meets st = absurd did
  act_stands b b' seat t c (wants.Print shape) (acted.Answer (answer.Message x n)) did lent at meets st = absurd did
  act_stands b b' seat t c (wants.Print shape) (acted.Answer answer.Nothing) did lent at meets st = absurd did
  act_stands b b' seat t c (wants.Print shape) (acted.Answer (answer.Started k)) did lent at meets st = absurd did
  act_stands b b' seat t c (wants.Print shape) acted.OutOfRoom did lent at meets st = absurd did
  act_stands b b' seat t c (wants.Print shape) acted.OutOfTasks did lent at meets st = absurd did
  act_stands b b' seat t c (wants.Rest waits) a did lent at meets st = absurd meets
  act_stands b b' seat t c (wants.End why) (acted.Answer answer.Done) did lent at meets st =
      let l = lone task course holds set b b' st seat t lent c at (ToEnd why) meets in
      let n = next task course holds set b b' st seat t lent c at (ToEnd why) meets in
      (ends_stands task course holds set b b' st seat t lent c at (ToEnd why) meets why (λ box x e. absurd (cc)) (end_done set (next_action set t l.0) why n) refl (λ is. absurd (let h = never_tasks (next_action set t l.0) why n in let k : true ≡ false = sym is ∙ h in cc)) did, tt)
  act_stands b b' seat t c (wants.End why) (acted.Answer (answer.Sent n)) did lent at meets st = absurd did
  act_stands b b' seat t c (wants.End why) (acted.Answer (answer.Full x y)) did lent at meets st = absurd did
  act_stands b b' seat t c (wants.End why) (acted.Answer (answer.Message x n)) did lent at meets st = absurd did
  act_stands b b' seat t c (wants.End why) (acted.Answer answer.Nothing) did lent at meets st = absurd did
  act_stands b b' seat t c (wants.End why) (acted.Answer (answer.Started k)) did lent at meets st = absurd did
  act_stands b b' seat t c (wants.End why) acted.OutOfRoom did lent at meets st = absurd did
  act_stands b b' seat t c (wants.End why) acted.OutOfTasks did lent at meets st = absurd did
