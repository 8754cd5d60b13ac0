-- Each call of the board keeps what it stands for.
use Rattle.std.proofs.Common.{◌≡◌, ◌≢◌, ◌||◌, nat_lt, ℕ, zero, suc, ◌+◌, ◌<◌, ◌≤◌, Bool, true, false, ◌&&◌, not, cond, ◌==◌, List, [], ◌∷◌, ◌++◌, Option, Some, None, refl, sym, ap, subst, ◌∙◌, ◌⊎◌, inl, inr, arith}
use Rattle.std.proofs.lemmas.List.Sorted.{IsPermutation-sym, IsPermutation-cons}
use Rattle.std.specs.Prelude.{if◌then◌else◌, length, slice_get, slice_set, is_some, count_by, IsPermutation}
use Rattle.std.specs.List.{AllByRecursion}
use Rattle.std.proofs.lemmas.Bool.Decides.{nat_tests}
use Rattle.kilim_program.specs.Program.{Program}
use Rattle.kilim_program.specs.declared.names.BoxName.{BoxName}
use Rattle.kilim_run_state.specs.declared.value.Token.{Token}
use Rattle.kilim_run_journal.specs.declared.entry.Act.TheVariants.{Put, Start}
use Rattle.kilim_program.specs.Names.{◌>>=◌}
use Rattle.kilim_run_model.specs.State.{Setting, bounded, is_full, is_full_at, same_box, with_mailbox, with_message, with_queue}
use Rattle.kilim_run_model.specs.declared.waits.Waits.{Waits}
use Rattle.kilim_run_model.specs.declared.waits.Waits.TheVariants as wait
use Rattle.kilim_run_model.specs.Turn.{task_limit}
use Rattle.kilim_run_model.specs.Runs.{wait_entry, where_empty}
use Rattle.kilim_run_board.specs.Places.{Ready, Lent, Parked, Place, is_task, is_at, is_parked_at, is_astray, is_out, Stood}
use Rattle.kilim_run_board.specs.Board.{Board, lent_of, ready_of, parked_of, places_of, alive_course, is_alive, lone_stands, stands_in, may_wait, due_in, HoldsQueue, HoldsPost, IsOwn, BoardStands, box_of, parked_box, closing, Parks, GivesBack}
use Rattle.kilim_run_board.specs.waiting.Parked.{woken, ready_after, parked_after}
use Rattle.kilim_run_board.specs.waiting.Mailboxes.{SameMails, Tree, Post, Mail, has_to_wait}
use Rattle.kilim_run_board.specs.Seen.{GiveAnswers, gives_at}
use Rattle.kilim_run_board.specs.declared.waiting.parked.Waiter.{Waiter}
use Rattle.kilim_run_board.specs.waiting.Parked.{StandsBehind}
use Rattle.kilim_run_board.proofs.Places.{front, stood_shuffled, only_there, is_alive as front_alive, lent, given_back, parked, acts, alone, wakes, Changes, ended, comes, less_due, unseen, at_rest, one_place, front_no}
use Rattle.kilim_run_board.proofs.Dues.{put_changes, take_changes, bound_leaves, no_room_full}
use Rattle.kilim_run_board.proofs.waiting.Names.{both_ways, one_wait}
use Rattle.kilim_lemmas.proofs.Lists.{set_there, set_length, get_front, get_last}
use Rattle.kilim_run_board.proofs.waiting.Lists.{get_set_other, get_past, got_within, length_pushed}
use Rattle.kilim_run_board.proofs.Replays.{some_injective, ends_pushed, not_full, replay_on, replay_started}
use Rattle.kilim_run_board.proofs.Deeds.{end_is}
use Rattle.kilim_run_board.proofs.Seats.{counted_apart, at_seat, seated, at_the_back, at_mailbox, at_the_front, IsWoken, woken_is, woken_all, nobody_waits}
use Rattle.kilim_run_model.specs.Lone.{Lone, Next, Goes, Puts, PutWaits, Bounds, Gets, Probes, Starts, Prints, Ends, Stands, get_at}
use Rattle.kilim_run_model.specs.Course.{next_action, done_by, Course, IsLone, is_end, has_ended, stands_at, plain}
use Rattle.kilim_run_model.specs.declared.deed.Deed.{Deed}
use Rattle.kilim_run_model.specs.declared.deed.Beginning.TheVariants.{Begun}
use Rattle.kilim_run_model.specs.Moving.{Books, MovedReplay, MovedAtRest, FullHere, books_after, books_by, if_waits, waits_at, waits_from, all_at_rest, further}
use Rattle.kilim_run_board.specs.fibers.Wishes.{IsMessage, Wish, ToPut, ToPutWait, ToBound, ToTake, ToProbe, ToStart, ToPrint, wish_of}
use Rattle.kilim_run_board.specs.fibers.Fibers.{StandsFor}

abbrev bit : Bool → ℕ
bit b = cond b 1 0

-- ---- the next action and what a thread may have to wait for

abbrev pub wait_of_wish : Wish → Option Waits
wait_of_wish (ToTake box) = Some (wait.Take box)
wait_of_wish (ToPutWait box shape) = Some (wait.Put box)
wait_of_wish w = None

pub get_of_wish : (n : Next) (w : Wish) → wish_of n ≡ Some w → get_at n ≡ wait_of_wish w
get_of_wish (Goes l) w e = absurd (cc)
get_of_wish (Puts box root shape l) w e = ap wait_of_wish (some_injective (ToPut box shape) w e)
get_of_wish (PutWaits box root shape l) w e = ap wait_of_wish (some_injective (ToPutWait box shape) w e)
get_of_wish (Bounds box most l) w e = ap wait_of_wish (some_injective (ToBound box most) w e)
get_of_wish (Gets box l) w e = ap wait_of_wish (some_injective (ToTake box) w e)
get_of_wish (Probes box l) w e = ap wait_of_wish (some_injective (ToProbe box) w e)
get_of_wish (Starts root shape l) w e = ap wait_of_wish (some_injective (ToStart shape) w e)
get_of_wish (Prints shape l) w e = ap wait_of_wish (some_injective (ToPrint (shape ∷ [])) w e)
get_of_wish (Ends why l) w e = ap wait_of_wish (sym (end_is why w e).0)
get_of_wish Stands w e = absurd (cc)

-- ---- what a fiber is given back as

pub gives_parked : {F : Type 0} (b b' : Board F) (seat : ℕ) (f : F) (w : Option Waits) (v : Waits) → w ≡ Some v → has_to_wait b.mails v ≡ true → Parks b seat b' f v → GiveAnswers b seat b' f w
gives_parked b b' seat f w v is has parks = subst (λ x. GiveAnswers b seat b' f x) (sym is) (subst (λ y. gives_at y b seat b' f v) (sym has) parks)

pub gives_ready : {F : Type 0} (b b' : Board F) (seat : ℕ) (f : F) (w : Option Waits) (v : Waits) → w ≡ Some v → has_to_wait b.mails v ≡ false → GivesBack b seat b' f → GiveAnswers b seat b' f w
gives_ready b b' seat f w v is has gives = subst (λ x. GiveAnswers b seat b' f x) (sym is) (subst (λ y. gives_at y b seat b' f v) (sym has) gives)

pub gives_none : {F : Type 0} (b b' : Board F) (seat : ℕ) (f : F) (w : Option Waits) → w ≡ None → GivesBack b seat b' f → GiveAnswers b seat b' f w
gives_none b b' seat f w is gives = subst (λ x. GiveAnswers b seat b' f x) (sym is) gives

-- ---- lists

all_pushed : {A : Type 0} (P : A → Type 0) (xs : List A) (y : A) → AllByRecursion P xs → P y → AllByRecursion P (xs ++ y ∷ [])
all_pushed P [] y all py = (py, tt)
all_pushed P (x ∷ xs) y all py = (all.0, all_pushed P xs y all.1 py)

all_among : {A : Type 0} (P : A → Type 0) (xs ys : List A) (y : A) → AllByRecursion P (xs ++ ys) → P y → AllByRecursion P (xs ++ y ∷ ys)
all_among P [] ys y all py = (py, all)
all_among P (x ∷ xs) ys y all py = (all.0, all_among P xs ys y all.1 py)

all_behind : {F : Type 0} (P : Waiter F → Type 0) (w : Waiter F) (ws ws' : List (Waiter F)) → StandsBehind w ws ws' → AllByRecursion P ws → P w → AllByRecursion P ws'
all_behind P w ws ws' s all one = subst (AllByRecursion P) (sym s.is) (all_among P s.before s.after w (subst (AllByRecursion P) s.was all) one)

bit_none : (b : Bool) → bit b ≡ 0 → b ≡ false
bit_none true e = absurd (omega arith)
bit_none false e = refl

not_false : (b : Bool) → not b ≡ false → b ≡ true
not_false true e = refl
not_false false e = absurd (cc)

no_more : {A : Type 0} (xs : List A) → length xs ≡ 0 → xs ≡ []
no_more [] e = refl
no_more (x ∷ xs) e = absurd (omega arith)

itself : (n : ℕ) → (n == n) ≡ true
itself n = grind (arith, nat_tests)

-- ---- who is parked

none_ready : {F : Type 0} (task : F → ℕ) (w : Waits) (fs : List F) → count_by (is_parked_at w) (ready_of task fs) ≡ 0
none_ready task w [] = refl
none_ready task w (f ∷ fs) = front_no (is_parked_at w) (record { spot = Ready; task = task f }) (ready_of task fs) refl ∙ none_ready task w fs

none_lent : (w : Waits) (cells : List (Option ℕ)) → count_by (is_parked_at w) (lent_of cells) ≡ 0
none_lent w [] = refl
none_lent w (None ∷ cs) = none_lent w cs
none_lent w (Some t ∷ cs) = front_no (is_parked_at w) (record { spot = Lent; task = t }) (lent_of cs) refl ∙ none_lent w cs

nobody_there : {F : Type 0} (task : F → ℕ) (w : Waits) (ready : List F) (cells : List (Option ℕ)) (ws : List (Waiter F)) → count_by (is_parked_at w) (parked_of task ws) ≡ 0 → count_by (is_parked_at w) (places_of task ready cells ws) ≡ 0
nobody_there task w ready cells ws none =
    let e : count_by (is_parked_at w) (places_of task ready cells ws) ≡ count_by (is_parked_at w) (ready_of task ready) + (count_by (is_parked_at w) (lent_of cells) + count_by (is_parked_at w) (parked_of task ws)) =
    counted_apart (is_parked_at w) (ready_of task ready) (lent_of cells ++ parked_of task ws) ∙ ap (λ n. count_by (is_parked_at w) (ready_of task ready) + n) (counted_apart (is_parked_at w) (lent_of cells) (parked_of task ws)) in
    let e0 = none_ready task w ready in
    let e1 = none_lent w cells in omega arith

pub holds_with : (p : Program) (mails : BoxName → Mail) (posts : BoxName → Post) (box : BoxName) (mail : Mail) (post : Post) → ((x : BoxName) → HoldsPost p (mails x) (posts x)) → HoldsPost p mail post →
    (x : BoxName) → HoldsPost p (with_mailbox mails box mail x) (with_mailbox posts box post x)
holds_with p mails posts box mail post all one x = held_by (same_box x box)
  where
    held_by : (y : Bool) → HoldsPost p (if y then mail else mails x) (if y then post else posts x)
    held_by true = one
    held_by false = all x

queue_length : (p : Program) (ms : List (ℕ × Tree)) (qs : List (ℕ × List Token)) → HoldsQueue p ms qs → length ms ≡ length qs
queue_length p [] [] held = refl
queue_length p [] (q ∷ qs) held = absurd held
queue_length p (m ∷ ms) [] held = absurd held
queue_length p (m ∷ ms) (q ∷ qs) held = ap suc (queue_length p ms qs held.2)

-- both are full, or none
pub full_alike : (p : Program) (mail : Mail) (post : Post) → HoldsPost p mail post → is_full mail ≡ is_full post
full_alike p mail post held = ap (λ m. is_full_at m (length mail.queue)) held.most ∙ ap (is_full_at post.most) (queue_length p mail.queue post.queue held.queue)

queue_pushed : (p : Program) (ms : List (ℕ × Tree)) (qs : List (ℕ × List Token)) (m : ℕ × Tree) (q : ℕ × List Token) → HoldsQueue p ms qs → m.0 ≡ q.0 → IsMessage p m.1 q.1 → HoldsQueue p (ms ++ m ∷ []) (qs ++ q ∷ [])
queue_pushed p [] [] m q held same is = (same, is, tt)
queue_pushed p [] (y ∷ ys) m q held same is = absurd held
queue_pushed p (x ∷ xs) [] m q held same is = absurd held
queue_pushed p (x ∷ xs) (y ∷ ys) m q held same is = (held.0, held.1, queue_pushed p xs ys m q held.2 same is)

module _ {F : Type 0} (task : F → ℕ) (course : F → Course) (holds : Setting → F → Lone → Type 0) (set : Setting) where
  abbrev Stand : Board F → Type 0
  Stand b = BoardStands task course holds set b

  abbrev Own : List Course → F → Type 0
  Own courses f = IsOwn task course holds set courses f

  -- the same by parts
  pub same_board : (b b' : Board F) → b'.journal ≡ b.journal → b'.tasks ≡ b.tasks → b'.ready ≡ b.ready → b'.parked ≡ b.parked → b'.cells ≡ b.cells → SameMails b.mails b'.mails → b'.stopped ≡ b.stopped → Stand b → Stand b'
  same_board b b' journal tasks ready parked cells mails stopped st = record {
    state = st.state;
    replay = subst (λ j. MovedReplay set j st.state) (sym journal) st.replay;
    tasks = tasks ∙ st.tasks;
    mails = λ box. subst (λ m. HoldsPost set.program m (st.state.books.mailboxes box)) (sym (mails box)) (st.mails box);
    there = st.there;
    alive = st.alive;
    found = λ going. st.found (sym stopped ∙ going);
    stood =
        let s : Stood st.there (stands_in set st.state.lones) (may_wait st.state.books.mailboxes) (due_in b'.stopped st.state.books.mailboxes) (places_of task b.ready b.cells b.parked) =
        subst (λ x. Stood st.there (stands_in set st.state.lones) (may_wait st.state.books.mailboxes) (due_in x st.state.books.mailboxes) (places_of task b.ready b.cells b.parked)) (sym stopped) st.stood in
        let s1 : Stood st.there (stands_in set st.state.lones) (may_wait st.state.books.mailboxes) (due_in b'.stopped st.state.books.mailboxes) (places_of task b'.ready b.cells b.parked) =
        subst (λ x. Stood st.there (stands_in set st.state.lones) (may_wait st.state.books.mailboxes) (due_in b'.stopped st.state.books.mailboxes) (places_of task x b.cells b.parked)) (sym ready) s in
        let s2 : Stood st.there (stands_in set st.state.lones) (may_wait st.state.books.mailboxes) (due_in b'.stopped st.state.books.mailboxes) (places_of task b'.ready b'.cells b.parked) =
        subst (λ x. Stood st.there (stands_in set st.state.lones) (may_wait st.state.books.mailboxes) (due_in b'.stopped st.state.books.mailboxes) (places_of task b'.ready x b.parked)) (sym cells) s1 in
        subst (λ x. Stood st.there (stands_in set st.state.lones) (may_wait st.state.books.mailboxes) (due_in b'.stopped st.state.books.mailboxes) (places_of task b'.ready b'.cells x)) (sym parked) s2;
    ready = subst (λ fs. AllByRecursion (Own st.state.books.courses) fs) (sym ready) st.ready;
    parked = subst (λ fs. AllByRecursion (λ (w : Waiter F). Own st.state.books.courses w.fiber) fs) (sym parked) st.parked;
  }

  -- ---- calls that make no entry

  abbrev lending : Board F → F → List F → ℕ → Board F
  lending b f fs seat = record { journal = b.journal; tasks = b.tasks; ready = fs; parked = b.parked; cells = slice_set b.cells seat (Some (task f)); mails = b.mails; stopped = b.stopped }

  abbrev with_ready : Board F → List F → Board F
  with_ready b fs = record { journal = b.journal; tasks = b.tasks; ready = fs; parked = b.parked; cells = b.cells; mails = b.mails; stopped = b.stopped }

  abbrev without_cell : Board F → ℕ → List F → List (Waiter F) → Board F
  without_cell b seat ready parked = record { journal = b.journal; tasks = b.tasks; ready = ready; parked = parked; cells = slice_set b.cells seat None; mails = b.mails; stopped = b.stopped }

  pub lent_first : (b : Board F) (f : F) (fs : List F) (seat : ℕ) → slice_get b.cells seat ≡ Some None → Stand (with_ready b (f ∷ fs)) → Stand (lending b f fs seat)
  lent_first b f fs seat free st = record {
    state = st.state;
    replay = st.replay;
    tasks = st.tasks;
    mails = st.mails;
    there = st.there;
    alive = st.alive;
    found = st.found;
    stood = stood_shuffled st.there (stands_in set st.state.lones) (may_wait st.state.books.mailboxes) (due_in b.stopped st.state.books.mailboxes) _ _ (seated task fs b.cells b.parked seat (task f) free)
        (lent st.there (stands_in set st.state.lones) (may_wait st.state.books.mailboxes) (due_in b.stopped st.state.books.mailboxes) (task f) (places_of task fs b.cells b.parked) st.stood);
    ready = st.ready.1;
    parked = st.parked;
  }

  -- ---- a lent task

  others_own : (t : ℕ) (courses courses' : List Course) → ((u : ℕ) (c : Course) → (u == t) ≡ false → slice_get courses u ≡ Some c → slice_get courses' u ≡ Some c) →
      (f : F) → (task f == t) ≡ false → Own courses f → Own courses' f
  others_own t courses courses' kept f isnt own = record { stands = own.stands; own = kept (task f) (course f) isnt own.own }

  ready_own : (t : ℕ) (courses courses' : List Course) → ((u : ℕ) (c : Course) → (u == t) ≡ false → slice_get courses u ≡ Some c → slice_get courses' u ≡ Some c) →
      (fs : List F) → count_by (is_task t) (ready_of task fs) ≡ 0 → AllByRecursion (Own courses) fs → AllByRecursion (Own courses') fs
  ready_own t courses courses' kept [] none all = tt
  ready_own t courses courses' kept (f ∷ fs) none all =
      let e : count_by (is_task t) (ready_of task (f ∷ fs)) ≡ bit (task f == t) + count_by (is_task t) (ready_of task fs) = front (is_task t) (record { spot = Ready; task = task f }) (ready_of task fs) in
      (others_own t courses courses' kept f (bit_none (task f == t) (omega arith)) all.0, ready_own t courses courses' kept fs (omega arith) all.1)

  parked_own : (t : ℕ) (courses courses' : List Course) → ((u : ℕ) (c : Course) → (u == t) ≡ false → slice_get courses u ≡ Some c → slice_get courses' u ≡ Some c) →
      (ws : List (Waiter F)) → count_by (is_task t) (parked_of task ws) ≡ 0 → AllByRecursion (λ (w : Waiter F). Own courses w.fiber) ws → AllByRecursion (λ (w : Waiter F). Own courses' w.fiber) ws
  parked_own t courses courses' kept [] none all = tt
  parked_own t courses courses' kept (w ∷ ws) none all =
      let e : count_by (is_task t) (parked_of task (w ∷ ws)) ≡ bit (task w.fiber == t) + count_by (is_task t) (parked_of task ws) = front (is_task t) (record { spot = Parked w.waits; task = task w.fiber }) (parked_of task ws) in
      (others_own t courses courses' kept w.fiber (bit_none (task w.fiber == t) (omega arith)) all.0, parked_own t courses courses' kept ws (omega arith) all.1)

  module _ (b : Board F) (st : Stand b) (seat t : ℕ) (is-lent : slice_get b.cells seat ≡ Some (Some t)) where
    abbrev cells : List (Option ℕ)
    cells = slice_set b.cells seat None

    abbrev others : List Place
    others = places_of task b.ready (slice_set b.cells seat None) b.parked

    abbrev may : Waits → Bool
    may = may_wait st.state.books.mailboxes

    abbrev due : Waits → ℕ
    due = due_in b.stopped st.state.books.mailboxes

    abbrev stands : ℕ → Option Waits
    stands = stands_in set st.state.lones

    lent_front : Stood st.there stands may due (record { spot = Lent; task = t } ∷ others)
    lent_front = stood_shuffled st.there stands may due (places_of task b.ready b.cells b.parked) (record { spot = Lent; task = t } ∷ others) (at_seat task b.ready b.cells b.parked seat t is-lent) st.stood

    elsewhere : count_by (is_task t) others ≡ 0
    elsewhere = only_there st.there stands may due (record { spot = Lent; task = t }) others lent_front

    pub is_there : st.there t ≡ true
    is_there = front_alive st.there stands may due (record { spot = Lent; task = t }) others lent_front

    elsewhere_split : count_by (is_task t) others ≡ count_by (is_task t) (ready_of task b.ready) + (count_by (is_task t) (lent_of cells) + count_by (is_task t) (parked_of task b.parked))
    elsewhere_split = counted_apart (is_task t) (ready_of task b.ready) (lent_of cells ++ parked_of task b.parked) ∙ ap (λ n. count_by (is_task t) (ready_of task b.ready) + n) (counted_apart (is_task t) (lent_of cells) (parked_of task b.parked))

    not_ready : count_by (is_task t) (ready_of task b.ready) ≡ 0
    not_ready = let e = elsewhere in let f = elsewhere_split in omega arith

    not_parked : count_by (is_task t) (parked_of task b.parked) ≡ 0
    not_parked = let e = elsewhere in let f = elsewhere_split in omega arith

    -- the lent fiber is ready again
    pub back_ready : (f : F) → task f ≡ t → Own st.state.books.courses f → Stand (without_cell b seat (b.ready ++ f ∷ []) b.parked)
    back_ready f same own = record {
      state = st.state;
      replay = st.replay;
      tasks = st.tasks;
      mails = st.mails;
      there = st.there;
      alive = st.alive;
      found = st.found;
      stood = stood_shuffled st.there stands may due (record { spot = Ready; task = task f } ∷ others) (places_of task (b.ready ++ f ∷ []) cells b.parked) (at_the_back task b.ready cells b.parked f)
          (subst (λ u. Stood st.there stands may due (record { spot = Ready; task = u } ∷ others)) (sym same) (given_back st.there stands may due t others lent_front));
      ready = all_pushed (Own st.state.books.courses) b.ready f st.ready own;
      parked = st.parked;
    }

    -- the lent fiber is parked
    pub back_parked : (f : F) (v : Waits) (parked' : List (Waiter F)) → StandsBehind (record { waits = v; fiber = f }) b.parked parked' → task f ≡ t → Own st.state.books.courses f → is_at (stands t) v ≡ true → may v ≡ true → due v ≡ 0 →
        Stand (without_cell b seat b.ready parked')
    back_parked f v parked' behind same own at-it can nothing = record {
      state = st.state;
      replay = st.replay;
      tasks = st.tasks;
      mails = st.mails;
      there = st.there;
      alive = st.alive;
      found = st.found;
      stood = stood_shuffled st.there stands may due (record { spot = Parked v; task = task f } ∷ others) (places_of task b.ready cells parked')
          (at_mailbox task b.ready cells b.parked parked' (record { waits = v; fiber = f }) behind)
          (subst (λ u. Stood st.there stands may due (record { spot = Parked v; task = u } ∷ others)) (sym same) (parked st.there stands may due t v others at-it can nothing lent_front));
      ready = st.ready;
      parked = all_behind (λ (w : Waiter F). Own st.state.books.courses w.fiber) (record { waits = v; fiber = f }) b.parked parked' behind st.parked own;
    }

    -- the task is in no place any more, and the board is stopped
    abbrev there_without : (ℕ → Bool) → ℕ → Bool
    there_without there u = if u == t then false else there u

    gone : there_without st.there t ≡ false
    gone = ap (λ x. if x then false else st.there t) (itself t)

    there_kept : (there : ℕ → Bool) (u : ℕ) → (u == t) ≡ false → there_without there u ≡ there u
    there_kept there u isnt = ap (λ x. if x then false else there u) isnt

    there_less : (there : ℕ → Bool) (u : ℕ) → there_without there u ≡ true → ((u == t) ≡ false) × (there u ≡ true)
    there_less there u e = elim (both_ways (u == t)) [
      | inl is ↦ absurd (let h : false ≡ true = sym (ap (λ x. if x then false else there u) is) ∙ e in cc)
      | inr isnt ↦ (isnt, sym (there_kept there u isnt) ∙ e)
    ]

    pub stopped_board : Stand (record { journal = b.journal; tasks = b.tasks; ready = b.ready; parked = b.parked; cells = slice_set b.cells seat None; mails = b.mails; stopped = true })
    stopped_board = record {
      state = st.state;
      replay = st.replay;
      tasks = st.tasks;
      mails = st.mails;
      there = there_without st.there;
      alive = λ u e. st.alive u (there_less st.there u e).1;
      found = λ e. absurd (cc);
      stood = ended st.there stands may (λ w. 0) (there_without st.there) t others gone (there_kept st.there) (λ w. inr refl) (less_due st.there stands may due (λ w. 0) (record { spot = Lent; task = t } ∷ others) (λ w. omega arith) lent_front);
      ready = st.ready;
      parked = st.parked;
    }

    -- ---- the lent task acts

    module _ (c : Course) (there-c : slice_get st.state.books.courses t ≡ Some c) (l : Lone) (there-l : slice_get st.state.lones t ≡ Some l) (d : Deed) (last : Lone)
        (done : done_by set (next_action set t l) d ≡ Some (record { act = d.act; after = last })) where
      abbrev courses' : List Course
      courses' = slice_set st.state.books.courses t (further c d)

      abbrev lones' : List Lone
      lones' = slice_set st.state.lones t last

      courses_kept : (u : ℕ) (x : Course) → (u == t) ≡ false → slice_get st.state.books.courses u ≡ Some x → slice_get courses' u ≡ Some x
      courses_kept u x isnt e = get_set_other st.state.books.courses t u (further c d) isnt ∙ e

      stands_kept : (u : ℕ) → (u == t) ≡ false → stands_in set lones' u ≡ stands u
      stands_kept u isnt = ap (lone_stands set u) (get_set_other st.state.lones t u last isnt)

      alive_kept : (posts : BoxName → Post) (u : ℕ) → (u == t) ≡ false → is_alive (record { courses = courses'; mailboxes = posts }) u ≡ is_alive st.state.books u
      alive_kept posts u isnt = ap alive_course (get_set_other st.state.books.courses t u (further c d) isnt)

      alive_own : (posts : BoxName → Post) → is_alive (record { courses = courses'; mailboxes = posts }) t ≡ not (is_end d.act)
      alive_own posts = ap alive_course (set_there st.state.books.courses t c (further c d) there-c) ∙ ap not (ends_pushed c.deeds d)

      stands_own : stands t ≡ stands_at set t l
      stands_own = ap (lone_stands set t) there-l

      ready_kept : AllByRecursion (Own courses') b.ready
      ready_kept = ready_own t st.state.books.courses courses' courses_kept b.ready not_ready st.ready

      parked_kept : AllByRecursion (λ (w : Waiter F). Own courses' w.fiber) b.parked
      parked_kept = parked_own t st.state.books.courses courses' courses_kept b.parked not_parked st.parked

      going_alive : is_end d.act ≡ false → (posts : BoxName → Post) (u : ℕ) → st.there u ≡ true → is_alive (record { courses = courses'; mailboxes = posts }) u ≡ true
      going_alive going posts u e = elim (both_ways (u == t)) [
        | inl is ↦ let same : u ≡ t = grind (arith, nat_tests) in ap (is_alive (record { courses = courses'; mailboxes = posts })) same ∙ (alive_own posts ∙ ap not going)
        | inr isnt ↦ alive_kept posts u isnt ∙ st.alive u e
      ]

      going_found : b.stopped ≡ false → (posts : BoxName → Post) (u : ℕ) → is_alive (record { courses = courses'; mailboxes = posts }) u ≡ true → st.there u ≡ true
      going_found running posts u e = elim (both_ways (u == t)) [
        | inl is ↦ let same : u ≡ t = grind (arith, nat_tests) in ap st.there same ∙ is_there
        | inr isnt ↦ st.found running u (sym (alive_kept posts u isnt) ∙ e)
      ]

      seat_back : (ready : List F) (ws : List (Waiter F)) → IsPermutation (record { spot = Lent; task = t } ∷ places_of task ready cells ws) (places_of task ready b.cells ws)
      seat_back ready ws = IsPermutation-sym _ _ (at_seat task ready b.cells ws seat t is-lent)

      -- an act that changes no fiber's place
      abbrev WithNote : (BoxName → Post) → (BoxName → Mail) → Type 0
      WithNote posts mails =
          is_end d.act ≡ false → books_after st.state.books (record { task = t; act = d.act }) ≡ Some (record { courses = courses'; mailboxes = posts }) → ((box : BoxName) → HoldsPost set.program (mails box) (posts box)) →
          Stand (record { journal = b.journal ++ record { task = t; act = d.act } ∷ []; tasks = b.tasks; ready = b.ready; parked = b.parked; cells = b.cells; mails = mails; stopped = b.stopped })

      noted_by : (posts : BoxName → Post) (mails : BoxName → Mail) → Stood st.there (stands_in set lones') (may_wait posts) (due_in b.stopped posts) (record { spot = Lent; task = t } ∷ others) → WithNote posts mails
      noted_by posts mails stood going goes held = record {
        state = record { books = record { courses = courses'; mailboxes = posts }; lones = lones' };
        replay = replay_on set b.journal st.state st.replay t c l last d there-c there-l done (record { task = t; act = d.act }) posts (not_full set st.state.books t d.act going) goes;
        tasks = st.tasks ∙ sym (set_length st.state.books.courses t (further c d));
        mails = held;
        there = st.there;
        alive = going_alive going posts;
        found = λ running. going_found running posts;
        stood = stood_shuffled st.there (stands_in set lones') (may_wait posts) (due_in b.stopped posts) _ _ (seat_back b.ready b.parked) stood;
        ready = ready_kept;
        parked = parked_kept;
      }

      -- the mailboxes are as they were
      pub noted_board : ((w : Waits) → is_at (stands t) w ≡ false) → WithNote st.state.books.mailboxes b.mails
      noted_board away =
          noted_by st.state.books.mailboxes b.mails
          (acts st.there stands may due (stands_in set lones') may due t stands_kept others (λ w e. e) (λ w. inl (let e : bit (is_at (stands t) w) ≡ 0 = ap bit (away w) in omega arith)) lent_front)

      -- ---- an act behind which the first that waits for something is ready

      module _ (v : Waits) (posts' : BoxName → Post) (mails' : BoxName → Mail) (changes : Changes may (may_wait posts') due (due_in b.stopped posts') (stands t) v) (going : is_end d.act ≡ false)
          (goes : books_after st.state.books (record { task = t; act = d.act }) ≡ Some (record { courses = courses'; mailboxes = posts' })) (held : (x : BoxName) → HoldsPost set.program (mails' x) (posts' x)) where
        abbrev act_board : List F → List (Waiter F) → Board F
        act_board ready ws = record { journal = b.journal ++ record { task = t; act = d.act } ∷ []; tasks = b.tasks; ready = ready; parked = ws; cells = b.cells; mails = mails'; stopped = b.stopped }

        act_rest : (ready : List F) (ws : List (Waiter F)) → Stood st.there (stands_in set lones') (may_wait posts') (due_in b.stopped posts') (places_of task ready b.cells ws) →
            AllByRecursion (Own courses') ready → AllByRecursion (λ (w : Waiter F). Own courses' w.fiber) ws → Stand (act_board ready ws)
        act_rest ready ws stood ready-own parked-own = record {
          state = record { books = record { courses = courses'; mailboxes = posts' }; lones = lones' };
          replay = replay_on set b.journal st.state st.replay t c l last d there-c there-l done (record { task = t; act = d.act }) posts' (not_full set st.state.books t d.act going) goes;
          tasks = st.tasks ∙ sym (set_length st.state.books.courses t (further c d));
          mails = held;
          there = st.there;
          alive = going_alive going posts';
          found = λ running. going_found running posts';
          stood = stood;
          ready = ready-own;
          parked = parked-own;
        }

        act_alone : woken v b.parked ≡ None → Stand (act_board b.ready b.parked)
        act_alone nobody =
            act_rest b.ready b.parked
            (stood_shuffled st.there (stands_in set lones') (may_wait posts') (due_in b.stopped posts') (record { spot = Lent; task = t } ∷ others) (places_of task b.ready b.cells b.parked) (seat_back b.ready b.parked)
            (alone st.there stands may due (stands_in set lones') (may_wait posts') (due_in b.stopped posts') t stands_kept v changes.leaves others (nobody_there task v b.ready cells b.parked (nobody_waits task v b.parked nobody)) lent_front))
            ready_kept parked_kept

        act_wakes : (found : Waiter F × List (Waiter F)) → woken v b.parked ≡ Some found → Stand (act_board (b.ready ++ found.0.fiber ∷ []) found.1)
        act_wakes found is =
            let w : IsWoken task v b.parked found = woken_is task v b.parked found is in
            let name : v ≡ found.0.waits = one_wait v found.0.waits w.at in
            let own = woken_all task (λ (w : Waiter F). Own courses' w.fiber) v b.parked found is parked_kept in
            let before : Stood st.there stands may due (record { spot = Lent; task = t } ∷ record { spot = Parked found.0.waits; task = task found.0.fiber } ∷ places_of task b.ready cells found.1) =
            stood_shuffled st.there stands may due (record { spot = Lent; task = t } ∷ others) (record { spot = Lent; task = t } ∷ record { spot = Parked found.0.waits; task = task found.0.fiber } ∷ places_of task b.ready cells found.1)
            (IsPermutation-cons (record { spot = Lent; task = t }) others (record { spot = Parked found.0.waits; task = task found.0.fiber } ∷ places_of task b.ready cells found.1) (at_the_front task b.ready cells v b.parked found w)) lent_front in
            let there-too : Changes may (may_wait posts') due (due_in b.stopped posts') (stands t) found.0.waits = subst (λ x. Changes may (may_wait posts') due (due_in b.stopped posts') (stands t) x) name changes in
            let after : Stood st.there (stands_in set lones') (may_wait posts') (due_in b.stopped posts') (record { spot = Lent; task = t } ∷ record { spot = Ready; task = task found.0.fiber } ∷ places_of task b.ready cells found.1) =
            wakes st.there stands may due (stands_in set lones') (may_wait posts') (due_in b.stopped posts') t stands_kept found.0.waits there-too (task found.0.fiber) (places_of task b.ready cells found.1) before in
            act_rest (b.ready ++ found.0.fiber ∷ []) found.1
            (stood_shuffled st.there (stands_in set lones') (may_wait posts') (due_in b.stopped posts') (record { spot = Lent; task = t } ∷ places_of task (b.ready ++ found.0.fiber ∷ []) cells found.1) (places_of task (b.ready ++ found.0.fiber ∷ []) b.cells found.1) (seat_back (b.ready ++ found.0.fiber ∷ []) found.1)
            (stood_shuffled st.there (stands_in set lones') (may_wait posts') (due_in b.stopped posts') (record { spot = Lent; task = t } ∷ record { spot = Ready; task = task found.0.fiber } ∷ places_of task b.ready cells found.1) (record { spot = Lent; task = t } ∷ places_of task (b.ready ++ found.0.fiber ∷ []) cells found.1)
            (IsPermutation-cons (record { spot = Lent; task = t }) (record { spot = Ready; task = task found.0.fiber } ∷ places_of task b.ready cells found.1) (places_of task (b.ready ++ found.0.fiber ∷ []) cells found.1) (at_the_back task b.ready cells found.1 found.0.fiber)) after))
            (all_pushed (Own courses') b.ready found.0.fiber ready_kept own.0) own.1

        act_stands : Stand (act_board (ready_after b.ready (woken v b.parked)) (parked_after b.parked (woken v b.parked)))
        act_stands = act_by (woken v b.parked) refl
          where
            act_by : (o : Option (Waiter F × List (Waiter F))) → woken v b.parked ≡ o → Stand (act_board (ready_after b.ready o) (parked_after b.parked o))
            act_by None e = act_alone e
            act_by (Some found) e = act_wakes found e

      -- a take
      pub taken_stands : (box : BoxName) (mails : BoxName → Mail) (first : ℕ × List Token) (queue : List (ℕ × List Token)) → (stands t ≡ None) ⊎ (stands t ≡ Some (wait.Take box)) → (st.state.books.mailboxes box).queue ≡ first ∷ queue → is_end d.act ≡ false →
          books_after st.state.books (record { task = t; act = d.act }) ≡ Some (record { courses = courses'; mailboxes = with_mailbox st.state.books.mailboxes box (with_queue (st.state.books.mailboxes box) queue) }) →
          ((x : BoxName) → HoldsPost set.program (mails x) (with_mailbox st.state.books.mailboxes box (with_queue (st.state.books.mailboxes box) queue) x)) →
          Stand (record { journal = b.journal ++ record { task = t; act = d.act } ∷ []; tasks = b.tasks; ready = ready_after b.ready (woken (wait.Put box) b.parked); parked = parked_after b.parked (woken (wait.Put box) b.parked); cells = b.cells; mails = mails; stopped = b.stopped })
      taken_stands box mails first queue at some going goes held =
          act_stands (wait.Put box) (with_mailbox st.state.books.mailboxes box (with_queue (st.state.books.mailboxes box) queue)) mails (take_changes b.stopped st.state.books.mailboxes box first queue (stands t) at some) going goes held

      -- ---- a put

      module _ (box : BoxName) (tree : Tree) (shape : List Token) (is-put : d ≡ plain (Put box (b.mails box).puts shape)) (message : IsMessage set.program tree shape) (at : (stands t ≡ None) ⊎ (stands t ≡ Some (wait.Put box)))
          (free : is_full (b.mails box) ≡ false) where
        abbrev post' : Post
        post' = with_message (st.state.books.mailboxes box) shape

        abbrev put_posts : BoxName → Post
        put_posts = with_mailbox st.state.books.mailboxes box post'

        abbrev put_mails : BoxName → Mail
        put_mails = with_mailbox b.mails box (with_message (b.mails box) tree)

        has_room : is_full (st.state.books.mailboxes box) ≡ false
        has_room = sym (full_alike set.program (b.mails box) (st.state.books.mailboxes box) (st.mails box)) ∙ free

        put_going : is_end d.act ≡ false
        put_going = ap (λ (x : Deed). is_end x.act) is-put

        put_books : books_after st.state.books (record { task = t; act = d.act }) ≡ Some (record { courses = courses'; mailboxes = put_posts })
        put_books =
            let same : (b.mails box).puts ≡ (st.state.books.mailboxes box).puts = (st.mails box).puts in
            let counted : ((b.mails box).puts == (st.state.books.mailboxes box).puts) ≡ true = grind (arith, nat_tests) in
            let yes-it-is : ((b.mails box).puts == (st.state.books.mailboxes box).puts && not (is_full (st.state.books.mailboxes box))) ≡ true = ap (λ y. y && not (is_full (st.state.books.mailboxes box))) counted ∙ ap not has_room in
            ap (λ (x : Deed). books_after st.state.books (record { task = t; act = x.act })) is-put
            ∙ (ap (λ o. o >>= λ (x : Course). books_by st.state.books t x (Put box (b.mails box).puts shape)) there-c
            ∙ (ap (λ y. if y then Some (record { courses = slice_set st.state.books.courses t (further c (plain (Put box (b.mails box).puts shape))); mailboxes = put_posts }) else None) yes-it-is
            ∙ ap (λ x. Some (record { courses = slice_set st.state.books.courses t (further c x); mailboxes = put_posts })) (sym is-put)))

        put_held : (x : BoxName) → HoldsPost set.program (put_mails x) (put_posts x)
        put_held = holds_with set.program b.mails st.state.books.mailboxes box (with_message (b.mails box) tree) post' st.mails
            (record { most = (st.mails box).most; puts = ap (λ n. n + 1) (st.mails box).puts; queue = queue_pushed set.program (b.mails box).queue (st.state.books.mailboxes box).queue ((b.mails box).puts, tree) ((st.state.books.mailboxes box).puts, shape) (st.mails box).queue (st.mails box).puts message })

        pub put_stands : Stand (record { journal = b.journal ++ record { task = t; act = d.act } ∷ []; tasks = b.tasks; ready = ready_after b.ready (woken (wait.Take box) b.parked); parked = parked_after b.parked (woken (wait.Take box) b.parked); cells = b.cells; mails = put_mails; stopped = b.stopped })
        put_stands = act_stands (wait.Take box) put_posts put_mails (put_changes b.stopped st.state.books.mailboxes box shape (stands t) at has_room) put_going put_books put_held

      -- ---- a bound

      -- nobody waits to put where there is none yet
      nobody_puts : (box : BoxName) → (st.state.books.mailboxes box).most ≡ None → count_by (is_parked_at (wait.Put box)) others ≡ 0
      nobody_puts box none = by_count (count_by (is_parked_at (wait.Put box)) others) refl
        where
          by_count : (n : ℕ) → count_by (is_parked_at (wait.Put box)) others ≡ n → count_by (is_parked_at (wait.Put box)) others ≡ 0
          by_count zero e = e
          by_count (suc n) e = absurd (
              let f = front_no (is_parked_at (wait.Put box)) (record { spot = Lent; task = t }) others refl in
              let m : may (wait.Put box) ≡ true = lent_front.held (wait.Put box) (omega arith) in
              let h : false ≡ true = sym (ap is_some none) ∙ m in cc)

      pub bounded_board : (box : BoxName) (most : ℕ) (mails : BoxName → Mail) → stands t ≡ None → (st.state.books.mailboxes box).most ≡ None → WithNote (with_mailbox st.state.books.mailboxes box (bounded (st.state.books.mailboxes box) most)) mails
      bounded_board box most mails away none =
          let posts : BoxName → Post = with_mailbox st.state.books.mailboxes box (bounded (st.state.books.mailboxes box) most) in
          noted_by posts mails
          (alone st.there stands may due (stands_in set lones') (may_wait posts) (due_in b.stopped posts) t stands_kept (wait.Put box) (bound_leaves b.stopped st.state.books.mailboxes box most (stands t) away) others (nobody_puts box none) lent_front)

      -- ---- an end

      pub ended_board : is_end d.act ≡ true → FullHere set st.state.books (record { task = t; act = d.act }) → ((w : Waits) → is_at (stands t) w ≡ false) →
          books_after st.state.books (record { task = t; act = d.act }) ≡ Some (record { courses = courses'; mailboxes = st.state.books.mailboxes }) →
          Stand (record { journal = b.journal ++ record { task = t; act = d.act } ∷ []; tasks = b.tasks; ready = b.ready; parked = b.parked; cells = slice_set b.cells seat None; mails = b.mails; stopped = b.stopped })
      ended_board over full away goes = record {
        state = record { books = record { courses = courses'; mailboxes = st.state.books.mailboxes }; lones = lones' };
        replay = replay_on set b.journal st.state st.replay t c l last d there-c there-l done (record { task = t; act = d.act }) st.state.books.mailboxes full goes;
        tasks = st.tasks ∙ sym (set_length st.state.books.courses t (further c d));
        mails = st.mails;
        there = there_without st.there;
        alive = λ u e. let h : ((u == t) ≡ false) × (st.there u ≡ true) = there_less st.there u e in alive_kept st.state.books.mailboxes u h.0 ∙ st.alive u h.1;
        found = λ running u e. found_ended running u e (both_ways (u == t));
        stood = unseen (there_without st.there) stands may due (stands_in set lones') may due t stands_kept others elsewhere (λ w e. e) (λ w. omega arith)
            (ended st.there stands may due (there_without st.there) t others gone (there_kept st.there) (λ w. inl (away w)) lent_front);
        ready = ready_kept;
        parked = parked_kept;
      }
        where
          found_ended : b.stopped ≡ false → (u : ℕ) → is_alive (record { courses = courses'; mailboxes = st.state.books.mailboxes }) u ≡ true → ((u == t) ≡ true) ⊎ ((u == t) ≡ false) → there_without st.there u ≡ true
          found_ended running u e (inl is) =
              let same : u ≡ t = grind (arith, nat_tests) in
              absurd (let h : false ≡ true = sym (ap (is_alive (record { courses = courses'; mailboxes = st.state.books.mailboxes })) same ∙ (alive_own st.state.books.mailboxes ∙ ap not over)) ∙ e in cc)
          found_ended running u e (inr isnt) = there_kept st.there u isnt ∙ st.found running u (sym (alive_kept st.state.books.mailboxes u isnt) ∙ e)

      -- ---- a start

      module _ (f : F) (shape : List Token) (is-start : d ≡ plain (Start b.tasks shape)) (few : nat_lt b.tasks task_limit ≡ true) (away : (w : Waits) → is_at (stands t) w ≡ false)
          (numbered : task f ≡ b.tasks) (begins : course f ≡ record { beginning = Begun shape; deeds = [] }) (new : StandsFor task course holds set f) where
        abbrev k : ℕ
        k = length st.state.books.courses

        abbrev first-course : Course
        first-course = record { beginning = Begun shape; deeds = [] }

        abbrev courses'' : List Course
        courses'' = courses' ++ first-course ∷ []

        abbrev lones'' : List Lone
        lones'' = lones' ++ new.lone ∷ []

        abbrev books'' : Books
        books'' = record { courses = courses''; mailboxes = st.state.books.mailboxes }

        start_books : books_after st.state.books (record { task = t; act = d.act }) ≡ Some books''
        start_books =
            let same : b.tasks ≡ k = st.tasks in
            let yes-it-is : (b.tasks == k && nat_lt b.tasks task_limit) ≡ true = ap (λ y. y && nat_lt b.tasks task_limit) (ap (λ n. b.tasks == n) (sym same) ∙ itself b.tasks) ∙ few in
            ap (λ (x : Deed). books_after st.state.books (record { task = t; act = x.act })) is-start
            ∙ (ap (λ o. o >>= λ (x : Course). books_by st.state.books t x (Start b.tasks shape)) there-c
            ∙ (ap (λ y. if y then Some (record { courses = slice_set st.state.books.courses t (further c (plain (Start b.tasks shape))) ++ first-course ∷ []; mailboxes = st.state.books.mailboxes }) else None) yes-it-is
            ∙ ap (λ x. Some (record { courses = slice_set st.state.books.courses t (further c x) ++ first-course ∷ []; mailboxes = st.state.books.mailboxes })) (sym is-start)))

        start_going : is_end d.act ≡ false
        start_going = ap (λ (x : Deed). is_end x.act) is-start

        many : length courses' ≡ k
        many = set_length st.state.books.courses t (further c d)

        many-lones : length lones' ≡ k
        many-lones = set_length st.state.lones t last ∙ st.replay.each

        new-lone : IsLone set k first-course new.lone
        new-lone = subst (λ n. IsLone set n first-course new.lone) (numbered ∙ st.tasks) (subst (λ x. IsLone set (task f) x new.lone) begins new.is)

        started_kept : (u : ℕ) (x : Course) → slice_get courses' u ≡ Some x → slice_get courses'' u ≡ Some x
        started_kept u x e = get_front courses' (first-course ∷ []) u (got_within courses' u x e) ∙ e

        absent : slice_get st.state.books.courses k ≡ None
        absent = get_past st.state.books.courses k (omega arith)

        not_there : st.there k ≡ false
        not_there = elim (both_ways (st.there k)) [
          | inl is ↦ absurd (let h : false ≡ true = sym (ap alive_course absent) ∙ st.alive k is in cc)
          | inr isnt ↦ isnt
        ]

        abbrev there'' : ℕ → Bool
        there'' u = if u == k then true else st.there u

        there_new : there'' k ≡ true
        there_new = ap (λ x. if x then true else st.there k) (itself k)

        there_old : (u : ℕ) → (u == k) ≡ false → there'' u ≡ st.there u
        there_old u isnt = ap (λ x. if x then true else st.there u) isnt

        old_course : (u : ℕ) → (u == k) ≡ false → slice_get courses'' u ≡ slice_get courses' u
        old_course u isnt = elim (both_ways (nat_lt u k)) [
          | inl below ↦ let h : u < k = grind (arith, nat_tests) in let m = many in get_front courses' (first-course ∷ []) u (omega arith)
          | inr above ↦
              let h : k ≤ u = grind (arith, nat_tests) in
              let n : u ≢ k = grind (arith, nat_tests) in
              let m = many in
              let p : length courses'' ≡ suc (length courses') = length_pushed courses' first-course in
              get_past courses'' u (omega arith) ∙ sym (get_past courses' u (omega arith))
        ]

        old_lone : (u : ℕ) → (u == k) ≡ false → slice_get lones'' u ≡ slice_get lones' u
        old_lone u isnt = elim (both_ways (nat_lt u k)) [
          | inl below ↦ let h : u < k = grind (arith, nat_tests) in let m = many-lones in get_front lones' (new.lone ∷ []) u (omega arith)
          | inr above ↦
              let h : k ≤ u = grind (arith, nat_tests) in
              let n : u ≢ k = grind (arith, nat_tests) in
              let m = many-lones in
              let p : length lones'' ≡ suc (length lones') = length_pushed lones' new.lone in
              get_past lones'' u (omega arith) ∙ sym (get_past lones' u (omega arith))
        ]

        new_course : slice_get courses'' k ≡ Some first-course
        new_course = ap (slice_get courses'') (sym many) ∙ get_last courses' first-course

        alive_new : is_alive books'' k ≡ true
        alive_new = ap alive_course new_course

        alive_old : (u : ℕ) → (u == k) ≡ false → is_alive books'' u ≡ is_alive (record { courses = courses'; mailboxes = st.state.books.mailboxes }) u
        alive_old u isnt = ap alive_course (old_course u isnt)

        stands_new : stands_in set lones' k ≡ None
        stands_new = ap (lone_stands set k) (get_past lones' k (let m = many-lones in omega arith))

        start_stood : Stood there'' (stands_in set lones'') may due (places_of task (b.ready ++ f ∷ []) b.cells b.parked)
        start_stood =
            let here : Place = record { spot = Lent; task = t } in
            let s1 : Stood st.there (stands_in set lones') may due (here ∷ others) =
            acts st.there stands may due (stands_in set lones') may due t stands_kept others (λ w e. e) (λ w. inl (let e : bit (is_at (stands t) w) ≡ 0 = ap bit (away w) in omega arith)) lent_front in
            let s2 : Stood there'' (stands_in set lones') may due (record { spot = Ready; task = k } ∷ here ∷ others) =
            comes st.there (stands_in set lones') may due there'' k (here ∷ others) not_there there_new there_old s1 in
            let s3 : Stood there'' (stands_in set lones'') may due (record { spot = Lent; task = k } ∷ here ∷ others) =
            acts there'' (stands_in set lones') may due (stands_in set lones'') may due k (λ u isnt. ap (lone_stands set u) (old_lone u isnt)) (here ∷ others) (λ w e. e)
            (λ w. inl (let e : bit (is_at (stands_in set lones' k) w) ≡ 0 = ap (λ o. bit (is_at o w)) stands_new in omega arith))
            (lent there'' (stands_in set lones') may due k (here ∷ others) s2) in
            let s4 : Stood there'' (stands_in set lones'') may due (record { spot = Ready; task = k } ∷ here ∷ others) = given_back there'' (stands_in set lones'') may due k (here ∷ others) s3 in
            let s5 : Stood there'' (stands_in set lones'') may due (record { spot = Ready; task = task f } ∷ here ∷ others) = subst (λ n. Stood there'' (stands_in set lones'') may due (record { spot = Ready; task = n } ∷ here ∷ others)) (sym (numbered ∙ st.tasks)) s4 in
            stood_shuffled there'' (stands_in set lones'') may due (record { spot = Ready; task = task f } ∷ places_of task b.ready b.cells b.parked) (places_of task (b.ready ++ f ∷ []) b.cells b.parked) (at_the_back task b.ready b.cells b.parked f)
            (stood_shuffled there'' (stands_in set lones'') may due (record { spot = Ready; task = task f } ∷ here ∷ others) (record { spot = Ready; task = task f } ∷ places_of task b.ready b.cells b.parked)
            (IsPermutation-cons (record { spot = Ready; task = task f }) (here ∷ others) (places_of task b.ready b.cells b.parked) (seat_back b.ready b.parked)) s5)

        start_alive : (u : ℕ) → there'' u ≡ true → is_alive books'' u ≡ true
        start_alive u e = elim (both_ways (u == k)) [
          | inl is ↦ let same : u ≡ k = grind (arith, nat_tests) in ap (is_alive books'') same ∙ alive_new
          | inr isnt ↦ alive_old u isnt ∙ going_alive start_going st.state.books.mailboxes u (sym (there_old u isnt) ∙ e)
        ]

        start_found : b.stopped ≡ false → (u : ℕ) → is_alive books'' u ≡ true → there'' u ≡ true
        start_found running u e = elim (both_ways (u == k)) [
          | inl is ↦ let same : u ≡ k = grind (arith, nat_tests) in ap there'' same ∙ there_new
          | inr isnt ↦ there_old u isnt ∙ going_found running st.state.books.mailboxes u (sym (alive_old u isnt) ∙ e)
        ]

        all_started : (x : F) → Own courses' x → Own courses'' x
        all_started x own = record { stands = own.stands; own = started_kept (task x) (course x) own.own }

        ready_started : (fs : List F) → AllByRecursion (Own courses') fs → AllByRecursion (Own courses'') fs
        ready_started [] all = tt
        ready_started (x ∷ xs) all = (all_started x all.0, ready_started xs all.1)

        parked_started : (ws : List (Waiter F)) → AllByRecursion (λ (w : Waiter F). Own courses' w.fiber) ws → AllByRecursion (λ (w : Waiter F). Own courses'' w.fiber) ws
        parked_started [] all = tt
        parked_started (x ∷ xs) all = (all_started x.fiber all.0, parked_started xs all.1)

        pub started_board : Stand (record { journal = b.journal ++ record { task = t; act = d.act } ∷ []; tasks = b.tasks + 1; ready = b.ready ++ f ∷ []; parked = b.parked; cells = b.cells; mails = b.mails; stopped = b.stopped })
        started_board = record {
          state = record { books = books''; lones = lones'' };
          replay = replay_started set b.journal st.state st.replay t c l last d there-c there-l done (record { task = t; act = d.act }) st.state.books.mailboxes first-course new.lone (not_full set st.state.books t d.act start_going) new-lone start_books;
          tasks = let e = st.tasks in let m = many in let p : length courses'' ≡ suc (length courses') = length_pushed courses' first-course in omega arith;
          mails = st.mails;
          there = there'';
          alive = start_alive;
          found = start_found;
          stood = start_stood;
          ready = all_pushed (Own courses'') b.ready f (ready_started b.ready ready_kept) (record { stands = new; own = ap (slice_get courses'') (numbered ∙ st.tasks) ∙ (new_course ∙ ap (λ x. Some x) (sym begins)) });
          parked = parked_started b.parked parked_kept;
        }

  -- ---- at rest

  -- where a task is parked it stands
  parked_there : (stands : ℕ → Option Waits) (t : ℕ) (ws : List (Waiter F)) → 0 < count_by (is_task t) (parked_of task ws) → count_by (is_astray stands) (parked_of task ws) ≡ 0 → (v : Waits) × (parked_box task ws t ≡ Some (box_of v)) × (is_at (stands t) v ≡ true)
  parked_there stands t [] some none = absurd (omega arith)
  parked_there stands t (w ∷ ws) some none =
      let g : count_by (is_astray stands) (parked_of task (w ∷ ws)) ≡ bit (not (is_at (stands (task w.fiber)) w.waits)) + count_by (is_astray stands) (parked_of task ws) = front (is_astray stands) (record { spot = Parked w.waits; task = task w.fiber }) (parked_of task ws) in
      elim (both_ways (task w.fiber == t)) [
        | inl is ↦
            let same : task w.fiber ≡ t = grind (arith, nat_tests) in
            let right : not (is_at (stands (task w.fiber)) w.waits) ≡ false = bit_none (not (is_at (stands (task w.fiber)) w.waits)) (omega arith) in
            (w.waits, ap (λ y. if y then Some (box_of w.waits) else parked_box task ws t) is, subst (λ u. is_at (stands u) w.waits ≡ true) same (not_false (is_at (stands (task w.fiber)) w.waits) right))
        | inr isnt ↦
            let f = front_no (is_task t) (record { spot = Parked w.waits; task = task w.fiber }) (parked_of task ws) isnt in
            let h : (v : Waits) × (parked_box task ws t ≡ Some (box_of v)) × (is_at (stands t) v ≡ true) = parked_there stands t ws (omega arith) (omega arith) in
            (h.0, ap (λ y. if y then Some (box_of w.waits) else parked_box task ws t) isnt ∙ h.1, h.2)
      ]

  not_parked_box : (t : ℕ) (ws : List (Waiter F)) → count_by (is_task t) (parked_of task ws) ≡ 0 → parked_box task ws t ≡ None
  not_parked_box t [] none = refl
  not_parked_box t (w ∷ ws) none =
      let e : count_by (is_task t) (parked_of task (w ∷ ws)) ≡ bit (task w.fiber == t) + count_by (is_task t) (parked_of task ws) = front (is_task t) (record { spot = Parked w.waits; task = task w.fiber }) (parked_of task ws) in
      let isnt : (task w.fiber == t) ≡ false = bit_none (task w.fiber == t) (omega arith) in
      ap (λ y. if y then Some (box_of w.waits) else parked_box task ws t) isnt ∙ not_parked_box t ws (omega arith)

  -- a task that may wait, and for which nothing is due, waits
  waits_for : (books : Books) (v : Waits) → due_in false books.mailboxes v ≡ 0 → may_wait books.mailboxes v ≡ true → if_waits books (Some v) ≡ Some (box_of v)
  waits_for books (wait.Take box) nothing may = ap (λ q. where_empty q box) (no_more (books.mailboxes box).queue nothing)
  waits_for books (wait.Put box) nothing may = ap (λ y. if y then Some box else None) (no_room_full (books.mailboxes box).most (length (books.mailboxes box).queue) may nothing)

  module _ (b : Board F) (st : Stand b) (running : b.stopped ≡ false) (nobody-ready : b.ready ≡ []) (nobody-lent : lent_of b.cells ≡ []) where
    abbrev all_parked : List Place
    all_parked = parked_of task b.parked

    queues : BoxName → ℕ
    queues box = length (st.state.books.mailboxes box).queue

    quiet_stood : Stood st.there (stands_in set st.state.lones) (may_wait st.state.books.mailboxes) (due_in false st.state.books.mailboxes) (parked_of task b.parked)
    quiet_stood =
        let s : Stood st.there (stands_in set st.state.lones) (may_wait st.state.books.mailboxes) (due_in false st.state.books.mailboxes) (places_of task b.ready b.cells b.parked) = subst (λ x. Stood st.there (stands_in set st.state.lones) (may_wait st.state.books.mailboxes) (due_in x st.state.books.mailboxes) (places_of task b.ready b.cells b.parked)) running st.stood in
        let s1 : Stood st.there (stands_in set st.state.lones) (may_wait st.state.books.mailboxes) (due_in false st.state.books.mailboxes) (lent_of b.cells ++ parked_of task b.parked) = subst (λ x. Stood st.there (stands_in set st.state.lones) (may_wait st.state.books.mailboxes) (due_in false st.state.books.mailboxes) (ready_of task x ++ (lent_of b.cells ++ parked_of task b.parked))) nobody-ready s in
        subst (λ x. Stood st.there (stands_in set st.state.lones) (may_wait st.state.books.mailboxes) (due_in false st.state.books.mailboxes) (x ++ parked_of task b.parked)) nobody-lent s1

    none_out : (ws : List (Waiter F)) → count_by is_out (parked_of task ws) ≡ 0
    none_out [] = refl
    none_out (w ∷ ws) = front_no is_out (record { spot = Parked w.waits; task = task w.fiber }) (parked_of task ws) refl ∙ none_out ws

    -- what the close says of a task is where its thread waits
    waits_rightly : (t : ℕ) (c : Course) (l : Lone) → slice_get st.state.books.courses t ≡ Some c → slice_get st.state.lones t ≡ Some l →
        (parked_box task b.parked t ≡ (if has_ended c then None else waits_at set st.state.books t l)) × ((has_ended c || is_some (waits_at set st.state.books t l)) ≡ true)
    waits_rightly t c l is-c is-l = rightly (has_ended c) refl
      where
        rightly : (y : Bool) → has_ended c ≡ y → (parked_box task b.parked t ≡ (if y then None else waits_at set st.state.books t l)) × ((y || is_some (waits_at set st.state.books t l)) ≡ true)
        rightly true e =
            let gone : st.there t ≡ false = elim (both_ways (st.there t)) [
              | inl is ↦ absurd (let h : false ≡ true = sym (ap alive_course is-c ∙ ap not e) ∙ st.alive t is in cc)
              | inr isnt ↦ isnt
            ] in
            (not_parked_box t b.parked (quiet_stood.placed t ∙ ap (λ y. cond y 1 0) gone), refl)
        rightly false e =
            let alive : st.there t ≡ true = st.found running t (ap alive_course is-c ∙ ap not e) in
            let one : count_by (is_task t) (parked_of task b.parked) ≡ 1 = quiet_stood.placed t ∙ ap (λ y. cond y 1 0) alive in
            let p : (v : Waits) × (parked_box task b.parked t ≡ Some (box_of v)) × (is_at (stands_in set st.state.lones t) v ≡ true) = parked_there (stands_in set st.state.lones) t b.parked (omega arith) quiet_stood.astray in
            let at-it : stands_in set st.state.lones t ≡ Some p.0 = one_place (stands_in set st.state.lones t) p.0 p.2 in
            let r = at_rest st.there (stands_in set st.state.lones) (may_wait st.state.books.mailboxes) (due_in false st.state.books.mailboxes) t (parked_of task b.parked) (none_out b.parked) alive quiet_stood in
            let same : r.0 ≡ p.0 = some_injective r.0 p.0 (sym r.1 ∙ at-it) in
            let nothing : due_in false st.state.books.mailboxes p.0 ≡ 0 = subst (λ w. due_in false st.state.books.mailboxes w ≡ 0) same r.2 in
            let may-it : may_wait st.state.books.mailboxes p.0 ≡ true = subst (λ w. may_wait st.state.books.mailboxes w ≡ true) same r.3 in
            let lone-stands : stands_at set t l ≡ Some p.0 = sym (ap (lone_stands set t) is-l) ∙ at-it in
            let waits : waits_at set st.state.books t l ≡ Some (box_of p.0) = ap (if_waits st.state.books) lone-stands ∙ waits_for st.state.books p.0 nothing may-it in
            (p.1 ∙ sym waits, ap is_some waits)

    closes_from : (t : ℕ) (cs : List Course) (ls : List Lone) → length ls ≡ length cs →
        ((u : ℕ) (c : Course) (l : Lone) → slice_get cs u ≡ Some c → slice_get ls u ≡ Some l → (parked_box task b.parked (t + u) ≡ (if has_ended c then None else waits_at set st.state.books (t + u) l)) × ((has_ended c || is_some (waits_at set st.state.books (t + u) l)) ≡ true)) →
        (closing task b.parked t (length cs) ≡ waits_from set st.state.books t cs ls) × (all_at_rest set st.state.books t cs ls ≡ true)
    closes_from t [] ls same right = (refl, refl)
    closes_from t (c ∷ cs) [] same right = absurd (omega arith)
    closes_from t (c ∷ cs) (l ∷ ls) same right =
        let first : (parked_box task b.parked t ≡ (if has_ended c then None else waits_at set st.state.books t l)) × ((has_ended c || is_some (waits_at set st.state.books t l)) ≡ true) =
        subst (λ n. (parked_box task b.parked n ≡ (if has_ended c then None else waits_at set st.state.books n l)) × ((has_ended c || is_some (waits_at set st.state.books n l)) ≡ true)) (let e : t + 0 ≡ t = omega arith in e) (right 0 c l refl refl) in
        let later : (closing task b.parked (suc t) (length cs) ≡ waits_from set st.state.books (suc t) cs ls) × (all_at_rest set st.state.books (suc t) cs ls ≡ true) =
        closes_from (suc t) cs ls (omega arith) (λ u c' l' is-c is-l.
        subst (λ n. (parked_box task b.parked n ≡ (if has_ended c' then None else waits_at set st.state.books n l')) × ((has_ended c' || is_some (waits_at set st.state.books n l')) ≡ true)) (let e : t + suc u ≡ suc t + u = omega arith in e) (right (suc u) c' l' is-c is-l)) in (
          ap (λ o. wait_entry t o ++ closing task b.parked (suc t) (length cs)) first.0 ∙ ap (λ es. wait_entry t (if has_ended c then None else waits_at set st.state.books t l) ++ es) later.0,
          ap (λ y. y && all_at_rest set st.state.books (suc t) cs ls) first.1 ∙ later.1,
        )

    -- Where no fiber is ready and none is lent, the state is at rest, and the close says who waits.
    pub quiet_at_rest : MovedAtRest set st.state (closing task b.parked 0 b.tasks)
    quiet_at_rest =
        let h : (closing task b.parked 0 (length st.state.books.courses) ≡ waits_from set st.state.books 0 st.state.books.courses st.state.lones) × (all_at_rest set st.state.books 0 st.state.books.courses st.state.lones ≡ true) =
        closes_from 0 st.state.books.courses st.state.lones st.replay.each (λ u c l is-c is-l.
        subst (λ n. (parked_box task b.parked n ≡ (if has_ended c then None else waits_at set st.state.books n l)) × ((has_ended c || is_some (waits_at set st.state.books n l)) ≡ true)) (let e : u ≡ 0 + u = omega arith in e) (waits_rightly u c l is-c is-l)) in
        record { rest = h.1; waiting = ap (closing task b.parked 0) st.tasks ∙ h.0 }
