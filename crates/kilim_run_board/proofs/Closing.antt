-- Giving back, the first board, and the close.
use Rattle.std.proofs.Common.{◌≡◌, ℕ, zero, suc, ◌+◌, ◌<◌, ◌≤◌, Bool, true, false, cond, ◌==◌, List, [], ◌∷◌, ◌++◌, Option, Some, None, refl, sym, ap, subst, ◌∙◌, inl, inr, arith, get_or}
use Rattle.std.specs.Prelude.{OnOk, Result, Ok, Err, length, slice_get, slice_set, slice_index_or, drop, if◌then◌else◌, replicate}
use Rattle.std.proofs.lemmas.Bool.Decides.{nat_tests}
use Rattle.std.proofs.lemmas.Option.{get_or_from_slice_get}
use Rattle.std.proofs.lemmas.List.{get_or-set_same, get_or-set_other, length-set}
use Rattle.kilim_program.specs.declared.names.BoxName.{BoxName}
use Rattle.kilim_run_journal.specs.declared.entry.Entry.{Entry}
use Rattle.kilim_run_model.specs.State.{Setting}
use Rattle.kilim_run_model.specs.declared.waits.Waits.{Waits}
use Rattle.kilim_run_model.specs.Runs.{wait_entry}
use Rattle.kilim_run_board.specs.fibers.Fibers.{StandsFor}
use Rattle.kilim_run_board.specs.declared.waiting.parked.Waiter.{Waiter}
use Rattle.kilim_run_board.specs.Places.{Ready, is_task, Stood}
use Rattle.kilim_run_board.specs.Board.{Board, BoardStands, is_alive, stands_in, may_wait, due_in, lent_of, box_of, closing, parked_box, AreBoxes, IsQuiet}
use Rattle.std.specs.Vec.{vec_capacity}
use Rattle.std.specs.VecDeque.{deque_capacity}
use Rattle.kilim_run_state.specs.declared.value.Token.{Token}
use Rattle.kilim_run_board.specs.declared.fibers.Wants.{Wants}
use Rattle.kilim_run_board.specs.declared.fibers.Wants.TheVariants as wants
use Rattle.kilim_run_board.specs.waiting.Mailboxes.{mail_of, has_to_wait, Tree, HasRoom}
use Rattle.kilim_run_board.proofs.waiting.Named.{counted_same}
use Rattle.kilim_run_board.specs.declared.board.Board as kept
use Rattle.kilim_run_board.specs.Seen.{seen, IsRoomy, RoomFor, SameBoard, CourseAt, GiveAnswers, gives_at, RestsAs, IsNewBoard, MovedWhole}
use Rattle.kilim_run_board.proofs.Places.{front}
use Rattle.kilim_run_board.proofs.waiting.Names.{both_ways}
use Rattle.kilim_run_board.proofs.Boards.{same_board, quiet_at_rest}
use Rattle.kilim_run_board.proofs.Calls.{gives_back_stands, parks_stands}
use Rattle.kilim_run_model.specs.Lone.{Lone}
use Rattle.kilim_run_model.specs.Course.{Course, IsLone}
use Rattle.kilim_run_model.specs.declared.deed.Beginning.TheVariants.{Boot}
use Rattle.kilim_run_model.specs.Moving.{first_books}

pub none_lent : (n : ℕ) → lent_of (replicate n None) ≡ []
none_lent zero = refl
none_lent (suc n) = none_lent n

module _ {F : Type 0} (task : F → ℕ) (course : F → Course) (holds : Setting → F → Lone → Type 0) (set : Setting) where
  abbrev Stand : Board F → Type 0
  Stand b = BoardStands task course holds set b

  pub give_stands : (b b' : Board F) (seat : ℕ) (f : F) (waits : Option Waits) → slice_get b.cells seat ≡ Some (Some (task f)) → GiveAnswers b seat b' f waits → Stand b → RestsAs task course holds set f waits → CourseAt b (task f) (course f) → Stand b'
  give_stands b b' seat f None lent did st rests at = gives_back_stands task course holds set b b' seat f lent rests at did st
  give_stands b b' seat f (Some v) lent did st rests at = given_by (has_to_wait b.mails v) refl did
    where
      given_by : (y : Bool) → has_to_wait b.mails v ≡ y → gives_at y b seat b' f v → Stand b'
      given_by true e parks = parks_stands task course holds set b b' seat f v lent rests.stands at rests.at e parks st
      given_by false e gives = gives_back_stands task course holds set b b' seat f lent rests.stands at gives st

  -- ---- the first board

  pub new_stands : (b : Board F) (f : F) (seats : ℕ) → IsNewBoard b f seats → task f ≡ 0 → course f ≡ record { beginning = Boot; deeds = [] } → StandsFor task course holds set f → Stand b
  new_stands b f seats new zero-it-is boots stands =
      let b1 : Board F = record { journal = []; tasks = 1; ready = f ∷ []; parked = []; cells = replicate seats None; mails = λ box. record { most = None; puts = 0; queue = [] }; stopped = false } in
      same_board task course holds set b1 b new.journal new.tasks new.ready new.parked new.cells new.mails new.stopped (first_stands b1 refl)
    where
      lone-of-f : IsLone set 0 (record { beginning = Boot; deeds = [] }) stands.lone
      lone-of-f = subst (λ n. IsLone set n (record { beginning = Boot; deeds = [] }) stands.lone) zero-it-is (subst (λ x. IsLone set (task f) x stands.lone) boots stands.is)

      lones : (t : ℕ) (c : Course) (l : Lone) → slice_get (record { beginning = Boot; deeds = [] } ∷ []) t ≡ Some c → slice_get (stands.lone ∷ []) t ≡ Some l → IsLone set t c l
      lones zero c l e g =
          let same-c : record { beginning = Boot; deeds = [] } ≡ c = some_is c e in
          let same-l : stands.lone ≡ l = cc in
          subst (λ x. IsLone set 0 x l) same-c (subst (λ x. IsLone set 0 (record { beginning = Boot; deeds = [] }) x) same-l lone-of-f)
        where
          some_is : (c : Course) → Some (record { beginning = Boot; deeds = [] }) ≡ Some c → record { beginning = Boot; deeds = [] } ≡ c
          some_is c e = cc
      lones (suc t) c l e g = absurd (cc)

      first_stood : Stood (λ u. 0 == u) (stands_in set (stands.lone ∷ [])) (may_wait first_books.mailboxes) (due_in false first_books.mailboxes) (record { spot = Ready; task = task f } ∷ (lent_of (replicate seats None) ++ []))
      first_stood = subst (λ l. Stood (λ u. 0 == u) (stands_in set (stands.lone ∷ [])) (may_wait first_books.mailboxes) (due_in false first_books.mailboxes) (record { spot = Ready; task = task f } ∷ (l ++ []))) (sym (none_lent seats))
          (record {
            placed = λ u. front (is_task u) (record { spot = Ready; task = task f }) [] ∙ ap (λ b. cond b 1 0 + 0) (ap (λ n. n == u) zero-it-is) ∙ plus_none (cond (0 == u) 1 0);
            astray = refl;
            held = λ w some. absurd (omega arith);
            served = λ w some. absurd (omega arith);
          })
        where
          plus_none : (n : ℕ) → n + 0 ≡ n
          plus_none n = omega arith

      only_alive : (t : ℕ) → (0 == t) ≡ true → is_alive first_books t ≡ true
      only_alive zero e = refl
      only_alive (suc t) e = absurd (let h : 0 ≡ suc t = grind (arith, nat_tests) in omega arith)

      only_found : (t : ℕ) → is_alive first_books t ≡ true → (0 == t) ≡ true
      only_found zero e = refl
      only_found (suc t) e = absurd (cc)

      first_stands : (b1 : Board F) → b1 ≡ record { journal = []; tasks = 1; ready = f ∷ []; parked = []; cells = replicate seats None; mails = λ box. record { most = None; puts = 0; queue = [] }; stopped = false } → Stand b1
      first_stands b1 e = subst Stand (sym e) (record {
        state = record { books = first_books; lones = stands.lone ∷ [] };
        replay = record { books = refl; full = tt; each = refl; lones = lones };
        tasks = refl;
        mails = λ box. record { most = refl; puts = refl; queue = tt };
        there = λ u. 0 == u;
        alive = only_alive;
        found = λ _. only_found;
        stood = first_stood;
        ready = (record { stands = stands; own = ap (slice_get (record { beginning = Boot; deeds = [] } ∷ [])) zero-it-is ∙ ap (λ x. Some x) (sym boots) }, tt);
        parked = tt;
      })

  -- ---- the close

  pub finished : (b : Board F) (es : List Entry) → Stand b → b.stopped ≡ false → IsQuiet b → es ≡ b.journal ++ closing task b.parked 0 b.tasks → MovedWhole set es
  finished b es st running quiet e = record {
    entries = b.journal;
    waits = closing task b.parked 0 b.tasks;
    parts = e;
    state = st.state;
    replay = st.replay;
    at_rest = quiet_at_rest task course holds set b st running quiet.0 quiet.1;
  }

pub is_same : (a b : ℕ) → a ≡ b → (a == b) ≡ true
is_same a b e = grind (arith, nat_tests)

module _ {F : Type 0} (task : F → ℕ) where
  abbrev no_box : Option BoxName
  no_box = None

  -- the boxes of the waiters from one on
  pub none_boxed : (ws : List (Waiter F)) (n k : ℕ) (boxes : List (Option BoxName)) → boxes ≡ replicate n None → k ≡ length ws → AreBoxes task (drop k ws) n boxes
  none_boxed ws n k boxes e end = subst (AreBoxes task (drop k ws) n) (sym e) (subst (λ (m : ℕ). AreBoxes task (drop m ws) n (replicate n None)) (sym end) (record { each = replicate_each n; at = λ t less. none_in n t ∙ sym (ap (λ l. parked_box task l t) (all_dropped ws)) }))
    where
      replicate_each : (n : ℕ) → length (replicate n no_box) ≡ n
      replicate_each zero = refl
      replicate_each (suc n) = ap suc (replicate_each n)

      none_in : (n t : ℕ) → slice_index_or (replicate n no_box) t no_box ≡ no_box
      none_in zero t = refl
      none_in (suc n) zero = refl
      none_in (suc n) (suc t) = none_in n t

      all_dropped : (ws : List (Waiter F)) → drop (length ws) ws ≡ []
      all_dropped [] = refl
      all_dropped (w ∷ ws) = all_dropped ws

  pub boxed_more : (ws : List (Waiter F)) (n k : ℕ) (w : Waiter F) (boxes boxes' : List (Option BoxName)) → drop k ws ≡ w ∷ drop (k + 1) ws → boxes' ≡ slice_set boxes (task w.fiber) (Some (box_of w.waits)) → AreBoxes task (drop (k + 1) ws) n boxes → AreBoxes task (drop k ws) n boxes'
  boxed_more ws n k w boxes boxes' e d a = subst (AreBoxes task (drop k ws) n) (sym d) (subst (λ l. AreBoxes task l n (slice_set boxes (task w.fiber) (Some (box_of w.waits)))) (sym e) (record { each = length-set boxes (task w.fiber) (Some (box_of w.waits)) ∙ a.each; at = at }))
    where
      at : (t : ℕ) → t < n → slice_index_or (slice_set boxes (task w.fiber) (Some (box_of w.waits))) t None ≡ parked_box task (w ∷ drop (k + 1) ws) t
      at t less = elim (both_ways (task w.fiber == t)) [
        | inl same ↦
            let u : t ≡ task w.fiber = grind (arith, nat_tests) in
            let each = a.each in
            ap (λ i. slice_index_or (slice_set boxes (task w.fiber) (Some (box_of w.waits))) i None) u ∙ get_or-set_same boxes (task w.fiber) (Some (box_of w.waits)) None (let v = sym u in omega (arith, less, each, v)) ∙ ap (λ b. if b then Some (box_of w.waits) else parked_box task (drop (k + 1) ws) t) (sym same)
        | inr other ↦
            get_or-set_other boxes (task w.fiber) t (Some (box_of w.waits)) None (λ v. let h : (task w.fiber == t) ≡ true = is_same (task w.fiber) t (sym v) in let z : false ≡ true = sym other ∙ h in absurd cc)
            ∙ (a.at t less ∙ ap (λ b. if b then Some (box_of w.waits) else parked_box task (drop (k + 1) ws) t) (sym other))
      ]

  closing_apart : (ws : List (Waiter F)) (t n : ℕ) → closing task ws t (suc n) ≡ closing task ws t n ++ wait_entry (t + n) (parked_box task ws (t + n))
  closing_apart ws t zero = empty_end (wait_entry t (parked_box task ws t)) ∙ ap (λ u. wait_entry u (parked_box task ws u)) (let e : t ≡ t + 0 = omega arith in e)
    where
      empty_end : (es : List Entry) → es ++ [] ≡ es
      empty_end [] = refl
      empty_end (e ∷ es) = ap (λ l. e ∷ l) (empty_end es)
  closing_apart ws t (suc n) =
      ap (λ es. wait_entry t (parked_box task ws t) ++ es) (closing_apart ws (suc t) n)
      ∙ (joined (wait_entry t (parked_box task ws t)) (closing task ws (suc t) n) (wait_entry (suc t + n) (parked_box task ws (suc t + n)))
      ∙ ap (λ u. (wait_entry t (parked_box task ws t) ++ closing task ws (suc t) n) ++ wait_entry u (parked_box task ws u)) (let e : suc t + n ≡ t + suc n = omega arith in e))
    where
      joined : (a b c : List Entry) → a ++ (b ++ c) ≡ (a ++ b) ++ c
      joined [] b c = refl
      joined (x ∷ xs) b c = ap (λ l. x ∷ l) (joined xs b c)

  pub closing_more : (j : List Entry) (ws : List (Waiter F)) (n : ℕ) → (j ++ closing task ws 0 n) ++ wait_entry n (parked_box task ws n) ≡ j ++ closing task ws 0 (n + 1)
  closing_more j ws n = sym (joined j (closing task ws 0 n) (wait_entry n (parked_box task ws n))) ∙ (ap (λ es. j ++ es) (sym (closing_apart ws 0 n ∙ ap (λ u. closing task ws 0 n ++ wait_entry u (parked_box task ws u)) (let e : 0 + n ≡ n = omega arith in e))) ∙ ap (λ m. j ++ closing task ws 0 m) (let e : suc n ≡ n + 1 = omega arith in e))
    where
      joined : (a b c : List Entry) → a ++ (b ++ c) ≡ (a ++ b) ++ c
      joined [] b c = refl
      joined (x ∷ xs) b c = ap (λ l. x ∷ l) (joined xs b c)

pub same_cell : (cells : List (Option ℕ)) (seat t u : ℕ) (o : Option ℕ) → slice_get cells seat ≡ Some (Some t) → o ≡ get_or cells seat o → o ≡ Some u → u ≡ t
same_cell cells seat t u o e f g = let h : get_or cells seat o ≡ Some t = get_or_from_slice_get cells seat (Some t) o e in let k : Some u ≡ Some t = sym g ∙ (f ∙ h) in cc

pub not_lent : (cells : List (Option ℕ)) (seat t : ℕ) (o : Option ℕ) → slice_get cells seat ≡ Some (Some t) → o ≡ get_or cells seat o → o ≡ None → ⊥
not_lent cells seat t o e f g = let h : get_or cells seat o ≡ Some t = get_or_from_slice_get cells seat (Some t) o e in let k : None ≡ Some t = sym g ∙ (f ∙ h) in cc

module _ {F : Type 0} (task : F → ℕ) where
  nothing_more : (es : List Entry) → es ≡ es ++ []
  nothing_more [] = refl
  nothing_more (e ∷ es) = ap (λ l. e ∷ l) (nothing_more es)

  pub closes : (j l l' : List Entry) (ws : List (Waiter F)) (n : ℕ) (o : Option BoxName) → o ≡ parked_box task ws n → l ≡ j ++ closing task ws 0 n → l' ≡ l ++ wait_entry n o → l' ≡ j ++ closing task ws 0 (n + 1)
  closes j l l' ws n o is e f = f ∙ (ap (λ x. l ++ wait_entry n x) is ∙ (ap (λ x. x ++ wait_entry n (parked_box task ws n)) e ∙ closing_more task j ws n))

  pub closes_none : (j l l' : List Entry) (ws : List (Waiter F)) (n : ℕ) (o : Option BoxName) → o ≡ parked_box task ws n → o ≡ None → l ≡ j ++ closing task ws 0 n → l' ≡ l → l' ≡ j ++ closing task ws 0 (n + 1)
  closes_none j l l' ws n o is none e f = closes j l l' ws n o is e (f ∙ (nothing_more l ∙ ap (λ x. l ++ wait_entry n x) (sym none)))

  pub closes_some : (j l l' : List Entry) (ws : List (Waiter F)) (n : ℕ) (o : Option BoxName) (box : BoxName) → o ≡ parked_box task ws n → o ≡ Some box → l ≡ j ++ closing task ws 0 n → l' ≡ l ++ wait_entry n (Some box) → l' ≡ j ++ closing task ws 0 (n + 1)
  closes_some j l l' ws n o box is some e f = closes j l l' ws n o is e (f ∙ ap (λ x. l ++ wait_entry n x) (sym some))

-- what makes room keeps the room that there is
pub roomy_as : {F : Type 0} (b b' : kept.Board F) → IsRoomy b → SameBoard (seen b) (seen b') → deque_capacity b.ready ≤ deque_capacity b'.ready → b.parked.room ≤ b'.parked.room → IsRoomy b'
roomy_as b b' r s ready parked =
    let f = r.fits in
    let m = r.ready in
    let k = r.parked in
    let w = r.few in
    let t = s.run.tasks in
    let i = ap length s.spots.ready in
    let j = ap length s.spots.parked in
    let l = ap (λ cells. length (lent_of cells)) s.spots.cells in
    let n = ap length s.run.journal in
    record { fits = omega arith; ready = omega arith; parked = omega arith; few = omega arith; counted = counted_same (mail_of b.mailboxes) (mail_of b'.mailboxes) (length b.journal.items) (length b'.journal.items) r.counted s.run.mails (omega arith) }

pub room_kept : (m n : ℕ) → n ≡ m → m ≤ n
room_kept m n e = omega arith

-- room in the journal and in the mailbox is enough for a put and for a bound
pub room_put : {T E F : Type 0} (r : Result T E) (b : kept.Board F) (w : Wants F) (box : BoxName) (tree : Tree) (shape : List Token) → w ≡ wants.Put box tree shape → length b.journal.items < vec_capacity b.journal → OnOk r (HasRoom b.mailboxes box) → OnOk r (RoomFor b w)
room_put (Ok v) b w box tree shape is lt h = subst (RoomFor b) (sym is) (lt, h)
room_put (Err e) b w box tree shape is lt h = tt

pub room_wait : {T E F : Type 0} (r : Result T E) (b : kept.Board F) (w : Wants F) (box : BoxName) (tree : Tree) (shape : List Token) → w ≡ wants.PutWait box tree shape → length b.journal.items < vec_capacity b.journal → HasRoom b.mailboxes box → OnOk r (RoomFor b w)
room_wait (Ok v) b w box tree shape is lt h = subst (RoomFor b) (sym is) (lt, h)
room_wait (Err e) b w box tree shape is lt h = tt

pub room_bound : {T E F : Type 0} (r : Result T E) (b : kept.Board F) (w : Wants F) (box : BoxName) (most : ℕ) → w ≡ wants.Bound box most → length b.journal.items < vec_capacity b.journal → OnOk r (HasRoom b.mailboxes box) → OnOk r (RoomFor b w)
room_bound (Ok v) b w box most is lt h = subst (RoomFor b) (sym is) (lt, h)
room_bound (Err e) b w box most is lt h = tt

pub room_take : {T E F : Type 0} (r : Result T E) (b : kept.Board F) (w : Wants F) (box : BoxName) → w ≡ wants.Take box → length b.journal.items < vec_capacity b.journal → OnOk r (RoomFor b w)
room_take (Ok v) b w box is lt = subst (RoomFor b) (sym is) lt
room_take (Err e) b w box is lt = tt

-- and for a start room in the journal, among the ready and among the parked ones
pub room_start : {T E F : Type 0} (r : Result T E) (b : kept.Board F) (w : Wants F) (f : F) (shape : List Token) → w ≡ wants.Start f shape → length b.journal.items < vec_capacity b.journal → b.tasks + 1 ≤ deque_capacity b.ready → OnOk r (b.tasks + 1 ≤ b.parked.room) → OnOk r (RoomFor b w)
room_start (Ok v) b w f shape is lt ready parked = subst (RoomFor b) (sym is) (lt, ready, parked)
room_start (Err e) b w f shape is lt ready parked = tt

-- where neither a message is put nor a mailbox bounded nor a task started, room in the journal is enough
pub room_else : {F : Type 0} (b : kept.Board F) (w : Wants F) → ((box : BoxName) (tree : Tree) (shape : List Token) → w ≡ wants.Put box tree shape → ⊥) → ((box : BoxName) (tree : Tree) (shape : List Token) → w ≡ wants.PutWait box tree shape → ⊥) → ((box : BoxName) (most : ℕ) → w ≡ wants.Bound box most → ⊥) →
    ((f : F) (shape : List Token) → w ≡ wants.Start f shape → ⊥) → length b.journal.items < vec_capacity b.journal → RoomFor b w
room_else b (wants.Put box tree shape) no-put no-wait no-bound no-start lt = absurd (no-put box tree shape refl)
room_else b (wants.PutWait box tree shape) no-put no-wait no-bound no-start lt = absurd (no-wait box tree shape refl)
room_else b (wants.Bound box most) no-put no-wait no-bound no-start lt = absurd (no-bound box most refl)
room_else b (wants.Start f shape) no-put no-wait no-bound no-start lt = absurd (no-start f shape refl)
room_else b (wants.Take box) no-put no-wait no-bound no-start lt = lt
room_else b (wants.Probe box) no-put no-wait no-bound no-start lt = lt
room_else b (wants.Print shape) no-put no-wait no-bound no-start lt = lt
room_else b (wants.Rest waits) no-put no-wait no-bound no-start lt = tt
room_else b (wants.End why) no-put no-wait no-bound no-start lt = lt
