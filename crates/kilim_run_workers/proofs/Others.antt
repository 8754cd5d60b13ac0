-- What a call with a seat leaves of the other seats' cells.
use Rattle.std.proofs.Common.{◌≡◌, ◌≢◌, ℕ, zero, suc, ◌+◌, ◌<◌, ◌≤◌, Bool, true, false, not, cond, ◌&&◌, ◌==◌, nat_lt, List, [], ◌∷◌, ◌++◌, Option, Some, None, refl, sym, ap, subst, ◌∙◌, map, length, arith, ◌⊎◌, inl, inr}
use Rattle.std.specs.Prelude.{slice_get, slice_set, slice_index_or, count_by, if◌then◌else◌}
use Rattle.std.proofs.lemmas.Bool.Decides.{nat_tests}
use Rattle.kilim_program.specs.Names.{◌>>=◌}
use Rattle.kilim_program.specs.declared.names.BoxName.{BoxName}
use Rattle.kilim_run_state.specs.declared.value.Token.{Token}
use Rattle.kilim_run_journal.specs.declared.entry.Act.{Act}
use Rattle.kilim_run_journal.specs.declared.entry.Act.TheVariants.{Put, Take, Empty, Start, Print, End, Wait, Bound}
use Rattle.kilim_run_journal.specs.declared.entry.Entry.{Entry}
use Rattle.kilim_run_model.specs.State.{Setting, is_full}
use Rattle.kilim_run_model.specs.Turn.{task_limit}
use Rattle.kilim_run_model.specs.Moving.{books_taken, books_empty, with_deed}
use Rattle.kilim_run_board.specs.declared.fibers.Wants.{Wants}
use Rattle.kilim_run_board.specs.declared.fibers.Wants.TheVariants as wants
use Rattle.kilim_run_board.specs.declared.fibers.Answer.TheVariants as answer
use Rattle.kilim_run_board.specs.declared.board.Acted.{Acted}
use Rattle.kilim_run_board.specs.declared.board.Acted.TheVariants as acted
use Rattle.kilim_run_board.specs.Places.{Lent, is_task}
use Rattle.kilim_run_board.specs.Board.{Board, BoardStands, alive_course, lent_of, ready_of, parked_of, NotedAs}
use Rattle.kilim_run_board.specs.waiting.Mailboxes.{Post}
use Rattle.kilim_run_board.specs.Seen.{ActAnswers, SameBoard}
use Rattle.kilim_run_board.proofs.Places.{front, front_yes}
use Rattle.kilim_run_board.proofs.waiting.Names.{both_ways}
use Rattle.kilim_lemmas.proofs.Lists.{get_front, set_length}
use Rattle.kilim_run_board.proofs.waiting.Lists.{get_set_other, got_within}
use Rattle.kilim_run_board.proofs.Replays.{some_injective}
use Rattle.kilim_run_board.proofs.Seats.{counted_apart}
use Rattle.kilim_run_turn.specs.Views.{cell_at}
use Rattle.kilim_run_turn.specs.Turns.{KeepsOthers}
use Rattle.kilim_run_turn.proofs.Passes.{keeps_set}
use Rattle.kilim_run_workers.specs.Codes.{course_numbers, cell_numbers, cells_of}
use Rattle.kilim_run_model.specs.Lone.{Lone}
use Rattle.kilim_run_model.specs.Course.{Course, plain}
use Rattle.kilim_run_model.specs.declared.deed.Beginning.TheVariants.{Begun}
use Rattle.kilim_run_model.specs.Moving.{Books, books_from, books_after, books_by, is_tasks, first_books, further}

-- ---- a task is lent to one seat at most

itself : (u t : ℕ) → Some (Some u) ≡ Some (Some t) → is_task t (record { spot = Lent; task = u }) ≡ true
itself u t e = let f : u ≡ t = cc in grind (arith, nat_tests)

one_of : (cells : List (Option ℕ)) (k t : ℕ) → slice_get cells k ≡ Some (Some t) → 1 ≤ count_by (is_task t) (lent_of cells)
one_of [] k t e = absurd (cc)
one_of (None ∷ cells) zero t e = absurd (cc)
one_of (None ∷ cells) (suc k) t e = one_of cells k t e
one_of (Some u ∷ cells) zero t e = let f = front_yes (is_task t) (record { spot = Lent; task = u }) (lent_of cells) (itself u t e) in omega arith
one_of (Some u ∷ cells) (suc k) t e = let h = one_of cells k t e in let f = front (is_task t) (record { spot = Lent; task = u }) (lent_of cells) in more (is_task t (record { spot = Lent; task = u })) (count_by (is_task t) (lent_of cells)) (count_by (is_task t) (lent_of (Some u ∷ cells))) 1 f h
  where
    more : (b : Bool) (n m j : ℕ) → m ≡ cond b 1 0 + n → j ≤ n → j ≤ m
    more true n m j e h = omega arith
    more false n m j e h = omega arith

two_of : (cells : List (Option ℕ)) (j k t : ℕ) → k ≢ j → slice_get cells j ≡ Some (Some t) → slice_get cells k ≡ Some (Some t) → 2 ≤ count_by (is_task t) (lent_of cells)
two_of [] j k t ne e f = absurd (cc)
two_of (None ∷ cells) zero k t ne e f = absurd (cc)
two_of (None ∷ cells) (suc j) zero t ne e f = absurd (cc)
two_of (None ∷ cells) (suc j) (suc k) t ne e f = two_of cells j k t (λ s. ne (ap suc s)) e f
two_of (Some u ∷ cells) zero zero t ne e f = absurd (ne refl)
two_of (Some u ∷ cells) zero (suc k) t ne e f = let h = one_of cells k t f in let q = front_yes (is_task t) (record { spot = Lent; task = u }) (lent_of cells) (itself u t e) in omega arith
two_of (Some u ∷ cells) (suc j) zero t ne e f = let h = one_of cells j t e in let q = front_yes (is_task t) (record { spot = Lent; task = u }) (lent_of cells) (itself u t f) in omega arith
two_of (Some u ∷ cells) (suc j) (suc k) t ne e f = let h = two_of cells j k t (λ s. ne (ap suc s)) e f in let q = front (is_task t) (record { spot = Lent; task = u }) (lent_of cells) in more (is_task t (record { spot = Lent; task = u })) (count_by (is_task t) (lent_of cells)) (count_by (is_task t) (lent_of (Some u ∷ cells))) q h
  where
    more : (b : Bool) (n m : ℕ) → m ≡ cond b 1 0 + n → 2 ≤ n → 2 ≤ m
    more true n m e h = omega arith
    more false n m e h = omega arith

-- ---- one more entry leaves the courses of other tasks

entry_last : (b mid last : Books) (es : List Entry) (e : Entry) → books_from b es ≡ Some mid → books_from b (es ++ e ∷ []) ≡ Some last → books_after mid e ≡ Some last
entry_last b mid last [] e is goes = let f : b ≡ mid = some_injective b mid is in ap (λ x. books_after x e) (sym f) ∙ (one (books_after b e) ∙ goes)
  where
    one : (o : Option Books) → o ≡ (o >>= λ (x : Books). Some x)
    one None = refl
    one (Some x) = refl
entry_last b mid last (f ∷ es) e is goes = entry_in (λ x i g. entry_last x mid last es e i g) (books_after b f) is goes
  where
    entry_in : ((x : Books) → books_from x es ≡ Some mid → books_from x (es ++ e ∷ []) ≡ Some last → books_after mid e ≡ Some last) → (o : Option Books) → (o >>= λ (x : Books). books_from x es) ≡ Some mid → (o >>= λ (x : Books). books_from x (es ++ e ∷ [])) ≡ Some last → books_after mid e ≡ Some last
    entry_in later None i g = absurd (let h : None ≡ Some mid = i in cc)
    entry_in later (Some x) i g = later x i g

-- by the task of an entry
kept_by : (b last : Books) (t u : ℕ) (c : Course) (act : Act) → (u == t) ≡ false → u < length b.courses → books_by b t c act ≡ Some last → slice_get last.courses u ≡ slice_get b.courses u
kept_by b last t u c (Put box n shape) ne lt e = put_in (n == (b.mailboxes box).puts && not (is_full (b.mailboxes box))) _ e
  where
    put_in : (y : Bool) (p : BoxName → Post) → (if y then Some (record { courses = with_deed b.courses t c (plain (Put box n shape)); mailboxes = p }) else None) ≡ Some last → slice_get last.courses u ≡ slice_get b.courses u
    put_in true p g = ap (λ (x : Books). slice_get x.courses u) (sym (some_injective _ last g)) ∙ get_set_other b.courses t u _ ne
    put_in false p g = absurd (let h : None ≡ Some last = g in cc)
kept_by b last t u c (Take box n) ne lt e = take_in (b.mailboxes box).queue e
  where
    take_if : (y : Bool) (x : Books) → slice_get x.courses u ≡ slice_get b.courses u → (if y then Some x else None) ≡ Some last → slice_get last.courses u ≡ slice_get b.courses u
    take_if true x s g = ap (λ (z : Books). slice_get z.courses u) (sym (some_injective x last g)) ∙ s
    take_if false x s g = absurd (let h : None ≡ Some last = g in cc)

    take_in : (q : List (ℕ × List Token)) → books_taken b t c box n q ≡ Some last → slice_get last.courses u ≡ slice_get b.courses u
    take_in [] g = absurd (let h : None ≡ Some last = g in cc)
    take_in (m ∷ ms) g = take_if (m.0 == n) _ (get_set_other b.courses t u _ ne) g
kept_by b last t u c (Empty box) ne lt e = empty_in (b.mailboxes box).queue e
  where
    empty_in : (q : List (ℕ × List Token)) → books_empty b t c box q ≡ Some last → slice_get last.courses u ≡ slice_get b.courses u
    empty_in [] g = ap (λ (z : Books). slice_get z.courses u) (sym (some_injective _ last g)) ∙ get_set_other b.courses t u _ ne
    empty_in (m ∷ ms) g = absurd (let h : None ≡ Some last = g in cc)
kept_by b last t u c (Start n shape) ne lt e = start_if (n == length b.courses && nat_lt n task_limit) e
  where
    start_if : (y : Bool) → (if y then Some (record { courses = with_deed b.courses t c (plain (Start n shape)) ++ record { beginning = Begun shape; deeds = [] } ∷ []; mailboxes = b.mailboxes }) else None) ≡ Some last → slice_get last.courses u ≡ slice_get b.courses u
    start_if true g =
        let l = set_length b.courses t (further c (plain (Start n shape))) in
        ap (λ (z : Books). slice_get z.courses u) (sym (some_injective _ last g)) ∙ (get_front (with_deed b.courses t c (plain (Start n shape))) _ u (omega arith) ∙ get_set_other b.courses t u _ ne)
    start_if false g = absurd (let h : None ≡ Some last = g in cc)
kept_by b last t u c (Print shape) ne lt e = ap (λ (z : Books). slice_get z.courses u) (sym (some_injective _ last e)) ∙ get_set_other b.courses t u _ ne
kept_by b last t u c (End cause) ne lt e = end_if (is_tasks cause && not (length b.courses == task_limit)) e
  where
    end_if : (y : Bool) → (if y then None else Some (record { courses = with_deed b.courses t c (plain (End cause)); mailboxes = b.mailboxes })) ≡ Some last → slice_get last.courses u ≡ slice_get b.courses u
    end_if true g = absurd (let h : None ≡ Some last = g in cc)
    end_if false g = ap (λ (z : Books). slice_get z.courses u) (sym (some_injective _ last g)) ∙ get_set_other b.courses t u _ ne
kept_by b last t u c (Wait box) ne lt e = absurd (let h : None ≡ Some last = e in cc)
kept_by b last t u c (Bound box n) ne lt e = ap (λ (z : Books). slice_get z.courses u) (sym (some_injective _ last e)) ∙ get_set_other b.courses t u _ ne

course_kept : (b last : Books) (e : Entry) (u : ℕ) → (u == e.task) ≡ false → u < length b.courses → books_after b e ≡ Some last → slice_get last.courses u ≡ slice_get b.courses u
course_kept b last e u ne lt goes = in_task (slice_get b.courses e.task) goes
  where
    in_task : (o : Option Course) → (o >>= λ (c : Course). books_by b e.task c e.act) ≡ Some last → slice_get last.courses u ≡ slice_get b.courses u
    in_task None g = absurd (let h : None ≡ Some last = g in cc)
    in_task (Some c) g = kept_by b last e.task u c e.act ne lt g

-- ---- the cells of others

-- cells of which one changes, where the others are told the same by both
two_ways : (f g : Option ℕ → List ℕ) (cells : List (Option ℕ)) (seat : ℕ) → ((k : ℕ) (x : Option ℕ) → k ≢ seat → slice_get cells k ≡ Some x → g x ≡ f x) → KeepsOthers seat (map f cells) (map g cells)
two_ways f g cells seat same = record { seats = lengths cells; others = each cells seat same }
  where
    lengths : (xs : List (Option ℕ)) → length (map g xs) ≡ length (map f xs)
    lengths [] = refl
    lengths (x ∷ xs) = ap suc (lengths xs)

    all_same : (xs : List (Option ℕ)) → ((k : ℕ) (x : Option ℕ) → slice_get xs k ≡ Some x → g x ≡ f x) → (k : ℕ) → slice_index_or (map g xs) k [] ≡ slice_index_or (map f xs) k []
    all_same [] s k = refl
    all_same (x ∷ xs) s zero = s zero x refl
    all_same (x ∷ xs) s (suc k) = all_same xs (λ j y e. s (suc j) y e) k

    each : (xs : List (Option ℕ)) (n : ℕ) → ((k : ℕ) (x : Option ℕ) → k ≢ n → slice_get xs k ≡ Some x → g x ≡ f x) → (k : ℕ) → k ≢ n → slice_index_or (map g xs) k [] ≡ slice_index_or (map f xs) k []
    each [] n s k ne = refl
    each (x ∷ xs) zero s zero ne = absurd (ne refl)
    each (x ∷ xs) zero s (suc k) ne = all_same xs (λ j y e. s (suc j) y (λ z. absurd (omega arith)) e) k
    each (x ∷ xs) (suc n) s zero ne = s zero x ne refl
    each (x ∷ xs) (suc n) s (suc k) ne = each xs n (λ j y d e. s (suc j) y (λ z. d (let w = z in omega arith)) e) k (λ z. ne (ap suc z))

both_keep : (seat : ℕ) (xs ys zs : List (List ℕ)) → KeepsOthers seat xs ys → KeepsOthers seat ys zs → KeepsOthers seat xs zs
both_keep seat xs ys zs p q = record { seats = q.seats ∙ p.seats; others = λ k ne. q.others k ne ∙ p.others k ne }

module _ {F : Type 0} (b b' : Board F) (seat : ℕ) where
  -- a call that changes the seat's cell alone
  pub cell_changed : (x : Option ℕ) → b'.journal ≡ b.journal → b'.cells ≡ slice_set b.cells seat x → KeepsOthers seat (cells_of b) (cells_of b')
  cell_changed x journal cells =
      subst (λ (l : List (List ℕ)). KeepsOthers seat (cells_of b) l) (λ i. map (cell_numbers (books_from first_books (sym journal i))) (sym cells i)) (keeps_set (cell_numbers (books_from first_books b.journal)) b.cells seat x)

  pub cells_same : b'.journal ≡ b.journal → b'.cells ≡ b.cells → cells_of b' ≡ cells_of b
  cells_same journal cells i = map (cell_numbers (books_from first_books (journal i))) (cells i)

  module _ (task : F → ℕ) (course : F → Course) (holds : Setting → F → Lone → Type 0) (set : Setting) (st : BoardStands task course holds set b) (st' : BoardStands task course holds set b') where
    is_there : (k u : ℕ) → slice_get b.cells k ≡ Some (Some u) → u < length st.state.books.courses
    is_there k u e =
        let one = one_of b.cells k u e in
        let p = st.stood.placed u in
        let s1 = counted_apart (is_task u) (ready_of task b.ready) (lent_of b.cells ++ parked_of task b.parked) in
        let s2 = counted_apart (is_task u) (lent_of b.cells) (parked_of task b.parked) in
        alive_there (st.there u) refl p (omega arith)
      where
        within : (o : Option Course) → slice_get st.state.books.courses u ≡ o → alive_course o ≡ true → u < length st.state.books.courses
        within None is a = absurd (let h : false ≡ true = a in cc)
        within (Some c) is a = got_within st.state.books.courses u c is

        alive_there : (y : Bool) (is : st.there u ≡ y) → count_by (is_task u) (ready_of task b.ready ++ (lent_of b.cells ++ parked_of task b.parked)) ≡ cond (st.there u) 1 0 → 1 ≤ count_by (is_task u) (ready_of task b.ready ++ (lent_of b.cells ++ parked_of task b.parked)) → u < length st.state.books.courses
        alive_there true is p one = within (slice_get st.state.books.courses u) refl (st.alive u is)
        alive_there false is p one = absurd (let q = p ∙ ap (λ y. cond y 1 0) is in omega arith)

    -- another seat has another task
    another : (k t u : ℕ) → k ≢ seat → slice_get b.cells seat ≡ Some (Some t) → slice_get b.cells k ≡ Some (Some u) → (u == t) ≡ false
    another k t u ne e f = elim (both_ways (u == t)) [
      | inl is ↦
          let same : u ≡ t = grind (arith, nat_tests) in
          let two = two_of b.cells seat k t ne e (f ∙ ap (λ n. Some (Some n)) same) in
          let p = st.stood.placed t in
          let s1 = counted_apart (is_task t) (ready_of task b.ready) (lent_of b.cells ++ parked_of task b.parked) in
          let s2 = counted_apart (is_task t) (lent_of b.cells) (parked_of task b.parked) in
          absurd (at_most (st.there t) _ p (omega arith))
      | inr isnt ↦ isnt
    ]
      where
        at_most : (y : Bool) (n : ℕ) → n ≡ cond y 1 0 → 2 ≤ n → ⊥
        at_most true n e h = absurd (omega arith)
        at_most false n e h = absurd (omega arith)

    -- an act of the task that is lent to the seat
    pub entry_made : (t : ℕ) (act : Act) → slice_get b.cells seat ≡ Some (Some t) → NotedAs b b' t act → (b'.cells ≡ b.cells) ⊎ (b'.cells ≡ slice_set b.cells seat None) → KeepsOthers seat (cells_of b) (cells_of b')
    entry_made t act lent noted how = how_so how
      where
        last : books_from first_books (b.journal ++ record { task = t; act = act } ∷ []) ≡ Some st'.state.books
        last = ap (books_from first_books) (sym noted) ∙ st'.replay.books

        after : books_after st.state.books (record { task = t; act = act }) ≡ Some st'.state.books
        after = entry_last first_books st.state.books st'.state.books b.journal (record { task = t; act = act }) st.replay.books last

        told : (k : ℕ) (x : Option ℕ) → k ≢ seat → slice_get b.cells k ≡ Some x → cell_numbers (books_from first_books b'.journal) x ≡ cell_numbers (books_from first_books b.journal) x
        told k None ne e = refl
        told k (Some u) ne e =
            let kept = course_kept st.state.books st'.state.books (record { task = t; act = act }) u (another k t u ne lent e) (is_there k u e) after in
            ap (λ o. cell_numbers o (Some u)) st'.replay.books ∙ (ap (λ o. u ∷ course_numbers o) kept ∙ sym (ap (λ o. cell_numbers o (Some u)) st.replay.books))

        all_cells : KeepsOthers seat (cells_of b) (map (cell_numbers (books_from first_books b'.journal)) b.cells)
        all_cells = two_ways (cell_numbers (books_from first_books b.journal)) (cell_numbers (books_from first_books b'.journal)) b.cells seat told

        how_so : (b'.cells ≡ b.cells) ⊎ (b'.cells ≡ slice_set b.cells seat None) → KeepsOthers seat (cells_of b) (cells_of b')
        how_so (inl same) = subst (λ (cs : List (Option ℕ)). KeepsOthers seat (cells_of b) (map (cell_numbers (books_from first_books b'.journal)) cs)) (sym same) all_cells
        how_so (inr set_one) = both_keep seat (cells_of b) (map (cell_numbers (books_from first_books b'.journal)) b.cells) (cells_of b') all_cells
            (subst (λ (cs : List (Option ℕ)). KeepsOthers seat (map (cell_numbers (books_from first_books b'.journal)) b.cells) (map (cell_numbers (books_from first_books b'.journal)) cs)) (sym set_one) (keeps_set (cell_numbers (books_from first_books b'.journal)) b.cells seat None))

    pub nothing_made : SameBoard b b' → KeepsOthers seat (cells_of b) (cells_of b')
    nothing_made same = let e = cells_same same.run.journal same.spots.cells in record { seats = ap length e; others = λ k ne. ap (λ l. cell_at l k) e }

    pub act_others : (numbered : F → F → ℕ → Type 0) (t : ℕ) (w : Wants F) (a : Acted) → slice_get b.cells seat ≡ Some (Some t) → ActAnswers numbered b seat t b' w a → KeepsOthers seat (cells_of b) (cells_of b')
    act_others numbered t (wants.Put box tree shape) (acted.Answer (answer.Sent n)) lent did = entry_made t _ lent did.2.journal (inl did.2.cells)
    act_others numbered t (wants.PutWait box tree shape) (acted.Answer (answer.Sent n)) lent did = entry_made t _ lent did.2.journal (inl did.2.cells)
    act_others numbered t (wants.PutWait box tree shape) (acted.Answer (answer.Full back same)) lent did = nothing_made did.3
    act_others numbered t (wants.Bound box most) (acted.Answer answer.Done) lent did = entry_made t _ lent did.journal (inl did.spots.cells)
    act_others numbered t (wants.Take box) (acted.Answer (answer.Message tree n)) lent did = entry_made t _ lent did.1.journal (inl did.1.cells)
    act_others numbered t (wants.Take box) (acted.Answer answer.Nothing) lent did = nothing_made did.1
    act_others numbered t (wants.Probe box) (acted.Answer (answer.Message tree n)) lent did = entry_made t _ lent did.1.journal (inl did.1.cells)
    act_others numbered t (wants.Probe box) (acted.Answer answer.Nothing) lent did = entry_made t _ lent did.1.journal (inl did.1.spots.cells)
    act_others numbered t (wants.Start f shape) (acted.Answer (answer.Started k)) lent did = entry_made t _ lent did.4.journal (inl did.4.cells)
    act_others numbered t (wants.Start f shape) acted.OutOfTasks lent did = entry_made t _ lent did.1.journal (inr did.1.cells)
    act_others numbered t (wants.Put box tree shape) acted.OutOfRoom lent did = entry_made t _ lent did.1.journal (inr did.1.cells)
    act_others numbered t (wants.Print shape) (acted.Answer answer.Done) lent did = entry_made t _ lent did.journal (inl did.spots.cells)
    act_others numbered t (wants.End why) (acted.Answer answer.Done) lent did = entry_made t _ lent did.journal (inr did.cells)
    act_others numbered t _ _ lent did = absurd did
