-- A journal over one heap is a journal over many, at rest where that is.
use Rattle.std.proofs.Common.{◌≡◌, ℕ, zero, suc, ◌+◌, true, List, [], ◌∷◌, ◌++◌, length, Option, Some, None, refl, sym, ap, subst, ◌∙◌, arith}
use Rattle.std.specs.Prelude.{slice_get}
use Rattle.std.proofs.lemmas.List.{append_assoc, append-nil}
use Rattle.std.proofs.lemmas.Option.{same_Some, none-some, slice_get_within}
use Rattle.kilim_lemmas.proofs.Lists.{get_some}
use Rattle.kilim_run_journal.specs.declared.entry.Act.{Act}
use Rattle.kilim_run_journal.specs.declared.entry.Entry.{Entry}
use Rattle.kilim_run_model.specs.State.{Setting, Thread, State}
use Rattle.kilim_run_model.specs.Lone.{Lone, next_move}
use Rattle.kilim_run_model.specs.Runs.{AtRest}
use Rattle.kilim_run_model.specs.Runs as shared
use Rattle.kilim_run_model.specs.Course.{Course, IsLone}
use Rattle.kilim_run_model.specs.Moving.{Books, Moving, MovedReplay, MovedAtRest, first_books, books_from, FullSaid}
use Rattle.kilim_run_model.specs.Reach.{Liveness}
use Rattle.kilim_run_model.specs.Kept.{Kept}
use Rattle.kilim_run_model.proofs.Alone.{one_lone}
use Rattle.kilim_run_model.specs.one_heap.Parted.{Parted, parts, PartedReplays}
use Rattle.kilim_run_model.specs.one_heap.Parted as parted
use Rattle.kilim_run_model.specs.one_heap.Tied.{Party, Tied}
use Rattle.kilim_run_model.specs.one_heap.Booked.{IsOf, Booked}
use Rattle.kilim_run_model.specs.one_heap.Laws.{SameRests}
use Rattle.kilim_run_model.proofs.one_heap.Booking.{is_act}
use Rattle.kilim_run_model.proofs.one_heap.Beside.{Beside, kept_of, parts_same}
use Rattle.kilim_run_model.proofs.one_heap.Rests.{Sides, sides, acts, Rows, rows, all_rest, all_wait, each_rests}
use Rattle.kilim_run_model.proofs.one_heap.Settled.{settled_from, settled_beside, settled_same, all_stop}
use Rattle.kilim_run_model.proofs.one_heap.Wholes.{is_whole}

module _ (live : Liveness) (set : Setting) (kept : Kept live set) where
  -- ---- both at rest, or neither

  module _ (m : Parted) (s : State) (tied : Tied set m s) (v : Moving) (booked : Booked set m v.books) (journal : List Entry) (moved : MovedReplay set journal v) where
    party_at : (t : ℕ) (l : Lone) (th : Thread) → slice_get m.lones t ≡ Some l → slice_get s.threads t ≡ Some th → Party tied.owner s t (Some l) (Some th)
    party_at t l th is_l is_th =
        subst (λ (z : Option Lone). Party tied.owner s t z (Some th)) is_l
        (subst (λ (z : Option Thread). Party tied.owner s t (slice_get m.lones t) z) is_th (tied.by.parties t))

    lone_at : (t : ℕ) (th : Thread) → slice_get s.threads t ≡ Some th → (l : Lone) × (slice_get m.lones t ≡ Some l)
    lone_at t th is = get_some m.lones t (let lt = slice_get_within s.threads t th is in let count = tied.by.count in omega (arith, lt, count))

    sides_at : ((t : ℕ) (l : Lone) → slice_get m.lones t ≡ Some l → is_act (next_move set t l) ≡ true) →
        (t : ℕ) (th : Thread) (c : Course) (k : Lone) → slice_get s.threads t ≡ Some th → slice_get v.books.courses t ≡ Some c → slice_get v.lones t ≡ Some k → Sides set m s tied v.books booked t th c k
    sides_at stop t th c k is_th is_c is_k =
        let l = lone_at t th is_th in
        let of = booked.each t l.0 c l.1 is_c in
        subst (λ (z : Lone). Sides set m s tied v.books booked t th c z) (one_lone set t c of.last k of.is (moved.lones t c k is_c is_k))
        (sides set m s tied v.books booked t l.0 th c of (party_at t l.0 th l.1 is_th) (is_whole live set l.0 (kept_of live set kept m v.books booked t l.0 l.1)) (stop t l.0 l.1))

    rows_at : ((t : ℕ) (l : Lone) → slice_get m.lones t ≡ Some l → is_act (next_move set t l) ≡ true) → Rows set m s tied v.books booked 0 s.threads v.books.courses v.lones
    rows_at stop =
        rows set m s tied v.books booked 0 s.threads v.books.courses v.lones (sym tied.by.count ∙ booked.count) (sym tied.by.count ∙ (booked.count ∙ sym moved.each))
        (λ j th c k p q r. subst (λ (n : ℕ). Sides set m s tied v.books booked n th c k) (let e : j ≡ 0 + j = omega arith in e) (sides_at stop j th c k p q r))

    stopped : shared.all_at_rest set s 0 s.threads ≡ true → (t : ℕ) (l : Lone) → slice_get m.lones t ≡ Some l → is_act (next_move set t l) ≡ true
    stopped rests t l is =
        let th = get_some s.threads t (let lt = slice_get_within m.lones t l is in let count = tied.by.count in omega (arith, lt, count)) in
        let of = get_some v.books.courses t (let lt = slice_get_within m.lones t l is in let count = booked.count in omega (arith, lt, count)) in
        acts set m s tied v.books booked t l th.0 of.0 (booked.each t l of.0 is of.1) (party_at t l th.0 is th.1) (is_whole live set l (kept_of live set kept m v.books booked t l is))
        (subst (λ (n : ℕ). shared.is_at_rest set s n th.0 ≡ true) (let e : 0 + t ≡ t = omega arith in e) (each_rests set m s tied v.books booked 0 s.threads rests t th.0 th.1))

    rests_there : (waits : List Entry) → shared.all_at_rest set s 0 s.threads ≡ true → waits ≡ shared.waits_from set s 0 s.threads → MovedAtRest set v waits
    rests_there waits rest waiting =
        let w = rows_at (stopped rest) in
        record {
          rest = sym (all_rest set m s tied v.books booked 0 s.threads v.books.courses v.lones w) ∙ rest;
          waiting = waiting ∙ all_wait set m s tied v.books booked 0 s.threads v.books.courses v.lones w;
        }

    rests_here : (waits : List Entry) → ((t : ℕ) (l : Lone) → slice_get m.lones t ≡ Some l → is_act (next_move set t l) ≡ true) → MovedAtRest set v waits → (shared.all_at_rest set s 0 s.threads ≡ true) × (waits ≡ shared.waits_from set s 0 s.threads)
    rests_here waits stop r =
        let w = rows_at stop in (
          all_rest set m s tied v.books booked 0 s.threads v.books.courses v.lones w ∙ r.rest,
          r.waiting ∙ sym (all_wait set m s tied v.books booked 0 s.threads v.books.courses v.lones w),
        )

  -- ---- the state to which a journal leads, and what its books say

  module _ (m : Parted) (s : State) (b : Beside set m s) (v : Moving) (moved : MovedReplay set m.journal v) where
    books_at : (n : ℕ) → Booked set (settled_from set n m 0 s.threads) v.books
    books_at n =
        let w = settled_beside live set kept n m s 0 s.threads b in
        subst (λ (z : Books). Booked set (settled_from set n m 0 s.threads) z)
        (same_Some _ _ (sym w.says ∙ (ap (books_from first_books) (settled_same set n m 0 s.threads) ∙ moved.books))) w.booked

    all_stopped : (t : ℕ) (l : Lone) → slice_get (settled_from set (suc set.limits.steps) m 0 s.threads).lones t ≡ Some l → is_act (next_move set t l) ≡ true
    all_stopped t l is =
        all_stop set m 0 s.threads (λ u less. absurd (omega (arith, less))) t
        (let lt = slice_get_within (settled_from set (suc set.limits.steps) m 0 s.threads).lones t l is in
        let one = (books_at (suc set.limits.steps)).count in
        let two : length m.lones ≡ length v.books.courses = b.booked.count ∙ ap (λ (z : Books). length z.courses) (same_Some _ _ (sym b.says ∙ moved.books)) in
        let three = b.tied.by.count in
        omega (arith, lt, one, two, three)) l is

    pub same_rests : SameRests set s v
    same_rests waits = (
      λ r.
          let w = settled_beside live set kept r.moves m s 0 s.threads b in
          rests_there (settled_from set r.moves m 0 s.threads) (shared.settled set r.moves s) w.tied v (books_at r.moves) m.journal moved waits r.rest r.waiting,
      λ r.
          let n = suc set.limits.steps in
          let w = settled_beside live set kept n m s 0 s.threads b in
          let q = rests_here (settled_from set n m 0 s.threads) (shared.settled set n s) w.tied v (books_at n) m.journal moved waits all_stopped r in
          record { moves = n; rest = q.0; waiting = q.1 },
    )

-- ---- the journal of a replay

module _ (set : Setting) where
  noted_by : (m : Parted) (t : ℕ) (o : Option Act) (later : Option (Act × Parted)) (act : Act) (mid : Parted) (js : List Entry) → m.journal ≡ js → (later ≡ Some (act, mid) → mid.journal ≡ js ++ record { task = t; act = act } ∷ []) →
      parted.acted_or m t o later ≡ Some (act, mid) → mid.journal ≡ js ++ record { task = t; act = act } ∷ []
  noted_by m t None later act mid js e go says = go says
  noted_by m t (Some a) later act mid js e go says =
      let same : (a, parted.noted m t a) ≡ (act, mid) = same_Some _ _ says in
      ap (λ (z : Act × Parted). z.1.journal) (sym same) ∙ (ap (λ (z : List Entry). z ++ record { task = t; act = a } ∷ []) e ∙ ap (λ (z : Act × Parted). js ++ record { task = t; act = z.0 } ∷ []) same)

  acted_journal : (n : ℕ) (m : Parted) (t : ℕ) (act : Act) (mid : Parted) → parted.acted_within set n m t ≡ Some (act, mid) → mid.journal ≡ m.journal ++ record { task = t; act = act } ∷ []
  unfolding parted.acted_within
  acted_journal zero m t act mid e = absurd (none-some _ e)
  acted_journal (suc n) m t act mid e =
      noted_by (parts set m t).state t (parts set m t).act (parted.acted_within set n (parts set m t).state t) act mid m.journal (parts_same set m t)
      (λ q. acted_journal n (parts set m t).state t act mid q ∙ ap (λ (z : List Entry). z ++ record { task = t; act = act } ∷ []) (parts_same set m t)) e

  pub replays_journal : (m : Parted) (es : List Entry) (apart : Parted) → PartedReplays set m es apart → apart.journal ≡ m.journal ++ es
  replays_journal m [] apart e = ap (λ (z : Parted). z.journal) (sym e) ∙ sym (append-nil m.journal)
  replays_journal m (e ∷ es) apart (n, mid, acts, rest) =
      replays_journal mid es apart rest ∙ (ap (λ (z : List Entry). z ++ es) (acted_journal n m e.task e.act mid acts) ∙ append_assoc m.journal (e ∷ []) es)

  -- ---- the thread right after the last deed of each course

  lasts : (i : ℕ) (ls : List Lone) (cs : List Course) → length ls ≡ length cs → ((j : ℕ) (l : Lone) (c : Course) → slice_get ls j ≡ Some l → slice_get cs j ≡ Some c → IsOf set (i + j) c l) →
      (ks : List Lone) × (length ks ≡ length cs) × ((j : ℕ) (c : Course) (k : Lone) → slice_get cs j ≡ Some c → slice_get ks j ≡ Some k → IsLone set (i + j) c k)
  lasts i [] [] e each = ([], refl, λ j c k is_c is_k. absurd (none-some k is_k))
  lasts i (l ∷ ls) (c ∷ cs) e each =
      let w = lasts (suc i) ls cs (omega (arith, e)) (λ j k d is_k is_d. subst (λ (n : ℕ). IsOf set n d k) (let z : i + suc j ≡ suc i + j = omega arith in z) (each (suc j) k d is_k is_d)) in
      let of = each 0 l c refl refl in
      (of.last ∷ w.0, ap suc w.1, at of.last of.is w.0 w.2)
    where
      at : (last : Lone) → IsLone set (i + 0) c last → (ks : List Lone) → ((j : ℕ) (d : Course) (k : Lone) → slice_get cs j ≡ Some d → slice_get ks j ≡ Some k → IsLone set (suc i + j) d k) →
          (j : ℕ) (d : Course) (k : Lone) → slice_get (c ∷ cs) j ≡ Some d → slice_get (last ∷ ks) j ≡ Some k → IsLone set (i + j) d k
      at last is ks rest zero d k is_d is_k = subst (λ (z : Lone). IsLone set (i + 0) d z) (same_Some _ _ is_k) (subst (λ (z : Course). IsLone set (i + 0) z last) (same_Some _ _ is_d) is)
      at last is ks rest (suc j) d k is_d is_k = subst (λ (n : ℕ). IsLone set n d k) (let z : suc i + j ≡ i + suc j = omega arith in z) (rest j d k is_d is_k)
  lasts i [] (c ∷ cs) e each = absurd (omega (arith, e))
  lasts i (l ∷ ls) [] e each = absurd (omega (arith, e))

  -- what is booked is moved
  pub moving_of : (m : Parted) (b : Books) (journal : List Entry) → FullSaid set first_books journal → books_from first_books journal ≡ Some b → Booked set m b → (v : Moving) × MovedReplay set journal v
  moving_of m b journal full says booked =
      let w = lasts 0 m.lones b.courses booked.count (λ j l c is_l is_c. subst (λ (n : ℕ). IsOf set n c l) (let z : j ≡ 0 + j = omega arith in z) (booked.each j l c is_l is_c)) in (
        record { books = b; lones = w.0 },
        record { books = says; full = full; each = w.1; lones = λ t c k is_c is_k. subst (λ (n : ℕ). IsLone set n c k) (let z : 0 + t ≡ t = omega arith in z) (w.2 t c k is_c is_k) },
      )
