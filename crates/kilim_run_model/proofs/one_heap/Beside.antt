-- The two machines side by side, along journals and along schedules.
use Rattle.std.proofs.Common.{◌≡◌, inl, inr, ℕ, zero, suc, List, [], ◌∷◌, ◌++◌, length, Option, Some, None, refl, sym, ap, subst, ◌∙◌, arith}
use Rattle.std.specs.Prelude.{slice_get, nat_lt, Bool, true, false, cond, ◌⊎◌}
use Rattle.std.proofs.lemmas.Option.{same_Some, none-some, slice_get_within}
use Rattle.kilim_lemmas.proofs.Lists.{get_some}
use Rattle.kilim_program.specs.declared.names.BoxName.{BoxName}
use Rattle.kilim_program.specs.Names.{◌>>=◌}
use Rattle.kilim_run_state.specs.declared.cause.EndCause.TheVariants as cause
use Rattle.kilim_run_state.specs.declared.value.Object.{Object}
use Rattle.kilim_run_state.specs.declared.value.Token.{Token}
use Rattle.kilim_run_state.specs.Trees.{OfMessage, built}
use Rattle.kilim_run_journal.specs.declared.entry.Act.{Act}
use Rattle.kilim_run_journal.specs.declared.entry.Act.TheVariants.{End}
use Rattle.kilim_run_journal.specs.declared.entry.Entry.{Entry}
use Rattle.kilim_run_model.specs.State.{Setting, Thread, State, first_state, is_full, Mailbox}
use Rattle.kilim_run_model.specs.State as one
use Rattle.kilim_run_model.specs.Lone.{Lone, Next, Goes, Puts, PutWaits, Bounds, Gets, Probes, Starts, Prints, Ends, Stands, ended, next_move}
use Rattle.kilim_run_model.specs.Turn.{task_limit, moved}
use Rattle.kilim_run_model.specs.Turn as one_turn
use Rattle.kilim_run_model.specs.Runs.{Replays}
use Rattle.kilim_run_model.specs.Runs as shared
use Rattle.kilim_run_model.specs.Course.{next_action, tree_left, lone_begun}
use Rattle.kilim_run_model.specs.Moving.{Books, first_books, books_after, books_from, FullHere, FullSaid}
use Rattle.kilim_run_model.specs.declared.deed.Beginning.TheVariants.{Boot, Begun}
use Rattle.kilim_run_model.specs.Reach.{Liveness}
use Rattle.kilim_run_model.specs.Kept.{IsKept, Kept}
use Rattle.kilim_run_model.specs.kin.Kin.{Owner}
use Rattle.kilim_run_model.proofs.kin.trees.ReadBack.{shapes_give}
use Rattle.kilim_run_model.specs.one_heap.Parted.{Parted, Parting, by_next, lone_parts, parts, first_parted, PartedReplays}
use Rattle.kilim_run_model.specs.one_heap.Parted as parted
use Rattle.kilim_run_model.specs.one_heap.Tied.{Party, Tied}
use Rattle.kilim_run_model.specs.one_heap.Booked.{Booked}
use Rattle.kilim_run_model.specs.one_heap.Laws.{KeepsBooks}
use Rattle.kilim_run_model.proofs.one_heap.First.{first_tied, first_booked}
use Rattle.kilim_run_model.proofs.one_heap.Steps.{step}
use Rattle.kilim_run_model.proofs.one_heap.OwnEnds.{no_own_tasks}
use Rattle.kilim_run_model.proofs.one_heap.Booking.{action_is, is_act, step_booked}
use Rattle.kilim_run_model.proofs.Alone.{one_lone}
use Rattle.kilim_run_model.proofs.one_heap.Wholes.{is_whole}

-- ---- the books of one more entry

books_on : (b later : Books) (x : Entry) (es : List Entry) (e : Entry) (mid : Books) (o : Option Books) → books_after b x ≡ o → (o >>= λ (z : Books). books_from z es) ≡ Some mid →
    ((z : Books) → books_from z es ≡ Some mid → books_from z (es ++ e ∷ []) ≡ Some later) → (books_after b x >>= λ (z : Books). books_from z (es ++ e ∷ [])) ≡ Some later
books_on b later x es e mid None is d then = absurd (none-some mid d)
books_on b later x es e mid (Some z) is d then = ap (λ (o : Option Books). o >>= λ (z : Books). books_from z (es ++ e ∷ [])) is ∙ then z d

pub books_then : (b mid later : Books) (es : List Entry) (e : Entry) → books_from b es ≡ Some mid → books_after mid e ≡ Some later → books_from b (es ++ e ∷ []) ≡ Some later
books_then b mid later [] e says after = ap (λ (o : Option Books). o >>= λ (z : Books). books_from z []) (ap (λ (z : Books). books_after z e) (same_Some _ _ says) ∙ after)
books_then b mid later (x ∷ es) e says after = books_on b later x es e mid (books_after b x) refl says (λ z d. books_then z mid later es e d after)

-- ---- a move leaves the journal

module _ (set : Setting) (m : Parted) (t : ℕ) where
  abbrev Same : Parting → Type 0
  Same p = p.state.journal ≡ m.journal

  takes_same : (box : BoxName) (first : ℕ × List Token) (rest : List (ℕ × List Token)) (after : Lone) (o : Option (List Object)) → Same (parted.takes_built m t box first.0 rest after o)
  takes_same box first rest after None = refl
  takes_same box first rest after (Some os) = refl

  gets_same : (box : BoxName) (after : Lone) (q : List (ℕ × List Token)) → Same (parted.gets set m t box after q)
  gets_same box after [] = refl
  gets_same box after (first ∷ rest) = takes_same box first rest after (built set.program OfMessage after.next first.1)

  probes_same : (box : BoxName) (after : Lone) (q : List (ℕ × List Token)) → Same (parted.probes set m t box after q)
  probes_same box after [] = refl
  probes_same box after (first ∷ rest) = takes_same box first rest after (built set.program OfMessage after.next first.1)

  starts_so : (l : Lone) (shape : List Token) (o : Option Lone) → Same (parted.starts_with m (parted.with_lone m t l) shape o)
  starts_so l shape None = refl
  starts_so l shape (Some new) = refl

  starts_same : (root : ℕ) (shape : List Token) (after : Lone) → Same (parted.starts set m t root shape after)
  starts_same root shape after =
      elim (nat_lt (length m.lones) task_limit) as (λ (z : Bool). Same (cond z (parted.starts_with m (parted.with_lone m t (tree_left set.program root after)) shape (lone_begun set (Begun shape))) (parted.acted (parted.with_lone m t (ended after cause.Tasks)) (End cause.Tasks)))) [
        | true ↦ starts_so (tree_left set.program root after) shape (lone_begun set (Begun shape))
        | false ↦ refl
      ]

  next_same : (x : Next) → Same (by_next set m t x)
  next_same (Goes after) = refl
  next_same (Puts box root shape after) =
      elim (is_full (m.mailboxes box)) as (λ (z : Bool). Same (cond z (parted.acted (parted.with_lone m t (ended after cause.Full)) (End cause.Full)) (parted.puts (parted.with_lone m t (tree_left set.program root after)) box shape))) [ true ↦ refl | false ↦ refl ]
  next_same (PutWaits box root shape after) =
      elim (is_full (m.mailboxes box)) as (λ (z : Bool). Same (cond z (parted.quiet m) (parted.puts (parted.with_lone m t (tree_left set.program root after)) box shape))) [ true ↦ refl | false ↦ refl ]
  next_same (Bounds box most after) = refl
  next_same (Gets box after) = gets_same box after (m.mailboxes box).queue
  next_same (Probes box after) = probes_same box after (m.mailboxes box).queue
  next_same (Starts root shape after) = starts_same root shape after
  next_same (Prints token after) = refl
  next_same (Ends why after) = refl
  next_same Stands = refl

  lone_same : (o : Option Lone) → Same (lone_parts set m t o)
  lone_same None = refl
  lone_same (Some l) = next_same (next_move set t l)

  pub parts_same : Same (parts set m t)
  unfolding parts
  parts_same = lone_same (slice_get m.lones t)

-- ---- side by side

pub record Beside (set : Setting) (m : Parted) (s : State) : Type 0 where
  pub tied : Tied set m s
  pub books : Books
  pub says : books_from first_books m.journal ≡ Some books
  pub full : FullSaid set first_books m.journal
  pub booked : Booked set m books

pub first_beside : (set : Setting) (l : Lone) → lone_begun set Boot ≡ Some l → Beside set (first_parted set) (first_state set)
first_beside set l e = record { tied = first_tied set; books = first_books; says = refl; full = tt; booked = first_booked set l e }

party_noted : (owner : ℕ → Owner) (s : State) (t u : ℕ) (act : Act) (a : Option Lone) (x : Option Thread) → Party owner s u a x → Party owner (one.noted s t act) u a x
party_noted owner s t u act None None w = tt
party_noted owner s t u act (Some l) (Some x) w = w
party_noted owner s t u act None (Some x) w = absurd w
party_noted owner s t u act (Some l) None w = absurd w

tied_noted : (set : Setting) (m : Parted) (s : State) (t : ℕ) (act : Act) → Tied set m s → Tied set (parted.noted m t act) (one.noted s t act)
tied_noted set m s t act w = record {
  owner = w.owner;
  by = record {
    fresh = w.by.fresh;
    count = w.by.count;
    parties = λ u. party_noted w.owner s t u act (slice_get m.lones u) (slice_get s.threads u) (w.by.parties u);
    boxes = w.by.boxes;
    journal = ap (λ (j : List Entry). j ++ record { task = t; act = act } ∷ []) w.by.journal;
  };
}

pub booked_noted : (set : Setting) (m : Parted) (t : ℕ) (act : Act) (b : Books) → Booked set m b → Booked set (parted.noted m t act) b
booked_noted set m t act b w = record { count = w.count; few = w.few; each = w.each; mail = w.mail }

-- each thread is one that there can be
pub kept_of : (live : Liveness) (set : Setting) → Kept live set → (m : Parted) (b : Books) → Booked set m b → (t : ℕ) (l : Lone) → slice_get m.lones t ≡ Some l → IsKept live set l
kept_of live set kept m b booked t l is =
    let lt = slice_get_within m.lones t l is in
    let c = get_some b.courses t (let count = booked.count in omega (arith, count, lt)) in
    let of = booked.each t l c.0 is c.1 in
    kept t c.0 of.last l of.is of.quiet

-- what the state after a move is, with its action
abbrev pub After : Setting → Parted → State → ℕ → Option Act → Type 0
After set m s t None = Beside set m s
After set m s t (Some act) = Beside set (parted.noted m t act) (one.noted s t act)

-- ---- a full mailbox

-- one more entry
pub full_then : (set : Setting) (es : List Entry) (e : Entry) (first b : Books) → books_from first es ≡ Some b → FullSaid set first es → FullHere set b e → FullSaid set first (es ++ e ∷ [])
full_then set [] e first b says full here = (subst (λ (z : Books). FullHere set z e) (sym (same_Some _ _ says)) here, λ mid next. tt)
full_then set (x ∷ es) e first b says full here =
    (full.0, λ mid next. full_then set es e mid b (sym (ap (λ (o : Option Books). o >>= λ (z : Books). books_from z es) next) ∙ says) (full.1 mid next) here)

module _ (set : Setting) (m : Parted) (b : Books) (booked : Booked set m b) (t : ℕ) where
  full_by : (box : BoxName) (root : ℕ) (shape : List Token) (after : Lone) → (by_next set m t (Puts box root shape after)).act ≡ Some (End cause.Full) → is_full (m.mailboxes box) ≡ true
  full_by box root shape after e = tell (is_full (m.mailboxes box)) refl e
    where
      tell : (z : Bool) → is_full (m.mailboxes box) ≡ z → (cond z (parted.acted (parted.with_lone m t (ended after cause.Full)) (End cause.Full)) (parted.puts (parted.with_lone m t (tree_left set.program root after)) box shape)).act ≡ Some (End cause.Full) → is_full (m.mailboxes box) ≡ true
      tell true is e = is
      tell false is e = absurd (cc)

  acts_or : (x : Next) → ((after : Lone) × (x ≡ Goes after)) ⊎ (is_act x ≡ true)
  acts_or (Goes after) = inl (after, refl)
  acts_or (Puts box root shape after) = inr refl
  acts_or (PutWaits box root shape after) = inr refl
  acts_or (Bounds box most after) = inr refl
  acts_or (Gets box after) = inr refl
  acts_or (Probes box after) = inr refl
  acts_or (Starts root shape after) = inr refl
  acts_or (Prints token after) = inr refl
  acts_or (Ends why after) = inr refl
  acts_or Stands = inr refl

  full_lone : (a : Lone) (o : Act) → slice_get m.lones t ≡ Some a → (by_next set m t (next_move set t a)).act ≡ Some o → FullHere set b (record { task = t; act = o })
  full_lone a o is acts why c is_c l of box root shape after next =
      let mine = booked.each t a c is is_c in
      let same : l ≡ mine.last = one_lone set t c l mine.last of mine.is in
      elim (acts_or (next_move set t a)) [
        | inl goes ↦ absurd (let none = sym (ap (λ (x : Next). (by_next set m t x).act) goes.1) ∙ acts in none-some _ none)
        | inr act ↦
            let x : next_move set t a ≡ Puts box root shape after = sym (action_is set t mine.last a (next_move set t a) mine.quiet refl act) ∙ (ap (next_action set t) (sym same) ∙ next) in
            ap (λ (z : Mailbox (List Token)). is_full z) (sym (booked.mail box)) ∙ full_by box root shape after (ap (λ (y : Next). (by_next set m t y).act) (sym x) ∙ (acts ∙ ap (λ (z : Act). Some z) why))
      ]

  full_option : (o : Option Lone) (act : Act) → slice_get m.lones t ≡ o → (lone_parts set m t o).act ≡ Some act → FullHere set b (record { task = t; act = act })
  full_option None act is acts = absurd (none-some act acts)
  full_option (Some a) act is acts = full_lone a act is acts

  pub full_here : (act : Act) → (parts set m t).act ≡ Some act → FullHere set b (record { task = t; act = act })
  unfolding parts
  full_here act acts = full_option (slice_get m.lones t) act refl acts

module _ (live : Liveness) (set : Setting) (kept : Kept live set) where
  after_moves : (m mid : Parted) (s : State) (t : ℕ) (b : Books) → books_from first_books m.journal ≡ Some b → FullSaid set first_books m.journal → mid.journal ≡ m.journal → Tied set mid s → (o : Option Act) → ((act : Act) → o ≡ Some act → FullHere set b (record { task = t; act = act })) → KeepsBooks set b t mid o → After set mid s t o
  after_moves m mid s t b says full same tied None here w = record { tied = tied; books = b; says = ap (books_from first_books) same ∙ says; full = subst (FullSaid set first_books) (sym same) full; booked = w }
  after_moves m mid s t b says full same tied (Some act) here w = record {
    tied = tied_noted set mid s t act tied;
    books = w.0;
    says = ap (λ (j : List Entry). books_from first_books (j ++ record { task = t; act = act } ∷ [])) same ∙ books_then first_books b w.0 m.journal (record { task = t; act = act }) says w.1;
    full = subst (λ (j : List Entry). FullSaid set first_books (j ++ record { task = t; act = act } ∷ [])) (sym same) (full_then set m.journal (record { task = t; act = act }) first_books b says full (here act refl));
    booked = booked_noted set mid t act w.0 w.2;
  }

  pub beside_moves : (m : Parted) (s : State) (t : ℕ) → Beside set m s → ((parts set m t).act ≡ (moved set s t).act) × After set (parts set m t).state (moved set s t).state t (parts set m t).act
  beside_moves m s t b =
      let w = step set (shapes_give set.program) m s b.tied t (λ l e. is_whole live set l (kept_of live set kept m b.books b.booked t l e)) in
      let q = step_booked set (no_own_tasks set) m b.books t b.booked in
      (w.0, after_moves m (parts set m t).state (moved set s t).state t b.books b.says b.full (parts_same set m t) w.1 (parts set m t).act (full_here set m b.books b.booked t) q)

  -- ---- up to the next action

  abbrev MaybeBeside : Option (Act × Parted) → Option (Act × State) → Type 0
  MaybeBeside None None = Unit {0}
  MaybeBeside (Some m) (Some s) = (m.0 ≡ s.0) × Beside set m.1 s.1
  MaybeBeside m s = ⊥

  acted_by : (m : Parted) (s : State) (t : ℕ) (later : Option (Act × Parted)) (also : Option (Act × State)) → (Beside set m s → MaybeBeside later also) → (o : Option Act) → After set m s t o → MaybeBeside (parted.acted_or m t o later) (shared.acted_or s t o also)
  acted_by m s t later also go None w = go w
  acted_by m s t later also go (Some act) w = (refl, w)

  acted_beside : (n : ℕ) (m : Parted) (s : State) (t : ℕ) → Beside set m s → MaybeBeside (parted.acted_within set n m t) (shared.acted_within set n s t)
  unfolding parted.acted_within shared.acted_within
  acted_beside zero m s t b = tt
  acted_beside (suc n) m s t b =
      let w = beside_moves m s t b in
      subst (λ (z : Option Act). MaybeBeside (parted.acted_or (parts set m t).state t (parts set m t).act (parted.acted_within set n (parts set m t).state t)) (shared.acted_or (moved set s t).state t z (shared.acted_within set n (moved set s t).state t))) w.0
      (acted_by (parts set m t).state (moved set s t).state t _ _ (λ q. acted_beside n (parts set m t).state (moved set s t).state t q) (parts set m t).act w.1)

  from_shared : (o : Option (Act × Parted)) (q : Option (Act × State)) (act : Act) (mid : State) → MaybeBeside o q → q ≡ Some (act, mid) → (m : Parted) × (o ≡ Some (act, m)) × Beside set m mid
  from_shared None None act mid w e = absurd (none-some (act, mid) e)
  from_shared (Some m) (Some s) act mid w e =
      let same : s ≡ (act, mid) = same_Some _ _ e in
      (m.1, ap (λ (z : Act). Some (z, m.1)) (w.0 ∙ ap (λ (z : Act × State). z.0) same), subst (λ (z : State). Beside set m.1 z) (ap (λ (z : Act × State). z.1) same) w.1)
  from_shared None (Some s) act mid w e = absurd w
  from_shared (Some m) None act mid w e = absurd w

  from_parted : (o : Option (Act × Parted)) (q : Option (Act × State)) (act : Act) (mid : Parted) → MaybeBeside o q → o ≡ Some (act, mid) → (s : State) × (q ≡ Some (act, s)) × Beside set mid s
  from_parted None None act mid w e = absurd (none-some (act, mid) e)
  from_parted (Some m) (Some s) act mid w e =
      let same : m ≡ (act, mid) = same_Some _ _ e in
      (s.1, ap (λ (z : Act). Some (z, s.1)) (sym w.0 ∙ ap (λ (z : Act × Parted). z.0) same), subst (λ (z : Parted). Beside set z s.1) (ap (λ (z : Act × Parted). z.1) same) w.1)
  from_parted None (Some s) act mid w e = absurd w
  from_parted (Some m) None act mid w e = absurd w

  -- ---- in the order of a journal

  pub replays_parted : (m : Parted) (s : State) (es : List Entry) (last : State) → Beside set m s → Replays set s es last → (apart : Parted) × PartedReplays set m es apart × Beside set apart last
  replays_parted m s [] last b e = (m, refl, subst (λ (z : State). Beside set m z) e b)
  replays_parted m s (e ∷ es) last b (n, mid, acts, rest) =
      let w = from_shared (parted.acted_within set n m e.task) (shared.acted_within set n s e.task) e.act mid (acted_beside n m s e.task b) acts in
      let r = replays_parted w.0 mid es last w.2 rest in
      (r.0, (n, w.0, w.1, r.1), r.2)

  pub replays_shared : (m : Parted) (s : State) (es : List Entry) (apart : Parted) → Beside set m s → PartedReplays set m es apart → (last : State) × Replays set s es last × Beside set apart last
  replays_shared m s [] apart b e = (s, refl, subst (λ (z : Parted). Beside set z s) e b)
  replays_shared m s (e ∷ es) apart b (n, mid, acts, rest) =
      let w = from_parted (parted.acted_within set n m e.task) (shared.acted_within set n s e.task) e.act mid (acted_beside n m s e.task b) acts in
      let r = replays_shared mid w.0 es apart w.2 rest in
      (r.0, (n, w.0, w.1, r.1), r.2)

  -- ---- in any order

  turned_by : (m : Parted) (s : State) (t : ℕ) (o : Option Act) → After set m s t o → Beside set (parted.with_entry m t o) (one_turn.with_entry s t o)
  turned_by m s t None w = w
  turned_by m s t (Some act) w = w

  turn_beside : (m : Parted) (s : State) (t : ℕ) → Beside set m s → Beside set (parted.turn set m t) (one_turn.turn set s t)
  unfolding parted.turn one_turn.turn
  turn_beside m s t b =
      let w = beside_moves m s t b in
      subst (λ (z : Option Act). Beside set (parted.with_entry (parts set m t).state t (parts set m t).act) (one_turn.with_entry (moved set s t).state t z)) w.0
      (turned_by (parts set m t).state (moved set s t).state t (parts set m t).act w.1)

  pub plays_beside : (m : Parted) (s : State) (ts : List ℕ) → Beside set m s → Beside set (parted.played_from set m ts) (shared.played_from set s ts)
  plays_beside m s [] b = b
  plays_beside m s (t ∷ ts) b = plays_beside (parted.turn set m t) (one_turn.turn set s t) ts (turn_beside m s t b)
