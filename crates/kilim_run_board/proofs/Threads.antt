-- Each mailbox of a journal is one thread of messages.
use Rattle.std.proofs.Common.{◌≡◌, ℕ, Bool, true, false, ◌||◌, List, [], ◌∷◌, ◌++◌, Option, Some, None, refl, sym, ap, subst, ◌∙◌, inl, inr, append_assoc}
use Rattle.std.specs.Prelude.{if◌then◌else◌, slice_get}
use Rattle.kilim_program.specs.declared.names.BoxName.{BoxName}
use Rattle.kilim_program.specs.Names.{◌>>=◌}
use Rattle.kilim_run_journal.specs.declared.entry.Act.{Act}
use Rattle.kilim_run_journal.specs.declared.entry.Act.TheVariants.{Put, Take, Empty, Start, Print, End, Wait, Bound}
use Rattle.kilim_run_journal.specs.declared.entry.Entry.{Entry}
use Rattle.kilim_run_model.specs.State.{Setting, same_box, bounded, empty_mailbox, with_mailbox}
use Rattle.kilim_run_model.specs.Course.{Course, plain}
use Rattle.kilim_run_model.specs.Moving.{Books, Moving, MovedReplay, FullSaid, with_deed, books_by, books_after, books_from, first_books}
use Rattle.kilim_run_board.specs.NewBounds.{is_done_at, IsNowhere, BoundsAreNew}
use Rattle.kilim_run_board.specs.Laws.{MailboxesAreThreads}
use Rattle.kilim_run_board.specs.OneThread.{Note, Bounds, Puts, Takes, Empties, AreInOrder, AreOneThread, is_box, note_if, notes_of_act, notes_of}
use Rattle.kilim_run_board.specs.waiting.Mailboxes.{Post}
use Rattle.kilim_run_board.proofs.Fresh.{act_same}
use Rattle.kilim_run_board.proofs.Fronts.{first_bound, full_front}
use Rattle.kilim_run_board.proofs.Queues.{Counts, IsCounted, Goes, goes, is_bound_at, bind_some, box_flip}
use Rattle.kilim_run_board.proofs.Replays.{some_injective}
use Rattle.kilim_run_board.proofs.waiting.Names.{both_ways, same_name}

-- ---- a bound comes first

abbrev any_done : BoxName → List Entry → Bool
any_done box [] = false
any_done box (e ∷ es) = is_done_at box e.act || any_done box es

-- each bound of the mailbox comes where nothing was done there
abbrev BoundsFirst : BoxName → Bool → List Entry → Type 0
BoundsFirst box touched [] = Unit {0}
BoundsFirst box touched (e ∷ es) = (is_bound_at box e.act ≡ true → touched ≡ false) × BoundsFirst box (touched || is_done_at box e.act) es

none_done : (box : BoxName) (es : List Entry) → IsNowhere box es → any_done box es ≡ false
none_done box [] none = refl
none_done box (e ∷ es) none = ap (λ y. y || any_done box es) none.0 ∙ none_done box es none.1

or_none : (y : Bool) → (y || false) ≡ y
or_none true = refl
or_none false = refl

or_assoc : (x y z : Bool) → (x || (y || z)) ≡ ((x || y) || z)
or_assoc true y z = refl
or_assoc false y z = refl

done_pushed : (box : BoxName) (es : List Entry) (e : Entry) → any_done box (es ++ e ∷ []) ≡ (any_done box es || is_done_at box e.act)
done_pushed box [] e = or_none (is_done_at box e.act)
done_pushed box (x ∷ es) e = ap (λ y. is_done_at box x.act || y) (done_pushed box es e) ∙ or_assoc (is_done_at box x.act) (any_done box es) (is_done_at box e.act)

books_on : (b mid last : Books) (es : List Entry) (e : Entry) → books_from b es ≡ Some mid → books_after mid e ≡ Some last → books_from b (es ++ e ∷ []) ≡ Some last
books_on b mid last [] e is after = ap (λ (x : Books). books_after x e >>= λ (y : Books). Some y) (some_injective b mid is) ∙ ap (λ o. o >>= λ (y : Books). Some y) after
books_on b mid last (x ∷ es) e is after =
    let first = bind_some (books_after b x) (λ (y : Books). books_from y es) mid is in
    ap (λ o. o >>= λ (y : Books). books_from y (es ++ e ∷ [])) first.1 ∙ books_on first.0 mid last es e first.2 after

module _ (set : Setting) (new : BoundsAreNew set) (s : Moving) (journal : List Entry) (replay : MovedReplay set journal s) (box : BoxName) where
  bound_first : (before : List Entry) (e : Entry) (after : List Entry) (mid : Books) → before ++ e ∷ after ≡ journal → books_from first_books before ≡ Some mid → books_from mid (e ∷ after) ≡ Some s.books → (a : Act) → e.act ≡ a → is_bound_at box a ≡ true → any_done box before ≡ false
  bound_first before e after mid parts front rest (Bound other n) is at =
      let full : FullSaid set first_books before = full_front set before (e ∷ after) first_books (subst (FullSaid set first_books) (sym parts) replay.full) in
      let named : IsNowhere other before = first_bound set new before e after mid s front rest full replay.each replay.lones other n is in
      let same : other ≡ box = sym (same_name box other at) in
      none_done box before (subst (λ z. IsNowhere z before) same named)
  bound_first before e after mid parts front rest (Put other n shape) is at = absurd (cc)
  bound_first before e after mid parts front rest (Take other n) is at = absurd (cc)
  bound_first before e after mid parts front rest (Empty other) is at = absurd (cc)
  bound_first before e after mid parts front rest (Start n shape) is at = absurd (cc)
  bound_first before e after mid parts front rest (Print shape) is at = absurd (cc)
  bound_first before e after mid parts front rest (End why) is at = absurd (cc)
  bound_first before e after mid parts front rest (Wait other) is at = absurd (cc)

  bounds_first : (after before : List Entry) (mid : Books) → before ++ after ≡ journal → books_from first_books before ≡ Some mid → books_from mid after ≡ Some s.books → BoundsFirst box (any_done box before) after
  bounds_first [] before mid parts front rest = tt
  bounds_first (e ∷ after) before mid parts front rest =
      let first = bind_some (books_after mid e) (λ (y : Books). books_from y after) s.books rest in
      let later : BoundsFirst box (any_done box (before ++ e ∷ [])) after = bounds_first after (before ++ e ∷ []) first.0 (append_assoc before (e ∷ []) after ∙ parts) (books_on first_books mid first.0 before e front first.1) first.2 in
      (bound_first before e after mid parts front rest e.act refl, subst (λ y. BoundsFirst box y after) (done_pushed box before e) later)

-- ---- what is said

-- once something was done there
in_order : (box : BoxName) (es : List Entry) (b last : Books) (c : Counts) → IsCounted (b.mailboxes box) c → books_from b es ≡ Some last → BoundsFirst box true es → AreInOrder c.most c.puts c.takes (notes_of box es)
in_order box [] b last c counted e firsts = tt
in_order box (entry ∷ es) b last c counted e firsts =
    let first = bind_some (books_after b entry) (λ (mid : Books). books_from mid es) last e in
    let course = bind_some (slice_get b.courses entry.task) (λ (x : Course). books_by b entry.task x entry.act) first.0 first.1 in
    let g : Goes box c entry.act first.0 = goes box b c counted entry.task course.0 entry.act first.0 (no_bound (is_bound_at box entry.act) firsts.0) course.2 in
    g.notes (notes_of box es) (in_order box es first.0 last g.next g.held first.2 firsts.1)
  where
    no_bound : (y : Bool) → (y ≡ true → true ≡ false) → y ≡ false
    no_bound true f = absurd (let h = f refl in cc)
    no_bound false f = refl

abbrev new_counts : Option ℕ → Counts
new_counts most = record { most = most; puts = 0; takes = 0 }

-- a note that is no bound begins as without one
no_bound_first : (n : Note) (notes : List Note) → ((most : ℕ) → n ≡ Bounds most → ⊥) → AreInOrder None 0 0 (n ∷ notes) → AreOneThread (n ∷ notes)
no_bound_first (Bounds most) notes isnt order = absurd (isnt most refl)
no_bound_first (Puts n) notes isnt order = order
no_bound_first (Takes n) notes isnt order = order
no_bound_first Empties notes isnt order = order

-- before
one_thread : (box : BoxName) (es : List Entry) (b last : Books) → b.mailboxes box ≡ empty_mailbox → books_from b es ≡ Some last → BoundsFirst box false es → AreOneThread (notes_of box es)
one_thread box [] b last empty e firsts = tt
one_thread box (entry ∷ es) b last empty e firsts =
    let first = bind_some (books_after b entry) (λ (mid : Books). books_from mid es) last e in
    let course = bind_some (slice_get b.courses entry.task) (λ (x : Course). books_by b entry.task x entry.act) first.0 first.1 in
    elim (both_ways (is_done_at box entry.act)) [
      | inl done ↦ begun entry.act course.0 first.0 (subst (λ y. BoundsFirst box y es) done firsts.1) first.2 course.2 done
      | inr isnt ↦ subst (λ (ns : List Note). AreOneThread (ns ++ notes_of box es)) (sym (unsaid entry.act isnt)) (one_thread box es first.0 last (act_same box b entry.task course.0 entry.act first.0 isnt course.2 ∙ empty) first.2 (subst (λ y. BoundsFirst box y es) isnt firsts.1))
    ]
  where
    counted : IsCounted (b.mailboxes box) (new_counts None)
    counted = subst (λ (m : Post). IsCounted m (new_counts None)) (sym empty) (record { most = refl; puts = refl; numbered = tt; waits = refl })

    not_said : (other : BoxName) (n : Note) → same_box box other ≡ false → note_if (is_box other box) n ≡ []
    not_said other n isnt = ap (λ y. note_if y n) (box_flip other box ∙ isnt)

    unsaid : (a : Act) → is_done_at box a ≡ false → notes_of_act box a ≡ []
    unsaid (Put other n shape) isnt = not_said other (Puts n) isnt
    unsaid (Take other n) isnt = not_said other (Takes n) isnt
    unsaid (Empty other) isnt = not_said other Empties isnt
    unsaid (Bound other n) isnt = not_said other (Bounds n) isnt
    unsaid (Start n shape) isnt = refl
    unsaid (Print shape) isnt = refl
    unsaid (End why) isnt = refl
    unsaid (Wait other) isnt = refl

    said : (other : BoxName) (n : Note) → same_box box other ≡ true → ((most : ℕ) → n ≡ Bounds most → ⊥) → AreInOrder None 0 0 (note_if (is_box other box) n ++ notes_of box es) → AreOneThread (note_if (is_box other box) n ++ notes_of box es)
    said other n is isnt order =
        let e : is_box other box ≡ true = box_flip other box ∙ is in
        subst (λ y. AreOneThread (note_if y n ++ notes_of box es)) (sym e) (no_bound_first n (notes_of box es) isnt (subst (λ y. AreInOrder None 0 0 (note_if y n ++ notes_of box es)) e order))

    -- the first that is done there
    begun : (a : Act) (course : Course) (mid : Books) → BoundsFirst box true es → books_from mid es ≡ Some last → books_by b entry.task course a ≡ Some mid → is_done_at box a ≡ true → AreOneThread (notes_of_act box a ++ notes_of box es)
    begun (Put other n shape) course mid later rest by done =
        let g : Goes box (new_counts None) (Put other n shape) mid = goes box b (new_counts None) counted entry.task course (Put other n shape) mid refl by in
        said other (Puts n) done (λ most e. cc) (g.notes (notes_of box es) (in_order box es mid last g.next g.held rest later))
    begun (Take other n) course mid later rest by done =
        let g : Goes box (new_counts None) (Take other n) mid = goes box b (new_counts None) counted entry.task course (Take other n) mid refl by in
        said other (Takes n) done (λ most e. cc) (g.notes (notes_of box es) (in_order box es mid last g.next g.held rest later))
    begun (Empty other) course mid later rest by done =
        let g : Goes box (new_counts None) (Empty other) mid = goes box b (new_counts None) counted entry.task course (Empty other) mid refl by in
        said other Empties done (λ most e. cc) (g.notes (notes_of box es) (in_order box es mid last g.next g.held rest later))
    begun (Bound other n) course mid later rest by done =
        let x : Books = record { courses = with_deed b.courses entry.task course (plain (Bound other n)); mailboxes = with_mailbox b.mailboxes other (bounded (b.mailboxes other) n) } in
        let is : x ≡ mid = some_injective x mid by in
        let same : other ≡ box = sym (same_name box other done) in
        let now : mid.mailboxes box ≡ bounded empty_mailbox n = sym (ap (λ (y : Books). y.mailboxes box) is) ∙ (ap (λ y. if y then bounded (b.mailboxes other) n else b.mailboxes box) done ∙ (ap (λ z. bounded (b.mailboxes z) n) same ∙ ap (λ (m : Post). bounded m n) empty)) in
        let held : IsCounted (mid.mailboxes box) (new_counts (Some n)) = subst (λ (m : Post). IsCounted m (new_counts (Some n))) (sym now) (record { most = refl; puts = refl; numbered = tt; waits = refl }) in
        subst (λ y. AreOneThread (note_if y (Bounds n) ++ notes_of box es)) (sym (box_flip other box ∙ done)) (in_order box es mid last (new_counts (Some n)) held rest later)
    begun (Start n shape) course mid later rest by done = absurd (cc)
    begun (Print shape) course mid later rest by done = absurd (cc)
    begun (End why) course mid later rest by done = absurd (cc)
    begun (Wait other) course mid later rest by done = absurd (cc)

pub mailboxes_are_threads : MailboxesAreThreads
mailboxes_are_threads set journal s box new replay = one_thread box journal first_books s.books refl replay.books (bounds_first set new s journal replay box journal [] first_books refl refl replay.books)
