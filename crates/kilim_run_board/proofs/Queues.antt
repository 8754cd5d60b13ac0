-- Each mailbox of the books holds what was put and isn't taken, numbered without a gap.
use Rattle.std.proofs.Common.{◌≡◌, ℕ, suc, ◌+◌, ◌<◌, Bool, true, false, ◌&&◌, not, ◌==◌, nat_lt, List, [], ◌∷◌, ◌++◌, Option, Some, None, refl, sym, ap, subst, ◌∙◌, inl, inr, arith, length}
use Rattle.std.specs.Prelude.{if◌then◌else◌}
use Rattle.std.proofs.lemmas.Bool.Decides.{nat_tests}
use Rattle.kilim_program.specs.declared.names.BoxName.{BoxName}
use Rattle.kilim_program.specs.Names.{◌>>=◌}
use Rattle.kilim_run_state.specs.declared.value.Token.{Token}
use Rattle.kilim_run_journal.specs.declared.entry.Act.{Act}
use Rattle.kilim_run_journal.specs.declared.entry.Act.TheVariants.{Put, Take, Empty, Start, Print, End, Wait, Bound}
use Rattle.kilim_run_model.specs.State.{same_box, with_message, with_queue, with_mailbox, bounded, is_full, is_full_at}
use Rattle.kilim_run_model.specs.Course.{Course, plain}
use Rattle.kilim_run_model.specs.Turn.{task_limit}
use Rattle.kilim_run_model.specs.declared.deed.Beginning.TheVariants.{Begun}
use Rattle.kilim_run_model.specs.Moving.{Books, with_deed, is_tasks, books_taken, books_empty, books_by}
use Rattle.kilim_run_board.specs.waiting.Mailboxes.{Post}
use Rattle.kilim_run_board.specs.OneThread.{Note, Bounds, Puts, Takes, Empties, HasPlace, AreInOrder, is_box, note_if, notes_of_act}
use Rattle.kilim_run_board.proofs.waiting.Names.{both_ways, same_name}

-- ---- options

pub if_some : (y : Bool) (x last : Books) → (if y then Some x else None) ≡ Some last → (y ≡ true) × (x ≡ last)
if_some true x last e = (refl, let f : Some x ≡ Some last = e in cc)
if_some false x last e = absurd (cc)

pub if_none : (y : Bool) (x last : Books) → (if y then None else Some x) ≡ Some last → x ≡ last
if_none true x last e = absurd (cc)
if_none false x last e = let f : Some x ≡ Some last = e in cc

both_true : (a b : Bool) → (a && b) ≡ true → (a ≡ true) × (b ≡ true)
both_true true b e = (refl, e)
both_true false b e = absurd (cc)

pub bind_some : {A B : Type 0} (o : Option A) (f : A → Option B) (y : B) → (o >>= f) ≡ Some y → (x : A) × (o ≡ Some x) × (f x ≡ Some y)
bind_some None f y e = absurd (cc)
bind_some (Some x) f y e = (x, refl, e)

-- ---- a mailbox

-- its bound, and how many messages were put into it and taken out of it so far
pub record Counts : Type 0 where
  pub most : Option ℕ
  pub puts : ℕ
  pub takes : ℕ

abbrev pub Numbered : ℕ → List (ℕ × List Token) → Type 0
Numbered n [] = Unit {0}
Numbered n (q ∷ qs) = (q.0 ≡ n) × Numbered (suc n) qs

pub record IsCounted (m : Post) (c : Counts) : Type 0 where
  pub most : m.most ≡ c.most
  pub puts : m.puts ≡ c.puts
  pub numbered : Numbered c.takes m.queue
  pub waits : c.takes + length m.queue ≡ c.puts

numbered_pushed : (n : ℕ) (qs : List (ℕ × List Token)) (x : ℕ × List Token) → Numbered n qs → x.0 ≡ n + length qs → Numbered n (qs ++ x ∷ [])
numbered_pushed n [] x all e = (omega arith, tt)
numbered_pushed n (q ∷ qs) x all e = (all.0, numbered_pushed (suc n) qs x all.1 (omega arith))

length_more : (qs : List (ℕ × List Token)) (x : ℕ × List Token) → length (qs ++ x ∷ []) ≡ suc (length qs)
length_more [] x = refl
length_more (q ∷ qs) x = ap suc (length_more qs x)

put_counted : (m : Post) (c : Counts) (shape : List Token) → IsCounted m c → IsCounted (with_message m shape) (record { most = c.most; puts = suc c.puts; takes = c.takes })
put_counted m c shape is =
    let p = is.puts in let w = is.waits in let l = length_more m.queue (m.puts, shape) in
    record { most = is.most; puts = omega arith; numbered = numbered_pushed c.takes m.queue (m.puts, shape) is.numbered (omega arith); waits = omega arith }

-- where it isn't full it has a place
has_place : (most : Option ℕ) (n puts takes : ℕ) → is_full_at most n ≡ false → takes + n ≡ puts → HasPlace most puts takes
has_place None n puts takes free e = tt
has_place (Some most) n puts takes free e = let less : n < most = grind (arith, nat_tests) in omega arith

not_true : (b : Bool) → not b ≡ true → b ≡ false
not_true true e = absurd (cc)
not_true false e = refl

-- ---- an entry

abbrev pub is_bound_at : BoxName → Act → Bool
is_bound_at box (Bound other n) = same_box box other
is_bound_at box a = false

eq_flip : (x y : ℕ) → (x == y) ≡ (y == x)
eq_flip x y = elim (both_ways (x == y)) [
  | inl is ↦ let e : (y == x) ≡ true = grind (arith, nat_tests) in is ∙ sym e
  | inr isnt ↦ let e : (y == x) ≡ false = grind (arith, nat_tests) in isnt ∙ sym e
]

pub box_flip : (a b : BoxName) → is_box a b ≡ same_box b a
box_flip a b = ap (λ y. y && (a.number == b.number)) (eq_flip a.task b.task) ∙ ap (λ y. (b.task == a.task) && y) (eq_flip a.number b.number)

-- what it says is in order, and the mailbox is counted then
pub record Goes (box : BoxName) (c : Counts) (a : Act) (last : Books) : Type 0 where
  pub next : Counts
  pub notes : (rest : List Note) → AreInOrder next.most next.puts next.takes rest → AreInOrder c.most c.puts c.takes (notes_of_act box a ++ rest)
  pub held : IsCounted (last.mailboxes box) next

module _ (box : BoxName) (b : Books) (c : Counts) (counted : IsCounted (b.mailboxes box) c) where
  -- at a mailbox of the same name
  there : (other : BoxName) → same_box box other ≡ true → IsCounted (b.mailboxes other) c
  there other here = subst (λ x. IsCounted (b.mailboxes x) c) (same_name box other here) counted

  -- what another mailbox holds doesn't matter
  apart : (other : BoxName) (m : Post) → same_box box other ≡ false → IsCounted (with_mailbox b.mailboxes other m box) c
  apart other m isnt = subst (λ y. IsCounted (if y then m else b.mailboxes box) c) (sym isnt) counted

  here : (other : BoxName) (m : Post) (next : Counts) → same_box box other ≡ true → IsCounted m next → IsCounted (with_mailbox b.mailboxes other m box) next
  here other m next is held = subst (λ y. IsCounted (if y then m else b.mailboxes box) next) (sym is) held

  said : (other : BoxName) (note : Note) (rest : List Note) → same_box box other ≡ true → AreInOrder c.most c.puts c.takes (note ∷ rest) → AreInOrder c.most c.puts c.takes (note_if (is_box other box) note ++ rest)
  said other note rest is order = subst (λ y. AreInOrder c.most c.puts c.takes (note_if y note ++ rest)) (sym (box_flip other box ∙ is)) order

  unsaid : (other : BoxName) (note : Note) (rest : List Note) → same_box box other ≡ false → AreInOrder c.most c.puts c.takes rest → AreInOrder c.most c.puts c.takes (note_if (is_box other box) note ++ rest)
  unsaid other note rest isnt order = subst (λ y. AreInOrder c.most c.puts c.takes (note_if y note ++ rest)) (sym (box_flip other box ∙ isnt)) order

  put_goes : (other : BoxName) (n : ℕ) (shape : List Token) (courses : List Course) → (n == (b.mailboxes other).puts) ≡ true → is_full (b.mailboxes other) ≡ false →
      Goes box c (Put other n shape) (record { courses = courses; mailboxes = with_mailbox b.mailboxes other (with_message (b.mailboxes other) shape) })
  put_goes other n shape courses numbered free = elim (both_ways (same_box box other)) [
    | inl is ↦
        let held : IsCounted (b.mailboxes other) c = there other is in
        let p = held.puts in
        let e : n ≡ c.puts = grind (arith, nat_tests) in
        let next : Counts = record { most = c.most; puts = suc c.puts; takes = c.takes } in
        let place : HasPlace c.most c.puts c.takes = has_place c.most (length (b.mailboxes other).queue) c.puts c.takes (ap (λ m. is_full_at m (length (b.mailboxes other).queue)) (sym held.most) ∙ free) held.waits in
        record { next = next; notes = λ rest order. said other (Puts n) rest is (e, place, order); held = here other (with_message (b.mailboxes other) shape) next is (put_counted (b.mailboxes other) c shape held) }
    | inr isnt ↦ record { next = c; notes = λ rest order. unsaid other (Puts n) rest isnt order; held = apart other (with_message (b.mailboxes other) shape) isnt }
  ]

  take_goes : (other : BoxName) (n : ℕ) (first : ℕ × List Token) (rest : List (ℕ × List Token)) (courses : List Course) → (b.mailboxes other).queue ≡ first ∷ rest → (first.0 == n) ≡ true →
      Goes box c (Take other n) (record { courses = courses; mailboxes = with_mailbox b.mailboxes other (with_queue (b.mailboxes other) rest) })
  take_goes other n first rest courses is-queue numbered = elim (both_ways (same_box box other)) [
    | inl is ↦
        let held : IsCounted (b.mailboxes other) c = there other is in
        let all : Numbered c.takes (first ∷ rest) = subst (Numbered c.takes) is-queue held.numbered in
        let number = all.0 in
        let many : c.takes + suc (length rest) ≡ c.puts = ap (λ (q : List (ℕ × List Token)). c.takes + length q) (sym is-queue) ∙ held.waits in
        let same : n ≡ c.takes = grind (arith, nat_tests) in
        let next : Counts = record { most = c.most; puts = c.puts; takes = suc c.takes } in
        record {
          next = next;
          notes = λ after order. said other (Takes n) after is (same, omega arith, order);
          held = here other (with_queue (b.mailboxes other) rest) next is (record { most = held.most; puts = held.puts; numbered = all.1; waits = omega arith });
        }
    | inr isnt ↦ record { next = c; notes = λ after order. unsaid other (Takes n) after isnt order; held = apart other (with_queue (b.mailboxes other) rest) isnt }
  ]

  bound_goes : (other : BoxName) (most : ℕ) (courses : List Course) → same_box box other ≡ false → Goes box c (Bound other most) (record { courses = courses; mailboxes = with_mailbox b.mailboxes other (bounded (b.mailboxes other) most) })
  bound_goes other most courses isnt = record {
    next = c;
    notes = λ rest order. subst (λ y. AreInOrder c.most c.puts c.takes (note_if y (Bounds most) ++ rest)) (sym (box_flip other box ∙ isnt)) order;
    held = apart other (bounded (b.mailboxes other) most) isnt;
  }

  empty_goes : (other : BoxName) (courses : List Course) → (b.mailboxes other).queue ≡ [] → Goes box c (Empty other) (record { courses = courses; mailboxes = b.mailboxes })
  empty_goes other courses none = elim (both_ways (same_box box other)) [
    | inl is ↦
        let held : IsCounted (b.mailboxes other) c = there other is in
        let many : c.takes + 0 ≡ c.puts = ap (λ (q : List (ℕ × List Token)). c.takes + length q) (sym none) ∙ held.waits in
        record { next = c; notes = λ rest order. said other Empties rest is (omega arith, order); held = counted }
    | inr isnt ↦ record { next = c; notes = λ rest order. unsaid other Empties rest isnt order; held = counted }
  ]

  silent : (a : Act) (courses : List Course) → notes_of_act box a ≡ [] → Goes box c a (record { courses = courses; mailboxes = b.mailboxes })
  silent a courses none = record { next = c; notes = λ rest order. subst (λ (ns : List Note). AreInOrder c.most c.puts c.takes (ns ++ rest)) (sym none) order; held = counted }

  same_books : (x last : Books) → Some x ≡ Some last → x ≡ last
  same_books x last e = cc

  taken_by : (t : ℕ) (course : Course) (other : BoxName) (n : ℕ) (last : Books) (q : List (ℕ × List Token)) → (b.mailboxes other).queue ≡ q → books_taken b t course other n q ≡ Some last → Goes box c (Take other n) last
  taken_by t course other n last [] is e = absurd (cc)
  taken_by t course other n last (first ∷ rest) is e =
      let courses : List Course = with_deed b.courses t course (record { act = Take other n; taken = first.1 }) in
      let h = if_some (first.0 == n) (record { courses = courses; mailboxes = with_mailbox b.mailboxes other (with_queue (b.mailboxes other) rest) }) last e in
      subst (Goes box c (Take other n)) h.1 (take_goes other n first rest courses is h.0)

  empty_by : (t : ℕ) (course : Course) (other : BoxName) (last : Books) (q : List (ℕ × List Token)) → (b.mailboxes other).queue ≡ q → books_empty b t course other q ≡ Some last → Goes box c (Empty other) last
  empty_by t course other last [] is e =
      let courses : List Course = with_deed b.courses t course (plain (Empty other)) in
      subst (Goes box c (Empty other)) (same_books (record { courses = courses; mailboxes = b.mailboxes }) last e) (empty_goes other courses is)
  empty_by t course other last (first ∷ rest) is e = absurd (cc)

  pub goes : (t : ℕ) (course : Course) (a : Act) (last : Books) → is_bound_at box a ≡ false → books_by b t course a ≡ Some last → Goes box c a last
  goes t course (Put other n shape) last isnt e =
      let courses : List Course = with_deed b.courses t course (plain (Put other n shape)) in
      let h = if_some (n == (b.mailboxes other).puts && not (is_full (b.mailboxes other))) (record { courses = courses; mailboxes = with_mailbox b.mailboxes other (with_message (b.mailboxes other) shape) }) last e in
      let both = both_true (n == (b.mailboxes other).puts) (not (is_full (b.mailboxes other))) h.0 in
      subst (Goes box c (Put other n shape)) h.1 (put_goes other n shape courses both.0 (not_true (is_full (b.mailboxes other)) both.1))
  goes t course (Take other n) last isnt e = taken_by t course other n last (b.mailboxes other).queue refl e
  goes t course (Empty other) last isnt e = empty_by t course other last (b.mailboxes other).queue refl e
  goes t course (Start n shape) last isnt e =
      let courses : List Course = with_deed b.courses t course (plain (Start n shape)) ++ record { beginning = Begun shape; deeds = [] } ∷ [] in
      let h = if_some (n == length b.courses && nat_lt n task_limit) (record { courses = courses; mailboxes = b.mailboxes }) last e in
      subst (Goes box c (Start n shape)) h.1 (silent (Start n shape) courses refl)
  goes t course (Print shape) last isnt e =
      let courses : List Course = with_deed b.courses t course (plain (Print shape)) in
      subst (Goes box c (Print shape)) (same_books (record { courses = courses; mailboxes = b.mailboxes }) last e) (silent (Print shape) courses refl)
  goes t course (End why) last isnt e =
      let courses : List Course = with_deed b.courses t course (plain (End why)) in
      subst (Goes box c (End why)) (if_none (is_tasks why && not (length b.courses == task_limit)) (record { courses = courses; mailboxes = b.mailboxes }) last e) (silent (End why) courses refl)
  goes t course (Wait other) last isnt e = absurd (cc)
  goes t course (Bound other n) last isnt e =
      let courses : List Course = with_deed b.courses t course (plain (Bound other n)) in
      subst (Goes box c (Bound other n)) (same_books (record { courses = courses; mailboxes = with_mailbox b.mailboxes other (bounded (b.mailboxes other) n) }) last e) (bound_goes other n courses isnt)
