-- A journal that goes on by one entry.
use Rattle.std.proofs.Common.{◌≡◌, ℕ, suc, ◌<◌, ◌≤◌, ◌==◌, nat_lt, true, false, List, [], ◌∷◌, ◌++◌, Option, Some, None, refl, sym, ap, subst, ◌∙◌, inl, inr, arith}
use Rattle.std.specs.Prelude.{length, slice_get, slice_set}
use Rattle.std.proofs.lemmas.Bool.Decides.{nat_tests}
use Rattle.kilim_program.specs.declared.names.BoxName.{BoxName}
use Rattle.kilim_run_journal.specs.declared.entry.Act.{Act}
use Rattle.kilim_run_journal.specs.declared.entry.Entry.{Entry}
use Rattle.kilim_program.specs.Names.{◌>>=◌}
use Rattle.kilim_run_model.specs.State.{Setting}
use Rattle.kilim_run_board.proofs.waiting.Names.{both_ways}
use Rattle.kilim_lemmas.proofs.Lists.{set_there, set_length, get_front, get_last, get_some}
use Rattle.kilim_run_board.proofs.waiting.Lists.{get_set_other, got_within, length_pushed}
use Rattle.kilim_run_model.specs.Lone.{Lone}
use Rattle.kilim_run_model.specs.Course.{next_action, done_by, Course, IsLone, Follows, is_end, ends_in}
use Rattle.kilim_run_model.specs.declared.deed.Deed.{Deed}
use Rattle.kilim_run_board.specs.waiting.Mailboxes.{Post}
use Rattle.kilim_run_model.specs.Moving.{Books, Moving, MovedReplay, FullHere, books_after, books_from, first_books, further}
use Rattle.kilim_run_model.proofs.one_heap.Beside.{full_then}

pub some_injective : {A : Type 0} (x y : A) → Some x ≡ Some y → x ≡ y
some_injective x y e = cc

pub ends_pushed : (ds : List Deed) (d : Deed) → ends_in (ds ++ d ∷ []) ≡ is_end d.act
ends_pushed [] d = refl
ends_pushed (e ∷ []) d = refl
ends_pushed (e ∷ f ∷ ds) d = ends_pushed (f ∷ ds) d

pub follows_on : (set : Setting) (t : ℕ) (l mid last : Lone) (ds : List Deed) (d : Deed) → Follows set t l ds mid → done_by set (next_action set t mid) d ≡ Some (record { act = d.act; after = last }) → Follows set t l (ds ++ d ∷ []) last
follows_on set t l mid last [] d is done = (last, ap (λ x. done_by set (next_action set t x) d) is ∙ done, refl)
follows_on set t l mid last (e ∷ ds) d (next, done-e, rest) done = (next, done-e, follows_on set t next mid last ds d rest done)

pub lone_on : (set : Setting) (t : ℕ) (c : Course) (l last : Lone) (d : Deed) → IsLone set t c l → done_by set (next_action set t l) d ≡ Some (record { act = d.act; after = last }) → IsLone set t (further c d) last
lone_on set t c l last d is done = record { first = is.first; begins = is.begins; follows = follows_on set t is.first l last c.deeds d is.follows done }

pub books_on : (b mid last : Books) (es : List Entry) (e : Entry) → books_from b es ≡ Some mid → books_after mid e ≡ Some last → books_from b (es ++ e ∷ []) ≡ Some last
books_on b mid last [] e is goes = ap (λ x. books_from x (e ∷ [])) (some_injective b mid is) ∙ ap (λ o. o >>= λ (x : Books). Some x) goes
books_on b mid last (f ∷ es) e is goes = books_on_in (books_after b f) refl (λ x rest. books_on x mid last es e rest goes)
  where
    books_on_in : (o : Option Books) → books_after b f ≡ o → ((x : Books) → books_from x es ≡ Some mid → books_from x (es ++ e ∷ []) ≡ Some last) → books_from b (f ∷ (es ++ e ∷ [])) ≡ Some last
    books_on_in None g later = absurd (let h : None ≡ Some mid = ap (λ o. o >>= λ (x : Books). books_from x es) (sym g) ∙ is in cc)
    books_on_in (Some x) g later = ap (λ o. o >>= λ (y : Books). books_from y (es ++ e ∷ [])) g ∙ later x (sym (ap (λ o. o >>= λ (y : Books). books_from y es) g) ∙ is)

-- ---- a full mailbox

-- what is no end tells of none
pub not_full : (set : Setting) (b : Books) (t : ℕ) (a : Act) → is_end a ≡ false → FullHere set b (record { task = t; act = a })
not_full set b t a going full = absurd (let h : false ≡ true = sym going ∙ ap is_end full in cc)

-- ---- a task goes on

-- the thread in a list, where there is one
abbrev pub lones_with : List Lone → ℕ → Lone → List Lone
lones_with lones t l = slice_set lones t l

-- one more course and its thread
new_or_old : {set : Setting} (cs : List Course) (ls : List Lone) (new : Course) (first : Lone) → length ls ≡ length cs →
    ((u : ℕ) (c : Course) (l : Lone) → slice_get cs u ≡ Some c → slice_get ls u ≡ Some l → IsLone set u c l) → IsLone set (length cs) new first →
    (u : ℕ) (c : Course) (l : Lone) → slice_get (cs ++ new ∷ []) u ≡ Some c → slice_get (ls ++ first ∷ []) u ≡ Some l → IsLone set u c l
new_or_old {set} cs ls new first same old is u c l is-c is-l = elim (both_ways (nat_lt u (length cs))) [
  | inl below ↦
      let b : u < length cs = grind (arith, nat_tests) in
      old u c l (sym (get_front cs (new ∷ []) u b) ∙ is-c) (sym (get_front ls (first ∷ []) u (omega arith)) ∙ is-l)
  | inr above ↦
      let a : length cs ≤ u = grind (arith, nat_tests) in
      let w : u < length (cs ++ new ∷ []) = got_within (cs ++ new ∷ []) u c is-c in
      let p : length (cs ++ new ∷ []) ≡ suc (length cs) = length_pushed cs new in
      let e : u ≡ length cs = omega arith in
      let e' : u ≡ length ls = e ∙ sym same in
      let same-c : new ≡ c = some_injective new c (sym (get_last cs new) ∙ (ap (slice_get (cs ++ new ∷ [])) (sym e) ∙ is-c)) in
      let same-l : first ≡ l = some_injective first l (sym (get_last ls first) ∙ (ap (slice_get (ls ++ first ∷ [])) (sym e') ∙ is-l)) in
      subst (λ n. IsLone set n c l) (sym e) (subst (λ x. IsLone set (length cs) x l) same-c (subst (λ x. IsLone set (length cs) new x) same-l is))
]

module _ (set : Setting) (journal : List Entry) (s : Moving) (replay : MovedReplay set journal s) where
  pub lone_of : (t : ℕ) (c : Course) → slice_get s.books.courses t ≡ Some c → (l : Lone) × (slice_get s.lones t ≡ Some l) × IsLone set t c l
  lone_of t c there =
      let within = got_within s.books.courses t c there in
      let same = replay.each in
      let l : (l : Lone) × (slice_get s.lones t ≡ Some l) = get_some s.lones t (omega arith) in
      (l.0, l.1, replay.lones t c l.0 there l.1)

  module _ (t : ℕ) (c : Course) (l last : Lone) (d : Deed) (there : slice_get s.books.courses t ≡ Some c) (lone : slice_get s.lones t ≡ Some l)
      (done : done_by set (next_action set t l) d ≡ Some (record { act = d.act; after = last })) where
    after : Course
    after = further c d

    lones_on : (u : ℕ) (c' : Course) (l' : Lone) → slice_get (slice_set s.books.courses t (further c d)) u ≡ Some c' → slice_get (slice_set s.lones t last) u ≡ Some l' → IsLone set u c' l'
    lones_on u c' l' is-c is-l =
        elim (both_ways (u == t)) [
          | inl is ↦
              let e : u ≡ t = grind (arith, nat_tests) in
              let f : slice_get (slice_set s.books.courses t (further c d)) t ≡ Some c' = ap (slice_get (slice_set s.books.courses t (further c d))) (sym e) ∙ is-c in
              let g : slice_get (slice_set s.lones t last) t ≡ Some l' = ap (slice_get (slice_set s.lones t last)) (sym e) ∙ is-l in
              let same-c : further c d ≡ c' = some_injective (further c d) c' (sym (set_there s.books.courses t c (further c d) there) ∙ f) in
              let same-l : last ≡ l' = some_injective last l' (sym (set_there s.lones t l last lone) ∙ g) in
              subst (λ x. IsLone set x c' l') (sym e) (subst (λ x. IsLone set t x l') same-c (subst (λ x. IsLone set t (further c d) x) same-l (lone_on set t c l last d (replay.lones t c l there lone) done)))
          | inr isnt ↦ replay.lones u c' l' (sym (get_set_other s.books.courses t u (further c d) isnt) ∙ is-c) (sym (get_set_other s.lones t u last isnt) ∙ is-l)
        ]

    each_on : length (slice_set s.lones t last) ≡ length (slice_set s.books.courses t (further c d))
    each_on = set_length s.lones t last ∙ (replay.each ∙ sym (set_length s.books.courses t (further c d)))

    -- by an act that begins no task
    pub replay_on : (e : Entry) (posts : BoxName → Post) → FullHere set s.books e → books_after s.books e ≡ Some (record { courses = slice_set s.books.courses t (further c d); mailboxes = posts }) →
        MovedReplay set (journal ++ e ∷ []) (record { books = record { courses = slice_set s.books.courses t (further c d); mailboxes = posts }; lones = slice_set s.lones t last })
    replay_on e posts full goes = record {
      books = books_on first_books s.books _ journal e replay.books goes;
      full = full_then set journal e first_books s.books replay.books replay.full full;
      each = each_on;
      lones = lones_on;
    }

    -- by a start
    pub replay_started : (e : Entry) (posts : BoxName → Post) (new : Course) (first : Lone) → FullHere set s.books e → IsLone set (length s.books.courses) new first →
        books_after s.books e ≡ Some (record { courses = slice_set s.books.courses t (further c d) ++ new ∷ []; mailboxes = posts }) →
        MovedReplay set (journal ++ e ∷ []) (record { books = record { courses = slice_set s.books.courses t (further c d) ++ new ∷ []; mailboxes = posts }; lones = slice_set s.lones t last ++ first ∷ [] })
    replay_started e posts new first full is goes = record {
      books = books_on first_books s.books _ journal e replay.books goes;
      full = full_then set journal e first_books s.books replay.books replay.full full;
      each = pushed_each (slice_set s.lones t last) (slice_set s.books.courses t (further c d)) first new each_on;
      lones = lones_started;
    }
      where
        pushed_each : (ls : List Lone) (cs : List Course) (x : Lone) (y : Course) → length ls ≡ length cs → length (ls ++ x ∷ []) ≡ length (cs ++ y ∷ [])
        pushed_each ls cs x y e = length_pushed ls x ∙ (ap suc e ∙ sym (length_pushed cs y))

        lones_started : (u : ℕ) (c' : Course) (l' : Lone) → slice_get (slice_set s.books.courses t (further c d) ++ new ∷ []) u ≡ Some c' → slice_get (slice_set s.lones t last ++ first ∷ []) u ≡ Some l' → IsLone set u c' l'
        lones_started u c' l' is-c is-l = new_or_old (slice_set s.books.courses t (further c d)) (slice_set s.lones t last) new first each_on (λ n x y e f. lones_on n x y e f) (subst (λ n. IsLone set n new first) (sym (set_length s.books.courses t (further c d))) is) u c' l' is-c is-l
