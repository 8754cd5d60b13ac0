-- A mailbox that gets a bound is new: nothing of the journal was done at it.
use Rattle.std.proofs.Common.{◌≡◌, ◌≢◌, ◌⊎◌, inl, inr, ℕ, zero, suc, ◌<◌, ◌≤◌, Bool, true, false, cond, eqb, List, [], ◌∷◌, ◌++◌, length, Option, Some, None, refl, sym, ap, subst, ◌∙◌, arith, append_assoc}
use Rattle.std.specs.Prelude.{◌&&◌, not, nat_lt, slice_get, slice_set, ◌==◌}
use Rattle.std.specs.List.{AllByRecursion}
use Rattle.std.proofs.lemmas.Bool.{eqb-true, eqb-false}
use Rattle.std.proofs.lemmas.Bool.Decides.{eqb_tells}
use Rattle.kilim_program.specs.Names.{◌>>=◌}
use Rattle.kilim_program.specs.declared.names.BoxName.{BoxName}
use Rattle.kilim_run_state.specs.declared.value.Token.{Token}
use Rattle.kilim_run_journal.specs.declared.entry.Act.{Act}
use Rattle.kilim_run_journal.specs.declared.entry.Act.TheVariants as act
use Rattle.kilim_run_journal.specs.declared.entry.Entry.{Entry}
use Rattle.kilim_lemmas.proofs.Lists.{get_left, get_some, set_other, set_there}
use Rattle.kilim_run_board.specs.NewBounds.{IsNowhere}
use Rattle.kilim_run_model.specs.State.{Mailbox, bounded, is_full, same_box, with_mailbox, with_message, with_queue}
use Rattle.kilim_run_model.specs.declared.deed.Deed.{Deed}
use Rattle.kilim_run_model.specs.Course.{Course, plain}
use Rattle.kilim_run_model.specs.Turn.{task_limit}
use Rattle.kilim_run_model.specs.Moving.{Books, books_by, books_empty, books_from, books_put, books_taken, first_books, further, is_tasks, with_deed}
use Rattle.kilim_run_model.specs.declared.deed.Beginning.TheVariants.{Begun}
use Rattle.kilim_new_bounds.specs.Laws.{AcceptedBoundsAreNew}
use Rattle.kilim_new_bounds.proofs.Courses.{ActClean, BeginsClean, Clean, course_clean, its_own, least, not_done, not_known}

some_is : {A : Type 0} (x y : A) → Some x ≡ Some y → x ≡ y
some_is x y e = cc

module _ (b : BoxName) where
  abbrev TakenClean : List Deed → Type 0
  TakenClean ds = AllByRecursion (λ (d : Deed). Clean b d.taken) ds

  abbrev QueueClean : List (ℕ × List Token) → Type 0
  QueueClean q = AllByRecursion (λ (e : ℕ × List Token). Clean b e.1) q

  record CourseClean (c : Course) : Type 0 where
    begins : BeginsClean b c.beginning
    taken : TakenClean c.deeds

  -- what tasks took and began with, and what waits, has the mailbox nowhere
  record BooksClean (x : Books) : Type 0 where
    courses : (t : ℕ) (c : Course) → slice_get x.courses t ≡ Some c → CourseClean c
    queues : (box : BoxName) → QueueClean (x.mailboxes box).queue

  -- ---- one entry

  record Stepped (x : Books) (t : ℕ) (c : Course) (a : Act) (mid : Books) : Type 0 where
    deed : Deed
    act : deed.act ≡ a
    taken : BooksClean x → Clean b deed.taken
    extra : List Course
    courses : mid.courses ≡ slice_set x.courses t (further c deed) ++ extra
    others : ActClean b a → (k : ℕ) (d : Course) → slice_get extra k ≡ Some d → CourseClean d
    queues : BooksClean x → ActClean b a → (box : BoxName) → QueueClean (mid.mailboxes box).queue

  none_extra : (k : ℕ) (d : Course) → slice_get [] k ≡ Some d → CourseClean d
  none_extra k d e = absurd (cc)

  alone : {A : Type 0} (xs : List A) → xs ≡ xs ++ []
  alone [] = refl
  alone (x ∷ xs) = ap (λ ys. x ∷ ys) (alone xs)

  -- the books after it, with one other mailbox
  stepped : (x : Books) (t : ℕ) (c : Course) (a : Act) (d : Deed) (next mid : Books) → d.act ≡ a → (BooksClean x → Clean b d.taken) → next.courses ≡ slice_set x.courses t (further c d) ++ [] → (BooksClean x → ActClean b a → (box : BoxName) → QueueClean (next.mailboxes box).queue) → Some next ≡ Some mid → Stepped x t c a mid
  stepped x t c a d next mid same taken courses queues e =
      let s = some_is next mid e in
      record { deed = d; act = same; taken = taken; extra = []; courses = subst (λ (z : Books). z.courses ≡ slice_set x.courses t (further c d) ++ []) s courses; others = λ own. none_extra; queues = λ clean own. subst (λ (z : Books). (box : BoxName) → QueueClean (z.mailboxes box).queue) s (queues clean own) }

  at_mailbox : (mails : BoxName → Mailbox (List Token)) (box : BoxName) (m : Mailbox (List Token)) → ((o : BoxName) → QueueClean (mails o).queue) → QueueClean m.queue → (o : BoxName) → QueueClean (with_mailbox mails box m o).queue
  at_mailbox mails box m others own o = by (same_box o box)
    where
      by : (z : Bool) → QueueClean (cond z m (mails o)).queue
      by true = own
      by false = others o

  queue_more : (q : List (ℕ × List Token)) (n : ℕ) (shape : List Token) → QueueClean q → Clean b shape → QueueClean (q ++ (n, shape) ∷ [])
  queue_more [] n shape a s = (s, tt)
  queue_more (x ∷ q) n shape a s = (a.0, queue_more q n shape a.1 s)

  put_step : (x : Books) (t : ℕ) (c : Course) (box : BoxName) (n : ℕ) (shape : List Token) (mid : Books) → books_put x t c box n shape ≡ Some mid → Stepped x t c (act.Put box n shape) mid
  put_step x t c box n shape mid e = by (n == (x.mailboxes box).puts && not (is_full (x.mailboxes box))) e
    where
      next : Books
      next = record { courses = with_deed x.courses t c (plain (act.Put box n shape)); mailboxes = with_mailbox x.mailboxes box (with_message (x.mailboxes box) shape) }

      by : (z : Bool) → cond z (Some next) None ≡ Some mid → Stepped x t c (act.Put box n shape) mid
      by true e = stepped x t c (act.Put box n shape) (plain (act.Put box n shape)) next mid refl (λ clean. tt) (alone next.courses) (λ clean a. at_mailbox x.mailboxes box (with_message (x.mailboxes box) shape) clean.queues (queue_more (x.mailboxes box).queue (x.mailboxes box).puts shape (clean.queues box) a.1)) e
      by false e = absurd (cc)

  taken_step : (x : Books) (t : ℕ) (c : Course) (box : BoxName) (n : ℕ) (q : List (ℕ × List Token)) (mid : Books) → (BooksClean x → QueueClean q) → books_taken x t c box n q ≡ Some mid → Stepped x t c (act.Take box n) mid
  taken_step x t c box n [] mid own e = absurd (cc)
  taken_step x t c box n (first ∷ rest) mid own e = by (first.0 == n) e
    where
      next : Books
      next = record { courses = with_deed x.courses t c (record { act = act.Take box n; taken = first.1 }); mailboxes = with_mailbox x.mailboxes box (with_queue (x.mailboxes box) rest) }

      by : (z : Bool) → cond z (Some next) None ≡ Some mid → Stepped x t c (act.Take box n) mid
      by true e = stepped x t c (act.Take box n) (record { act = act.Take box n; taken = first.1 }) next mid refl (λ clean. (own clean).0) (alone next.courses) (λ clean a. at_mailbox x.mailboxes box (with_queue (x.mailboxes box) rest) clean.queues (own clean).1) e
      by false e = absurd (cc)

  empty_step : (x : Books) (t : ℕ) (c : Course) (box : BoxName) (q : List (ℕ × List Token)) (mid : Books) → books_empty x t c box q ≡ Some mid → Stepped x t c (act.Empty box) mid
  empty_step x t c box [] mid e = stepped x t c (act.Empty box) (plain (act.Empty box)) (record x { courses = with_deed x.courses t c (plain (act.Empty box)) }) mid refl (λ clean. tt) (alone (with_deed x.courses t c (plain (act.Empty box)))) (λ clean a. clean.queues) e
  empty_step x t c box (first ∷ rest) mid e = absurd (cc)

  step : (x : Books) (t : ℕ) (c : Course) (a : Act) (mid : Books) → books_by x t c a ≡ Some mid → Stepped x t c a mid
  step x t c (act.Put box n shape) mid e = put_step x t c box n shape mid e
  step x t c (act.Take box n) mid e = taken_step x t c box n (x.mailboxes box).queue mid (λ clean. clean.queues box) e
  step x t c (act.Empty box) mid e = empty_step x t c box (x.mailboxes box).queue mid e
  step x t c (act.Start n shape) mid e = by (n == length x.courses && nat_lt n task_limit) e
    where
      begun : Course
      begun = record { beginning = Begun shape; deeds = [] }

      next : Books
      next = record x { courses = with_deed x.courses t c (plain (act.Start n shape)) ++ begun ∷ [] }

      one : ActClean b (act.Start n shape) → (k : ℕ) (d : Course) → slice_get (begun ∷ []) k ≡ Some d → CourseClean d
      one a zero d e = subst CourseClean (let s : record { beginning = Begun shape; deeds = [] } ≡ d = cc in s) (record { begins = a; taken = tt })
      one a (suc k) d e = absurd (cc)

      by : (z : Bool) → cond z (Some next) None ≡ Some mid → Stepped x t c (act.Start n shape) mid
      by true e =
          let s = some_is next mid e in
          record { deed = plain (act.Start n shape); act = refl; taken = λ clean. tt; extra = begun ∷ []; courses = subst (λ (z : Books). z.courses ≡ slice_set x.courses t (further c (plain (act.Start n shape))) ++ begun ∷ []) s refl; others = one; queues = λ clean a. subst (λ (z : Books). (box : BoxName) → QueueClean (z.mailboxes box).queue) s clean.queues }
      by false e = absurd (cc)
  step x t c (act.Print shape) mid e = stepped x t c (act.Print shape) (plain (act.Print shape)) (record x { courses = with_deed x.courses t c (plain (act.Print shape)) }) mid refl (λ clean. tt) (alone (with_deed x.courses t c (plain (act.Print shape)))) (λ clean a. clean.queues) e
  step x t c (act.End why) mid e = by (is_tasks why && not (length x.courses == task_limit)) e
    where
      next : Books
      next = record x { courses = with_deed x.courses t c (plain (act.End why)) }

      by : (z : Bool) → cond z None (Some next) ≡ Some mid → Stepped x t c (act.End why) mid
      by true e = absurd (cc)
      by false e = stepped x t c (act.End why) (plain (act.End why)) next mid refl (λ clean. tt) (alone next.courses) (λ clean a. clean.queues) e
  step x t c (act.Wait box) mid e = absurd (cc)
  step x t c (act.Bound box n) mid e =
      stepped x t c (act.Bound box n) (plain (act.Bound box n)) (record { courses = with_deed x.courses t c (plain (act.Bound box n)); mailboxes = with_mailbox x.mailboxes box (bounded (x.mailboxes box) n) }) mid refl (λ clean. tt) (alone (with_deed x.courses t c (plain (act.Bound box n))))
      (λ clean a. at_mailbox x.mailboxes box (bounded (x.mailboxes box) n) clean.queues (clean.queues box)) e

  -- ---- courses grow

  record First (x : Books) (e : Entry) (es : List Entry) (last : Books) : Type 0 where
    course : Course
    at : slice_get x.courses e.task ≡ Some course
    mid : Books
    after : books_by x e.task course e.act ≡ Some mid
    rest : books_from mid es ≡ Some last

  first_is : (x : Books) (e : Entry) (es : List Entry) (last : Books) → books_from x (e ∷ es) ≡ Some last → First x e es last
  first_is x e es last s = by (slice_get x.courses e.task) refl s
    where
      by : (o : Option Course) → slice_get x.courses e.task ≡ o → ((o >>= λ (c : Course). books_by x e.task c e.act) >>= λ (mid : Books). books_from mid es) ≡ Some last → First x e es last
      by None at s = absurd (cc)
      by (Some c) at s = by_mid (books_by x e.task c e.act) refl s
        where
          by_mid : (o : Option Books) → books_by x e.task c e.act ≡ o → (o >>= λ (mid : Books). books_from mid es) ≡ Some last → First x e es last
          by_mid None is s = absurd (cc)
          by_mid (Some mid) is s = record { course = c; at = at; mid = mid; after = is; rest = s }

  -- a course that began so and went on by these deeds
  record Grown (c : Course) (last : Books) (t : ℕ) : Type 0 where
    course : Course
    at : slice_get last.courses t ≡ Some course
    begins : course.beginning ≡ c.beginning
    more : List Deed
    deeds : course.deeds ≡ c.deeds ++ more

  there_after : (x : Books) (t : ℕ) (c : Course) (a : Act) (mid : Books) → slice_get x.courses t ≡ Some c → (s : Stepped x t c a mid) → slice_get mid.courses t ≡ Some (further c s.deed)
  there_after x t c a mid at s = ap (λ (cs : List Course). slice_get cs t) s.courses ∙ get_left (slice_set x.courses t (further c s.deed)) s.extra t (further c s.deed) (set_there x.courses t c (further c s.deed) at)

  other_after : (x : Books) (t : ℕ) (c : Course) (a : Act) (mid : Books) → (s : Stepped x t c a mid) → (u : ℕ) (d : Course) → u ≢ t → slice_get x.courses u ≡ Some d → slice_get mid.courses u ≡ Some d
  other_after x t c a mid s u d other at = ap (λ (cs : List Course). slice_get cs u) s.courses ∙ get_left (slice_set x.courses t (further c s.deed)) s.extra u d (set_other x.courses t u (further c s.deed) other ∙ at)

  courses_after : (x : Books) → BooksClean x → (t : ℕ) (c : Course) (a : Act) (mid : Books) → slice_get x.courses t ≡ Some c → (s : Stepped x t c a mid) → ActClean b a → BooksClean mid
  courses_after x clean t c a mid at s own = record { courses = each; queues = s.queues clean own }
    where
      taken_more : (ds : List Deed) (d : Deed) → TakenClean ds → Clean b d.taken → TakenClean (ds ++ d ∷ [])
      taken_more [] d all e = (e, tt)
      taken_more (y ∷ ds) d all e = (all.0, taken_more ds d all.1 e)

      set_length : (xs : List Course) (k : ℕ) (y : Course) → length (slice_set xs k y) ≡ length xs
      set_length [] k y = refl
      set_length (z ∷ xs) zero y = refl
      set_length (z ∷ xs) (suc k) y = ap suc (set_length xs k y)

      one : CourseClean (further c s.deed)
      one = record { begins = (clean.courses t c at).begins; taken = taken_more c.deeds s.deed (clean.courses t c at).taken (s.taken clean) }

      parts : (xs ys : List Course) (k : ℕ) (d : Course) → slice_get (xs ++ ys) k ≡ Some d → (slice_get xs k ≡ Some d) ⊎ ((j : ℕ) × (slice_get ys j ≡ Some d))
      parts [] ys k d e = inr (k, e)
      parts (z ∷ xs) ys zero d e = inl e
      parts (z ∷ xs) ys (suc k) d e = parts xs ys k d e

      kept : (u : ℕ) (d : Course) → slice_get (slice_set x.courses t (further c s.deed)) u ≡ Some d → CourseClean d
      kept u d e = elim (eqb_tells u t) [
        | inl z ↦ subst CourseClean (some_is (further c s.deed) d (sym (set_there x.courses t c (further c s.deed) at) ∙ (ap (slice_get (slice_set x.courses t (further c s.deed))) (sym z.1) ∙ e))) one
        | inr z ↦ clean.courses u d (sym (set_other x.courses t u (further c s.deed) z.1) ∙ e)
      ]

      each : (u : ℕ) (d : Course) → slice_get mid.courses u ≡ Some d → CourseClean d
      each u d e = elim (parts (slice_set x.courses t (further c s.deed)) s.extra u d (sym (ap (λ (cs : List Course). slice_get cs u) s.courses) ∙ e)) [
        | inl z ↦ kept u d z
        | inr z ↦ s.others own z.0 d z.1
      ]

  -- the clean books grow to the last ones
  grown : (es : List Entry) (x last : Books) → books_from x es ≡ Some last → (t : ℕ) (c : Course) → slice_get x.courses t ≡ Some c → Grown c last t
  grown [] x last s t c at = record { course = c; at = ap (λ (z : Books). slice_get z.courses t) (sym (some_is x last s)) ∙ at; begins = refl; more = []; deeds = alone c.deeds }
  grown (e ∷ es) x last s t c at =
      let f = first_is x e es last s in
      by f (eqb t e.task) refl (λ mid u d is there. grown es mid last is u d there)
    where
      by : (f : First x e es last) (z : Bool) → eqb t e.task ≡ z → ((mid : Books) (u : ℕ) (d : Course) → books_from mid es ≡ Some last → slice_get mid.courses u ≡ Some d → Grown d last u) → Grown c last t
      by f true same again =
          let t_is = eqb-true t e.task same in
          let l = step x e.task f.course e.act f.mid f.after in
          let is : f.course ≡ c = some_is f.course c (sym f.at ∙ (ap (slice_get x.courses) (sym t_is) ∙ at)) in
          let g = again f.mid t (further f.course l.deed) f.rest (subst (λ (k : ℕ). slice_get f.mid.courses k ≡ Some (further f.course l.deed)) (sym t_is) (there_after x e.task f.course e.act f.mid f.at l)) in
          record {
            course = g.course;
            at = g.at;
            begins = g.begins ∙ ap (λ (y : Course). y.beginning) is;
            more = l.deed ∷ g.more;
            deeds = g.deeds ∙ (append_assoc f.course.deeds (l.deed ∷ []) g.more ∙ ap (λ (y : Course). y.deeds ++ l.deed ∷ g.more) is);
          }
      by f false other again = again f.mid t c f.rest (other_after x e.task f.course e.act f.mid (step x e.task f.course e.act f.mid f.after) t c (eqb-false t e.task other) at)

  -- ---- the journal

  abbrev Lawful : Course → Type 0
  Lawful c = BeginsClean b c.beginning → (ds : List Deed) (d : Deed) (more : List Deed) → c.deeds ≡ ds ++ d ∷ more → TakenClean ds → Clean b d.taken → ActClean b d.act

  journal_clean : (es : List Entry) (x last : Books) → books_from x es ≡ Some last → BooksClean x → ((t : ℕ) (c : Course) → slice_get last.courses t ≡ Some c → Lawful c) → IsNowhere b es
  journal_clean [] x last s clean law = tt
  journal_clean (e ∷ es) x last s clean law =
      let f = first_is x e es last s in
      let l = step x e.task f.course e.act f.mid f.after in
      let g = grown es f.mid last f.rest e.task (further f.course l.deed) (there_after x e.task f.course e.act f.mid f.at l) in
      let own = clean.courses e.task f.course f.at in
      let done : ActClean b l.deed.act = law e.task g.course g.at (subst (BeginsClean b) (sym g.begins) own.begins) f.course.deeds l.deed g.more (g.deeds ∙ append_assoc f.course.deeds (l.deed ∷ []) g.more) own.taken (l.taken clean) in
      let here : ActClean b e.act = subst (ActClean b) l.act done in
      (not_done b e.act here, journal_clean es f.mid last f.rest (courses_after x clean e.task f.course e.act f.mid f.at l here) law)

  first_clean : BooksClean first_books
  first_clean = record { courses = boot; queues = λ box. tt }
    where
      boot : (t : ℕ) (c : Course) → slice_get first_books.courses t ≡ Some c → CourseClean c
      boot zero c e = subst CourseClean (some_is _ c e) (record { begins = tt; taken = tt })
      boot (suc t) c e = absurd (cc)

within : {A : Type 0} (xs : List A) (k : ℕ) (x : A) → slice_get xs k ≡ Some x → k < length xs
within [] k x e = absurd (cc)
within (y ∷ xs) zero x e = omega arith
within (y ∷ xs) (suc k) x e = let l = within xs k x e in omega (arith, l)

pub accepted_new : AcceptedBoundsAreNew
accepted_new set run journal s replay t c l at is box most after e = by (eqb box.task t) refl
  where
    another : BoxName
    another = record { task = suc t; number = 0 }

    law : box.task ≡ t → (u : ℕ) (d : Course) → slice_get s.books.courses u ≡ Some d → Lawful box d
    law own u d at_u = elim (eqb_tells u t) [
      | inl z ↦ (let same : c ≡ d = some_is c d (sym at ∙ (ap (slice_get s.books.courses) (sym z.1) ∙ at_u)) in
          λ begins ds x more parts taken mine. course_clean set run box t c l is (inr (not_known set run box t c l most after is e)) (subst (λ (y : Course). BeginsClean box y.beginning) (sym same) begins) ds x more (ap (λ (y : Course). y.deeds) same ∙ parts) taken mine)
      | inr z ↦ (let w = within s.books.courses u d at_u in
          let n = replay.each in
          let lone = get_some s.lones u (omega (arith, w, n)) in
          λ begins ds x more parts taken mine. course_clean set run box u d lone.0 (replay.lones u d lone.0 at_u lone.1) (inl (λ q. z.1 (sym q ∙ own))) begins ds x more parts taken mine)
    ]

    by : (z : Bool) → eqb box.task t ≡ z → IsNowhere box journal × (1 ≤ most)
    by true same = (journal_clean box journal first_books s.books replay.books (first_clean box) (law (eqb-true box.task t same)), least set run another t c l box most after (λ q. omega (arith, q)) is e)
    by false other = absurd (its_own set run box t c l most after is e (eqb-false box.task t other))
