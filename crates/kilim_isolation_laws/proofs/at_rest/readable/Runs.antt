-- Each entry of a replayed journal is a deed of a course.
use Rattle.std.proofs.Common.{◌≡◌, ◌≢◌, ℕ, zero, suc, ◌<◌, Bool, true, false, cond, eqb, List, [], ◌∷◌, ◌++◌, length, Option, Some, None, refl, sym, ap, subst, ◌∙◌, arith, append_assoc}
use Rattle.std.specs.Prelude.{◌&&◌, not, nat_lt, slice_get, slice_set, ◌==◌}
use Rattle.std.specs.List.{AllByRecursion}
use Rattle.std.proofs.lemmas.Bool.{eqb-true, eqb-false}
use Rattle.std.proofs.lemmas.List.{append-nil}
use Rattle.kilim_program.specs.Names.{◌>>=◌}
use Rattle.kilim_program.specs.declared.names.BoxName.{BoxName}
use Rattle.kilim_run_state.specs.declared.value.Token.{Token}
use Rattle.kilim_run_journal.specs.declared.entry.Act.{Act}
use Rattle.kilim_run_journal.specs.declared.entry.Act.TheVariants as act
use Rattle.kilim_run_journal.specs.declared.entry.Entry.{Entry}
use Rattle.kilim_run_journal.specs.Readable.{IsReadable, is_readable_act}
use Rattle.kilim_lemmas.proofs.Lists.{get_left, get_some, set_other, set_there}
use Rattle.kilim_run_model.specs.State.{Setting, bounded, is_full, with_mailbox, with_message, with_queue}
use Rattle.kilim_run_model.specs.declared.deed.Deed.{Deed}
use Rattle.kilim_run_model.specs.Course.{Course, IsLone, has_ended, plain}
use Rattle.kilim_run_model.specs.Lone.{Lone}
use Rattle.kilim_run_model.specs.Runs.{wait_entry}
use Rattle.kilim_run_model.specs.Turn.{task_limit}
use Rattle.kilim_run_model.specs.Moving.{Books, Moving, MovedAtRest, MovedReplay, books_after, books_by, books_empty, books_from, books_put, books_taken, first_books, further, is_tasks, waits_at, waits_from, with_deed}
use Rattle.kilim_run_model.specs.declared.deed.Beginning.TheVariants.{Begun}
use Rattle.kilim_isolation_laws.specs.at_rest.readable.Laws.{EntriesAreReadable, RunsAreReadable}
use Rattle.kilim_isolation_laws.proofs.at_rest.readable.Deeds.{IsReadableDeed, course_read}

-- the books after an entry: its task's course is one deed longer, and there may be new courses
record Longer (b : Books) (t : ℕ) (c : Course) (a : Act) (mid : Books) : Type 0 where
  deed : Deed
  act : deed.act ≡ a
  extra : List Course
  courses : mid.courses ≡ slice_set b.courses t (further c deed) ++ extra

some_books : (x y : Books) → Some x ≡ Some y → x ≡ y
some_books x y e = cc

longer : (b : Books) (t : ℕ) (c : Course) (a : Act) (d : Deed) (extra : List Course) (x mid : Books) → d.act ≡ a → x.courses ≡ slice_set b.courses t (further c d) ++ extra → Some x ≡ Some mid → Longer b t c a mid
longer b t c a d extra x mid s cs e = record { deed = d; act = s; extra = extra; courses = ap (λ (y : Books). y.courses) (sym (some_books x mid e)) ∙ cs }

alone : (cs : List Course) → cs ≡ cs ++ []
alone cs = sym (append-nil cs)

put_longer : (b : Books) (t : ℕ) (c : Course) (box : BoxName) (n : ℕ) (shape : List Token) (mid : Books) → books_put b t c box n shape ≡ Some mid → Longer b t c (act.Put box n shape) mid
put_longer b t c box n shape mid e = by (n == (b.mailboxes box).puts && not (is_full (b.mailboxes box))) e
  where
    next : Books
    next = record { courses = with_deed b.courses t c (plain (act.Put box n shape)); mailboxes = with_mailbox b.mailboxes box (with_message (b.mailboxes box) shape) }

    by : (z : Bool) → cond z (Some next) None ≡ Some mid → Longer b t c (act.Put box n shape) mid
    by true e = longer b t c (act.Put box n shape) (plain (act.Put box n shape)) [] next mid refl (alone next.courses) e
    by false e = absurd (cc)

taken_longer : (b : Books) (t : ℕ) (c : Course) (box : BoxName) (n : ℕ) (queue : List (ℕ × List Token)) (mid : Books) → books_taken b t c box n queue ≡ Some mid → Longer b t c (act.Take box n) mid
taken_longer b t c box n [] mid e = absurd (cc)
taken_longer b t c box n (first ∷ rest) mid e = by (first.0 == n) e
  where
    next : Books
    next = record { courses = with_deed b.courses t c (record { act = act.Take box n; taken = first.1 }); mailboxes = with_mailbox b.mailboxes box (with_queue (b.mailboxes box) rest) }

    by : (z : Bool) → cond z (Some next) None ≡ Some mid → Longer b t c (act.Take box n) mid
    by true e = longer b t c (act.Take box n) (record { act = act.Take box n; taken = first.1 }) [] next mid refl (alone next.courses) e
    by false e = absurd (cc)

empty_longer : (b : Books) (t : ℕ) (c : Course) (box : BoxName) (queue : List (ℕ × List Token)) (mid : Books) → books_empty b t c box queue ≡ Some mid → Longer b t c (act.Empty box) mid
empty_longer b t c box [] mid e = longer b t c (act.Empty box) (plain (act.Empty box)) [] (record b { courses = with_deed b.courses t c (plain (act.Empty box)) }) mid refl (alone (with_deed b.courses t c (plain (act.Empty box)))) e
empty_longer b t c box (first ∷ rest) mid e = absurd (cc)

by_longer : (b : Books) (t : ℕ) (c : Course) (a : Act) (mid : Books) → books_by b t c a ≡ Some mid → Longer b t c a mid
by_longer b t c (act.Put box n shape) mid e = put_longer b t c box n shape mid e
by_longer b t c (act.Take box n) mid e = taken_longer b t c box n (b.mailboxes box).queue mid e
by_longer b t c (act.Empty box) mid e = empty_longer b t c box (b.mailboxes box).queue mid e
by_longer b t c (act.Start n shape) mid e = by (n == length b.courses && nat_lt n task_limit) e
  where
    next : Books
    next = record b { courses = with_deed b.courses t c (plain (act.Start n shape)) ++ record { beginning = Begun shape; deeds = [] } ∷ [] }

    by : (z : Bool) → cond z (Some next) None ≡ Some mid → Longer b t c (act.Start n shape) mid
    by true e = longer b t c (act.Start n shape) (plain (act.Start n shape)) (record { beginning = Begun shape; deeds = [] } ∷ []) next mid refl refl e
    by false e = absurd (cc)
by_longer b t c (act.Print shape) mid e = longer b t c (act.Print shape) (plain (act.Print shape)) [] (record b { courses = with_deed b.courses t c (plain (act.Print shape)) }) mid refl (alone (with_deed b.courses t c (plain (act.Print shape)))) e
by_longer b t c (act.End why) mid e = by (is_tasks why && not (length b.courses == task_limit)) e
  where
    next : Books
    next = record b { courses = with_deed b.courses t c (plain (act.End why)) }

    by : (z : Bool) → cond z None (Some next) ≡ Some mid → Longer b t c (act.End why) mid
    by true e = absurd (cc)
    by false e = longer b t c (act.End why) (plain (act.End why)) [] next mid refl (alone next.courses) e
by_longer b t c (act.Wait box) mid e = absurd (cc)
by_longer b t c (act.Bound box n) mid e = longer b t c (act.Bound box n) (plain (act.Bound box n)) [] next mid refl (alone next.courses) e
  where
    next : Books
    next = record { courses = with_deed b.courses t c (plain (act.Bound box n)); mailboxes = with_mailbox b.mailboxes box (bounded (b.mailboxes box) n) }

-- ---- courses grow

abbrev AllRead : Books → Type 0
AllRead b = (t : ℕ) (c : Course) → slice_get b.courses t ≡ Some c → AllByRecursion IsReadableDeed c.deeds

front_read : (ds es : List Deed) → AllByRecursion IsReadableDeed (ds ++ es) → AllByRecursion IsReadableDeed ds
front_read [] es a = tt
front_read (d ∷ ds) es a = (a.0, front_read ds es a.1)

last_read : (ds : List Deed) (d : Deed) → AllByRecursion IsReadableDeed (ds ++ d ∷ []) → IsReadableDeed d
last_read [] d a = a.0
last_read (x ∷ ds) d a = last_read ds d a.1

some_course : (x y : Course) → Some x ≡ Some y → x ≡ y
some_course x y e = cc

there_after : (b : Books) (t : ℕ) (c : Course) (a : Act) (mid : Books) → slice_get b.courses t ≡ Some c → (l : Longer b t c a mid) → slice_get mid.courses t ≡ Some (further c l.deed)
there_after b t c a mid at l =
    ap (λ (cs : List Course). slice_get cs t) l.courses ∙ get_left (slice_set b.courses t (further c l.deed)) l.extra t (further c l.deed) (set_there b.courses t c (further c l.deed) at)

-- what can be read later could be read before
read_before : (b : Books) (t : ℕ) (c : Course) (a : Act) (mid : Books) → slice_get b.courses t ≡ Some c → Longer b t c a mid → AllRead mid → AllRead b
read_before b t c a mid at l all u x there = by (t == u) refl
  where
    by : (z : Bool) → (t == u) ≡ z → AllByRecursion IsReadableDeed x.deeds
    by true e =
        let same = some_course c x (sym at ∙ (ap (λ (k : ℕ). slice_get b.courses k) (eqb-true t u e) ∙ there)) in
        subst (λ (y : Course). AllByRecursion IsReadableDeed y.deeds) same (front_read c.deeds (l.deed ∷ []) (all t (further c l.deed) (there_after b t c a mid at l)))
    by false e =
        let other : u ≢ t = λ s. eqb-false t u e (sym s) in
        all u x (ap (λ (cs : List Course). slice_get cs u) l.courses ∙ get_left (slice_set b.courses t (further c l.deed)) l.extra u x (set_other b.courses t u (further c l.deed) other ∙ there))

record After (b : Books) (e : Entry) (mid : Books) : Type 0 where
  course : Course
  at : slice_get b.courses e.task ≡ Some course
  longer : Longer b e.task course e.act mid

after_is : (b : Books) (e : Entry) (mid : Books) → books_after b e ≡ Some mid → After b e mid
after_is b e mid s = by (slice_get b.courses e.task) refl s
  where
    by : (o : Option Course) → slice_get b.courses e.task ≡ o → (o >>= λ (c : Course). books_by b e.task c e.act) ≡ Some mid → After b e mid
    by None at s = absurd (cc)
    by (Some c) at s = record { course = c; at = at; longer = by_longer b e.task c e.act mid s }

record First (b : Books) (e : Entry) (es : List Entry) (last : Books) : Type 0 where
  mid : Books
  after : books_after b e ≡ Some mid
  rest : books_from mid es ≡ Some last

first_is : (b : Books) (e : Entry) (es : List Entry) (last : Books) → books_from b (e ∷ es) ≡ Some last → First b e es last
first_is b e es last s = by (books_after b e) refl s
  where
    by : (o : Option Books) → books_after b e ≡ o → (o >>= λ (mid : Books). books_from mid es) ≡ Some last → First b e es last
    by None at s = absurd (cc)
    by (Some mid) at s = record { mid = mid; after = at; rest = s }

books_read : (es : List Entry) (b last : Books) → books_from b es ≡ Some last → AllRead last → IsReadable es × AllRead b
books_read [] b last s all = let e : b ≡ last = some_books b last s in (tt, subst AllRead (sym e) all)
books_read (e ∷ es) b last s all =
    let f = first_is b e es last s in
    let r = books_read es f.mid last f.rest all in
    let a = after_is b e f.mid f.after in
    let here = last_read a.course.deeds a.longer.deed (r.1 e.task (further a.course a.longer.deed) (there_after b e.task a.course e.act f.mid a.at a.longer)) in
    ((ap is_readable_act (sym a.longer.act) ∙ here, r.0), read_before b e.task a.course e.act f.mid a.at a.longer r.1)

-- ---- who waits

wait_read : (t : ℕ) (o : Option BoxName) → IsReadable (wait_entry t o)
wait_read t None = tt
wait_read t (Some box) = (refl, tt)

both_read : (es fs : List Entry) → IsReadable es → IsReadable fs → IsReadable (es ++ fs)
both_read [] fs a b = b
both_read (e ∷ es) fs a b = (a.0, both_read es fs a.1 b)

waits_read : (set : Setting) (b : Books) (t : ℕ) (cs : List Course) (ls : List Lone) → IsReadable (waits_from set b t cs ls)
waits_read set b t [] [] = tt
waits_read set b t [] (l ∷ ls) = tt
waits_read set b t (c ∷ cs) [] = tt
waits_read set b t (c ∷ cs) (l ∷ ls) = both_read (wait_entry t (cond (has_ended c) None (waits_at set b t l))) (waits_from set b (suc t) cs ls) (wait_read t (cond (has_ended c) None (waits_at set b t l))) (waits_read set b (suc t) cs ls)

within : {A : Type 0} (xs : List A) (k : ℕ) (x : A) → slice_get xs k ≡ Some x → k < length xs
within [] k x e = absurd (cc)
within (y ∷ xs) zero x e = omega arith
within (y ∷ xs) (suc k) x e = let l = within xs k x e in omega (arith, l)

pub entries_readable : EntriesAreReadable
entries_readable set es v replay = (books_read es first_books v.books replay.books all).0
  where
    all : AllRead v.books
    all t c at =
        let w = within v.books.courses t c at in
        let n = replay.each in
        let l = get_some v.lones t (omega (arith, w, n)) in
        course_read set t c l.0 (replay.lones t c l.0 at l.1)

pub runs_readable : RunsAreReadable
runs_readable set es waits v replay rest =
    both_read es waits (entries_readable set es v replay) (subst (λ (ws : List Entry). IsReadable ws) (sym rest.waiting) (waits_read set v.books 0 v.books.courses v.lones))
