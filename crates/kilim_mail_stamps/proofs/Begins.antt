-- The beginning of a merged run: what the definitions say of all entries, as the steps use it.
use Rattle.std.proofs.Common.{◌≡◌, ◌≢◌, ℕ, zero, suc, ◌+◌, ◌<◌, ◌≤◌, Bool, true, false, ◌==◌, cond, List, [], ◌∷◌, Option, Some, None, refl, sym, ap, subst, ◌∙◌, arith}
use Rattle.std.specs.Prelude.{◌&&◌, not, if◌then◌else◌, length, slice_get, filter}
use Rattle.std.proofs.lemmas.Bool.Decides.{nat_tests}
use Rattle.kilim_program.specs.declared.names.BoxName.{BoxName}
use Rattle.kilim_run_state.specs.declared.value.Token.{Token}
use Rattle.kilim_run_state.specs.declared.cause.EndCause.{EndCause}
use Rattle.kilim_run_journal.specs.declared.entry.Act.{Act}
use Rattle.kilim_run_journal.specs.declared.entry.Act.TheVariants.{Put, Take, Empty, Start, Print, End, Wait, Bound}
use Rattle.kilim_run_journal.specs.declared.entry.Entry.{Entry}
use Rattle.kilim_run_model.specs.State.{Setting, Mailbox, empty_mailbox, with_message, with_queue, with_mailbox, bounded, is_full, same_box}
use Rattle.kilim_run_model.specs.Course.{Course}
use Rattle.kilim_run_model.specs.declared.deed.Beginning.TheVariants.{Boot, Begun}
use Rattle.kilim_run_model.specs.Moving.{Moving, MovedReplay, first_books}
use Rattle.kilim_mail_stamps.specs.declared.stamped.Stamped.{Stamped}
use Rattle.kilim_mail_stamps.specs.Stamps.{joined, entries_of, Merged, is_of, box_in, is_that, is_on, mail_put, mail_taken, mail_empty, mail_after, MailFrom, Birth, born_by, starts_in, births_in, put_shape, shape_put, course_in, TellsAll, StampedRun, MergedReplays}
use Rattle.kilim_mail_stamps.proofs.Order.{in_order_ordered, kept, passed}
use Rattle.kilim_mail_stamps.specs.Leading.{RunsTo}
use Rattle.kilim_mail_stamps.specs.Leading as led
use Rattle.kilim_lemmas.proofs.Lists.{get_some}
use Rattle.kilim_mail_stamps.proofs.Steps.{some_is, both_true, same_name, same_self, LeadsBy, Leads, Going, KnownPut, KnownPuts, replays}

-- ---- the shape under a number is the one that was put

-- by an act the count grows, or stays
count_put : (m next : Mailbox (List Token)) (n : ℕ) (shape : List Token) → mail_put m n shape ≡ Some next → (n ≡ m.puts) × (next.puts ≡ suc m.puts)
count_put m next n shape e = by (n == m.puts && not (is_full m)) refl
  where
    by : (x : Bool) → (n == m.puts && not (is_full m)) ≡ x → (n ≡ m.puts) × (next.puts ≡ suc m.puts)
    by true is =
        let front : (n == m.puts) ≡ true = (both_true (n == m.puts) (not (is_full m)) is).0 in
        let f : Some (with_message m shape) ≡ Some next = sym (ap (λ (x : Bool). if x then Some (with_message m shape) else None) is) ∙ e in
        let g : with_message m shape ≡ next = some_is _ next f in
        let h : m.puts + 1 ≡ next.puts = ap (λ (x : Mailbox (List Token)). x.puts) g in
        ((grind (arith, nat_tests)), omega arith)
    by false is = absurd (let f : None ≡ Some next = sym (ap (λ (x : Bool). if x then Some (with_message m shape) else None) is) ∙ e in cc)

count_taken : (m next : Mailbox (List Token)) (n : ℕ) (qs : List (ℕ × List Token)) → mail_taken m n qs ≡ Some next → next.puts ≡ m.puts
count_taken m next n [] e = absurd (cc)
count_taken m next n (q ∷ qs) e = by (q.0 == n) refl
  where
    by : (x : Bool) → (q.0 == n) ≡ x → next.puts ≡ m.puts
    by true is = let f : Some (with_queue m qs) ≡ Some next = sym (ap (λ (x : Bool). if x then Some (with_queue m qs) else None) is) ∙ e in sym (ap (λ (x : Mailbox (List Token)). x.puts) (some_is _ next f))
    by false is = absurd (let f : None ≡ Some next = sym (ap (λ (x : Bool). if x then Some (with_queue m qs) else None) is) ∙ e in cc)

count_empty : (m next : Mailbox (List Token)) (qs : List (ℕ × List Token)) → mail_empty m qs ≡ Some next → next.puts ≡ m.puts
count_empty m next [] e = sym (ap (λ (x : Mailbox (List Token)). x.puts) (some_is _ next e))
count_empty m next (q ∷ qs) e = absurd (cc)

count_end : (m next : Mailbox (List Token)) (b : Bool) → (if b then Some m else None) ≡ Some next → next.puts ≡ m.puts
count_end m next true e = sym (ap (λ (x : Mailbox (List Token)). x.puts) (some_is m next e))
count_end m next false e = absurd (cc)

count_bound : (m next : Mailbox (List Token)) (n : ℕ) → Some (bounded m n) ≡ Some next → next.puts ≡ m.puts
count_bound m next n e = sym (ap (λ (x : Mailbox (List Token)). x.puts) (some_is (bounded m n) next e))

module _ (all : List Stamped) where
  -- what is left of the entries, with the mailboxes then: later numbers stand in it as among all
  pub record Left (ms : BoxName → Mailbox (List Token)) (ss : List Stamped) : Type 0 where
    pub boxes : (box : BoxName) → MailFrom (ms box) (filter (is_on box) ss)
    pub shapes : (box : BoxName) (n : ℕ) → (ms box).puts ≤ n → shape_put box n all ≡ shape_put box n ss

  module _ (ms : BoxName → Mailbox (List Token)) (s : ℕ) (full : Option BoxName) (t : ℕ) (act : Act) (ss : List Stamped) (left : Left ms (record { stamp = s; full = full; entry = record { task = t; act = act } } ∷ ss)) where
    -- an act that puts nothing, and names no mailbox
    left_past : ((box : BoxName) → is_that box (box_in full act) ≡ false) → ((box : BoxName) (n : ℕ) (later : List Token) → put_shape box n act later ≡ later) → Left ms ss
    left_past none nothing = record {
      boxes = λ box. subst (λ (es : List Stamped). MailFrom (ms box) es) (passed (is_on box) (record { stamp = s; full = full; entry = record { task = t; act = act } }) ss (none box)) (left.boxes box);
      shapes = λ box n le. left.shapes box n le ∙ nothing box n (shape_put box n ss);
    }

    module _ (box : BoxName) (on : (x : BoxName) → is_that x (box_in full act) ≡ same_box x box) where
      at : (m : Mailbox (List Token)) × (mail_after (ms box) act ≡ Some m) × MailFrom m (filter (is_on box) ss)
      at = subst (λ (es : List Stamped). MailFrom (ms box) es) (kept (is_on box) (record { stamp = s; full = full; entry = record { task = t; act = act } }) ss (on box ∙ same_self box)) (left.boxes box)

      left_on : ((n : ℕ) → at.0.puts ≤ n → shape_put box n all ≡ shape_put box n ss) → ((x : BoxName) → same_box x box ≡ false → (n : ℕ) (later : List Token) → put_shape x n act later ≡ later) →
          Left (with_mailbox ms box at.0) ss
      left_on here there = record { boxes = boxes; shapes = shapes }
        where
          boxes : (x : BoxName) → MailFrom (with_mailbox ms box at.0 x) (filter (is_on x) ss)
          boxes x = by (same_box x box) refl
            where
              by : (y : Bool) → same_box x box ≡ y → MailFrom (if same_box x box then at.0 else ms x) (filter (is_on x) ss)
              by true e = subst (λ (y : Bool). MailFrom (if y then at.0 else ms x) (filter (is_on x) ss)) (sym e) (subst (λ (z : BoxName). MailFrom at.0 (filter (is_on z) ss)) (sym (same_name x box e)) at.2)
              by false e = subst (λ (y : Bool). MailFrom (if y then at.0 else ms x) (filter (is_on x) ss)) (sym e)
                  (subst (λ (es : List Stamped). MailFrom (ms x) es) (passed (is_on x) (record { stamp = s; full = full; entry = record { task = t; act = act } }) ss (on x ∙ e)) (left.boxes x))

          shapes : (x : BoxName) (n : ℕ) → (with_mailbox ms box at.0 x).puts ≤ n → shape_put x n all ≡ shape_put x n ss
          shapes x n = by (same_box x box) refl
            where
              by : (y : Bool) → same_box x box ≡ y → (if same_box x box then at.0 else ms x).puts ≤ n → shape_put x n all ≡ shape_put x n ss
              by true e le = subst (λ (z : BoxName). shape_put z n all ≡ shape_put z n ss) (sym (same_name x box e)) (here n (subst (λ (y : Bool). (if y then at.0 else ms x).puts ≤ n) e le))
              by false e le = left.shapes x n (subst (λ (y : Bool). (if y then at.0 else ms x).puts ≤ n) e le) ∙ there x e n (shape_put x n ss)

  pub known_puts : (ms : BoxName → Mailbox (List Token)) (ss : List Stamped) → Left ms ss → KnownPuts all ss
  known_puts ms [] left = tt
  known_puts ms (x ∷ ss) left = by x.entry.act left (λ ns l. known_puts ns ss l)
    where
      end_by : (why : EndCause) → Left ms (record { stamp = x.stamp; full = x.full; entry = record { task = x.entry.task; act = End why } } ∷ ss) → ((ns : BoxName → Mailbox (List Token)) → Left ns ss → KnownPuts all ss) →
          (o : Option BoxName) → box_in x.full (End why) ≡ o → KnownPuts all ss
      end_by why l later None e = later ms (left_past ms x.stamp x.full x.entry.task (End why) ss l (λ box. ap (is_that box) e) (λ box k ls. refl))
      end_by why l later (Some box) e =
          let m = at ms x.stamp x.full x.entry.task (End why) ss l box (λ y. ap (is_that y) e) in
          let k : m.0.puts ≡ (ms box).puts = count_end (ms box) m.0 (is_full (ms box)) m.1 in
          later (with_mailbox ms box m.0) (left_on ms x.stamp x.full x.entry.task (End why) ss l box (λ y. ap (is_that y) e) (λ j le. l.shapes box j (omega arith)) (λ y isnt j later. refl))

      by : (act : Act) → Left ms (record { stamp = x.stamp; full = x.full; entry = record { task = x.entry.task; act = act } } ∷ ss) → ((ns : BoxName → Mailbox (List Token)) → Left ns ss → KnownPuts all ss) →
          KnownPut all act × KnownPuts all ss
      by (Put box n shape) l later =
          let m = at ms x.stamp x.full x.entry.task (Put box n shape) ss l box (λ y. refl) in
          let k = count_put (ms box) m.0 n shape m.1 in
          let same : n ≡ (ms box).puts = k.0 in
          let grown : m.0.puts ≡ suc (ms box).puts = k.1 in
          let self : (n == n) ≡ true = grind (arith, nat_tests) in
          let shown : shape_put box n all ≡ shape =
          l.shapes box n (omega arith)
          ∙ (ap (λ (y : Bool). if y && n == n then shape else shape_put box n ss) (same_self box) ∙ ap (λ (y : Bool). if y then shape else shape_put box n ss) self) in (
            shown,
            later (with_mailbox ms box m.0) (left_on ms x.stamp x.full x.entry.task (Put box n shape) ss l box (λ y. refl)
                (λ j le.
                let differs : (j == n) ≡ false = grind (arith, nat_tests) in
                l.shapes box j (omega arith)
                ∙ (ap (λ (y : Bool). if y && j == n then shape else shape_put box j ss) (same_self box) ∙ ap (λ (y : Bool). if y then shape else shape_put box j ss) differs))
                (λ y isnt j later. ap (λ (z : Bool). if z && j == n then shape else later) isnt)),
          )
      by (Take box n) l later =
          let m = at ms x.stamp x.full x.entry.task (Take box n) ss l box (λ y. refl) in
          let k : m.0.puts ≡ (ms box).puts = count_taken (ms box) m.0 n (ms box).queue m.1 in
          (tt, later (with_mailbox ms box m.0) (left_on ms x.stamp x.full x.entry.task (Take box n) ss l box (λ y. refl) (λ j le. l.shapes box j (omega arith)) (λ y isnt j later. refl)))
      by (Empty box) l later =
          let m = at ms x.stamp x.full x.entry.task (Empty box) ss l box (λ y. refl) in
          let k : m.0.puts ≡ (ms box).puts = count_empty (ms box) m.0 (ms box).queue m.1 in
          (tt, later (with_mailbox ms box m.0) (left_on ms x.stamp x.full x.entry.task (Empty box) ss l box (λ y. refl) (λ j le. l.shapes box j (omega arith)) (λ y isnt j later. refl)))
      by (Start n shape) l later = (tt, later ms (left_past ms x.stamp x.full x.entry.task (Start n shape) ss l (λ box. refl) (λ box k ls. refl)))
      by (Print shape) l later = (tt, later ms (left_past ms x.stamp x.full x.entry.task (Print shape) ss l (λ box. refl) (λ box k ls. refl)))
      by (End why) l later = (tt, end_by why l later (box_in x.full (End why)) refl)
      by (Wait box) l later = (tt, later ms (left_past ms x.stamp x.full x.entry.task (Wait box) ss l (λ b. refl) (λ b k ls. refl)))
      by (Bound box n) l later =
          let m = at ms x.stamp x.full x.entry.task (Bound box n) ss l box (λ y. refl) in
          let k : m.0.puts ≡ (ms box).puts = count_bound (ms box) m.0 n m.1 in
          (tt, later (with_mailbox ms box m.0) (left_on ms x.stamp x.full x.entry.task (Bound box n) ss l box (λ y. refl) (λ j le. l.shapes box j (omega arith)) (λ y isnt j later. refl)))

-- ---- starts have stamps

stamped_by : (stamp : ℕ) (act : Act) (later : List Birth) (i : ℕ) (b : Birth) → ((k : ℕ) → slice_get later k ≡ Some b → (n : ℕ) × (b.stamp ≡ Some n)) → slice_get (born_by stamp act later) i ≡ Some b → (n : ℕ) × (b.stamp ≡ Some n)
stamped_by stamp (Start k shape) later zero b rec is = (stamp, ap (λ (x : Birth). x.stamp) (sym (some_is (record { stamp = Some stamp; beginning = Begun shape }) b is)))
stamped_by stamp (Start k shape) later (suc i) b rec is = rec i is
stamped_by stamp (Put x k shape) later i b rec is = rec i is
stamped_by stamp (Take x k) later i b rec is = rec i is
stamped_by stamp (Empty x) later i b rec is = rec i is
stamped_by stamp (Print shape) later i b rec is = rec i is
stamped_by stamp (End why) later i b rec is = rec i is
stamped_by stamp (Wait x) later i b rec is = rec i is
stamped_by stamp (Bound x k) later i b rec is = rec i is

pub starts_stamped : (xs : List Stamped) (i : ℕ) (b : Birth) → slice_get (starts_in xs) i ≡ Some b → (n : ℕ) × (b.stamp ≡ Some n)
starts_stamped [] i b is = absurd (cc)
starts_stamped (x ∷ xs) i b is = stamped_by x.stamp x.entry.act (starts_in xs) i b (λ k e. starts_stamped xs k b e) is

-- ---- the theorem

-- the mailbox at the end of a run
run_end : (m : Mailbox (List Token)) (es : List Stamped) → MailFrom m es → (last : Mailbox (List Token)) × RunsTo m es last
run_end m [] run = (m, refl)
run_end m (s ∷ es) (next, is, run) = let r = run_end next es run in (r.0, (next, is, r.1))

-- the course at the end of the task of that number
birth_or : Option Birth → Birth
birth_or None = record { stamp = None; beginning = Boot }
birth_or (Some b) = b

fin_course : List Stamped → ℕ → Course
fin_course all t = course_in all t (birth_or (slice_get (births_in all) t))

fin_is : (all : List Stamped) (t : ℕ) (b : Birth) → slice_get (births_in all) t ≡ Some b → course_in all t b ≡ fin_course all t
unfolding fin_course birth_or
fin_is all t b is = ap (λ (o : Option Birth). course_in all t (birth_or o)) (sym is)

pub got_within : {A : Type 0} (xs : List A) (k : ℕ) (x : A) → slice_get xs k ≡ Some x → k < length xs
got_within [] k x e = absurd (cc)
got_within (z ∷ zs) zero x e = omega arith
got_within (z ∷ zs) (suc k) x e = let h = got_within zs k x e in omega arith

module _ (set : Setting) (parts : List (List Stamped)) (run : StampedRun set parts) where
  at_births : (i t : ℕ) (o : Option Birth) → t ≡ 1 + i → slice_get (starts_in (entries_of parts)) i ≡ o → slice_get (births_in (entries_of parts)) t ≡ o
  at_births i t o e is = let f : t ≡ suc i = omega arith in ap (slice_get (births_in (entries_of parts))) f ∙ is

  last_box : BoxName → Mailbox (List Token)
  last_box box = (run_end empty_mailbox (filter (is_on box) (entries_of parts)) (run.boxes box)).0

  leads : (t : ℕ) (b : Birth) → slice_get (births_in (entries_of parts)) t ≡ Some b → LeadsBy set (entries_of parts) (fin_course (entries_of parts)) last_box (length (births_in (entries_of parts))) t (course_in (entries_of parts) t b)
  leads t b is = let l = run.lones t b is in (l.0, l.1, fin_is (entries_of parts) t b is)

  begins : Going set (entries_of parts) (fin_course (entries_of parts)) last_box (length (births_in (entries_of parts))) first_books (entries_of parts)
  unfolding last_box
  begins = record {
    ordered = in_order_ordered (joined parts);
    boxes = λ box. (run_end empty_mailbox (filter (is_on box) (entries_of parts)) (run.boxes box)).1;
    known = λ box. tt;
    puts = known_puts (entries_of parts) (λ box. empty_mailbox) (entries_of parts) (record { boxes = run.boxes; shapes = λ box n le. refl });
    register = run.register;
    many = (let e : 1 + length (starts_in (entries_of parts)) ≡ suc (length (starts_in (entries_of parts))) = omega arith in e);
    born = born;
    unborn = λ i t x e is. (leads t x (at_births i t (Some x) e is), run.later t x (at_births i t (Some x) e is), starts_stamped (entries_of parts) i x is);
    told = told;
    tells = λ i t x e is. run.told t x (at_births i t (Some x) e is);
    others = λ i t e is. run.started t (at_births i t None e is);
  }
    where
      told : (t : ℕ) (c : Course) → slice_get first_books.courses t ≡ Some c → TellsAll set (entries_of parts) t c (filter (is_of t) (entries_of parts))
      told zero c is = subst (λ (x : Course). TellsAll set (entries_of parts) 0 x (filter (is_of 0) (entries_of parts))) (some_is (record { beginning = Boot; deeds = [] }) c is) (run.told 0 (record { stamp = None; beginning = Boot }) refl)
      told (suc t) c is = absurd (cc)

      born : (t : ℕ) (c : Course) → slice_get first_books.courses t ≡ Some c → Leads set (entries_of parts) (fin_course (entries_of parts)) last_box (length (births_in (entries_of parts))) t c (entries_of parts)
      born zero c is = subst (λ (x : Course). Leads set (entries_of parts) (fin_course (entries_of parts)) last_box (length (births_in (entries_of parts))) 0 x (entries_of parts)) (some_is (record { beginning = Boot; deeds = [] }) c is) (leads 0 (record { stamp = None; beginning = Boot }) refl)
      born (suc t) c is = absurd (cc)

  pub leading : (journal : List Entry) → Merged journal parts → led.Leads set parts journal
  unfolding last_box
  leading journal merged =
      let r = replays set (entries_of parts) (fin_course (entries_of parts)) last_box (length (births_in (entries_of parts))) journal merged begins in
      record {
        state = r.state;
        replay = r.replay;
        tasks = r.many;
        courses = λ t b is.
            let w = got_within (births_in (entries_of parts)) t b is in
            let m = r.many in
            let c = get_some r.state.books.courses t (omega arith) in
            c.1 ∙ ap Some (r.courses t c.0 c.1 ∙ sym (fin_is (entries_of parts) t b is));
        mailboxes = λ box. subst (λ (m : Mailbox (List Token)). RunsTo empty_mailbox (filter (is_on box) (entries_of parts)) m) (sym (r.mailboxes box)) (run_end empty_mailbox (filter (is_on box) (entries_of parts)) (run.boxes box)).1;
      }

pub merged_leads : led.MergedLeads
merged_leads set parts journal run merged = leading set parts run journal merged

pub merged_replays : MergedReplays
merged_replays set parts journal run merged = let l = leading set parts run journal merged in (l.state, l.replay)
