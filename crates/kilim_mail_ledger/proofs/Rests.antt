-- At the close nothing is left to do.
use Rattle.std.proofs.Common.{◌≡◌, ℕ, zero, suc, ◌+◌, ◌<◌, Bool, true, false, ◌==◌, List, [], ◌∷◌, ◌++◌, Option, Some, None, refl, sym, ap, subst, ◌∙◌, arith}
use Rattle.std.specs.Prelude.{◌&&◌, ◌||◌, if◌then◌else◌, is_some, length, slice_get, filter}
use Rattle.std.specs.List.{AllByRecursion}
use Rattle.kilim_program.specs.declared.names.BoxName.{BoxName}
use Rattle.kilim_run_state.specs.declared.value.Token.{Token}
use Rattle.kilim_run_journal.specs.declared.entry.Entry.{Entry}
use Rattle.kilim_lemmas.proofs.Lists.{get_some}
use Rattle.kilim_run_model.specs.State.{Setting, Mailbox, empty_mailbox, is_full}
use Rattle.kilim_run_model.specs.Lone.{Lone}
use Rattle.kilim_run_model.specs.Runs.{where_empty, where_full, wait_entry}
use Rattle.kilim_run_model.specs.Course.{Course, IsLone, has_ended, stands_at}
use Rattle.kilim_run_model.specs.declared.deed.Deed.{Deed}
use Rattle.kilim_run_model.specs.declared.deed.Beginning.{Beginning}
use Rattle.kilim_run_model.specs.Moving.{Books, Moving, MovedReplay, MovedAtRest, if_waits, waits_at, all_at_rest, waits_from}
use Rattle.kilim_mail_stamps.specs.declared.stamped.Stamped.{Stamped}
use Rattle.kilim_mail_stamps.specs.Stamps.{in_order, joined, entries_of, Merged, is_on, mail_after, Birth, births_in, course_in}
use Rattle.kilim_mail_ledger.specs.Ledger.{Trace, trace_course, deeds_of, IsTrace, Balanced}
use Rattle.kilim_mail_stamps.specs.Leading.{RunsTo}
use Rattle.kilim_mail_ledger.specs.Closing.{HasToWait, RestsAs, waited_box, closing_by, ClosedRuns}
use Rattle.kilim_run_model.specs.declared.waits.Waits.{Waits}
use Rattle.kilim_run_model.specs.declared.waits.Waits.TheVariants as wait
use Rattle.kilim_run_board.specs.Board.{box_of}
use Rattle.kilim_mail_stamps.proofs.Steps.{some_is}
use Rattle.kilim_mail_stamps.proofs.Begins.{leading, got_within}
use Rattle.kilim_mail_ledger.proofs.Balances.{has_task, all_filter, history_at, box_whole, balanced}

runs_one : (m a b : Mailbox (List Token)) (es : List Stamped) → RunsTo m es a → RunsTo m es b → a ≡ b
runs_one m a b [] p q = sym p ∙ q
runs_one m a b (s ∷ es) (x, e, p) (y, f, q) = runs_one x a b es p (subst (λ (z : Mailbox (List Token)). RunsTo z es b) (some_is y x (sym f ∙ e)) q)

module _ (set : Setting) (books : Books) (waits : ℕ → Option Waits) where
  -- the task has ended, or waits at a mailbox as the books say
  abbrev RestsHere : ℕ → Course → Lone → Option Waits → Type 0
  RestsHere t c l None = has_ended c ≡ true
  RestsHere t c l (Some w) = (has_ended c ≡ false) × (waits_at set books t l ≡ Some (box_of w))

  one_rests : (t : ℕ) (c : Course) (l : Lone) (o : Option Waits) → RestsHere t c l o → (has_ended c || is_some (waits_at set books t l)) ≡ true
  one_rests t c l None e = ap (λ (b : Bool). b || is_some (waits_at set books t l)) e
  one_rests t c l (Some v) (e, w) = ap (λ (b : Bool). b || is_some (waits_at set books t l)) e ∙ ap is_some w

  one_waits : (t : ℕ) (c : Course) (l : Lone) (o : Option Waits) → RestsHere t c l o → waited_box o ≡ (if has_ended c then None else waits_at set books t l)
  one_waits t c l None e = sym (ap (λ (b : Bool). if b then None else waits_at set books t l) e)
  one_waits t c l (Some v) (e, w) = sym (ap (λ (b : Bool). if b then None else waits_at set books t l) e ∙ w)

  abbrev EachRests : ℕ → List Course → List Lone → Type 0
  EachRests t cs ls = (i u : ℕ) (c : Course) (l : Lone) → u ≡ t + i → slice_get cs i ≡ Some c → slice_get ls i ≡ Some l → RestsHere u c l (waits u)

  rests : (t : ℕ) (cs : List Course) (ls : List Lone) → length ls ≡ length cs → EachRests t cs ls → (all_at_rest set books t cs ls ≡ true) × (closing_by waits t (length cs) ≡ waits_from set books t cs ls)
  rests t [] [] e each = (refl, refl)
  rests t [] (l ∷ ls) e each = absurd (omega arith)
  rests t (c ∷ cs) [] e each = absurd (omega arith)
  rests t (c ∷ cs) (l ∷ ls) e each =
      let here = each 0 t c l (omega arith) refl refl in
      let more = rests (suc t) cs ls (omega arith) (λ i u c' l' f p q. each (suc i) u c' l' (omega arith) p q) in (
        ap (λ (b : Bool). b && all_at_rest set books (suc t) cs ls) (one_rests t c l (waits t) here) ∙ more.0,
        ap (λ (o : Option BoxName). wait_entry t o ++ closing_by waits (suc t) (length cs)) (one_waits t c l (waits t) here)
            ∙ ap (λ (es : List Entry). wait_entry t (if has_ended c then None else waits_at set books t l) ++ es) more.1,
      )

rests_here : (set : Setting) (parts : List (List Stamped)) (books : Books) (waits : ℕ → Option Waits) (trace : Trace) (t : ℕ) (c : Course) (l : Lone) (o : Option Waits) → trace.task ≡ t → c ≡ trace_course trace → IsLone set t c l →
    ((box : BoxName) (m : Mailbox (List Token)) → RunsTo empty_mailbox (filter (is_on box) (joined parts)) m → books.mailboxes box ≡ m) → RestsAs set parts trace o → RestsHere set books waits t c l o
rests_here set parts books waits trace t c l None task course is mails r = ap has_ended course ∙ r
rests_here set parts books waits trace t c l (Some v) task course is mails (e, w) =
    let here : IsLone set trace.task (trace_course trace) l = subst (λ (n : ℕ). IsLone set n (trace_course trace) l) (sym task) (subst (λ (x : Course). IsLone set t x l) course is) in
    let stands : stands_at set t l ≡ Some v = subst (λ (n : ℕ). stands_at set n l ≡ Some v) task (w.stands l here) in
    let mail : HasToWait v (books.mailboxes (box_of v)) = subst (λ (m : Mailbox (List Token)). HasToWait v m) (sym (mails (box_of v) w.mail w.run)) w.has_to in
    (ap has_ended course ∙ e, ap (if_waits books) stands ∙ by v mail)
  where
    by : (v : Waits) → HasToWait v (books.mailboxes (box_of v)) → if_waits books (Some v) ≡ Some (box_of v)
    by (wait.Take box) empty = ap (λ (qs : List (ℕ × List Token)). where_empty qs box) empty
    by (wait.Put box) full = ap (λ (b : Bool). if b then Some box else None) full

pub closed_runs : ClosedRuns
closed_runs set parts traces waits journal bal resting merged =
    let led = leading set parts (balanced set parts traces bal) journal merged in
    let each : EachRests set led.state.books waits 0 led.state.books.courses led.state.lones = λ i u c l e got lone.
    let same : i ≡ u = omega arith in
    let n = led.tasks in
    let w = got_within led.state.books.courses i c got in
    let b = get_some (births_in (in_order (joined parts))) i (omega arith) in
    let h = (history_at set parts traces bal i b.0 b.1).1 in
    let is-c : c ≡ course_in (in_order (joined parts)) i b.0 = some_is c _ (sym got ∙ led.courses i b.0 b.1) in
    let course : c ≡ trace_course h.trace = is-c ∙ (ap (λ (ds : List Deed). record { beginning = b.0.beginning; deeds = ds }) h.deeds ∙ ap (λ (x : Beginning). record { beginning = x; deeds = deeds_of h.trace.past }) (sym h.beginning)) in
    let mine : AllByRecursion (λ (x : Trace). RestsAs set parts x (waits x.task) × (has_task i x ≡ true)) (h.trace ∷ []) =
    subst (λ (xs : List Trace). AllByRecursion (λ (x : Trace). RestsAs set parts x (waits x.task) × (has_task i x ≡ true)) xs) h.only (all_filter (λ (x : Trace). RestsAs set parts x (waits x.task)) (has_task i) traces resting) in
    let r : RestsAs set parts h.trace (waits i) = subst (λ (k : ℕ). RestsAs set parts h.trace (waits k)) h.task (mine.0).0 in
    subst (λ (k : ℕ). RestsHere set led.state.books waits k c l (waits k)) same
    (rests_here set parts led.state.books waits h.trace i c l (waits i) h.task course (led.replay.lones i c l got lone)
    (λ box m run. runs_one empty_mailbox (led.state.books.mailboxes box) m (filter (is_on box) (joined parts))
    (subst (λ (es : List Stamped). RunsTo empty_mailbox es (led.state.books.mailboxes box)) (box_whole set parts traces bal box) (led.mailboxes box)) run) r) in
    let x = rests set led.state.books waits 0 led.state.books.courses led.state.lones led.replay.each each in
    (led.state, led.replay, record { rest = x.0; waiting = x.1 })
