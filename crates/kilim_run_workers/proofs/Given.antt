-- The calls of a board leave its journal, or add an entry.
use Rattle.std.proofs.Common.{◌≡◌, ℕ, Bool, true, false, List, [], ◌∷◌, ◌++◌, Option, Some, None, ◌⊎◌, inl, inr, refl, sym, ap, subst, ◌∙◌, length, append_assoc}
use Rattle.kilim_run_model.specs.declared.waits.Waits.{Waits}
use Rattle.kilim_run_journal.specs.declared.entry.Entry.{Entry}
use Rattle.kilim_run_board.specs.declared.fibers.Wants.{Wants}
use Rattle.kilim_run_board.specs.declared.fibers.Wants.TheVariants as wants
use Rattle.kilim_run_board.specs.declared.fibers.Answer.{Answer}
use Rattle.kilim_run_board.specs.declared.fibers.Answer.TheVariants as answer
use Rattle.kilim_run_board.specs.declared.board.Acted.{Acted}
use Rattle.kilim_run_board.specs.declared.board.Acted.TheVariants as acted
use Rattle.kilim_run_board.specs.declared.board.Lent.{Lent}
use Rattle.kilim_run_board.specs.declared.board.Lent.TheVariants as lent
use Rattle.kilim_run_board.specs.Board.{Board}
use Rattle.kilim_run_board.specs.Seen.{ActAnswers, LendAnswers, GiveAnswers, SameBoard, gives_at}
use Rattle.kilim_run_board.specs.waiting.Mailboxes.{has_to_wait}
use Rattle.std.specs.List.{AllByRecursion}
use Rattle.std.specs.Prelude.{IfOk, Result, Ok, Err, ◌<◌}
use Rattle.kilim_run_state.specs.declared.cause.EndCause.{EndCause}
use Rattle.kilim_run_model.specs.declared.waits.Waits.TheVariants as wait
use Rattle.kilim_run_board.specs.declared.waiting.parked.Waiter.{Waiter}
use Rattle.kilim_run_board.specs.waiting.Parked.{woken, parked_after}
use Rattle.kilim_run_workers.specs.declared.one_worker.Next.{Next}
use Rattle.kilim_run_workers.specs.declared.one_worker.Next.TheVariants as next
use Rattle.kilim_run_workers.proofs.one_worker.Measures.{IsOver, IsRefused}
use Rattle.kilim_run_workers.specs.Given.{BeginsWith, Continues, EndsInOne, Grew, MadeBy, OneMore}

pub same_begins : (given js ks : List Entry) → ks ≡ js → BeginsWith given js → BeginsWith given ks
same_begins given js ks e b = (b.0, e ∙ b.1)

pub more_begins : (given js ks more : List Entry) → ks ≡ js ++ more → BeginsWith given js → BeginsWith given ks
more_begins given js ks more e b = (b.0 ++ more, e ∙ (ap (λ xs. xs ++ more) b.1 ∙ append_assoc given b.0 more))

pub all_begin : (js : List Entry) → BeginsWith js js
all_begin js = ([], sym (nil_right js))
  where
    nil_right : (xs : List Entry) → xs ++ [] ≡ xs
    nil_right [] = refl
    nil_right (x ∷ xs) = ap (λ ys. x ∷ ys) (nil_right xs)

module _ {F : Type 0} (given : List Entry) (b b' : Board F) (seat : ℕ) (c : Continues given b) where
  pub lend_continues : (task : F → ℕ) (l : Lent F) → LendAnswers task b seat b' l → Continues given b'
  lend_continues task (lent.Fiber f) did = same_begins given b.journal b'.journal did.1.run.journal c
  lend_continues task lent.Idle did = same_begins given b.journal b'.journal (ap (λ x. x.journal) did.1) c
  lend_continues task lent.Quiet did = same_begins given b.journal b'.journal (ap (λ x. x.journal) did.1) c
  lend_continues task lent.Stopped did = same_begins given b.journal b'.journal (ap (λ x. x.journal) did.1) c

  pub give_continues : (f : F) (waits : Option Waits) → GiveAnswers b seat b' f waits → Continues given b'
  give_continues f None did = same_begins given b.journal b'.journal did.run.journal c
  give_continues f (Some w) did = by (has_to_wait b.mails w) did
    where
      by : (y : Bool) → gives_at y b seat b' f w → Continues given b'
      by true did = same_begins given b.journal b'.journal did.run.journal c
      by false did = same_begins given b.journal b'.journal did.run.journal c

  noted : (e : Entry) → b'.journal ≡ b.journal ++ e ∷ [] → Continues given b'
  noted e is = more_begins given b.journal b'.journal (e ∷ []) is c

  pub act_continues : (numbered : F → F → ℕ → Type 0) (t : ℕ) (w : Wants F) (a : Acted) → ActAnswers numbered b seat t b' w a → Continues given b'
  act_continues numbered t (wants.Put box tree shape) (acted.Answer (answer.Sent n)) did = noted _ did.2.journal
  act_continues numbered t (wants.Put box tree shape) acted.OutOfRoom did = noted _ did.1.journal
  act_continues numbered t (wants.PutWait box tree shape) (acted.Answer (answer.Sent n)) did = noted _ did.2.journal
  act_continues numbered t (wants.PutWait box tree shape) (acted.Answer (answer.Full back same)) did = same_begins given b.journal b'.journal did.3.run.journal c
  act_continues numbered t (wants.Bound box most) (acted.Answer answer.Done) did = noted _ did.journal
  act_continues numbered t (wants.Take box) (acted.Answer (answer.Message tree n)) did = noted _ did.1.journal
  act_continues numbered t (wants.Take box) (acted.Answer answer.Nothing) did = same_begins given b.journal b'.journal did.1.run.journal c
  act_continues numbered t (wants.Probe box) (acted.Answer (answer.Message tree n)) did = noted _ did.1.journal
  act_continues numbered t (wants.Probe box) (acted.Answer answer.Nothing) did = noted _ did.1.journal
  act_continues numbered t (wants.Start f shape) (acted.Answer (answer.Started k)) did = noted _ did.4.journal
  act_continues numbered t (wants.Start f shape) acted.OutOfTasks did = noted _ did.1.journal
  act_continues numbered t (wants.Print shape) (acted.Answer answer.Done) did = noted _ did.journal
  act_continues numbered t (wants.End why) (acted.Answer answer.Done) did = noted _ did.journal
  act_continues numbered t _ _ did = absurd did

-- ---- by entries of one task

pub grew_none : (t : ℕ) (js ks : List Entry) → ks ≡ js → Grew t js ks
grew_none t js ks e = record { more = []; is = e ∙ sym (nil_behind js); own = tt }
  where
    nil_behind : (xs : List Entry) → xs ++ [] ≡ xs
    nil_behind [] = refl
    nil_behind (x ∷ xs) = ap (λ ys. x ∷ ys) (nil_behind xs)

all_both : (t : ℕ) (xs ys : List Entry) → AllByRecursion (λ (e : Entry). e.task ≡ t) xs → AllByRecursion (λ (e : Entry). e.task ≡ t) ys → AllByRecursion (λ (e : Entry). e.task ≡ t) (xs ++ ys)
all_both t [] ys a b = b
all_both t (x ∷ xs) ys a b = (a.0, all_both t xs ys a.1 b)

pub grew_more : (t : ℕ) (a b c : List Entry) → Grew t a b → Grew t b c → Grew t a c
grew_more t a b c p q = record { more = p.more ++ q.more; is = q.is ∙ (ap (λ xs. xs ++ q.more) p.is ∙ append_assoc a p.more q.more); own = all_both t p.more q.more p.own q.own }

-- what an act adds
abbrev Made : ℕ → List Entry → List Entry → Type 0
Made t before after = (after ≡ before) ⊎ OneMore t before after

pub made_grew : (t : ℕ) (before after : List Entry) → Made t before after → Grew t before after
made_grew t before after (inl same) = grew_none t before after same
made_grew t before after (inr one) = record { more = one.entry ∷ []; is = one.is; own = (one.own, tt) }

module _ {F : Type 0} (b b' : Board F) (seat t : ℕ) where
  one_entry : (e : Entry) → e.task ≡ t → b'.journal ≡ b.journal ++ e ∷ [] → OneMore t b.journal b'.journal
  one_entry e own is = record { entry = e; own = own; is = is }

  pub act_made : (numbered : F → F → ℕ → Type 0) (w : Wants F) (a : Acted) → ActAnswers numbered b seat t b' w a → Made t b.journal b'.journal
  act_made numbered (wants.Put box tree shape) (acted.Answer (answer.Sent n)) did = inr (one_entry _ refl did.2.journal)
  act_made numbered (wants.Put box tree shape) acted.OutOfRoom did = inr (one_entry _ refl did.1.journal)
  act_made numbered (wants.PutWait box tree shape) (acted.Answer (answer.Sent n)) did = inr (one_entry _ refl did.2.journal)
  act_made numbered (wants.PutWait box tree shape) (acted.Answer (answer.Full back same)) did = inl did.3.run.journal
  act_made numbered (wants.Bound box most) (acted.Answer answer.Done) did = inr (one_entry _ refl did.journal)
  act_made numbered (wants.Take box) (acted.Answer (answer.Message tree n)) did = inr (one_entry _ refl did.1.journal)
  act_made numbered (wants.Take box) (acted.Answer answer.Nothing) did = inl did.1.run.journal
  act_made numbered (wants.Probe box) (acted.Answer (answer.Message tree n)) did = inr (one_entry _ refl did.1.journal)
  act_made numbered (wants.Probe box) (acted.Answer answer.Nothing) did = inr (one_entry _ refl did.1.journal)
  act_made numbered (wants.Start f shape) (acted.Answer (answer.Started k)) did = inr (one_entry _ refl did.4.journal)
  act_made numbered (wants.Start f shape) acted.OutOfTasks did = inr (one_entry _ refl did.1.journal)
  act_made numbered (wants.Print shape) (acted.Answer answer.Done) did = inr (one_entry _ refl did.journal)
  act_made numbered (wants.End why) (acted.Answer answer.Done) did = inr (one_entry _ refl did.journal)
  act_made numbered _ _ did = absurd did

  -- an end adds its entry
  pub over_made : (numbered : F → F → ℕ → Type 0) (w : Wants F) (a : Acted) → IsOver a → ActAnswers numbered b seat t b' w a → OneMore t b.journal b'.journal
  over_made numbered w (acted.Answer x) over did = absurd over
  over_made numbered (wants.Put box tree shape) acted.OutOfRoom over did = one_entry _ refl did.1.journal
  over_made numbered (wants.Start f shape) acted.OutOfTasks over did = one_entry _ refl did.1.journal
  over_made numbered _ _ over did = absurd did

  pub end_made : (numbered : F → F → ℕ → Type 0) (why : EndCause) (a : Acted) → ActAnswers numbered b seat t b' (wants.End why) a → OneMore t b.journal b'.journal
  end_made numbered why (acted.Answer answer.Done) did = one_entry _ refl did.journal
  end_made numbered why _ did = absurd did

  none_woken : (w : Waits) → b'.parked ≡ parked_after b.parked (woken w b.parked) → b.parked ≡ [] → b'.parked ≡ []
  none_woken w is none = is ∙ ap (λ (ws : List (Waiter F)). parked_after ws (woken w ws)) none

  -- where nobody is parked, nobody is behind an act
  pub act_alone : (numbered : F → F → ℕ → Type 0) (w : Wants F) (a : Acted) → ActAnswers numbered b seat t b' w a → b.parked ≡ [] → b'.parked ≡ []
  act_alone numbered (wants.Put box tree shape) (acted.Answer (answer.Sent n)) did none = none_woken (wait.Take box) did.2.parked none
  act_alone numbered (wants.Put box tree shape) acted.OutOfRoom did none = did.1.parked ∙ none
  act_alone numbered (wants.PutWait box tree shape) (acted.Answer (answer.Sent n)) did none = none_woken (wait.Take box) did.2.parked none
  act_alone numbered (wants.PutWait box tree shape) (acted.Answer (answer.Full back same)) did none = did.3.spots.parked ∙ none
  act_alone numbered (wants.Bound box most) (acted.Answer answer.Done) did none = did.spots.parked ∙ none
  act_alone numbered (wants.Take box) (acted.Answer (answer.Message tree n)) did none = none_woken (wait.Put box) did.1.parked none
  act_alone numbered (wants.Take box) (acted.Answer answer.Nothing) did none = did.1.spots.parked ∙ none
  act_alone numbered (wants.Probe box) (acted.Answer (answer.Message tree n)) did none = none_woken (wait.Put box) did.1.parked none
  act_alone numbered (wants.Probe box) (acted.Answer answer.Nothing) did none = did.1.spots.parked ∙ none
  act_alone numbered (wants.Start f shape) (acted.Answer (answer.Started k)) did none = did.4.parked ∙ none
  act_alone numbered (wants.Start f shape) acted.OutOfTasks did none = did.1.parked ∙ none
  act_alone numbered (wants.Print shape) (acted.Answer answer.Done) did none = did.spots.parked ∙ none
  act_alone numbered (wants.End why) (acted.Answer answer.Done) did none = did.parked ∙ none
  act_alone numbered _ _ did none = absurd did

-- an act behind a reserve, of the task that was lent
module _ {F : Type 0} (numbered : F → F → ℕ → Type 0) (b b1 b2 : Board F) (seat t : ℕ) (same : SameBoard b b1) where
  from_same : OneMore t b1.journal b2.journal → OneMore t b.journal b2.journal
  from_same one = record { entry = one.entry; own = one.own; is = one.is ∙ ap (λ js. js ++ one.entry ∷ []) same.run.journal }

  pub acted_made : (w : Wants F) (a : Acted) → ActAnswers numbered b1 seat t b2 w a → Made t b.journal b2.journal
  acted_made w a did = elim (act_made b1 b2 seat t numbered w a did) [ inl kept-it ↦ inl (kept-it ∙ same.run.journal) | inr one ↦ inr (from_same one) ]

  pub acted_over : (w : Wants F) (a : Acted) → IsOver a → ActAnswers numbered b1 seat t b2 w a → OneMore t b.journal b2.journal
  acted_over w a over did = from_same (over_made b1 b2 seat t numbered w a over did)

  pub acted_end : (why : EndCause) (a : Acted) → ActAnswers numbered b1 seat t b2 (wants.End why) a → OneMore t b.journal b2.journal
  acted_end why a did = from_same (end_made b1 b2 seat t numbered why a did)

  pub acted_alone : (w : Wants F) (a : Acted) → ActAnswers numbered b1 seat t b2 w a → b.parked ≡ [] → b2.parked ≡ []
  acted_alone w a did none = act_alone b1 b2 seat t numbered w a did (same.spots.parked ∙ none)

-- a refused act adds nothing
refused_same : {F : Type 0} (numbered : F → F → ℕ → Type 0) (b b' : Board F) (seat t : ℕ) (v : Waits) (w : Wants F) (a : Answer) → IsRefused v w a → ActAnswers numbered b seat t b' w (acted.Answer a) → b'.journal ≡ b.journal
refused_same numbered b b' seat t (wait.Take box) w a is did =
    let d : ActAnswers numbered b seat t b' (wants.Take box) (acted.Answer answer.Nothing) = subst (λ x. ActAnswers numbered b seat t b' (wants.Take box) (acted.Answer x)) is.1 (subst (λ x. ActAnswers numbered b seat t b' x (acted.Answer a)) is.0 did) in
    d.1.run.journal
refused_same numbered b b' seat t (wait.Put box) w a is did =
    let d : ActAnswers numbered b seat t b' (wants.PutWait box is.0 is.1) (acted.Answer (answer.Full is.2 is.3)) = subst (λ x. ActAnswers numbered b seat t b' (wants.PutWait box is.0 is.1) (acted.Answer x)) is.5 (subst (λ x. ActAnswers numbered b seat t b' x (acted.Answer a)) is.4 did) in
    d.3.run.journal

pub acted_on : {F : Type 0} (numbered : F → F → ℕ → Type 0) (b b1 b2 : Board F) (seat t u : ℕ) (before after : ℕ) (r : Option Waits) (w : Wants F) (a : Answer) → u ≡ t → SameBoard b b1 → ActAnswers numbered b1 seat u b2 w (acted.Answer a)
    → ((before < after) × (r ≡ None)) ⊎ ((v : Waits) × IsRefused v w a × (after ≡ before) × (r ≡ Some v)) → MadeBy t b.journal b2.journal r next.On
acted_on numbered b b1 b2 seat t u before after r w a is same did (inl clear) =
    elim (acted_made numbered b b1 b2 seat t same w (acted.Answer a) (subst (λ (k : ℕ). ActAnswers numbered b1 seat k b2 w (acted.Answer a)) is did)) [ inl kept-it ↦ inl kept-it | inr one ↦ inr (one, clear.1) ]
acted_on numbered b b1 b2 seat t u before after r w a is same did (inr refused) = inl (refused_same numbered b1 b2 seat u refused.0 w a refused.1 did ∙ same.run.journal)

-- what a step adds is of its task alone
pub next_grew : (t : ℕ) (before after : List Entry) (r : Option Waits) (n : Next) → MadeBy t before after r n → Grew t before after
next_grew t before after r next.On (inl same) = grew_none t before after same
next_grew t before after r next.On (inr one) = made_grew t before after (inr one.0)
next_grew t before after r next.Over one = made_grew t before after (inr one)
next_grew t before after r (next.Rests waits) same = grew_none t before after same

-- giving back leaves the journal
pub gives_grew : {F : Type 0} (t : ℕ) (a : List Entry) (b b' : Board F) (seat : ℕ) (f : F) (waits : Option Waits) → Grew t a b.journal → GiveAnswers b seat b' f waits → Grew t a b'.journal
gives_grew t a b b' seat f None g did = grew_more t a b.journal b'.journal g (grew_none t b.journal b'.journal did.run.journal)
gives_grew t a b b' seat f (Some w) g did = by (has_to_wait b.mails w) did
  where
    by : (y : Bool) → gives_at y b seat b' f w → Grew t a b'.journal
    by true did = grew_more t a b.journal b'.journal g (grew_none t b.journal b'.journal did.run.journal)
    by false did = grew_more t a b.journal b'.journal g (grew_none t b.journal b'.journal did.run.journal)

pub grew_begins : (t : ℕ) (given js ks : List Entry) → Grew t js ks → BeginsWith given js → BeginsWith given ks
grew_begins t given js ks g b = more_begins given js ks g.more g.is b

pub if_ok_map : {T E : Type 0} (r : Result T E) (P Q : T → Type 0) → ((x : T) → P x → Q x) → IfOk r P → IfOk r Q
if_ok_map (Ok x) P Q f e = f x e
if_ok_map (Err x) P Q f e = tt

-- a run that has fewer entries than it may goes on by those of one task
pub grew_ends : (t few : ℕ) (js ks : List Entry) → Grew t js ks → length js < few → EndsInOne few ks
grew_ends t few js ks g lt = record { front = js; more = g.more; task = t; parts = g.is; fewer = lt; own = g.own }

pub lend_same : {F : Type 0} (task : F → ℕ) (b b' : Board F) (seat : ℕ) (l : Lent F) → LendAnswers task b seat b' l → b'.journal ≡ b.journal
lend_same task b b' seat (lent.Fiber f) did = did.1.run.journal
lend_same task b b' seat lent.Idle did = ap (λ x. x.journal) did.1
lend_same task b b' seat lent.Quiet did = ap (λ x. x.journal) did.1
lend_same task b b' seat lent.Stopped did = ap (λ x. x.journal) did.1

pub none_or_ends : (few : ℕ) (js ks : List Entry) → ks ≡ js → (js ≡ []) ⊎ EndsInOne few js → (ks ≡ []) ⊎ EndsInOne few ks
none_or_ends few js ks e (inl none) = inl (e ∙ none)
none_or_ends few js ks e (inr ends) = inr (record { front = ends.front; more = ends.more; task = ends.task; parts = e ∙ ends.parts; fewer = ends.fewer; own = ends.own })
