-- Of a journal there is one verdict.
use Rattle.std.proofs.Common.{◌≡◌, ◌≢◌, ℕ, zero, suc, ◌+◌, ◌<◌, ◌≤◌, Bool, true, false, cond, List, [], ◌∷◌, ◌++◌, Option, Some, None, ◌⊎◌, inl, inr, length, refl, sym, ap, subst, ◌∙◌, arith}
use Rattle.std.specs.Prelude.{◌&&◌, nat_lt, is_some, slice_get}
use Rattle.kilim_run_state.specs.declared.cause.EndCause.{EndCause}
use Rattle.kilim_run_state.specs.declared.cause.EndCause.TheVariants as cause
use Rattle.kilim_run_state.specs.declared.value.Token.{Token}
use Rattle.kilim_program.specs.declared.names.BoxName.{BoxName}
use Rattle.kilim_run_state.specs.Machine.{Activation}
use Rattle.kilim_run_journal.specs.declared.entry.Act.{Act}
use Rattle.kilim_run_journal.specs.declared.entry.Act.TheVariants as act
use Rattle.kilim_run_journal.specs.declared.entry.Entry.{Entry}
use Rattle.kilim_run_model.specs.State.{Setting, Thread, Alive, Ended, State, first_state, noted, execute_frames, is_full}
use Rattle.kilim_run_model.specs.Lone.{Lone, Next, Goes, Puts, PutWaits, Bounds, Gets, Probes, Starts, Prints, Ends, Stands, ended, next_move}
use Rattle.kilim_run_model.specs.Turn.{Moved, quiet, acted, lone_of, with_lone, gets, probes, puts, starts_with, task_limit, moved_by, thread_moved, moved}
use Rattle.kilim_run_model.specs.Runs.{acted_or, acted_within, unless_acted, before_action, Replays, settled_from, settled, waits_at, is_at_rest, all_at_rest, wait_entry, waits_from, AtRest, Whole}
use Rattle.kilim_run_model.proofs.Alone.{rests_still, AreLeft, none_left, one_less, all_left}
use Rattle.kilim_run_model.proofs.Steps.{same_action, one_replay}
use Rattle.kilim_lemmas.proofs.Lists.{set_there}
use Rattle.kilim_isolation_laws.proofs.at_rest.Rest.{same_settled}
use Rattle.kilim_replay_laws.specs.Verdicts.{is_wait, acts_in, waits_in, is_waiting_thread, is_waiting, FaultAt, Stops, first_going, all_settled, GoesOn, first_entry, DifferAt, RestsBut, IsVerdict, OneVerdict}
use Rattle.kilim_replay_laws.specs.declared.verdict.Verdict.{Verdict}
use Rattle.kilim_replay_laws.specs.declared.verdict.Verdict.TheVariants as verdict

some_same : {A : Type 0} (x y : A) → Some x ≡ Some y → x ≡ y
some_same x y e = cc

-- ---- no action is a wait

abbrev NoWait : Option Act → Type 0
NoWait None = Unit {0}
NoWait (Some a) = is_wait a ≡ false

module _ (set : Setting) (s : State) (t : ℕ) where
  gets_no : (box : BoxName) (after : Lone) (q : List (ℕ × ℕ)) → NoWait (gets s t box after q).act
  gets_no box after [] = tt
  gets_no box after (first ∷ rest) = refl

  probes_no : (box : BoxName) (after : Lone) (q : List (ℕ × ℕ)) → NoWait (probes s t box after q).act
  probes_no box after [] = refl
  probes_no box after (first ∷ rest) = refl

  begun_no : (shape : List Token) (after : State) (o : Option (List Activation)) → NoWait (starts_with s shape after o).act
  begun_no shape after None = tt
  begun_no shape after (Some frames) = refl

  either_no : (b : Bool) (x y : Moved) → NoWait x.act → NoWait y.act → NoWait (cond b x y).act
  either_no true x y p q = p
  either_no false x y p q = q

  next_no : (x : Next) → NoWait (moved_by set s t x).act
  next_no (Goes after) = tt
  next_no (Puts box root shape after) = either_no (is_full (s.mailboxes box)) (acted (with_lone s t (ended after cause.Full)) (act.End cause.Full)) (puts (with_lone s t after) box root shape) refl refl
  next_no (PutWaits box root shape after) = either_no (is_full (s.mailboxes box)) (quiet s) (puts (with_lone s t after) box root shape) tt refl
  next_no (Bounds box most after) = refl
  next_no (Gets box after) = gets_no box after (s.mailboxes box).queue
  next_no (Probes box after) = probes_no box after (s.mailboxes box).queue
  next_no (Starts root shape after) =
      either_no (nat_lt (length s.threads) task_limit) (starts_with s shape (with_lone s t after) (execute_frames set.program after.heap root)) (acted (with_lone s t (ended after cause.Tasks)) (act.End cause.Tasks)) (begun_no shape (with_lone s t after) (execute_frames set.program after.heap root)) refl
  next_no (Prints token after) = refl
  next_no (Ends c after) = refl
  next_no Stands = tt

  thread_no : (o : Option Thread) → NoWait (thread_moved set s t o).act
  thread_no None = tt
  thread_no (Some th) = next_no (next_move set t (lone_of s t th))

  moved_no : NoWait (moved set s t).act
  unfolding moved
  moved_no = thread_no (slice_get s.threads t)

acted_no : (set : Setting) (n : ℕ) (s : State) (t : ℕ) (a : Act) (mid : State) → acted_within set n s t ≡ Some (a, mid) → is_wait a ≡ false
unfolding acted_within
acted_no set zero s t a mid e = absurd (cc)
acted_no set (suc n) s t a mid e = by (moved set s t).act (moved_no set s t) e (λ f. acted_no set n (moved set s t).state t a mid f)
  where
    by : (o : Option Act) → NoWait o → acted_or (moved set s t).state t o (acted_within set n (moved set s t).state t) ≡ Some (a, mid) → (acted_within set n (moved set s t).state t ≡ Some (a, mid) → is_wait a ≡ false) → is_wait a ≡ false
    by None nn f again = again f
    by (Some b) nn f again = let same : b ≡ a = ap (λ (x : Act × State). x.0) (some_same (b, noted (moved set s t).state t b) (a, mid) f) in subst (λ (x : Act). is_wait x ≡ false) same nn

-- ---- where nothing is done

stays_quiet : (set : Setting) (k : ℕ) (s : State) (t : ℕ) (x : Act × State) → moved set s t ≡ quiet s → acted_within set k s t ≡ Some x → ⊥
unfolding acted_within
stays_quiet set zero s t x still e = cc
stays_quiet set (suc k) s t x still e = stays_quiet set k s t x still (sym (ap (λ (m : Moved). acted_or m.state t m.act (acted_within set k m.state t)) still) ∙ e)

absent_still : (set : Setting) (s : State) (t : ℕ) → slice_get s.threads t ≡ None → moved set s t ≡ quiet s
unfolding moved
absent_still set s t e = ap (thread_moved set s t) e

pub ended_still : (set : Setting) (s : State) (t : ℕ) (why : EndCause) → slice_get s.threads t ≡ Some (Ended why) → moved set s t ≡ quiet s
ended_still set s t why e = rests_still set s t (Ended why) e refl

waiting_still : (set : Setting) (s : State) (t : ℕ) → is_waiting set s t ≡ true → moved set s t ≡ quiet s
waiting_still set s t w = by (slice_get s.threads t) refl w
  where
    alive : (th : Thread) → is_some (waits_at set s t th) ≡ true → is_at_rest set s t th ≡ true
    alive (Ended c) e = refl
    alive (Alive frames done boxes) e = e

    by : (o : Option Thread) → slice_get s.threads t ≡ o → is_waiting_thread set s t o ≡ true → moved set s t ≡ quiet s
    by None is e = absurd (cc)
    by (Some th) is e = rests_still set s t th is (alive th e)

-- a thread that comes to wait makes no action
waits_never : (set : Setting) (n k : ℕ) (s : State) (t : ℕ) (x : Act × State) → is_waiting set (before_action set n s t) t ≡ true → acted_within set k s t ≡ Some x → ⊥
unfolding before_action acted_within
waits_never set zero k s t x w e = stays_quiet set k s t x (waiting_still set s t w) e
waits_never set (suc n) zero s t x w e = cc
waits_never set (suc n) (suc k) s t x w e = by (moved set s t).act refl w e (λ v f. waits_never set n k (moved set s t).state t x v f)
  where
    by : (o : Option Act) → (moved set s t).act ≡ o → is_waiting set (unless_acted s o (before_action set n (moved set s t).state t)) t ≡ true → acted_or (moved set s t).state t o (acted_within set k (moved set s t).state t) ≡ Some x →
        (is_waiting set (before_action set n (moved set s t).state t) t ≡ true → acted_within set k (moved set s t).state t ≡ Some x → ⊥) → ⊥
    by None is v f again = again v f
    by (Some a) is v f again = let still = ap (λ (m : Moved). m.act) (waiting_still set s t v) in let z : None ≡ Some a = sym still ∙ is in cc

-- where a thread ended or isn't, it doesn't wait
pub still_before : (set : Setting) (k : ℕ) (s : State) (t : ℕ) → moved set s t ≡ quiet s → before_action set k s t ≡ s
unfolding before_action
still_before set zero s t e = refl
still_before set (suc k) s t e = ap (λ (m : Moved). unless_acted s m.act (before_action set k m.state t)) e ∙ still_before set k s t e

ended_no_wait : (set : Setting) (s : State) (t : ℕ) (why : EndCause) → is_some (waits_at set s t (Ended why)) ≡ true → ⊥
unfolding next_move
ended_no_wait set s t why e = cc

-- ---- what is wrong with an entry is one thing

abbrev IsNotNext : Setting → State → Entry → Type 0
IsNotNext set s e = (k : ℕ) (mid : State) → acted_within set k s e.task ≡ Some (e.act, mid) → ⊥

fault_not_next : (set : Setting) (s : State) (e : Entry) (n : ℕ) (v : Verdict) → FaultAt set s e n v → IsNotNext set s e
fault_not_next set s e n (verdict.Absent m) f k mid a = stays_quiet set k s e.task (e.act, mid) (absent_still set s e.task f.1) a
fault_not_next set s e n (verdict.Ended m) f k mid a = stays_quiet set k s e.task (e.act, mid) (ended_still set s e.task f.1 f.2) a
fault_not_next set s e n (verdict.Waits m) f k mid a = waits_never set f.1 k s e.task (e.act, mid) f.2 a
fault_not_next set s e n (verdict.Made m own) f k mid a = f.2 (ap (λ (x : Act × State). x.0) (same_action set f.3 k s (own.act, f.4) (e.act, mid) e.task f.5 a))
fault_not_next set s e n verdict.Whole f k mid a = f
fault_not_next set s e n (verdict.Goes m t) f k mid a = f
fault_not_next set s e n (verdict.Rest m) f k mid a = f

module _ (set : Setting) (s : State) (e : Entry) (n : ℕ) where
  absent_ended : (why : EndCause) → slice_get s.threads e.task ≡ None → slice_get s.threads e.task ≡ Some (Ended why) → ⊥
  absent_ended why p q = let z : None ≡ Some (Ended why) = sym p ∙ q in cc

  absent_waits : (k : ℕ) → slice_get s.threads e.task ≡ None → is_waiting set (before_action set k s e.task) e.task ≡ true → ⊥
  absent_waits k p w =
      let here : is_waiting set s e.task ≡ true = subst (λ (z : State). is_waiting set z e.task ≡ true) (still_before set k s e.task (absent_still set s e.task p)) w in
      let z : false ≡ true = sym (ap (is_waiting_thread set s e.task) p) ∙ here in cc

  ended_waits : (k : ℕ) (why : EndCause) → slice_get s.threads e.task ≡ Some (Ended why) → is_waiting set (before_action set k s e.task) e.task ≡ true → ⊥
  ended_waits k why p w =
      let here : is_waiting set s e.task ≡ true = subst (λ (z : State). is_waiting set z e.task ≡ true) (still_before set k s e.task (ended_still set s e.task why p)) w in
      ended_no_wait set s e.task why (subst (λ (o : Option Thread). is_waiting_thread set s e.task o ≡ true) p here)

  same_entry : (a b : Entry) → a.task ≡ b.task → a.act ≡ b.act → a ≡ b
  same_entry a b p q = subst (λ (t : ℕ). a ≡ record { task = t; act = b.act }) p (subst (λ (x : Act). a ≡ record { task = a.task; act = x }) q refl)

  one_fault : (v w : Verdict) → FaultAt set s e n v → FaultAt set s e n w → v ≡ w
  one_fault (verdict.Absent m) (verdict.Absent k) f g = ap verdict.Absent (f.0 ∙ sym g.0)
  one_fault (verdict.Absent m) (verdict.Ended k) f g = absurd (absent_ended g.1 f.1 g.2)
  one_fault (verdict.Absent m) (verdict.Waits k) f g = absurd (absent_waits g.1 f.1 g.2)
  one_fault (verdict.Absent m) (verdict.Made k own) f g = absurd (stays_quiet set g.3 s e.task (own.act, g.4) (absent_still set s e.task f.1) g.5)
  one_fault (verdict.Ended m) (verdict.Absent k) f g = absurd (absent_ended f.1 g.1 f.2)
  one_fault (verdict.Ended m) (verdict.Ended k) f g = ap verdict.Ended (f.0 ∙ sym g.0)
  one_fault (verdict.Ended m) (verdict.Waits k) f g = absurd (ended_waits g.1 f.1 f.2 g.2)
  one_fault (verdict.Ended m) (verdict.Made k own) f g = absurd (stays_quiet set g.3 s e.task (own.act, g.4) (ended_still set s e.task f.1 f.2) g.5)
  one_fault (verdict.Waits m) (verdict.Absent k) f g = absurd (absent_waits f.1 g.1 f.2)
  one_fault (verdict.Waits m) (verdict.Ended k) f g = absurd (ended_waits f.1 g.1 g.2 f.2)
  one_fault (verdict.Waits m) (verdict.Waits k) f g = ap verdict.Waits (f.0 ∙ sym g.0)
  one_fault (verdict.Waits m) (verdict.Made k own) f g = absurd (waits_never set f.1 g.3 s e.task (own.act, g.4) f.2 g.5)
  one_fault (verdict.Made m own) (verdict.Absent k) f g = absurd (stays_quiet set f.3 s e.task (own.act, f.4) (absent_still set s e.task g.1) f.5)
  one_fault (verdict.Made m own) (verdict.Ended k) f g = absurd (stays_quiet set f.3 s e.task (own.act, f.4) (ended_still set s e.task g.1 g.2) f.5)
  one_fault (verdict.Made m own) (verdict.Waits k) f g = absurd (waits_never set g.1 f.3 s e.task (own.act, f.4) g.2 f.5)
  one_fault (verdict.Made m own) (verdict.Made k other) f g =
      let acts : own.act ≡ other.act = ap (λ (x : Act × State). x.0) (same_action set f.3 g.3 s (own.act, f.4) (other.act, g.4) e.task f.5 g.5) in
      let same : own ≡ other = same_entry own other (f.1 ∙ sym g.1) acts in
      let line : m ≡ k = f.0 ∙ sym g.0 in
      cc
  one_fault verdict.Whole w f g = absurd f
  one_fault (verdict.Goes m t) w f g = absurd f
  one_fault (verdict.Rest m) w f g = absurd f
  one_fault v verdict.Whole f g = absurd g
  one_fault v (verdict.Goes m t) f g = absurd g
  one_fault v (verdict.Rest m) f g = absurd g

-- ---- the first entry that isn't replayed is one

record SameStop (before before' : List Entry) (s s' : State) (e e' : Entry) : Type 0 where
  list : before ≡ before'
  last : s ≡ s'
  entry : e ≡ e'

module _ (set : Setting) where
  stop_here : (a s' : State) (e x : Entry) (behind xs rest : List Entry) → e ∷ behind ≡ x ∷ rest → Replays set a (x ∷ xs) s' → IsNotNext set a e → ⊥
  stop_here a s' e x behind xs rest same (k, mid, acts, others) nn = let z : e ≡ x = cc in nn k mid (subst (λ (y : Entry). acted_within set k a y.task ≡ Some (y.act, mid)) (sym z) acts)

  stops_same : (a s s' : State) (before before' behind behind' : List Entry) (e e' : Entry) → before ++ e ∷ behind ≡ before' ++ e' ∷ behind' → Replays set a before s → Replays set a before' s' → IsNotNext set s e → IsNotNext set s' e' → SameStop before before' s s' e e'
  stops_same a s s' [] [] behind behind' e e' same r r' nn nn' = record { list = refl; last = sym r ∙ r'; entry = (let z : e ≡ e' = cc in z) }
  stops_same a s s' [] (x ∷ xs) behind behind' e e' same r r' nn nn' = absurd (stop_here a s' e x behind xs (xs ++ e' ∷ behind') same r' (subst (λ (z : State). IsNotNext set z e) (sym r) nn))
  stops_same a s s' (x ∷ xs) [] behind behind' e e' same r r' nn nn' = absurd (stop_here a s e' x behind' xs (xs ++ e ∷ behind) (sym same) r (subst (λ (z : State). IsNotNext set z e') (sym r') nn'))
  stops_same a s s' (x ∷ xs) (y ∷ ys) behind behind' e e' same (n, mid, acts, rest) (n', mid', acts', rest') nn nn' =
      let head : y ≡ x = cc in
      let tail : xs ++ e ∷ behind ≡ ys ++ e' ∷ behind' = cc in
      let also : acted_within set n' a x.task ≡ Some (x.act, mid') = subst (λ (z : Entry). acted_within set n' a z.task ≡ Some (z.act, mid')) head acts' in
      let mids : mid' ≡ mid = ap (λ (z : Act × State). z.1) (same_action set n' n a (x.act, mid') (x.act, mid) x.task also acts) in
      let others = stops_same mid s s' xs ys behind behind' e e' tail rest (subst (λ (z : State). Replays set z ys s') mids rest') nn nn' in
      record { list = (let l = others.list in cc); last = others.last; entry = others.entry }

  -- what is replayed as a whole has no such entry
  no_stop : (a s last : State) (before behind : List Entry) (e : Entry) → Replays set a before s → Replays set a (before ++ e ∷ behind) last → IsNotNext set s e → ⊥
  no_stop a s last [] behind e r (k, mid, acts, others) nn = nn k mid (subst (λ (z : State). acted_within set k z e.task ≡ Some (e.act, mid)) r acts)
  no_stop a s last (x ∷ xs) behind e (n, mid, acts, rest) (n', mid', acts', rest') nn =
      let mids : mid' ≡ mid = ap (λ (z : Act × State). z.1) (same_action set n' n a (x.act, mid') (x.act, mid) x.task acts' acts) in
      no_stop mid s last xs behind e rest (subst (λ (z : State). Replays set z (xs ++ e ∷ behind) last) mids rest') nn

  one_stop : (journal : List Entry) (v w : Verdict) → Stops set journal v → Stops set journal w → v ≡ w
  one_stop journal v w p q =
      let same = stops_same (first_state set) p.last q.last p.before q.before p.behind q.behind p.entry q.entry (sym p.parts ∙ q.parts) p.replays q.replays (fault_not_next set p.last p.entry _ v p.fault) (fault_not_next set q.last q.entry _ w q.fault) in
      let lines : length q.before ≡ length p.before = ap length (sym same.list) in
      one_fault set p.last p.entry (length p.before + 1) v w p.fault
      (subst (λ (s : State). FaultAt set s p.entry (length p.before + 1) w) (sym same.last)
      (subst (λ (e : Entry). FaultAt set q.last e (length p.before + 1) w) (sym same.entry)
      (subst (λ (n : ℕ). FaultAt set q.last q.entry (n + 1) w) lines q.fault)))

  stop_or_all : (journal : List Entry) (v : Verdict) (last : State) → Stops set journal v → Replays set (first_state set) (acts_in journal) last → ⊥
  stop_or_all journal v last p r = no_stop (first_state set) p.last last p.before p.behind p.entry p.replays (subst (λ (es : List Entry). Replays set (first_state set) es last) p.parts r) (fault_not_next set p.last p.entry _ v p.fault)

-- ---- a whole run's entries, and its waits

abbrev AllWait : List Entry → Type 0
AllWait [] = Unit {0}
AllWait (e ∷ es) = (is_wait e.act ≡ true) × AllWait es

wait_then : (t : ℕ) (o : Option BoxName) (es : List Entry) → AllWait es → AllWait (wait_entry t o ++ es)
wait_then t None es a = a
wait_then t (Some box) es a = (refl, a)

all_wait : (set : Setting) (s : State) (t : ℕ) (ths : List Thread) → AllWait (waits_from set s t ths)
all_wait set s t [] = tt
all_wait set s t (th ∷ ths) = wait_then t (waits_at set s t th) (waits_from set s (t + 1) ths) (all_wait set s (t + 1) ths)

acts_behind : (waits : List Entry) → AllWait waits → (acts_in waits ≡ []) × (waits_in waits ≡ waits)
acts_behind [] a = (refl, refl)
acts_behind (e ∷ es) a = (ap (λ (b : Bool). cond b [] (e ∷ acts_in es)) a.0, ap (λ (b : Bool). cond b (e ∷ es) (waits_in es)) a.0)

parted : (set : Setting) (a last : State) (es waits : List Entry) → AllWait waits → Replays set a es last → (acts_in (es ++ waits) ≡ es) × (waits_in (es ++ waits) ≡ waits)
parted set a last [] waits all r = acts_behind waits all
parted set a last (e ∷ es) waits all (n, mid, acts, rest) =
    let nn = acted_no set n a e.task e.act mid acts in
    let others = parted set mid last es waits all rest in
    (ap (λ (b : Bool). cond b [] (e ∷ acts_in (es ++ waits))) nn ∙ ap (λ (xs : List Entry). e ∷ xs) others.0, ap (λ (b : Bool). cond b (e ∷ (es ++ waits)) (waits_in (es ++ waits))) nn ∙ others.1)

record WholeParts (set : Setting) (journal : List Entry) : Type 0 where
  last : State
  replays : Replays set (first_state set) (acts_in journal) last
  at_rest : AtRest set last (waits_in journal)

whole_parts : (set : Setting) (journal : List Entry) → Whole set journal → WholeParts set journal
whole_parts set journal w =
    let r = w.at_rest in
    let all : AllWait w.waits = subst AllWait (sym r.waiting) (all_wait set (settled set r.moves w.last) 0 (settled set r.moves w.last).threads) in
    let p = parted set (first_state set) w.last w.acts w.waits all w.replays in
    record {
      last = w.last;
      replays = subst (λ (es : List Entry). Replays set (first_state set) es w.last) (sym (ap acts_in w.parts ∙ p.0)) w.replays;
      at_rest = subst (λ (es : List Entry). AtRest set w.last es) (sym (ap waits_in w.parts ∙ p.1)) w.at_rest;
    }

-- ---- one move more than a thread may do instructions is enough

abbrev pub Halts : State → Moved → Type 0
Halts s m = ((a : Act) × (m.act ≡ Some a)) ⊎ (m ≡ quiet s)

abbrev pub is_halt : Next → Bool
is_halt (Goes after) = false
is_halt x = true

module _ (set : Setting) (s : State) (t : ℕ) where
  gets_halts : (box : BoxName) (after : Lone) (q : List (ℕ × ℕ)) → Halts s (gets s t box after q)
  gets_halts box after [] = inr refl
  gets_halts box after (first ∷ rest) = inl (_, refl)

  probes_halts : (box : BoxName) (after : Lone) (q : List (ℕ × ℕ)) → Halts s (probes s t box after q)
  probes_halts box after [] = inl (_, refl)
  probes_halts box after (first ∷ rest) = inl (_, refl)

  begun_halts : (shape : List Token) (after : State) (o : Option (List Activation)) → Halts s (starts_with s shape after o)
  begun_halts shape after None = inr refl
  begun_halts shape after (Some frames) = inl (_, refl)

  either_halts : (b : Bool) (x y : Moved) → Halts s x → Halts s y → Halts s (cond b x y)
  either_halts true x y p q = p
  either_halts false x y p q = q

  pub next_halts : (x : Next) → is_halt x ≡ true → Halts s (moved_by set s t x)
  next_halts (Goes after) e = absurd (cc)
  next_halts (Puts box root shape after) e = either_halts (is_full (s.mailboxes box)) (acted (with_lone s t (ended after cause.Full)) (act.End cause.Full)) (puts (with_lone s t after) box root shape) (inl (_, refl)) (inl (_, refl))
  next_halts (PutWaits box root shape after) e = either_halts (is_full (s.mailboxes box)) (quiet s) (puts (with_lone s t after) box root shape) (inr refl) (inl (_, refl))
  next_halts (Bounds box most after) e = inl (_, refl)
  next_halts (Gets box after) e = gets_halts box after (s.mailboxes box).queue
  next_halts (Probes box after) e = probes_halts box after (s.mailboxes box).queue
  next_halts (Starts root shape after) e =
      either_halts (nat_lt (length s.threads) task_limit) (starts_with s shape (with_lone s t after) (execute_frames set.program after.heap root)) (acted (with_lone s t (ended after cause.Tasks)) (act.End cause.Tasks)) (begun_halts shape (with_lone s t after) (execute_frames set.program after.heap root)) (inl (_, refl))
  next_halts (Prints token after) e = inl (_, refl)
  next_halts (Ends c after) e = inl (_, refl)
  next_halts Stands e = inr refl

  moved_is : (th : Thread) (x : Next) → slice_get s.threads t ≡ Some th → next_move set t (lone_of s t th) ≡ x → moved set s t ≡ moved_by set s t x
  unfolding moved
  moved_is th x is e = ap (thread_moved set s t) is ∙ ap (moved_by set s t) e

module _ (set : Setting) where
  pub halts_before : (j : ℕ) (s : State) (t : ℕ) → Halts s (moved set s t) → before_action set j s t ≡ s
  unfolding before_action
  halts_before zero s t h = refl
  halts_before (suc j) s t (inl h) = ap (λ (a : Option Act). unless_acted s a (before_action set j (moved set s t).state t)) h.1
  halts_before (suc j) s t (inr h) = still_before set (suc j) s t h

  goes_before : (n : ℕ) (s : State) (t : ℕ) (th : Thread) (after : Lone) → slice_get s.threads t ≡ Some th → next_move set t (lone_of s t th) ≡ Goes after → before_action set (suc n) s t ≡ before_action set n (with_lone s t after) t
  unfolding before_action
  goes_before n s t th after is e = ap (λ (m : Moved). unless_acted s m.act (before_action set n m.state t)) (moved_is set s t th (Goes after) is e)

  tells_by : (t : ℕ) (l : Lone) (x : Next) → next_move set t l ≡ x → ((after : Lone) × (next_move set t l ≡ Goes after)) ⊎ (is_halt (next_move set t l) ≡ true)
  tells_by t l (Goes after) e = inl (after, e)
  tells_by t l (Puts box root shape after) e = inr (ap is_halt e)
  tells_by t l (PutWaits box root shape after) e = inr (ap is_halt e)
  tells_by t l (Bounds box most after) e = inr (ap is_halt e)
  tells_by t l (Gets box after) e = inr (ap is_halt e)
  tells_by t l (Probes box after) e = inr (ap is_halt e)
  tells_by t l (Starts root shape after) e = inr (ap is_halt e)
  tells_by t l (Prints token after) e = inr (ap is_halt e)
  tells_by t l (Ends c after) e = inr (ap is_halt e)
  tells_by t l Stands e = inr (ap is_halt e)

  one_less_left : (t : ℕ) (l after : Lone) (k : ℕ) → AreLeft set.limits.steps (suc k) l.thread → next_move set t l ≡ Goes after → AreLeft set.limits.steps k after.thread
  unfolding next_move
  one_less_left t l after k left e = one_less set t l after l.thread k left e

  no_more_left : (t : ℕ) (l after : Lone) → AreLeft set.limits.steps 0 l.thread → next_move set t l ≡ Goes after → ⊥
  unfolding next_move
  no_more_left t l after left e = none_left set t l after l.thread left e

  thread_halts : (s : State) (t : ℕ) (th : Thread) → slice_get s.threads t ≡ Some th → is_halt (next_move set t (lone_of s t th)) ≡ true → Halts s (moved set s t)
  thread_halts s t th is e = subst (Halts s) (sym (moved_is set s t th (next_move set t (lone_of s t th)) is refl)) (next_halts set s t (next_move set t (lone_of s t th)) e)

  -- so many moves, and more of them, lead to the same
  same_before : (k m n : ℕ) (s : State) (t : ℕ) (th : Thread) → slice_get s.threads t ≡ Some th → AreLeft set.limits.steps k th → k ≤ m → k ≤ n → before_action set (suc m) s t ≡ before_action set (suc n) s t
  same_before zero m n s t th is left km kn = elim (tells_by t (lone_of s t th) (next_move set t (lone_of s t th)) refl) [
    | inl e ↦ absurd (no_more_left t (lone_of s t th) e.0 left e.1)
    | inr e ↦ let h = thread_halts s t th is e in halts_before (suc m) s t h ∙ sym (halts_before (suc n) s t h)
  ]
  same_before (suc k) zero n s t th is left km kn = absurd (omega arith)
  same_before (suc k) (suc m) zero s t th is left km kn = absurd (omega arith)
  same_before (suc k) (suc m) (suc n) s t th is left km kn = elim (tells_by t (lone_of s t th) (next_move set t (lone_of s t th)) refl) [
    | inl e ↦ goes_before (suc m) s t th e.0 is e.1 ∙ (same_before k m n (with_lone s t e.0) t e.0.thread (set_there s.threads t th e.0.thread is) (one_less_left t (lone_of s t th) e.0 k left e.1) (omega arith) (omega arith) ∙ sym (goes_before (suc n) s t th e.0 is e.1))
    | inr e ↦ let h = thread_halts s t th is e in halts_before (suc (suc m)) s t h ∙ sym (halts_before (suc (suc n)) s t h)
  ]

  pub enough_before : (m : ℕ) (s : State) (t : ℕ) → set.limits.steps ≤ m → before_action set (suc m) s t ≡ before_action set (suc set.limits.steps) s t
  enough_before m s t le = by (slice_get s.threads t) refl
    where
      by : (o : Option Thread) → slice_get s.threads t ≡ o → before_action set (suc m) s t ≡ before_action set (suc set.limits.steps) s t
      by None is = let h = absent_still set s t is in still_before set (suc m) s t h ∙ sym (still_before set (suc set.limits.steps) s t h)
      by (Some th) is = same_before set.limits.steps m set.limits.steps s t th is (all_left set.limits.steps th) le (omega arith)

  enough_from : (m : ℕ) (ths : List Thread) (s : State) (t : ℕ) → set.limits.steps ≤ m → settled_from set (suc m) s t ths ≡ settled_from set (suc set.limits.steps) s t ths
  enough_from m [] s t le = refl
  enough_from m (th ∷ ths) s t le = ap (λ (z : State). settled_from set (suc m) z (t + 1) ths) (enough_before m s t le) ∙ enough_from m ths (before_action set (suc set.limits.steps) s t) (t + 1) le

  enough_of : (s : State) (m : ℕ) → set.limits.steps < m → settled set m s ≡ all_settled set s
  enough_of s zero lt = absurd (omega arith)
  enough_of s (suc m) lt = enough_from m s.threads s 0 (omega arith)

  and_left : (a b : Bool) → (a && b) ≡ true → (a ≡ true) × (b ≡ true)
  and_left true b e = (refl, e)
  and_left false b e = absurd (cc)

  none_going : (s : State) (t : ℕ) (ths : List Thread) → all_at_rest set s t ths ≡ true → first_going set s t ths ≡ None
  none_going s t [] e = refl
  none_going s t (th ∷ ths) e =
      let p = and_left (is_at_rest set s t th) (all_at_rest set s (t + 1) ths) e in
      ap (λ (b : Bool). cond b (first_going set s (t + 1) ths) (Some t)) p.0 ∙ none_going s (t + 1) ths p.1

  order : (m n : ℕ) → ((j : ℕ) × (n ≡ m + j)) ⊎ (n < m)
  order zero n = inl (n, (let z : n ≡ 0 + n = omega arith in z))
  order (suc m) zero = inr (omega arith)
  order (suc m) (suc n) = elim (order m n) [ inl e ↦ inl (e.0, (let x = e.1 in omega (arith, x))) | inr e ↦ inr (omega (arith, e)) ]

  stays : (s : State) (waits : List Entry) (r : AtRest set s waits) (m j : ℕ) → m ≡ r.moves + j → settled set m s ≡ settled set r.moves s
  stays s waits r m j e = same_settled set s r.moves m (omega (arith, e)) r.rest

  same_rest : (s : State) (waits : List Entry) (r : AtRest set s waits) → all_settled set s ≡ settled set r.moves s
  same_rest s waits r = elim (order r.moves (suc set.limits.steps)) [
    | inl e ↦ stays s waits r (suc set.limits.steps) e.0 e.1
    | inr e ↦ sym (enough_of s r.moves (let x = e in omega (arith, x)))
  ]

  none_goes : (s : State) (waits : List Entry) → AtRest set s waits → first_going set (all_settled set s) 0 (all_settled set s).threads ≡ None
  none_goes s waits r = ap (λ (z : State). first_going set z 0 z.threads) (same_rest s waits r) ∙ none_going (settled set r.moves s) 0 (settled set r.moves s).threads r.rest

  one_waits : (s : State) (a b : List Entry) → AtRest set s a → AtRest set s b → a ≡ b
  one_waits s a b p q = p.waiting ∙ (ap (λ (z : State). waits_from set z 0 z.threads) (sym (same_rest s a p) ∙ same_rest s b q) ∙ sym q.waiting)

-- ---- where two lists differ

cancel : (common mine other : List Entry) → common ++ mine ≡ common ++ other → mine ≡ other
cancel [] mine other e = e
cancel (x ∷ xs) mine other e = cancel xs mine other (let z : xs ++ mine ≡ xs ++ other = cc in z)

same_no_differ : (a : List Entry) (k : ℕ) → DifferAt a a k → ⊥
same_no_differ a k d = d.differ (ap first_entry (cancel d.common d.mine d.other (sym d.here ∙ d.there)))

differ_by : (c d m o m' o' : List Entry) → c ++ m ≡ d ++ m' → c ++ o ≡ d ++ o' → (first_entry m ≢ first_entry o) → (first_entry m' ≢ first_entry o') → length c ≡ length d
differ_by [] [] m o m' o' e f p q = refl
differ_by [] (x ∷ xs) m o m' o' e f p q = absurd (p (ap first_entry e ∙ sym (ap first_entry f)))
differ_by (x ∷ xs) [] m o m' o' e f p q = absurd (q (sym (ap first_entry e) ∙ ap first_entry f))
differ_by (x ∷ xs) (y ∷ ys) m o m' o' e f p q = ap suc (differ_by xs ys m o m' o' (let z : xs ++ m ≡ ys ++ m' = cc in z) (let z : xs ++ o ≡ ys ++ o' = cc in z) p q)

one_differ : (a b : List Entry) (j k : ℕ) → DifferAt a b j → DifferAt a b k → j ≡ k
one_differ a b j k p q = p.number ∙ (differ_by p.common q.common p.mine p.other q.mine q.other (sym p.here ∙ q.here) (sym p.there ∙ q.there) p.differ q.differ ∙ sym q.number)

-- ---- the law

module _ (set : Setting) (journal : List Entry) where
  whole_goes : (n t : ℕ) → Whole set journal → GoesOn set journal n t → ⊥
  whole_goes n t w g =
      let p = whole_parts set journal w in
      let same : g.last ≡ p.last = one_replay set (first_state set) (acts_in journal) g.last p.last g.replays p.replays in
      let none = none_goes set p.last (waits_in journal) p.at_rest in
      let z : None ≡ Some t = sym none ∙ subst (λ (s : State). first_going set (all_settled set s) 0 (all_settled set s).threads ≡ Some t) same g.going in cc

  whole_rests : (n : ℕ) → Whole set journal → RestsBut set journal n → ⊥
  whole_rests n w r =
      let p = whole_parts set journal w in
      let same : r.last ≡ p.last = one_replay set (first_state set) (acts_in journal) r.last p.last r.replays p.replays in
      let waits : r.waits ≡ waits_in journal = one_waits set p.last r.waits (waits_in journal) (subst (λ (s : State). AtRest set s r.waits) same r.at_rest) p.at_rest in
      same_no_differ (waits_in journal) r.common (subst (λ (es : List Entry). DifferAt (waits_in journal) es r.common) waits r.differ)

  goes_rests : (n t m : ℕ) → GoesOn set journal n t → RestsBut set journal m → ⊥
  goes_rests n t m g r =
      let same : g.last ≡ r.last = one_replay set (first_state set) (acts_in journal) g.last r.last g.replays r.replays in
      let none = none_goes set r.last r.waits r.at_rest in
      let z : None ≡ Some t = sym none ∙ subst (λ (s : State). first_going set (all_settled set s) 0 (all_settled set s).threads ≡ Some t) same g.going in cc

  goes_goes : (n t m u : ℕ) → GoesOn set journal n t → GoesOn set journal m u → verdict.Goes n t ≡ verdict.Goes m u
  goes_goes n t m u g h =
      let same : h.last ≡ g.last = one_replay set (first_state set) (acts_in journal) h.last g.last h.replays g.replays in
      let tasks : Some t ≡ Some u = sym g.going ∙ subst (λ (s : State). first_going set (all_settled set s) 0 (all_settled set s).threads ≡ Some u) same h.going in
      let lines : n ≡ m = g.number ∙ sym h.number in
      cc

  rests_rests : (n m : ℕ) → RestsBut set journal n → RestsBut set journal m → verdict.Rest n ≡ verdict.Rest m
  rests_rests n m p q =
      let same : q.last ≡ p.last = one_replay set (first_state set) (acts_in journal) q.last p.last q.replays p.replays in
      let waits : q.waits ≡ p.waits = one_waits set p.last q.waits p.waits (subst (λ (s : State). AtRest set s q.waits) same q.at_rest) p.at_rest in
      let commons : p.common ≡ q.common = one_differ (waits_in journal) p.waits p.common q.common p.differ (subst (λ (es : List Entry). DifferAt (waits_in journal) es q.common) waits q.differ) in
      ap verdict.Rest (p.number ∙ (ap (λ (k : ℕ). length (acts_in journal) + k + 1) commons ∙ sym q.number))

  stop_whole : (v : Verdict) → Stops set journal v → Whole set journal → ⊥
  stop_whole v s w = let p = whole_parts set journal w in stop_or_all set journal v p.last s p.replays

  stop_goes : (v : Verdict) (n t : ℕ) → Stops set journal v → GoesOn set journal n t → ⊥
  stop_goes v n t s g = stop_or_all set journal v g.last s g.replays

  stop_rests : (v : Verdict) (n : ℕ) → Stops set journal v → RestsBut set journal n → ⊥
  stop_rests v n s r = stop_or_all set journal v r.last s r.replays

  stopped : (v w : Verdict) → Stops set journal v → IsVerdict set journal w → v ≡ w
  stopped v verdict.Whole p q = absurd (stop_whole v p q)
  stopped v (verdict.Goes m u) p q = absurd (stop_goes v m u p q)
  stopped v (verdict.Rest m) p q = absurd (stop_rests v m p q)
  stopped v (verdict.Absent m) p q = one_stop set journal v (verdict.Absent m) p q
  stopped v (verdict.Ended m) p q = one_stop set journal v (verdict.Ended m) p q
  stopped v (verdict.Waits m) p q = one_stop set journal v (verdict.Waits m) p q
  stopped v (verdict.Made m own) p q = one_stop set journal v (verdict.Made m own) p q

  one : (v w : Verdict) → IsVerdict set journal v → IsVerdict set journal w → v ≡ w
  one verdict.Whole verdict.Whole p q = refl
  one verdict.Whole (verdict.Goes m u) p q = absurd (whole_goes m u p q)
  one verdict.Whole (verdict.Rest m) p q = absurd (whole_rests m p q)
  one verdict.Whole (verdict.Absent m) p q = absurd (stop_whole _ q p)
  one verdict.Whole (verdict.Ended m) p q = absurd (stop_whole _ q p)
  one verdict.Whole (verdict.Waits m) p q = absurd (stop_whole _ q p)
  one verdict.Whole (verdict.Made m own) p q = absurd (stop_whole _ q p)
  one (verdict.Goes n t) verdict.Whole p q = absurd (whole_goes n t q p)
  one (verdict.Goes n t) (verdict.Goes m u) p q = goes_goes n t m u p q
  one (verdict.Goes n t) (verdict.Rest m) p q = absurd (goes_rests n t m p q)
  one (verdict.Goes n t) (verdict.Absent m) p q = absurd (stop_goes _ n t q p)
  one (verdict.Goes n t) (verdict.Ended m) p q = absurd (stop_goes _ n t q p)
  one (verdict.Goes n t) (verdict.Waits m) p q = absurd (stop_goes _ n t q p)
  one (verdict.Goes n t) (verdict.Made m own) p q = absurd (stop_goes _ n t q p)
  one (verdict.Rest n) verdict.Whole p q = absurd (whole_rests n q p)
  one (verdict.Rest n) (verdict.Goes m u) p q = absurd (goes_rests m u n q p)
  one (verdict.Rest n) (verdict.Rest m) p q = rests_rests n m p q
  one (verdict.Rest n) (verdict.Absent m) p q = absurd (stop_rests _ n q p)
  one (verdict.Rest n) (verdict.Ended m) p q = absurd (stop_rests _ n q p)
  one (verdict.Rest n) (verdict.Waits m) p q = absurd (stop_rests _ n q p)
  one (verdict.Rest n) (verdict.Made m own) p q = absurd (stop_rests _ n q p)
  one (verdict.Absent n) w p q = stopped (verdict.Absent n) w p q
  one (verdict.Ended n) w p q = stopped (verdict.Ended n) w p q
  one (verdict.Waits n) w p q = stopped (verdict.Waits n) w p q
  one (verdict.Made n own) w p q = stopped (verdict.Made n own) w p q

pub one_verdict : OneVerdict
one_verdict set journal v w p q = one set journal v w p q
