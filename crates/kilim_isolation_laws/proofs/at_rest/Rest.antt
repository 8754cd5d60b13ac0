-- Threads come to rest in one way.
use Rattle.std.proofs.Common.{◌≡◌, ℕ, zero, suc, ◌+◌, ◌<◌, ◌≤◌, Bool, true, false, cond, List, [], ◌∷◌, Option, Some, None, ◌⊎◌, inl, inr, length, refl, sym, ap, subst, ◌∙◌, arith}
use Rattle.std.specs.Prelude.{◌&&◌, nat_lt, is_some, slice_get, slice_set}
use Rattle.kilim_run_state.specs.declared.cause.EndCause.TheVariants as cause
use Rattle.kilim_run_state.specs.declared.value.Token.{Token}
use Rattle.kilim_program.specs.declared.names.BoxName.{BoxName}
use Rattle.kilim_run_state.specs.Machine.{Activation}
use Rattle.kilim_run_journal.specs.declared.entry.Act.{Act}
use Rattle.kilim_run_journal.specs.declared.entry.Act.TheVariants.{End}
use Rattle.kilim_run_journal.specs.declared.entry.Entry.{Entry}
use Rattle.kilim_run_model.specs.State.{Setting, Mailbox, Thread, Alive, Ended, State, execute_frames, is_full}
use Rattle.kilim_run_model.specs.declared.waits.Waits.{Waits}
use Rattle.kilim_run_model.specs.declared.waits.Waits.TheVariants as wait
use Rattle.kilim_run_model.specs.Lone.{Lone, Next, Goes, Puts, PutWaits, Bounds, Gets, Probes, Starts, Prints, Ends, Stands, ended, next_move, get_at}
use Rattle.kilim_run_model.specs.Turn.{Moved, quiet, acted, lone_of, with_lone, gets, probes, puts, starts, starts_with, task_limit, moved_by, thread_moved, moved}
use Rattle.kilim_run_model.specs.Runs.{unless_acted, before_action, settled_from, settled, where_empty, where_full, if_waits, waits_at, is_at_rest, all_at_rest, waits_from, AtRest}
use Rattle.kilim_run_model.proofs.Alone.{rests_still}
use Rattle.kilim_lemmas.proofs.Lists.{set_other}
use Rattle.kilim_isolation_laws.specs.at_rest.Laws.{OneRest, StaysAt, is_going}
use Rattle.kilim_isolation_laws.proofs.at_rest.Stays.{get_stays}

-- ---- a move without an action changes one thread, and no mailbox

pub record Keeps (t : ℕ) (s after : State) : Type 0 where
  pub others : (u : ℕ) → (u ≡ t → ⊥) → slice_get after.threads u ≡ slice_get s.threads u
  pub boxes : after.mailboxes ≡ s.mailboxes

stays : (t : ℕ) (s : State) → Keeps t s s
stays t s = record { others = λ u other. refl; boxes = refl }

further : (t : ℕ) (s mid after : State) → Keeps t s mid → Keeps t mid after → Keeps t s after
further t s mid after a b = record { others = λ u other. b.others u other ∙ a.others u other; boxes = b.boxes ∙ a.boxes }

module _ (set : Setting) (s : State) (t : ℕ) where
  gets_keep : (box : BoxName) (after : Lone) (queue : List (ℕ × ℕ)) → (gets s t box after queue).act ≡ None → Keeps t s (gets s t box after queue).state
  gets_keep box after [] e = stays t s
  gets_keep box after (first ∷ rest) e = absurd (cc)

  probes_keep : (box : BoxName) (after : Lone) (queue : List (ℕ × ℕ)) → (probes s t box after queue).act ≡ None → Keeps t s (probes s t box after queue).state
  probes_keep box after [] e = absurd (cc)
  probes_keep box after (first ∷ rest) e = absurd (cc)

  begun_keep : (shape : List Token) (after : State) (frames : Option (List Activation)) → (starts_with s shape after frames).act ≡ None → Keeps t s (starts_with s shape after frames).state
  begun_keep shape after None e = stays t s
  begun_keep shape after (Some frames) e = absurd (cc)

  either_keeps : (b : Bool) (x y : Moved) → (x.act ≡ None → Keeps t s x.state) → (y.act ≡ None → Keeps t s y.state) → (cond b x y).act ≡ None → Keeps t s (cond b x y).state
  either_keeps true x y p q e = p e
  either_keeps false x y p q e = q e

  next_keeps : (x : Next) → (moved_by set s t x).act ≡ None → Keeps t s (moved_by set s t x).state
  next_keeps (Goes after) e = record { others = λ u other. set_other s.threads t u after.thread other; boxes = refl }
  next_keeps (Puts box root shape after) e =
      either_keeps (is_full (s.mailboxes box)) (acted (with_lone s t (ended after cause.Full)) (End cause.Full)) (puts (with_lone s t after) box root shape) (λ x. absurd (cc)) (λ x. absurd (cc)) e
  next_keeps (PutWaits box root shape after) e = either_keeps (is_full (s.mailboxes box)) (quiet s) (puts (with_lone s t after) box root shape) (λ x. stays t s) (λ x. absurd (cc)) e
  next_keeps (Bounds box most after) e = absurd (cc)
  next_keeps (Gets box after) e = gets_keep box after (s.mailboxes box).queue e
  next_keeps (Probes box after) e = probes_keep box after (s.mailboxes box).queue e
  next_keeps (Starts root shape after) e =
      either_keeps (nat_lt (length s.threads) task_limit) (starts_with s shape (with_lone s t after) (execute_frames set.program after.heap root)) (acted (with_lone s t (ended after cause.Tasks)) (End cause.Tasks))
      (λ x. begun_keep shape (with_lone s t after) (execute_frames set.program after.heap root) x) (λ x. absurd (cc)) e
  next_keeps (Prints token after) e = absurd (cc)
  next_keeps (Ends cause after) e = absurd (cc)
  next_keeps Stands e = stays t s

  thread_keeps : (th : Option Thread) → (thread_moved set s t th).act ≡ None → Keeps t s (thread_moved set s t th).state
  thread_keeps None e = stays t s
  thread_keeps (Some th) e = next_keeps (next_move set t (lone_of s t th)) e

  move_keeps : (moved set s t).act ≡ None → Keeps t s (moved set s t).state
  unfolding moved
  move_keeps e = thread_keeps (slice_get s.threads t) e

module _ (set : Setting) where
  unless_keeps : (s later : State) (t : ℕ) (act : Option Act) → (act ≡ None → Keeps t s later) → Keeps t s (unless_acted s act later)
  unless_keeps s later t None f = f refl
  unless_keeps s later t (Some act) f = stays t s

  pub before_keeps : (n : ℕ) (s : State) (t : ℕ) → Keeps t s (before_action set n s t)
  unfolding before_action
  before_keeps zero s t = stays t s
  before_keeps (suc n) s t =
      unless_keeps s (before_action set n (moved set s t).state t) t (moved set s t).act
      (λ none. further t s (moved set s t).state (before_action set n (moved set s t).state t) (move_keeps set s t none) (before_keeps n (moved set s t).state t))

  -- settling the threads from a number on leaves those before it
  pub settled_others : (n : ℕ) (s : State) (t : ℕ) (list : List Thread) (u : ℕ) → u < t → slice_get (settled_from set n s t list).threads u ≡ slice_get s.threads u
  settled_others n s t [] u lt = refl
  settled_others n s t (thread ∷ threads) u lt =
      settled_others n (before_action set n s t) (t + 1) threads u (omega arith) ∙ (before_keeps n s t).others u (λ e. absurd (omega arith))

  pub settled_boxes : (n : ℕ) (s : State) (t : ℕ) (list : List Thread) → (settled_from set n s t list).mailboxes ≡ s.mailboxes
  settled_boxes n s t [] = refl
  settled_boxes n s t (thread ∷ threads) = settled_boxes n (before_action set n s t) (t + 1) threads ∙ (before_keeps n s t).boxes

  -- ---- more moves

  -- so many more
  abbrev more : ℕ → ℕ → ℕ
  more zero j = j
  more (suc m) j = suc (more m j)

  record Further (m n : ℕ) : Type 0 where
    by : ℕ
    is : n ≡ more m by

  is_further : (m n : ℕ) → m ≤ n → Further m n
  is_further zero n le = record { by = n; is = refl }
  is_further (suc m) zero le = absurd (omega arith)
  is_further (suc m) (suc n) le = let rest = is_further m n (omega arith) in record { by = rest.by; is = ap suc rest.is }

  stay_before : (j : ℕ) (s : State) (t : ℕ) → moved set s t ≡ quiet s → before_action set j s t ≡ s
  unfolding before_action
  stay_before zero s t e = refl
  stay_before (suc j) s t e = rw e (stay_before j s t e)

  acts_before : (j : ℕ) (s : State) (t : ℕ) (act : Act) → (moved set s t).act ≡ Some act → before_action set j s t ≡ s
  unfolding before_action
  acts_before zero s t act e = refl
  acts_before (suc j) s t act e = ap (λ (a : Option Act). unless_acted s a (before_action set j (moved set s t).state t)) e

  parts_by : (m j : ℕ) (s : State) (t : ℕ) (act : Option Act) → (moved set s t).act ≡ act →
      before_action set (more m j) (moved set s t).state t ≡ before_action set j (before_action set m (moved set s t).state t) t →
      unless_acted s act (before_action set (more m j) (moved set s t).state t) ≡ before_action set j (unless_acted s act (before_action set m (moved set s t).state t)) t
  parts_by m j s t None e same = same
  parts_by m j s t (Some act) e same = sym (acts_before j s t act e)

  parts_of : (m j : ℕ) (s : State) (t : ℕ) → before_action set (more m j) s t ≡ before_action set j (before_action set m s t) t
  unfolding before_action
  parts_of zero j s t = refl
  parts_of (suc m) j s t = parts_by m j s t (moved set s t).act refl (parts_of m j (moved set s t).state t)

  -- ---- who rests in the end went no further when it settled

  no_going : (x : Next) (w : Waits) → get_at x ≡ Some w → is_going x ≡ false
  no_going (Goes after) w e = absurd (cc)
  no_going x w e = refl

  stays_still : (w : Waits) (x : Next) → StaysAt w x → is_going x ≡ false
  stays_still (wait.Take box) x s = no_going x (wait.Take box) s
  stays_still (wait.Put box) x s = s

  rests_by : (f a : State) (t : ℕ) (th : Thread) (o : Option Waits) → get_at (next_move set t (lone_of f t th)) ≡ o → is_some (if_waits f o) ≡ true → is_going (next_move set t (lone_of a t th)) ≡ false
  rests_by f a t th None at rests = absurd (cc)
  rests_by f a t th (Some w) at rests = stays_still w (next_move set t (lone_of a t th)) (get_stays set t (lone_of f t th) (lone_of a t th) w refl at)

  rests_back : (f a : State) (t : ℕ) (th : Thread) → is_at_rest set f t th ≡ true → is_going (next_move set t (lone_of a t th)) ≡ false
  unfolding next_move
  rests_back f a t (Ended cause) rests = refl
  rests_back f a t (Alive frames done boxes) rests = rests_by f a t (Alive frames done boxes) (get_at (next_move set t (lone_of f t (Alive frames done boxes)))) refl rests

  -- it doesn't move, or it acts
  abbrev Halts : State → Moved → Type 0
  Halts a m = (m ≡ quiet a) ⊎ ((act : Act) × (m.act ≡ Some act))

  either_halts : (a : State) (b : Bool) (x y : Moved) → Halts a x → Halts a y → Halts a (cond b x y)
  either_halts a true x y p q = p
  either_halts a false x y p q = q

  begun_halts : (a : State) (shape : List Token) (after : State) (o : Option (List Activation)) → Halts a (starts_with a shape after o)
  begun_halts a shape after None = inl refl
  begun_halts a shape after (Some frames) = inr (_, refl)

  gets_halts : (a : State) (t : ℕ) (box : BoxName) (after : Lone) (queue : List (ℕ × ℕ)) → Halts a (gets a t box after queue)
  gets_halts a t box after [] = inl refl
  gets_halts a t box after (first ∷ rest) = inr (_, refl)

  probes_halt : (a : State) (t : ℕ) (box : BoxName) (after : Lone) (queue : List (ℕ × ℕ)) → Halts a (probes a t box after queue)
  probes_halt a t box after [] = inr (_, refl)
  probes_halt a t box after (first ∷ rest) = inr (_, refl)

  next_halts : (a : State) (t : ℕ) (x : Next) → is_going x ≡ false → Halts a (moved_by set a t x)
  next_halts a t (Goes after) e = absurd (cc)
  next_halts a t (Puts box root shape after) e = either_halts a (is_full (a.mailboxes box)) (acted (with_lone a t (ended after cause.Full)) (End cause.Full)) (puts (with_lone a t after) box root shape) (inr (_, refl)) (inr (_, refl))
  next_halts a t (PutWaits box root shape after) e = either_halts a (is_full (a.mailboxes box)) (quiet a) (puts (with_lone a t after) box root shape) (inl refl) (inr (_, refl))
  next_halts a t (Bounds box most after) e = inr (_, refl)
  next_halts a t (Gets box after) e = gets_halts a t box after (a.mailboxes box).queue
  next_halts a t (Probes box after) e = probes_halt a t box after (a.mailboxes box).queue
  next_halts a t (Starts root shape after) e =
      either_halts a (nat_lt (length a.threads) task_limit) (starts_with a shape (with_lone a t after) (execute_frames set.program after.heap root)) (acted (with_lone a t (ended after cause.Tasks)) (End cause.Tasks))
      (begun_halts a shape (with_lone a t after) (execute_frames set.program after.heap root)) (inr (_, refl))
  next_halts a t (Prints token after) e = inr (_, refl)
  next_halts a t (Ends cause after) e = inr (_, refl)
  next_halts a t Stands e = inl refl

  halts_before : (j : ℕ) (a : State) (t : ℕ) → Halts a (moved set a t) → before_action set j a t ≡ a
  halts_before j a t (inl e) = stay_before j a t e
  halts_before j a t (inr e) = acts_before j a t e.0 e.1

  abbrev AllRest : State → Type 0
  AllRest f = (u : ℕ) (th : Thread) → slice_get f.threads u ≡ Some th → is_at_rest set f u th ≡ true

  still_by : (f a : State) (t : ℕ) (o : Option Thread) → slice_get a.threads t ≡ o → slice_get f.threads t ≡ slice_get a.threads t → AllRest f → Halts a (moved set a t)
  unfolding moved
  still_by f a t None at there rest = inl (ap (thread_moved set a t) at)
  still_by f a t (Some th) at there rest =
      subst (λ (m : Moved). Halts a m) (sym (ap (thread_moved set a t) at)) (next_halts a t (next_move set t (lone_of a t th)) (rests_back f a t th (rest t th (there ∙ at))))

  more_settles : (m j : ℕ) (list : List Thread) (s : State) (t : ℕ) → AllRest (settled_from set m s t list) → settled_from set (more m j) s t list ≡ settled_from set m s t list
  more_settles m j [] s t rest = refl
  more_settles m j (thread ∷ threads) s t rest =
      let a = before_action set m s t in
      let f = settled_from set m a (t + 1) threads in
      let still : Halts a (moved set a t) = still_by f a t (slice_get a.threads t) refl (settled_others m a (t + 1) threads t (omega arith)) rest in
      let here : before_action set (more m j) s t ≡ a = parts_of m j s t ∙ halts_before j a t still in
      ap (λ (x : State). settled_from set (more m j) x (t + 1) threads) here ∙ more_settles m j threads a (t + 1) rest

  -- ---- one rest

  and_parts : (a b : Bool) → (a && b) ≡ true → (a ≡ true) × (b ≡ true)
  and_parts true b e = (refl, e)
  and_parts false b e = absurd (cc)

  each_rests : (f : State) (list : List Thread) (t i u : ℕ) (th : Thread) → u ≡ t + i → all_at_rest set f t list ≡ true → slice_get list i ≡ Some th → is_at_rest set f u th ≡ true
  each_rests f [] t i u th e all at = absurd (cc)
  each_rests f (thread ∷ threads) t zero u th e all at =
      let parts = and_parts (is_at_rest set f t thread) (all_at_rest set f (t + 1) threads) all in
      let same : thread ≡ th = cc in
      let number : u ≡ t = omega arith in
      ap (λ (n : ℕ). is_at_rest set f n th) number ∙ (ap (λ (x : Thread). is_at_rest set f t x) (sym same) ∙ parts.0)
  each_rests f (thread ∷ threads) t (suc i) u th e all at =
      let parts = and_parts (is_at_rest set f t thread) (all_at_rest set f (t + 1) threads) all in
      each_rests f threads (t + 1) i u th (omega arith) parts.1 at

  pub same_settled : (s : State) (m n : ℕ) → m ≤ n → all_at_rest set (settled set m s) 0 (settled set m s).threads ≡ true → settled set n s ≡ settled set m s
  same_settled s m n le all =
      let far = is_further m n le in
      ap (λ (k : ℕ). settled set k s) far.is ∙ more_settles m far.by s.threads s 0 (λ u th at. each_rests (settled set m s) (settled set m s).threads 0 u u th (omega arith) all at)

order : (m n : ℕ) → (m ≤ n) ⊎ (n ≤ m)
order zero n = inl (omega arith)
order (suc m) zero = inr (omega arith)
order (suc m) (suc n) = elim (order m n) [ inl le ↦ inl (omega arith) | inr le ↦ inr (omega arith) ]

same_waits : (set : Setting) (s : State) (a b : List Entry) (p : AtRest set s a) (q : AtRest set s b) → (p.moves ≤ q.moves) ⊎ (q.moves ≤ p.moves) → a ≡ b
same_waits set s a b p q (inl le) =
    p.waiting ∙ (ap (λ (f : State). waits_from set f 0 f.threads) (sym (same_settled set s p.moves q.moves le p.rest)) ∙ sym q.waiting)
same_waits set s a b p q (inr le) =
    p.waiting ∙ (ap (λ (f : State). waits_from set f 0 f.threads) (same_settled set s q.moves p.moves le q.rest) ∙ sym q.waiting)

pub one_rest : OneRest
one_rest set s a b p q = same_waits set s a b p q (order p.moves q.moves)
