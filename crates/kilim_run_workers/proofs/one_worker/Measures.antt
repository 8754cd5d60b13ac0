-- How much is left to do: a number that falls with each step of the runner.
use Rattle.std.proofs.Common.{◌≡◌, ℕ, suc, ◌+◌, ◌-◌, ◌*◌, ◌<◌, ◌≤◌, Bool, true, false, List, [], ◌∷◌, ◌++◌, Option, Some, None, length, ◌==◌, refl, sym, ap, subst, ◌∙◌, arith}
use Rattle.std.specs.List.{sum_by, AllByRecursion}
use Rattle.std.specs.Prelude.{if◌then◌else◌}
use Rattle.std.proofs.lemmas.List.Sums.{sum_by-cons, sum_by_push}
use Rattle.kilim_program.specs.declared.names.BoxName.{BoxName}
use Rattle.kilim_run_state.specs.declared.value.Token.{Token}
use Rattle.kilim_run_model.specs.State.{is_full}
use Rattle.kilim_run_model.specs.declared.waits.Waits.{Waits}
use Rattle.kilim_run_model.specs.declared.waits.Waits.TheVariants as wait
use Rattle.kilim_run_model.specs.Turn.{task_limit}
use Rattle.kilim_run_board.specs.declared.waiting.parked.Waiter.{Waiter}
use Rattle.kilim_run_workers.specs.one_worker.Pool as pool
use Rattle.kilim_run_board.specs.fibers.Fibers.{StartsFresh}
use Rattle.kilim_run_board.specs.declared.fibers.Wants.{Wants}
use Rattle.kilim_run_board.specs.declared.fibers.Wants.TheVariants as wants
use Rattle.kilim_run_board.specs.declared.fibers.Answer.{Answer}
use Rattle.kilim_run_board.specs.declared.fibers.Answer.TheVariants as answer
use Rattle.kilim_run_board.specs.declared.board.Acted.{Acted}
use Rattle.kilim_run_board.specs.declared.board.Acted.TheVariants as acted
use Rattle.kilim_run_board.specs.Seen.{ActAnswers}
use Rattle.kilim_run_board.specs.Board.{Board, GivesBack, Parks, PutsMessage, TakesMessage, StartsTask}
use Rattle.kilim_run_board.specs.waiting.Parked.{woken, ready_after, parked_after}
use Rattle.kilim_run_board.specs.Places.{same_wait}
use Rattle.kilim_run_board.specs.waiting.Mailboxes.{Tree, Mail, has_to_wait}

-- an act that ends the task, though it wanted something else
abbrev pub IsOver : Acted → Type 0
IsOver (acted.Answer a) = ⊥
IsOver acted.OutOfTasks = Unit {0}
IsOver acted.OutOfRoom = Unit {0}

-- the answer refuses what is wanted
abbrev pub IsRefused : {F : Type 0} → Waits → Wants F → Answer → Type 0
IsRefused (wait.Take box) w a = (w ≡ wants.Take box) × (a ≡ answer.Nothing)
IsRefused (wait.Put box) w a = (tree : Tree) × (shape : List Token) × (back : Tree) × (same : List Token) × (w ≡ wants.PutWait box tree shape) × (a ≡ answer.Full back same)

module _ {F : Type 0} (task : F → ℕ) (count : F → ℕ) (n : ℕ) where
  abbrev weight : F → ℕ
  weight f = pool.weight count n f

  abbrev ready_weight : F → ℕ
  ready_weight f = pool.ready_weight count n f

  abbrev parked_weight : Waiter F → ℕ
  parked_weight w = pool.parked_weight count n w

  abbrev left : Board F → ℕ
  left b = pool.left count n b

  woken_left : (v : Waits) (ws : List (Waiter F)) (found : Waiter F × List (Waiter F)) → woken v ws ≡ Some found → sum_by parked_weight ws ≡ weight found.0.fiber + sum_by parked_weight found.1
  woken_left v [] found e = absurd (cc)
  woken_left v (w ∷ ws) found e = by_name (same_wait v w.waits) (woken v ws) (λ x g. woken_left v ws x g) refl e
    where
      some_is : (x y : Waiter F × List (Waiter F)) → Some x ≡ Some y → x ≡ y
      some_is x y e = cc

      by_name : (b : Bool) (o : Option (Waiter F × List (Waiter F))) → ((x : Waiter F × List (Waiter F)) → woken v ws ≡ Some x → sum_by parked_weight ws ≡ weight x.0.fiber + sum_by parked_weight x.1) → woken v ws ≡ o →
          (if b then Some (w, ws) else elim o [ None ↦ None | Some y ↦ Some (y.0, w ∷ y.1) ]) ≡ Some found → sum_by parked_weight (w ∷ ws) ≡ weight found.0.fiber + sum_by parked_weight found.1
      by_name true o later g e = subst (λ (x : Waiter F × List (Waiter F)). sum_by parked_weight (w ∷ ws) ≡ weight x.0.fiber + sum_by parked_weight x.1) (some_is (w, ws) found e) (sum_by-cons parked_weight w ws)
      by_name false None later g e = absurd (cc)
      by_name false (Some y) later g e =
          subst (λ (x : Waiter F × List (Waiter F)). sum_by parked_weight (w ∷ ws) ≡ weight x.0.fiber + sum_by parked_weight x.1) (some_is (y.0, w ∷ y.1) found e)
          (let h = later y g in let a = sum_by-cons parked_weight w ws in let c = sum_by-cons parked_weight w y.1 in omega arith)

  after_put : (ready : List F) (parked : List (Waiter F)) (o : Option (Waiter F × List (Waiter F))) → ((x : Waiter F × List (Waiter F)) → o ≡ Some x → sum_by parked_weight parked ≡ weight x.0.fiber + sum_by parked_weight x.1) →
      sum_by ready_weight (ready_after ready o) + sum_by parked_weight (parked_after parked o) ≤ sum_by ready_weight ready + sum_by parked_weight parked + 2
  after_put ready parked None h = omega arith
  after_put ready parked (Some x) h = let e = h x refl in let p = sum_by_push ready_weight ready x.0.fiber in omega arith

  -- a put may wake one fiber: two more
  pub put_left : (b b' : Board F) (t : ℕ) (box : BoxName) (tree : Tree) (shape : List Token) → PutsMessage b t b' box tree shape → left b' ≤ left b + 2
  put_left b b' t box tree shape puts =
      let h = after_put b.ready b.parked (woken (wait.Take box) b.parked) (λ x e. woken_left (wait.Take box) b.parked x e) in
      let r : sum_by ready_weight b'.ready ≡ sum_by ready_weight (ready_after b.ready (woken (wait.Take box) b.parked)) = ap (sum_by ready_weight) puts.ready in
      let p : sum_by parked_weight b'.parked ≡ sum_by parked_weight (parked_after b.parked (woken (wait.Take box) b.parked)) = ap (sum_by parked_weight) puts.parked in
      let k : (task_limit - b'.tasks) * (3 * n + 2) ≡ (task_limit - b.tasks) * (3 * n + 2) = ap (λ k. (task_limit - k) * (3 * n + 2)) puts.tasks in
      omega arith

  -- so may a take
  pub take_left : (b b' : Board F) (t : ℕ) (box : BoxName) (k : ℕ) (tree : Tree) (rest : List (ℕ × Tree)) → TakesMessage b t b' box k tree rest → left b' ≤ left b + 2
  take_left b b' t box k tree rest takes =
      let h = after_put b.ready b.parked (woken (wait.Put box) b.parked) (λ x e. woken_left (wait.Put box) b.parked x e) in
      let r : sum_by ready_weight b'.ready ≡ sum_by ready_weight (ready_after b.ready (woken (wait.Put box) b.parked)) = ap (sum_by ready_weight) takes.ready in
      let p : sum_by parked_weight b'.parked ≡ sum_by parked_weight (parked_after b.parked (woken (wait.Put box) b.parked)) = ap (sum_by parked_weight) takes.parked in
      let k : (task_limit - b'.tasks) * (3 * n + 2) ≡ (task_limit - b.tasks) * (3 * n + 2) = ap (λ k. (task_limit - k) * (3 * n + 2)) takes.tasks in
      omega arith

  one_fewer : (a x : ℕ) → a < task_limit → (task_limit - (a + 1)) * x + x ≡ (task_limit - a) * x
  one_fewer a x few = let e : suc (task_limit - (a + 1)) ≡ task_limit - a = omega arith in sym (suc_times (task_limit - (a + 1)) x) ∙ ap (λ k. k * x) e
    where
      suc_times : (k x : ℕ) → suc k * x ≡ k * x + x
      suc_times k x = grind arith

  -- a start makes one task fewer that can be started
  pub start_left : (b b' : Board F) (t : ℕ) (f : F) (shape : List Token) → b.tasks < task_limit → StartsTask b t b' f shape → left b' ≤ left b
  start_left b b' t f shape few starts =
      let r : sum_by ready_weight b'.ready ≡ sum_by ready_weight b.ready + ready_weight f = ap (sum_by ready_weight) starts.ready ∙ sum_by_push ready_weight b.ready f in
      let p : sum_by parked_weight b'.parked ≡ sum_by parked_weight b.parked = ap (sum_by parked_weight) starts.parked in
      let k : (task_limit - b'.tasks) * (3 * n + 2) ≡ (task_limit - (b.tasks + 1)) * (3 * n + 2) = ap (λ k. (task_limit - k) * (3 * n + 2)) starts.tasks in
      let o = one_fewer b.tasks (3 * n + 2) few in
      let w : n - count f ≤ n = omega arith in
      omega arith

  pub same_left : (b b' : Board F) → b'.ready ≡ b.ready → b'.parked ≡ b.parked → b'.tasks ≡ b.tasks → left b' ≡ left b
  same_left b b' r p t =
      let r' : sum_by ready_weight b'.ready ≡ sum_by ready_weight b.ready = ap (sum_by ready_weight) r in
      let p' : sum_by parked_weight b'.parked ≡ sum_by parked_weight b.parked = ap (sum_by parked_weight) p in
      let k : (task_limit - b'.tasks) * (3 * n + 2) ≡ (task_limit - b.tasks) * (3 * n + 2) = ap (λ k. (task_limit - k) * (3 * n + 2)) t in omega arith

  -- an act adds two at most
  pub act_left : (numbered : F → F → ℕ → Type 0) (b b' : Board F) (seat t : ℕ) (w : Wants F) (a : Acted) → ActAnswers numbered b seat t b' w a → left b' ≤ left b + 2
  act_left numbered b b' seat t (wants.Put box tree shape) (acted.Answer (answer.Sent k)) did = put_left b b' t box tree shape did.2
  act_left numbered b b' seat t (wants.PutWait box tree shape) (acted.Answer (answer.Sent k)) did = put_left b b' t box tree shape did.2
  act_left numbered b b' seat t (wants.PutWait box tree shape) (acted.Answer (answer.Full back same)) did = let e = same_left b b' did.3.spots.ready did.3.spots.parked did.3.run.tasks in omega arith
  act_left numbered b b' seat t (wants.Bound box most) (acted.Answer answer.Done) did = let e = same_left b b' did.spots.ready did.spots.parked did.tasks in omega arith
  act_left numbered b b' seat t (wants.Take box) (acted.Answer (answer.Message tree k)) did = take_left b b' t box k tree did.0 did.1
  act_left numbered b b' seat t (wants.Take box) (acted.Answer answer.Nothing) did = let e = same_left b b' did.1.spots.ready did.1.spots.parked did.1.run.tasks in omega arith
  act_left numbered b b' seat t (wants.Probe box) (acted.Answer (answer.Message tree k)) did = take_left b b' t box k tree did.0 did.1
  act_left numbered b b' seat t (wants.Probe box) (acted.Answer answer.Nothing) did = let e = same_left b b' did.1.spots.ready did.1.spots.parked did.1.tasks in omega arith
  act_left numbered b b' seat t (wants.Start f shape) (acted.Answer (answer.Started k)) did = let e = start_left b b' t did.0 shape did.3 did.4 in omega arith
  act_left numbered b b' seat t (wants.Start f shape) acted.OutOfTasks did = let e = same_left b b' did.1.ready did.1.parked did.1.tasks in omega arith
  act_left numbered b b' seat t (wants.Put box tree shape) acted.OutOfRoom did = let e = same_left b b' did.1.ready did.1.parked did.1.tasks in omega arith
  act_left numbered b b' seat t (wants.Print shape) (acted.Answer answer.Done) did = let e = same_left b b' did.spots.ready did.spots.parked did.tasks in omega arith
  act_left numbered b b' seat t (wants.End why) (acted.Answer answer.Done) did = let e = same_left b b' did.ready did.parked did.tasks in omega arith
  act_left numbered b b' seat t _ _ did = absurd did

  -- a fiber that is given back has two more where it is ready, and none where it is parked
  pub back_left : (b b' : Board F) (seat : ℕ) (f : F) → GivesBack b seat b' f → left b' ≡ left b + (weight f + 2)
  back_left b b' seat f gives =
      let r : sum_by ready_weight b'.ready ≡ sum_by ready_weight b.ready + ready_weight f = ap (sum_by ready_weight) gives.ready ∙ sum_by_push ready_weight b.ready f in
      let p : sum_by parked_weight b'.parked ≡ sum_by parked_weight b.parked = ap (sum_by parked_weight) gives.parked in
      let k : (task_limit - b'.tasks) * (3 * n + 2) ≡ (task_limit - b.tasks) * (3 * n + 2) = ap (λ k. (task_limit - k) * (3 * n + 2)) gives.run.tasks in omega arith

  weight_among : (w : Waiter F) (xs ys : List (Waiter F)) → sum_by parked_weight (xs ++ w ∷ ys) ≡ weight w.fiber + sum_by parked_weight (xs ++ ys)
  weight_among w [] ys = sum_by-cons parked_weight w ys
  weight_among w (x ∷ xs) ys =
      let h = weight_among w xs ys in let a = sum_by-cons parked_weight x (xs ++ w ∷ ys) in let c = sum_by-cons parked_weight x (xs ++ ys) in omega arith

  pub park_left : (b b' : Board F) (seat : ℕ) (f : F) (v : Waits) → Parks b seat b' f v → left b' ≡ left b + weight f
  park_left b b' seat f v parks =
      let w : Waiter F = record { waits = v; fiber = f } in
      let r : sum_by ready_weight b'.ready ≡ sum_by ready_weight b.ready = ap (sum_by ready_weight) parks.ready in
      let now : sum_by parked_weight b'.parked ≡ sum_by parked_weight (parks.parked.before ++ w ∷ parks.parked.after) = ap (sum_by parked_weight) parks.parked.is in
      let old : sum_by parked_weight b.parked ≡ sum_by parked_weight (parks.parked.before ++ parks.parked.after) = ap (sum_by parked_weight) parks.parked.was in
      let h = weight_among w parks.parked.before parks.parked.after in
      let k : (task_limit - b'.tasks) * (3 * n + 2) ≡ (task_limit - b.tasks) * (3 * n + 2) = ap (λ k. (task_limit - k) * (3 * n + 2)) parks.run.tasks in omega arith

  pub over_left : (numbered : F → F → ℕ → Type 0) (b b' : Board F) (seat t : ℕ) (w : Wants F) (a : Acted) → IsOver a → ActAnswers numbered b seat t b' w a → left b' ≡ left b
  over_left numbered b b' seat t w (acted.Answer x) over did = absurd over
  over_left numbered b b' seat t (wants.Start f shape) acted.OutOfTasks over did = same_left b b' did.1.ready did.1.parked did.1.tasks
  over_left numbered b b' seat t (wants.Put box tree shape) acted.OutOfRoom over did = same_left b b' did.1.ready did.1.parked did.1.tasks
  over_left numbered b b' seat t _ _ over did = absurd did

  -- what is refused adds none, and there is to wait for it
  pub refused_left : (numbered : F → F → ℕ → Type 0) (b b' : Board F) (seat t : ℕ) (v : Waits) (w : Wants F) (a : Answer) → IsRefused v w a → ActAnswers numbered b seat t b' w (acted.Answer a) → (left b' ≡ left b) × (has_to_wait b'.mails v ≡ true)
  refused_left numbered b b' seat t (wait.Take box) w a is did =
      let d : ActAnswers numbered b seat t b' (wants.Take box) (acted.Answer answer.Nothing) = subst (λ x. ActAnswers numbered b seat t b' (wants.Take box) (acted.Answer x)) is.1 (subst (λ x. ActAnswers numbered b seat t b' x (acted.Answer a)) is.0 did) in
      (same_left b b' d.1.spots.ready d.1.spots.parked d.1.run.tasks, ap (λ (m : Mail). length m.queue == 0) (d.1.run.mails box) ∙ ap (λ (q : List (ℕ × Tree)). length q == 0) d.0)
  refused_left numbered b b' seat t (wait.Put box) w a is did =
      let d : ActAnswers numbered b seat t b' (wants.PutWait box is.0 is.1) (acted.Answer (answer.Full is.2 is.3)) = subst (λ x. ActAnswers numbered b seat t b' (wants.PutWait box is.0 is.1) (acted.Answer x)) is.5 (subst (λ x. ActAnswers numbered b seat t b' x (acted.Answer a)) is.4 did) in
      (same_left b b' d.3.spots.ready d.3.spots.parked d.3.run.tasks, ap is_full (d.3.run.mails box) ∙ d.0)

-- ---- no fiber that is ready or parked was just answered nothing

module _ {F : Type 0} (refused : F → Option Waits) where
  abbrev IsCalmFiber : F → Type 0
  IsCalmFiber f = pool.IsCalmFiber refused f

  abbrev IsCalmWaiter : Waiter F → Type 0
  IsCalmWaiter w = pool.IsCalmWaiter refused w

  abbrev IsCalm : Board F → Type 0
  IsCalm b = pool.IsCalm refused b

  all_pushed : {A : Type 0} (P : A → Type 0) (xs : List A) (y : A) → AllByRecursion P xs → P y → AllByRecursion P (xs ++ y ∷ [])
  all_pushed P [] y all py = (py, tt)
  all_pushed P (x ∷ xs) y all py = (all.0, all_pushed P xs y all.1 py)

  pub same_calm : (b b' : Board F) → b'.ready ≡ b.ready → b'.parked ≡ b.parked → IsCalm b → IsCalm b'
  same_calm b b' r p calm = record { ready = subst (AllByRecursion IsCalmFiber) (sym r) calm.ready; parked = subst (AllByRecursion IsCalmWaiter) (sym p) calm.parked }

  all_among : {A : Type 0} (P : A → Type 0) (xs ys : List A) (y : A) → AllByRecursion P (xs ++ ys) → P y → AllByRecursion P (xs ++ y ∷ ys)
  all_among P [] ys y all py = (py, all)
  all_among P (x ∷ xs) ys y all py = (all.0, all_among P xs ys y all.1 py)

  pub back_calm : (b b' : Board F) (seat : ℕ) (f : F) → GivesBack b seat b' f → refused f ≡ None → IsCalm b → IsCalm b'
  back_calm b b' seat f gives calm-f calm = record {
    ready = subst (AllByRecursion IsCalmFiber) (sym gives.ready) (all_pushed IsCalmFiber b.ready f calm.ready calm-f);
    parked = subst (AllByRecursion IsCalmWaiter) (sym gives.parked) calm.parked;
  }

  pub park_calm : (b b' : Board F) (seat : ℕ) (f : F) (v : Waits) → Parks b seat b' f v → refused f ≡ None → IsCalm b → IsCalm b'
  park_calm b b' seat f v parks calm-f calm = record {
    ready = subst (AllByRecursion IsCalmFiber) (sym parks.ready) calm.ready;
    parked = subst (AllByRecursion IsCalmWaiter) (sym parks.parked.is)
        (all_among IsCalmWaiter parks.parked.before parks.parked.after (record { waits = v; fiber = f }) (subst (AllByRecursion IsCalmWaiter) parks.parked.was calm.parked) calm-f);
  }

  woken_calm : (v : Waits) (ws : List (Waiter F)) (found : Waiter F × List (Waiter F)) → woken v ws ≡ Some found → AllByRecursion IsCalmWaiter ws → IsCalmWaiter found.0 × AllByRecursion IsCalmWaiter found.1
  woken_calm v [] found e all = absurd (cc)
  woken_calm v (w ∷ ws) found e all = by_name (same_wait v w.waits) (woken v ws) (λ x g. woken_calm v ws x g all.1) refl e
    where
      some_is : (x y : Waiter F × List (Waiter F)) → Some x ≡ Some y → x ≡ y
      some_is x y e = cc

      by_name : (b : Bool) (o : Option (Waiter F × List (Waiter F))) → ((x : Waiter F × List (Waiter F)) → woken v ws ≡ Some x → IsCalmWaiter x.0 × AllByRecursion IsCalmWaiter x.1) → woken v ws ≡ o →
          (if b then Some (w, ws) else elim o [ None ↦ None | Some y ↦ Some (y.0, w ∷ y.1) ]) ≡ Some found → IsCalmWaiter found.0 × AllByRecursion IsCalmWaiter found.1
      by_name true o later g e = subst (λ (x : Waiter F × List (Waiter F)). IsCalmWaiter x.0 × AllByRecursion IsCalmWaiter x.1) (some_is (w, ws) found e) all
      by_name false None later g e = absurd (cc)
      by_name false (Some y) later g e = let h = later y g in subst (λ (x : Waiter F × List (Waiter F)). IsCalmWaiter x.0 × AllByRecursion IsCalmWaiter x.1) (some_is (y.0, w ∷ y.1) found e) (h.0, (all.0, h.1))

  after_calm : (b : Board F) (o : Option (Waiter F × List (Waiter F))) → ((x : Waiter F × List (Waiter F)) → o ≡ Some x → IsCalmWaiter x.0 × AllByRecursion IsCalmWaiter x.1) → IsCalm b → AllByRecursion IsCalmFiber (ready_after b.ready o) × AllByRecursion IsCalmWaiter (parked_after b.parked o)
  after_calm b None h calm = (calm.ready, calm.parked)
  after_calm b (Some x) h calm = let k = h x refl in (all_pushed IsCalmFiber b.ready x.0.fiber calm.ready k.0, k.1)

  put_calm : (b b' : Board F) (t : ℕ) (box : BoxName) (tree : Tree) (shape : List Token) → PutsMessage b t b' box tree shape → IsCalm b → IsCalm b'
  put_calm b b' t box tree shape puts calm =
      let h = after_calm b (woken (wait.Take box) b.parked) (λ x e. woken_calm (wait.Take box) b.parked x e calm.parked) calm in
      record { ready = subst (AllByRecursion IsCalmFiber) (sym puts.ready) h.0; parked = subst (AllByRecursion IsCalmWaiter) (sym puts.parked) h.1 }

  take_calm : (b b' : Board F) (t : ℕ) (box : BoxName) (k : ℕ) (tree : Tree) (rest : List (ℕ × Tree)) → TakesMessage b t b' box k tree rest → IsCalm b → IsCalm b'
  take_calm b b' t box k tree rest takes calm =
      let h = after_calm b (woken (wait.Put box) b.parked) (λ x e. woken_calm (wait.Put box) b.parked x e calm.parked) calm in
      record { ready = subst (AllByRecursion IsCalmFiber) (sym takes.ready) h.0; parked = subst (AllByRecursion IsCalmWaiter) (sym takes.parked) h.1 }

  pub act_calm : (rests : F → Bool) (numbered : F → F → ℕ → Type 0) → ((f f' : F) (k : ℕ) → numbered f f' k → refused f' ≡ refused f) → (b b' : Board F) (seat t : ℕ) (w : Wants F) (a : Acted) → ActAnswers numbered b seat t b' w a → StartsFresh rests refused w → IsCalm b → IsCalm b'
  act_calm rests numbered same b b' seat t (wants.Put box tree shape) (acted.Answer (answer.Sent k)) did fresh calm = put_calm b b' t box tree shape did.2 calm
  act_calm rests numbered same b b' seat t (wants.PutWait box tree shape) (acted.Answer (answer.Sent k)) did fresh calm = put_calm b b' t box tree shape did.2 calm
  act_calm rests numbered same b b' seat t (wants.PutWait box tree shape) (acted.Answer (answer.Full back again)) did fresh calm = same_calm b b' did.3.spots.ready did.3.spots.parked calm
  act_calm rests numbered same b b' seat t (wants.Bound box most) (acted.Answer answer.Done) did fresh calm = same_calm b b' did.spots.ready did.spots.parked calm
  act_calm rests numbered same b b' seat t (wants.Take box) (acted.Answer (answer.Message tree k)) did fresh calm = take_calm b b' t box k tree did.0 did.1 calm
  act_calm rests numbered same b b' seat t (wants.Take box) (acted.Answer answer.Nothing) did fresh calm = same_calm b b' did.1.spots.ready did.1.spots.parked calm
  act_calm rests numbered same b b' seat t (wants.Probe box) (acted.Answer (answer.Message tree k)) did fresh calm = take_calm b b' t box k tree did.0 did.1 calm
  act_calm rests numbered same b b' seat t (wants.Probe box) (acted.Answer answer.Nothing) did fresh calm = same_calm b b' did.1.spots.ready did.1.spots.parked calm
  act_calm rests numbered same b b' seat t (wants.Start f shape) (acted.Answer (answer.Started k)) did fresh calm = record {
    ready = subst (AllByRecursion IsCalmFiber) (sym did.4.ready) (all_pushed IsCalmFiber b.ready did.0 calm.ready (same f did.0 k did.1 ∙ fresh.1));
    parked = subst (AllByRecursion IsCalmWaiter) (sym did.4.parked) calm.parked;
  }
  act_calm rests numbered same b b' seat t (wants.Start f shape) acted.OutOfTasks did fresh calm = same_calm b b' did.1.ready did.1.parked calm
  act_calm rests numbered same b b' seat t (wants.Put box tree shape) acted.OutOfRoom did fresh calm = same_calm b b' did.1.ready did.1.parked calm
  act_calm rests numbered same b b' seat t (wants.Print shape) (acted.Answer answer.Done) did fresh calm = same_calm b b' did.spots.ready did.spots.parked calm
  act_calm rests numbered same b b' seat t (wants.End why) (acted.Answer answer.Done) did fresh calm = same_calm b b' did.ready did.parked calm
  act_calm rests numbered same b b' seat t _ _ did fresh calm = absurd did
