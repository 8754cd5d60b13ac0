-- What stays calm where a fiber is lent.
use Rattle.std.proofs.Common.{◌≡◌, ℕ, ◌+◌, ◌-◌, ◌*◌, ◌<◌, ◌≤◌, List, ◌∷◌, Option, Some, None, sym, ap, subst, ◌∙◌, arith}
use Rattle.std.specs.List.{sum_by, AllByRecursion}
use Rattle.std.proofs.lemmas.List.Sums.{sum_by-cons}
use Rattle.std.proofs.lemmas.Option.{none-some}
use Rattle.kilim_run_model.specs.declared.waits.Waits.{Waits}
use Rattle.kilim_run_board.specs.declared.board.Board as kept
use Rattle.kilim_run_board.specs.declared.waiting.parked.Waiter.{Waiter}
use Rattle.kilim_run_model.specs.Turn.{task_limit}
use Rattle.kilim_run_board.specs.Board.{Board, Lends}
use Rattle.kilim_run_board.specs.Seen.{seen}
use Rattle.kilim_run_workers.specs.one_worker.Pool.{IsCalm, IsCalmFiber, IsCalmWaiter, WaitsAt, ready_weight, parked_weight, left, todo, one_if_none}

module _ {F : Type 0} (refused : F → Option Waits) (task : F → ℕ) (seat : ℕ) (f : F) where
  pub lent_calm : (b b' : Board F) → Lends task b seat b' f → IsCalm refused b → IsCalm refused b' × (refused f ≡ None)
  lent_calm b b' did calm =
      let all : AllByRecursion (IsCalmFiber refused) (f ∷ b'.ready) = subst (λ (fs : List F). AllByRecursion (IsCalmFiber refused) fs) did.ready calm.ready in
      (record { ready = all.1; parked = subst (λ (ws : List (Waiter F)). AllByRecursion (IsCalmWaiter refused) ws) (sym did.parked) calm.parked }, all.0)

  pub lent_waits : (b : kept.Board F) → refused f ≡ None → WaitsAt refused b f
  lent_waits b e = λ v is. absurd (none-some v (sym e ∙ is))

-- a fiber that is lent has one more while it is ready
pub lent_falls : {F : Type 0} (task count : F → ℕ) (refused : F → Option Waits) (n : ℕ) (b b' : kept.Board F) (f : F) (m : ℕ) → Lends task (seen b) 0 (seen b') f → m ≤ todo count refused n b' f → m < left count n (seen b)
lent_falls task count refused n b b' f m did most =
    let r : sum_by (ready_weight count n) (seen b).ready ≡ ready_weight count n f + sum_by (ready_weight count n) (seen b').ready = ap (sum_by (ready_weight count n)) did.ready ∙ sum_by-cons (ready_weight count n) f (seen b').ready in
    let p : sum_by (parked_weight count n) (seen b').parked ≡ sum_by (parked_weight count n) (seen b).parked = ap (sum_by (parked_weight count n)) did.parked in
    let k : (task_limit - (seen b').tasks) * (3 * n + 2) ≡ (task_limit - (seen b).tasks) * (3 * n + 2) = ap (λ k. (task_limit - k) * (3 * n + 2)) did.run.tasks in
    let o : one_if_none (refused f) ≤ 1 = at_most_one (refused f) in
    omega arith
  where
    at_most_one : (o : Option Waits) → one_if_none o ≤ 1
    at_most_one None = omega arith
    at_most_one (Some v) = omega arith
