-- The fibers that wait, as contracts see them.
use Rattle.std.specs.Prelude.{◌≡◌, ℕ, suc, Bool, true, false, if◌then◌else◌, List, [], ◌∷◌, ◌++◌, Option, None, Some}
use Rattle.std.specs.List.{AllByRecursion}
use Rattle.std.specs.declared.cmp.Ordering.{Ordering}
use Rattle.std.specs.Ordering.{bool_cmp, nat_cmp, ordering_then}
use Rattle.kilim_program.specs.declared.names.BoxName.{BoxName}
use Rattle.kilim_run_model.specs.declared.waits.Waits.{Waits}
use Rattle.kilim_run_model.specs.declared.waits.Waits.TheVariants as wait
use Rattle.kilim_run_board.specs.Places.{same_wait}
use Rattle.kilim_run_board.specs.declared.waiting.parked.Waiter.{Waiter}

-- those that wait, at each mailbox the first that came to take, or to put, in front of the others that do; and the room for them
pub record Waiting (F : Type 0) : Type 0 where
  pub items : List (Waiter F)
  pub room : ℕ

-- ---- what is waited for, as the key of a map: whether it is to put, and the mailbox's name

abbrev pub Key : Type 0
Key = Bool × ℕ × ℕ

abbrev pub wait_cmp : Key → Key → Ordering
wait_cmp a b = ordering_then (ordering_then (bool_cmp a.0 b.0) (nat_cmp a.1 b.1)) (nat_cmp a.2 b.2)

abbrev pub key_of : Waits → Key
key_of (wait.Take box) = (false, box.task, box.number)
key_of (wait.Put box) = (true, box.task, box.number)

abbrev pub wait_in : Bool → BoxName → Waits
wait_in false box = wait.Take box
wait_in true box = wait.Put box

abbrev pub wait_of : Key → Waits
wait_of k = wait_in k.0 (record { task = k.1; number = k.2 })

abbrev pub at_wait : {F : Type 0} → Waits → List F → List (Waiter F)
at_wait v [] = []
at_wait v (f ∷ fs) = record { waits = v; fiber = f } ∷ at_wait v fs

-- a queue for each key, one after the other
abbrev pub in_order : {F Q : Type 0} → (Q → List F) → List (Key × Q) → List (Waiter F)
in_order items [] = []
in_order items (e ∷ es) = at_wait (wait_of e.0) (items e.1) ++ in_order items es

-- ---- who waits for it

-- nobody does
abbrev pub NobodyAt : {F : Type 0} → Waits → List (Waiter F) → Type 0
NobodyAt {F} v ws = AllByRecursion (λ (w : Waiter F). same_wait v w.waits ≡ false) ws

-- one more stands among them, behind all that wait for the same
pub record StandsBehind {F : Type 0} (w : Waiter F) (ws ws' : List (Waiter F)) : Type 0 where
  pub before : List (Waiter F)
  pub after : List (Waiter F)
  pub was : ws ≡ before ++ after
  pub is : ws' ≡ before ++ w ∷ after
  pub last : NobodyAt w.waits after

-- the place of the first that waits for it
abbrev pub waiter_index : {F : Type 0} → List (Waiter F) → Waits → Option ℕ
waiter_index [] v = None
waiter_index (w ∷ ws) v = if same_wait v w.waits then Some 0 else elim (waiter_index ws v) [ None ↦ None | Some i ↦ Some (suc i) ]

-- the first that waits for it, and the others in their order
abbrev pub woken : {F : Type 0} → Waits → List (Waiter F) → Option (Waiter F × List (Waiter F))
woken v [] = None
woken v (w ∷ ws) = if same_wait v w.waits then Some (w, ws) else elim (woken v ws) [ None ↦ None | Some found ↦ Some (found.0, w ∷ found.1) ]

-- ready and parked then: the first that waits for it is ready, at the back
abbrev pub ready_after : {F : Type 0} → List F → Option (Waiter F × List (Waiter F)) → List F
ready_after ready None = ready
ready_after ready (Some found) = ready ++ found.0.fiber ∷ []

abbrev pub parked_after : {F : Type 0} → List (Waiter F) → Option (Waiter F × List (Waiter F)) → List (Waiter F)
parked_after parked None = parked
parked_after parked (Some found) = found.1
