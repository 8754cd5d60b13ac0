-- What waits in a mailbox are the puts that weren't taken, in order.
use Rattle.std.proofs.Common.{◌≡◌, ℕ, suc, ◌+◌, ◌<◌, false, List, [], ◌∷◌, ◌++◌, Option, Some, None, sym, subst, ◌∙◌, arith, length}
use Rattle.std.proofs.lemmas.Bool.Decides.{nat_tests}
use Rattle.kilim_run_state.specs.declared.value.Object.{Object}
use Rattle.kilim_run_model.specs.State.{is_full_at}
use Rattle.kilim_run_board.specs.OneThread.{Note, Bounds, Puts, Takes, Empties, HasPlace, AreInOrder, AreOneThread}
use Rattle.kilim_run_board.specs.mailbox.Mailbox.{Content}
use Rattle.kilim_run_board.specs.mailbox.Calls.{AreCalls, notes_of_calls, CallsAreOneThread}

-- the numbers from so many takes up to so many puts
abbrev Waits : ℕ → ℕ → List (ℕ × List Object) → Type 0
Waits takes puts [] = takes ≡ puts
Waits takes puts (m ∷ ms) = (m.0 ≡ takes) × (takes < puts) × Waits (suc takes) puts ms

one_more : (takes puts : ℕ) (ms : List (ℕ × List Object)) (tree : List Object) → Waits takes puts ms → Waits takes (puts + 1) (ms ++ (puts, tree) ∷ [])
one_more takes puts [] tree w = (sym w, omega arith, omega arith)
one_more takes puts (m ∷ ms) tree w = (w.0, omega (arith, w.1), one_more (suc takes) puts ms tree w.2)

how_many : (takes puts : ℕ) (ms : List (ℕ × List Object)) → Waits takes puts ms → takes + length ms ≡ puts
how_many takes puts [] w = omega (arith, w)
how_many takes puts (m ∷ ms) w = let h = how_many (suc takes) puts ms w.2 in omega (arith, h)

-- where it isn't full it has a place
has_place : (most : Option ℕ) (n puts takes : ℕ) → is_full_at most n ≡ false → takes + n ≡ puts → HasPlace most puts takes
has_place None n puts takes free e = tt
has_place (Some most) n puts takes free e = let less : n < most = grind (arith, nat_tests, free) in omega (arith, less, e)

plus_one : (n : ℕ) → n + 1 ≡ suc n
plus_one n = omega arith

in_order : (takes : ℕ) (before : Content) (calls : List (Option Note × Content)) → Waits takes before.puts before.queue → AreCalls before calls → AreInOrder before.most before.puts takes (notes_of_calls calls)
in_order takes before [] w a = tt
in_order takes before ((None, after) ∷ calls) w a =
    let w' : Waits takes after.puts after.queue = subst (λ q. Waits takes after.puts q) (sym a.0.2) (subst (λ n. Waits takes n before.queue) (sym a.0.1) w) in
    subst (λ o. AreInOrder o before.puts takes (notes_of_calls calls)) a.0.0 (subst (λ n. AreInOrder after.most n takes (notes_of_calls calls)) a.0.1 (in_order takes after calls w' a.1))
in_order takes before ((Some (Bounds n), after) ∷ calls) w a = absurd a.0
in_order takes before ((Some (Puts n), after) ∷ calls) w a =
    let w' : Waits takes after.puts after.queue = subst (λ q. Waits takes after.puts q) (sym a.0.4.1) (subst (λ n. Waits takes n (before.queue ++ (before.puts, a.0.4.0) ∷ [])) (sym a.0.3) (one_more takes before.puts before.queue a.0.4.0 w)) in (
      a.0.1,
      has_place before.most (length before.queue) before.puts takes a.0.0 (how_many takes before.puts before.queue w),
      subst (λ o. AreInOrder o (suc before.puts) takes (notes_of_calls calls)) a.0.2 (subst (λ n. AreInOrder after.most n takes (notes_of_calls calls)) (a.0.3 ∙ plus_one before.puts) (in_order takes after calls w' a.1)),
    )
in_order takes before ((Some (Takes n), after) ∷ calls) w a =
    let first : Waits takes before.puts ((n, a.0.2.0) ∷ after.queue) = subst (λ q. Waits takes before.puts q) a.0.2.1 w in
    let w' : Waits (suc takes) after.puts after.queue = subst (λ n. Waits (suc takes) n after.queue) (sym a.0.1) first.2 in
    (first.0, first.1, subst (λ o. AreInOrder o before.puts (suc takes) (notes_of_calls calls)) a.0.0 (subst (λ n. AreInOrder after.most n (suc takes) (notes_of_calls calls)) a.0.1 (in_order (suc takes) after calls w' a.1)))
in_order takes before ((Some Empties, after) ∷ calls) w a =
    let none : takes ≡ before.puts = subst (λ q. Waits takes before.puts q) a.0.0 w in
    let w' : Waits takes after.puts after.queue = subst (λ q. Waits takes after.puts q) (sym a.0.3) (none ∙ sym a.0.2) in
    (none, subst (λ o. AreInOrder o before.puts takes (notes_of_calls calls)) a.0.1 (subst (λ n. AreInOrder after.most n takes (notes_of_calls calls)) a.0.2 (in_order takes after calls w' a.1)))

-- on a mailbox into which nothing was put
from_new : (most : Option ℕ) (new : Content) (calls : List (Option Note × Content)) → new.most ≡ most → new.puts ≡ 0 → new.queue ≡ [] → AreCalls new calls → AreInOrder most 0 0 (notes_of_calls calls)
from_new most new calls is puts queue a =
    let w : Waits 0 new.puts new.queue = subst (λ q. Waits 0 new.puts q) (sym queue) (sym puts) in
    subst (λ o. AreInOrder o 0 0 (notes_of_calls calls)) is (subst (λ n. AreInOrder new.most n 0 (notes_of_calls calls)) puts (in_order 0 new calls w a))

-- what begins without a bound has none
unbounded : (notes : List Note) → AreInOrder None 0 0 notes → AreOneThread notes
unbounded [] order = tt
unbounded (Bounds most ∷ notes) order = absurd order
unbounded (Puts n ∷ notes) order = order
unbounded (Takes n ∷ notes) order = order
unbounded (Empties ∷ notes) order = order

pub calls_are_one_thread : CallsAreOneThread
calls_are_one_thread first [] most puts queue a = tt
calls_are_one_thread first ((None, after) ∷ calls) most puts queue a = calls_are_one_thread after calls (a.0.0 ∙ most) (a.0.1 ∙ puts) (a.0.2 ∙ queue) a.1
calls_are_one_thread first ((Some (Bounds n), after) ∷ calls) most puts queue a = from_new (Some n) after calls a.0.0 (a.0.1 ∙ puts) (a.0.2 ∙ queue) a.1
calls_are_one_thread first ((Some (Puts n), after) ∷ calls) most puts queue a = unbounded (notes_of_calls ((Some (Puts n), after) ∷ calls)) (from_new None first ((Some (Puts n), after) ∷ calls) most puts queue a)
calls_are_one_thread first ((Some (Takes n), after) ∷ calls) most puts queue a = unbounded (notes_of_calls ((Some (Takes n), after) ∷ calls)) (from_new None first ((Some (Takes n), after) ∷ calls) most puts queue a)
calls_are_one_thread first ((Some Empties, after) ∷ calls) most puts queue a = unbounded (notes_of_calls ((Some Empties, after) ∷ calls)) (from_new None first ((Some Empties, after) ∷ calls) most puts queue a)
