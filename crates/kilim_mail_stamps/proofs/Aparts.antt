-- The entries of a stamped run are told apart by stamp and task.
use Rattle.std.proofs.Common.{◌≡◌, ℕ, zero, suc, ◌+◌, ◌<◌, ◌≤◌, Bool, true, false, ◌==◌, nat_lt, cond, List, [], ◌∷◌, refl, sym, ap, subst, ◌∙◌, arith}
use Rattle.std.specs.Prelude.{◌&&◌, filter}
use Rattle.std.proofs.lemmas.Bool.Decides.{nat_tests}
use Rattle.kilim_run_model.specs.State.{Setting}
use Rattle.kilim_mail_stamps.specs.declared.stamped.Stamped.{Stamped}
use Rattle.kilim_mail_stamps.specs.Stamps.{joined, in_order, is_of, Rises, StampedRun}
use Rattle.kilim_mail_stamps.specs.Merging.{weigh}
use Rattle.kilim_mail_stamps.specs.Merging.{is_at, Apart, RunsAreApart}
use Rattle.kilim_mail_stamps.proofs.Weights.{weigh_each, weigh_filter, weigh_in_order}
use Rattle.kilim_mail_stamps.proofs.Sorted.{Above, rises_above, rises_rest}

abbrev has_stamp : ℕ → Stamped → ℕ
has_stamp n s = cond (s.stamp == n) 1 0

above_none : (n m : ℕ) (xs : List Stamped) → n ≤ m → Above m xs → weigh (has_stamp n) xs ≡ 0
above_none n m [] le a = refl
above_none n m (x ∷ xs) le (h, a) =
    let e : (x.stamp == n) ≡ false = grind (arith, nat_tests) in
    let c : has_stamp n x ≡ 0 = ap (λ (b : Bool). cond b 1 0) e in
    let r = above_none n m xs le a in
    omega arith

rises_once : (n : ℕ) (xs : List Stamped) → Rises xs → weigh (has_stamp n) xs ≤ 1
rises_once n [] r = omega arith
rises_once n (x ∷ xs) r = by (x.stamp == n) refl (rises_once n xs (rises_rest x xs r))
  where
    by : (b : Bool) → (x.stamp == n) ≡ b → weigh (has_stamp n) xs ≤ 1 → has_stamp n x + weigh (has_stamp n) xs ≤ 1
    by true e later =
        let same : n ≤ x.stamp = grind (arith, nat_tests) in
        let none = above_none n x.stamp xs same (rises_above x xs r) in
        let c : has_stamp n x ≡ 1 = ap (λ (b : Bool). cond b 1 0) e in
        omega arith
    by false e later = let c : has_stamp n x ≡ 0 = ap (λ (b : Bool). cond b 1 0) e in omega arith

at_both : (n t : ℕ) (x : Stamped) → is_at n t x ≡ cond (is_of t x) (has_stamp n x) 0
at_both n t x = by (x.stamp == n) (x.entry.task == t)
  where
    by : (a b : Bool) → ◌≡◌ {A = ℕ} (cond (a && b) 1 0) (cond b (cond a 1 0) 0)
    by true true = refl
    by true false = refl
    by false true = refl
    by false false = refl

pub apart_of : RunsAreApart
apart_of set parts run n t =
    let a = weigh_in_order (is_at n t) (joined parts) in
    let b = weigh_each (is_at n t) (λ x. cond (is_of t x) (has_stamp n x) 0) (at_both n t) (in_order (joined parts)) in
    let c = weigh_filter (has_stamp n) (is_of t) (in_order (joined parts)) in
    let d = rises_once n (filter (is_of t) (in_order (joined parts))) (run.tasks_rise t) in
    omega arith
