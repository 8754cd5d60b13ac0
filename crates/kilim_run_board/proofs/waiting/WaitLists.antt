-- Who waits first.
use Rattle.std.proofs.Common.{◌≡◌, ℕ, zero, suc, ◌+◌, ◌<◌, ◌≤◌, Bool, true, false, List, [], ◌∷◌, Option, Some, None, refl, sym, ap, ◌∙◌, inl, inr, arith, get_or}
use Rattle.std.specs.Prelude.{length, slice_get, if◌then◌else◌, nat_lt}
use Rattle.std.specs.List.{remove}
use Rattle.std.proofs.lemmas.Bool.Decides.{nat_tests}
use Rattle.kilim_run_model.specs.declared.waits.Waits.{Waits}
use Rattle.kilim_run_board.specs.Places.{same_wait}
use Rattle.kilim_run_board.specs.declared.waiting.parked.Waiter.{Waiter}
use Rattle.kilim_run_board.specs.waiting.Parked.{woken}
use Rattle.kilim_run_board.specs.waiting.Parked.{waiter_index}
use Rattle.kilim_run_board.proofs.waiting.Names.{both_ways}

abbrev after_first : Option ℕ → Bool → Option ℕ
after_first o b = if b then Some 0 else elim o [ None ↦ None | Some i ↦ Some (suc i) ]

abbrev shifted : Option ℕ → Option ℕ
shifted None = None
shifted (Some i) = Some (suc i)

shifted_is : (o : Option ℕ) → after_first o false ≡ shifted o
shifted_is None = refl
shifted_is (Some i) = refl

shifted_some : (o : Option ℕ) (i : ℕ) → shifted o ≡ Some (suc i) → o ≡ Some i
shifted_some None i e = absurd (cc)
shifted_some (Some j) i e = cc

shifted_zero : (o : Option ℕ) → shifted o ≡ Some 0 → ⊥
shifted_zero None e = cc
shifted_zero (Some j) e = cc

shifted_none : (o : Option ℕ) → shifted o ≡ None → o ≡ None
shifted_none None e = refl
shifted_none (Some j) e = absurd (cc)

module _ {F : Type 0} where
  abbrev pub NoneWaits : List (Waiter F) → Waits → ℕ → Type 0
  NoneWaits ws v i = (k : ℕ) → k < i → (w : Waiter F) → slice_get ws k ≡ Some w → same_wait v w.waits ≡ false

  pub waits_first : (ws : List (Waiter F)) (v : Waits) (i : ℕ) (w : Waiter F) → NoneWaits ws v i → slice_get ws i ≡ Some w → same_wait v w.waits ≡ true → waiter_index ws v ≡ Some i
  waits_first [] v i w before at same = absurd (cc)
  waits_first (q ∷ qs) v zero w before at same =
      let e : q ≡ w = cc in ap (after_first (waiter_index qs v)) (ap (λ (x : Waiter F). same_wait v x.waits) e ∙ same)
  waits_first (q ∷ qs) v (suc i) w before at same =
      ap (after_first (waiter_index qs v)) (before 0 (omega arith) q refl) ∙ (shifted_is (waiter_index qs v) ∙ ap shifted (waits_first qs v i w (λ k h x e. before (suc k) (omega arith) x e) at same))

  pub waits_none : (ws : List (Waiter F)) (v : Waits) → NoneWaits ws v (length ws) → waiter_index ws v ≡ None
  waits_none [] v before = refl
  waits_none (q ∷ qs) v before = ap (after_first (waiter_index qs v)) (before 0 (omega arith) q refl) ∙ (shifted_is (waiter_index qs v) ∙ ap shifted (waits_none qs v (λ k h x e. before (suc k) (omega arith) x e)))

  pub none_more : (ws : List (Waiter F)) (v : Waits) (i : ℕ) (w : Waiter F) → NoneWaits ws v i → slice_get ws i ≡ Some w → same_wait v w.waits ≡ false → NoneWaits ws v (i + 1)
  none_more ws v i w before at other k h x e = elim (both_ways (nat_lt k i)) [
    | inl below ↦ before k (grind (arith, nat_tests)) x e
    | inr above ↦
        let a : i ≤ k = grind (arith, nat_tests) in
        let same : k ≡ i = omega arith in
        let f : Some w ≡ Some x = sym at ∙ (ap (slice_get ws) (sym same) ∙ e) in
        let g : w ≡ x = cc in ap (λ (y : Waiter F). same_wait v y.waits) (sym g) ∙ other
  ]

  abbrev picked : Waiter F → List (Waiter F) → Option (Waiter F × List (Waiter F)) → Bool → Option (Waiter F × List (Waiter F))
  picked w ws o b = if b then Some (w, ws) else elim o [ None ↦ None | Some found ↦ Some (found.0, w ∷ found.1) ]

  pub woken_at : (ws : List (Waiter F)) (v : Waits) (i : ℕ) (d : Waiter F) → waiter_index ws v ≡ Some i → woken v ws ≡ Some (get_or ws i d, remove ws i)
  woken_at [] v i d is = absurd (cc)
  woken_at (q ∷ qs) v zero d is = elim (both_ways (same_wait v q.waits)) [
    | inl same ↦ ap (picked q qs (woken v qs)) same
    | inr other ↦ absurd (shifted_zero (waiter_index qs v) (sym (shifted_is (waiter_index qs v)) ∙ (sym (ap (after_first (waiter_index qs v)) other) ∙ is)))
  ]
  woken_at (q ∷ qs) v (suc i) d is = elim (both_ways (same_wait v q.waits)) [
    | inl same ↦ absurd (let e : Some 0 ≡ Some (suc i) = sym (ap (after_first (waiter_index qs v)) same) ∙ is in cc)
    | inr other ↦
        let e : waiter_index qs v ≡ Some i = shifted_some (waiter_index qs v) i (sym (shifted_is (waiter_index qs v)) ∙ (sym (ap (after_first (waiter_index qs v)) other) ∙ is)) in
        ap (picked q qs (woken v qs)) other ∙ ap (λ o. picked q qs o false) (woken_at qs v i d e)
  ]

  pub woken_none : (ws : List (Waiter F)) (v : Waits) → waiter_index ws v ≡ None → woken v ws ≡ None
  woken_none [] v is = refl
  woken_none (q ∷ qs) v is = elim (both_ways (same_wait v q.waits)) [
    | inl same ↦ absurd (let e : Some 0 ≡ None = sym (ap (after_first (waiter_index qs v)) same) ∙ is in cc)
    | inr other ↦ ap (picked q qs (woken v qs)) other ∙ ap (λ o. picked q qs o false) (woken_none qs v (shifted_none (waiter_index qs v) (sym (shifted_is (waiter_index qs v)) ∙ (sym (ap (after_first (waiter_index qs v)) other) ∙ is))))
  ]

  pub taken_first : (ws ws' : List (Waiter F)) (v : Waits) (i : ℕ) (w : Waiter F) → waiter_index ws v ≡ Some i → w ≡ get_or ws i w → ws' ≡ remove ws i → woken v ws ≡ Some (w, ws')
  taken_first ws ws' v i w is got e = woken_at ws v i w is ∙ (ap (λ (x : Waiter F). Some (x, remove ws i)) (sym got) ∙ ap (λ l. Some (w, l)) (sym e))
