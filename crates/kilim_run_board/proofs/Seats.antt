-- The places of a board whose lists change.
use Rattle.std.proofs.Common.{◌≡◌, ℕ, zero, suc, ◌+◌, ◌<◌, ◌≤◌, Bool, true, false, cond, List, [], ◌∷◌, ◌++◌, Option, Some, None, refl, sym, ap, subst, ◌∙◌, inl, inr, arith}
use Rattle.std.specs.Prelude.{length, slice_get, slice_set, count_by, IsPermutation}
use Rattle.std.specs.List.{AllByRecursion}
use Rattle.std.proofs.lemmas.List.Sums.{sum_by-append}
use Rattle.std.proofs.lemmas.List.Sorted.{IsPermutation-refl, IsPermutation-sym, IsPermutation-trans, IsPermutation-cons, IsPermutation-middle, IsPermutation-append_left, IsPermutation-append_right}
use Rattle.kilim_run_model.specs.declared.waits.Waits.{Waits}
use Rattle.kilim_run_board.specs.Places.{Ready, Lent, Parked, Place, is_parked_at, same_wait}
use Rattle.kilim_run_board.specs.Board.{lent_of, ready_of, parked_of, places_of}
use Rattle.kilim_run_board.specs.waiting.Parked.{woken}
use Rattle.kilim_run_board.specs.declared.waiting.parked.Waiter.{Waiter}
use Rattle.kilim_run_board.specs.waiting.Parked.{StandsBehind}
use Rattle.std.specs.Prelude.{if◌then◌else◌}
use Rattle.kilim_run_board.proofs.Places.{front}
use Rattle.kilim_run_board.proofs.waiting.Names.{both_ways}

abbrev lent_place : ℕ → Place
lent_place t = record { spot = Lent; task = t }

abbrev ready_place : ℕ → Place
ready_place t = record { spot = Ready; task = t }

abbrev parked_place : Waits → ℕ → Place
parked_place v t = record { spot = Parked v; task = t }

abbrev bit : Bool → ℕ
bit b = cond b 1 0

pushed_append : {A : Type 0} (xs : List A) (y : A) (zs : List A) → (xs ++ y ∷ []) ++ zs ≡ xs ++ y ∷ zs
pushed_append [] y zs = refl
pushed_append (x ∷ xs) y zs = ap (λ l. x ∷ l) (pushed_append xs y zs)

pub counted_apart : (p : Place → Bool) (xs ys : List Place) → count_by p (xs ++ ys) ≡ count_by p xs + count_by p ys
counted_apart p xs ys = sum_by-append (λ y. cond (p y) 1 0) xs ys

-- ---- cells

second : (x y : Place) (rest : List Place) → IsPermutation (x ∷ y ∷ rest) (y ∷ x ∷ rest)
second x y rest = IsPermutation-middle (x ∷ []) y rest

filled : (cells : List (Option ℕ)) (seat t : ℕ) → slice_get cells seat ≡ Some None → IsPermutation (lent_of (slice_set cells seat (Some t))) (lent_place t ∷ lent_of cells)
filled [] seat t e = absurd (cc)
filled (None ∷ cs) zero t e = IsPermutation-refl (lent_place t ∷ lent_of cs)
filled (Some u ∷ cs) zero t e = absurd (cc)
filled (None ∷ cs) (suc n) t e = filled cs n t e
filled (Some u ∷ cs) (suc n) t e =
    IsPermutation-trans _ _ _ (IsPermutation-cons (lent_place u) (lent_of (slice_set cs n (Some t))) (lent_place t ∷ lent_of cs) (filled cs n t e)) (second (lent_place u) (lent_place t) (lent_of cs))

emptied : (cells : List (Option ℕ)) (seat t : ℕ) → slice_get cells seat ≡ Some (Some t) → IsPermutation (lent_of cells) (lent_place t ∷ lent_of (slice_set cells seat None))
emptied [] seat t e = absurd (cc)
emptied (None ∷ cs) zero t e = absurd (cc)
emptied (Some u ∷ cs) zero t e =
    let same : u ≡ t = cc in subst (λ x. IsPermutation (lent_place u ∷ lent_of cs) (lent_place x ∷ lent_of cs)) same (IsPermutation-refl (lent_place u ∷ lent_of cs))
emptied (None ∷ cs) (suc n) t e = emptied cs n t e
emptied (Some u ∷ cs) (suc n) t e =
    IsPermutation-trans _ _ _ (IsPermutation-cons (lent_place u) (lent_of cs) (lent_place t ∷ lent_of (slice_set cs n None)) (emptied cs n t e)) (second (lent_place u) (lent_place t) (lent_of (slice_set cs n None)))

pub lent_emptied : (cells : List (Option ℕ)) (seat t : ℕ) → slice_get cells seat ≡ Some (Some t) → length (lent_of (slice_set cells seat None)) + 1 ≡ length (lent_of cells)
lent_emptied [] seat t e = absurd (cc)
lent_emptied (None ∷ cs) zero t e = absurd (cc)
lent_emptied (Some u ∷ cs) zero t e = omega arith
lent_emptied (None ∷ cs) (suc n) t e = lent_emptied cs n t e
lent_emptied (Some u ∷ cs) (suc n) t e = let h = lent_emptied cs n t e in omega arith

pub lent_no_more : (cells : List (Option ℕ)) (seat : ℕ) → length (lent_of (slice_set cells seat None)) ≤ length (lent_of cells)
lent_no_more [] seat = omega arith
lent_no_more (None ∷ cs) zero = omega arith
lent_no_more (Some u ∷ cs) zero = omega arith
lent_no_more (None ∷ cs) (suc n) = lent_no_more cs n
lent_no_more (Some u ∷ cs) (suc n) = let h = lent_no_more cs n in omega arith

pub lent_filled : (cells : List (Option ℕ)) (seat t : ℕ) → slice_get cells seat ≡ Some None → length (lent_of (slice_set cells seat (Some t))) ≡ length (lent_of cells) + 1
lent_filled [] seat t e = absurd (cc)
lent_filled (None ∷ cs) zero t e = omega arith
lent_filled (Some u ∷ cs) zero t e = absurd (cc)
lent_filled (None ∷ cs) (suc n) t e = lent_filled cs n t e
lent_filled (Some u ∷ cs) (suc n) t e = let h = lent_filled cs n t e in omega arith

pub seat_there : {A : Type 0} (cells : List A) (seat : ℕ) (cell : A) → slice_get cells seat ≡ Some cell → seat < length cells
seat_there [] seat cell e = absurd (cc)
seat_there (c ∷ cells) zero cell e = omega arith
seat_there (c ∷ cells) (suc seat) cell e = let h = seat_there cells seat cell e in omega arith

pub all_free : (cells : List (Option ℕ)) → ((k : ℕ) → k < length cells → slice_get cells k ≡ Some None) → lent_of cells ≡ []
all_free [] free = refl
all_free (None ∷ cs) free = all_free cs (λ k h. free (suc k) (omega arith))
all_free (Some t ∷ cs) free = absurd (let e = free 0 (omega arith) in cc)

pub one_lent : (cells : List (Option ℕ)) (k t : ℕ) → slice_get cells k ≡ Some (Some t) → lent_of cells ≡ [] → ⊥
one_lent [] k t e none = cc
one_lent (None ∷ cs) zero t e none = cc
one_lent (Some u ∷ cs) zero t e none = cc
one_lent (None ∷ cs) (suc k) t e none = one_lent cs k t e none
one_lent (Some u ∷ cs) (suc k) t e none = cc

module _ {F : Type 0} (task : F → ℕ) where
  -- a place that comes to the front of the middle part
  front_of : (x : Place) (ready : List F) (lent lent' parked : List Place) → IsPermutation lent (x ∷ lent') →
      IsPermutation (ready_of task ready ++ (lent ++ parked)) (x ∷ (ready_of task ready ++ (lent' ++ parked)))
  front_of x ready lent lent' parked same =
      IsPermutation-trans _ _ _
      (IsPermutation-append_right (ready_of task ready) (lent ++ parked) ((x ∷ lent') ++ parked) (IsPermutation-append_left parked lent (x ∷ lent') same))
      (IsPermutation-middle (ready_of task ready) x (lent' ++ parked))

  -- a place that comes to the front of the last part
  front_last : (x : Place) (ready : List F) (lent parked parked' : List Place) → IsPermutation parked (x ∷ parked') →
      IsPermutation (ready_of task ready ++ (lent ++ parked)) (x ∷ (ready_of task ready ++ (lent ++ parked')))
  front_last x ready lent parked parked' same =
      IsPermutation-trans _ _ _
      (IsPermutation-append_right (ready_of task ready) (lent ++ parked) (x ∷ (lent ++ parked'))
      (IsPermutation-trans _ _ _ (IsPermutation-append_right lent parked (x ∷ parked') same) (IsPermutation-middle lent x parked')))
      (IsPermutation-middle (ready_of task ready) x (lent ++ parked'))

  pub at_seat : (ready : List F) (cells : List (Option ℕ)) (parked : List (Waiter F)) (seat t : ℕ) → slice_get cells seat ≡ Some (Some t) →
      IsPermutation (places_of task ready cells parked) (lent_place t ∷ places_of task ready (slice_set cells seat None) parked)
  at_seat ready cells parked seat t e = front_of (lent_place t) ready (lent_of cells) (lent_of (slice_set cells seat None)) (parked_of task parked) (emptied cells seat t e)

  pub seated : (ready : List F) (cells : List (Option ℕ)) (parked : List (Waiter F)) (seat t : ℕ) → slice_get cells seat ≡ Some None →
      IsPermutation (lent_place t ∷ places_of task ready cells parked) (places_of task ready (slice_set cells seat (Some t)) parked)
  seated ready cells parked seat t e = IsPermutation-sym _ _ (front_of (lent_place t) ready (lent_of (slice_set cells seat (Some t))) (lent_of cells) (parked_of task parked) (filled cells seat t e))

  ready_pushed : (fs : List F) (f : F) → ready_of task (fs ++ f ∷ []) ≡ ready_of task fs ++ ready_place (task f) ∷ []
  ready_pushed [] f = refl
  ready_pushed (g ∷ gs) f = ap (λ l. ready_place (task g) ∷ l) (ready_pushed gs f)

  pub at_the_back : (ready : List F) (cells : List (Option ℕ)) (parked : List (Waiter F)) (f : F) →
      IsPermutation (ready_place (task f) ∷ places_of task ready cells parked) (places_of task (ready ++ f ∷ []) cells parked)
  at_the_back ready cells parked f =
      let e : ready_of task (ready ++ f ∷ []) ++ (lent_of cells ++ parked_of task parked) ≡ ready_of task ready ++ ready_place (task f) ∷ (lent_of cells ++ parked_of task parked) =
      ap (λ l. l ++ (lent_of cells ++ parked_of task parked)) (ready_pushed ready f) ∙ pushed_append (ready_of task ready) (ready_place (task f)) (lent_of cells ++ parked_of task parked) in
      IsPermutation-sym _ _ (subst (λ l. IsPermutation l (ready_place (task f) ∷ places_of task ready cells parked)) (sym e) (IsPermutation-middle (ready_of task ready) (ready_place (task f)) (lent_of cells ++ parked_of task parked)))

  parked_apart : (ws vs : List (Waiter F)) → parked_of task (ws ++ vs) ≡ parked_of task ws ++ parked_of task vs
  parked_apart [] vs = refl
  parked_apart (w ∷ ws) vs = ap (λ l. parked_place w.waits (task w.fiber) ∷ l) (parked_apart ws vs)

  -- wherever it stands among them
  one_more : (w : Waiter F) (ws ws' : List (Waiter F)) → StandsBehind w ws ws' → IsPermutation (parked_of task ws') (parked_place w.waits (task w.fiber) ∷ parked_of task ws)
  one_more w ws ws' s =
      let here : Place = parked_place w.waits (task w.fiber) in
      let now : parked_of task ws' ≡ parked_of task s.before ++ here ∷ parked_of task s.after = ap (parked_of task) s.is ∙ parked_apart s.before (w ∷ s.after) in
      let old : parked_of task ws ≡ parked_of task s.before ++ parked_of task s.after = ap (parked_of task) s.was ∙ parked_apart s.before s.after in
      subst (λ l. IsPermutation (parked_of task ws') (here ∷ l)) (sym old) (subst (λ l. IsPermutation l (here ∷ (parked_of task s.before ++ parked_of task s.after))) (sym now) (IsPermutation-middle (parked_of task s.before) here (parked_of task s.after)))

  pub at_mailbox : (ready : List F) (cells : List (Option ℕ)) (parked parked' : List (Waiter F)) (w : Waiter F) → StandsBehind w parked parked' →
      IsPermutation (parked_place w.waits (task w.fiber) ∷ places_of task ready cells parked) (places_of task ready cells parked')
  at_mailbox ready cells parked parked' w s =
      IsPermutation-sym _ _ (front_last (parked_place w.waits (task w.fiber)) ready (lent_of cells) (parked_of task parked') (parked_of task parked) (one_more w parked parked' s))

  -- ---- the first that waits for something

  pub record IsWoken (v : Waits) (ws : List (Waiter F)) (found : Waiter F × List (Waiter F)) : Type 0 where
    pub at : same_wait v found.0.waits ≡ true
    pub moves : IsPermutation (parked_of task ws) (parked_place found.0.waits (task found.0.fiber) ∷ parked_of task found.1)

  woken_later : (v : Waits) (w : Waiter F) (ws : List (Waiter F)) (found : Waiter F × List (Waiter F)) → IsWoken v ws found → IsWoken v (w ∷ ws) (found.0, w ∷ found.1)
  woken_later v w ws found is = record {
    at = is.at;
    moves = IsPermutation-trans _ _ _ (IsPermutation-cons (parked_place w.waits (task w.fiber)) (parked_of task ws) (parked_place found.0.waits (task found.0.fiber) ∷ parked_of task found.1) is.moves)
        (second (parked_place w.waits (task w.fiber)) (parked_place found.0.waits (task found.0.fiber)) (parked_of task found.1));
  }

  abbrev picked : Waiter F → List (Waiter F) → Option (Waiter F × List (Waiter F)) → Bool → Option (Waiter F × List (Waiter F))
  picked w ws o b = if b then Some (w, ws) else elim o [ None ↦ None | Some found ↦ Some (found.0, w ∷ found.1) ]

  pub woken_is : (v : Waits) (ws : List (Waiter F)) (found : Waiter F × List (Waiter F)) → woken v ws ≡ Some found → IsWoken v ws found
  woken_is v [] found e = absurd (cc)
  woken_is v (w ∷ ws) found e = elim (both_ways (same_wait v w.waits)) [
    | inl is ↦
        let s : (w, ws) ≡ found = some_is (w, ws) found (sym (ap (picked w ws (woken v ws)) is) ∙ e) in
        subst (λ x. IsWoken v (w ∷ ws) x) s (record { at = is; moves = IsPermutation-refl (parked_place w.waits (task w.fiber) ∷ parked_of task ws) })
    | inr isnt ↦ below (woken v ws) refl (λ x g. woken_is v ws x g) (sym (ap (picked w ws (woken v ws)) isnt) ∙ e)
  ]
    where
      some_is : (x y : Waiter F × List (Waiter F)) → Some x ≡ Some y → x ≡ y
      some_is x y e = cc

      below : (o : Option (Waiter F × List (Waiter F))) → woken v ws ≡ o → ((x : Waiter F × List (Waiter F)) → woken v ws ≡ Some x → IsWoken v ws x) → picked w ws o false ≡ Some found → IsWoken v (w ∷ ws) found
      below None g again e = absurd (cc)
      below (Some x) g again e = subst (λ y. IsWoken v (w ∷ ws) y) (some_is (x.0, w ∷ x.1) found e) (woken_later v w ws x (again x g))

  pub woken_all : (P : Waiter F → Type 0) (v : Waits) (ws : List (Waiter F)) (found : Waiter F × List (Waiter F)) → woken v ws ≡ Some found → AllByRecursion P ws → P found.0 × AllByRecursion P found.1
  woken_all P v [] found e all = absurd (cc)
  woken_all P v (w ∷ ws) found e all = elim (both_ways (same_wait v w.waits)) [
    | inl is ↦ subst (λ (x : Waiter F × List (Waiter F)). P x.0 × AllByRecursion P x.1) (some_is (w, ws) found (sym (ap (picked w ws (woken v ws)) is) ∙ e)) all
    | inr isnt ↦ below (woken v ws) refl (λ x g. woken_all P v ws x g all.1) (sym (ap (picked w ws (woken v ws)) isnt) ∙ e)
  ]
    where
      some_is : (x y : Waiter F × List (Waiter F)) → Some x ≡ Some y → x ≡ y
      some_is x y e = cc

      below : (o : Option (Waiter F × List (Waiter F))) → woken v ws ≡ o → ((x : Waiter F × List (Waiter F)) → woken v ws ≡ Some x → P x.0 × AllByRecursion P x.1) → picked w ws o false ≡ Some found → P found.0 × AllByRecursion P found.1
      below None g again e = absurd (cc)
      below (Some x) g again e = let h = again x g in subst (λ (y : Waiter F × List (Waiter F)). P y.0 × AllByRecursion P y.1) (some_is (x.0, w ∷ x.1) found e) (h.0, (all.0, h.1))

  pub nobody_waits : (v : Waits) (ws : List (Waiter F)) → woken v ws ≡ None → count_by (is_parked_at v) (parked_of task ws) ≡ 0
  nobody_waits v [] e = refl
  nobody_waits v (w ∷ ws) e = elim (both_ways (same_wait v w.waits)) [
    | inl is ↦ absurd (let h : Some (w, ws) ≡ None = sym (ap (picked w ws (woken v ws)) is) ∙ e in cc)
    | inr isnt ↦ below (woken v ws) refl isnt (λ g. nobody_waits v ws g) (sym (ap (picked w ws (woken v ws)) isnt) ∙ e)
  ]
    where
      below : (o : Option (Waiter F × List (Waiter F))) → woken v ws ≡ o → same_wait v w.waits ≡ false → (woken v ws ≡ None → count_by (is_parked_at v) (parked_of task ws) ≡ 0) → picked w ws o false ≡ None → count_by (is_parked_at v) (parked_of task (w ∷ ws)) ≡ 0
      below None g isnt again e =
          let f : count_by (is_parked_at v) (parked_place w.waits (task w.fiber) ∷ parked_of task ws) ≡ bit (same_wait v w.waits) + count_by (is_parked_at v) (parked_of task ws) = front (is_parked_at v) (parked_place w.waits (task w.fiber)) (parked_of task ws) in
          let h = again g in
          let z : bit (same_wait v w.waits) ≡ 0 = ap bit isnt in omega arith
      below (Some x) g isnt again e = absurd (cc)

  pub at_the_front : (ready : List F) (cells : List (Option ℕ)) (v : Waits) (ws : List (Waiter F)) (found : Waiter F × List (Waiter F)) → IsWoken v ws found →
      IsPermutation (places_of task ready cells ws) (parked_place found.0.waits (task found.0.fiber) ∷ places_of task ready cells found.1)
  at_the_front ready cells v ws found is = front_last (parked_place found.0.waits (task found.0.fiber)) ready (lent_of cells) (parked_of task ws) (parked_of task found.1) is.moves
