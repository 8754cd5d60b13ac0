-- Marks on bytes are the places of a code.
use Rattle.std.proofs.Common.{◌≡◌, ℕ, zero, suc, ◌+◌, ◌<◌, ◌≤◌, eqb, Bool, true, false, ◌||◌, cond, ℤ, pos, negsuc, List, [], ◌∷◌, ◌++◌, length, get_or, set, take, drop, drop-cons, replicate, Option, Some, None, refl, sym, ap, ◌∙◌, arith, inl, inr, ◌⊎◌, add-one, get_or-set_same, get_or-set_other}
use Rattle.std.specs.Prelude.{not}
use Rattle.std.specs.List.{find, AllByRecursion}
use Rattle.std.proofs.Math.Seq.{take-suc}
use Rattle.std.proofs.lemmas.Bool.{eqb-true, eq-eqb, cases_Bool}
use Rattle.std.proofs.lemmas.List.{length-drop, nil_from_length}
use Rattle.kilim_lemmas.proofs.Truth.{differ, or_false}
use Rattle.kilim_class_code.specs.Code.{Placed, targets_of, is_at, is_place, with_place, first_failing}
use Rattle.kilim_class_code.specs.Marks.{is_marked, PlacesBelow}

or_true : (b : Bool) → (b || true) ≡ true
or_true true = refl
or_true false = refl

or_assoc : (a b c : Bool) → (a || (b || c)) ≡ ((a || b) || c)
or_assoc true b c = refl
or_assoc false b c = refl

-- one more instruction, and one more mark
place_more : (code : List Placed) (p : Placed) (to : ℤ) → is_place (code ++ p ∷ []) to ≡ (is_place code to || is_at to p.0)
unfolding is_place
place_more [] p to = or_false (is_at to p.0)
place_more (q ∷ code) p to = ap (λ (b : Bool). is_at to q.0 || b) (place_more code p to) ∙ or_assoc (is_at to q.0) (is_place code to) (is_at to p.0)

mark_more : (marks : List Bool) (at : ℕ) (to : ℤ) → at < length marks → is_marked (set marks at true) to ≡ (is_marked marks to || is_at to at)
mark_more marks at (negsuc n) lt = refl
mark_more marks at (pos k) lt =
    elim (cases_Bool (eqb k at)) [
      | inl same ↦
          let is : k ≡ at = eqb-true k at same in
          rw (same, is) (get_or-set_same marks at true false lt ∙ sym (or_true (get_or marks at false)))
      | inr other ↦ rw other (get_or-set_other marks at k true false (λ same. differ (eqb k at) (eq-eqb k at same) other) ∙ sym (or_false (get_or marks k false)))
    ]

pub marked_more : (marks : List Bool) (code : List Placed) (i : ℕ) (p : Placed) → p ≡ get_or code i p → i < length code → p.0 < length marks
    → ((to : ℤ) → is_marked marks to ≡ is_place (take i code) to) → (to : ℤ) → is_marked (set marks p.0 true) to ≡ is_place (take (i + 1) code) to
marked_more marks code i p is lt within so_far to =
    let front : take (i + 1) code ≡ take i code ++ p ∷ [] = rw add-one (take-suc code i p lt ∙ ap (λ (q : Placed). take i code ++ q ∷ []) (sym is)) in
    mark_more marks p.0 to within
    ∙ (ap (λ (b : Bool). b || is_at to p.0) (so_far to)
    ∙ (sym (place_more (take i code) p to) ∙ ap (λ (xs : List Placed). is_place xs to) (sym front)))

below_at : (len : ℕ) (code : List Placed) (i : ℕ) (d : Placed) → PlacesBelow len code → i < length code → (get_or code i d).0 < len
below_at len [] i d below lt = absurd (omega arith)
below_at len (p ∷ code) zero d below lt = below.0
below_at len (p ∷ code) (suc i) d below lt = below_at len code i d below.1 (omega arith)

pub is_below : (len : ℕ) (code : List Placed) (i : ℕ) (p : Placed) → p ≡ get_or code i p → PlacesBelow len code → i < length code → p.0 < len
is_below len code i p is below lt = rw is (below_at len code i p below lt)

pub none_placed : (to : ℤ) → false ≡ is_place [] to
unfolding is_place
none_placed to = refl

pub none_marked : (len : ℕ) (to : ℤ) → is_marked (replicate len false) to ≡ false
none_marked len (negsuc n) = refl
none_marked zero (pos k) = refl
none_marked (suc len) (pos zero) = refl
none_marked (suc len) (pos (suc k)) = none_marked len (pos k)

-- ---- the first that fails

module _ (passes : ℤ → Bool) (code : List Placed) (i : ℕ) (p : Placed) (lt : i < length code) (is : p ≡ get_or code i p) where
  abbrev failing : Option ℤ
  failing = find (λ to. not (passes to)) (targets_of p.1)

  step : first_failing passes (drop i code) ≡ with_place p.0 failing (first_failing passes (drop (i + 1) code))
  unfolding first_failing
  step =
      rw (drop-cons code i p lt, add-one)
      (ap (λ (q : Placed). with_place q.0 (find (λ to. not (passes to)) (targets_of q.1)) (first_failing passes (drop (suc i) code))) (sym is))

  pub found_failing : (to : ℤ) (total : Option (ℕ × ℤ)) → Some to ≡ failing → first_failing passes (drop i code) ≡ total → Some (p.0, to) ≡ total
  found_failing to total e so_far = ap (λ (f : Option ℤ). with_place p.0 f (first_failing passes (drop (i + 1) code))) e ∙ (sym step ∙ so_far)

  pub none_failing : (total : Option (ℕ × ℤ)) → None ≡ failing → first_failing passes (drop i code) ≡ total → first_failing passes (drop (i + 1) code) ≡ total
  none_failing total e so_far = ap (λ (f : Option ℤ). with_place p.0 f (first_failing passes (drop (i + 1) code))) e ∙ (sym step ∙ so_far)

pub all_passed : (passes : ℤ → Bool) (code : List Placed) (i : ℕ) (total : Option (ℕ × ℤ)) → length code ≤ i → first_failing passes (drop i code) ≡ total → None ≡ total
unfolding first_failing
all_passed passes code i total le so_far =
    let none : drop i code ≡ [] = nil_from_length (drop i code) (omega (arith, length-drop i code)) in
    sym (ap (first_failing passes) none) ∙ so_far

same_find : (p q : ℤ → Bool) → ((to : ℤ) → p to ≡ q to) → (targets : List ℤ) → find (λ to. not (p to)) targets ≡ find (λ to. not (q to)) targets
same_find p q same [] = refl
same_find p q same (to ∷ targets) = rw (same to, same_find p q same targets) refl

pub same_failing : (p q : ℤ → Bool) → ((to : ℤ) → p to ≡ q to) → (code : List Placed) → first_failing p code ≡ first_failing q code
unfolding first_failing
same_failing p q same [] = refl
same_failing p q same (placed ∷ code) = rw (same_find p q same (targets_of placed.1), same_failing p q same code) refl

-- ---- where none fails, each target passes

by_test : (passes : ℤ → Bool) (to : ℤ) (targets : List ℤ) (b : Bool) → passes to ≡ b → cond (not b) (Some to) (find (λ to. not (passes to)) targets) ≡ None
    → (find (λ to. not (passes to)) targets ≡ None → AllByRecursion (λ to. passes to ≡ true) targets) → AllByRecursion (λ to. passes to ≡ true) (to ∷ targets)
by_test passes to targets true is e later = (is, later e)
by_test passes to targets false is e later = absurd cc

none_found : (passes : ℤ → Bool) (targets : List ℤ) → find (λ to. not (passes to)) targets ≡ None → AllByRecursion (λ to. passes to ≡ true) targets
none_found passes [] e = tt
none_found passes (to ∷ targets) e = by_test passes to targets (passes to) refl e (none_found passes targets)

of_both : (at : ℕ) (found : Option ℤ) (later : Option (ℕ × ℤ)) → with_place at found later ≡ None → (found ≡ None) × (later ≡ None)
of_both at None later e = (refl, e)
of_both at (Some to) later e = absurd cc

pub passed : (passes : ℤ → Bool) (code : List Placed) → first_failing passes code ≡ None → AllByRecursion (λ (p : Placed). AllByRecursion (λ to. passes to ≡ true) (targets_of p.1)) code
unfolding first_failing
passed passes [] e = tt
passed passes (p ∷ code) e =
    let both = of_both p.0 (find (λ to. not (passes to)) (targets_of p.1)) (first_failing passes code) e in
    (none_found passes (targets_of p.1) both.0, passed passes code both.1)
