-- Slots, their types, and what is passed.
use Rattle.std.proofs.Common.{◌≡◌, ℕ, ◌+◌, ◌<◌, ◌≤◌, Bool, false, min, List, [], ◌∷◌, ◌++◌, length, get_or, drop, Option, refl, sym, ap, ◌∙◌, ◌⊎◌, inl, inr, arith, append_assoc}
use Rattle.std.specs.Prelude.{◌||◌}
use Rattle.std.proofs.lemmas.List.{append-nil, drop-drop}
use Rattle.kilim_program.specs.declared.ty.Qualifier.{Qualifier}
use Rattle.kilim_program.specs.declared.ty.Ty.{Ty}
use Rattle.kilim_program.specs.declared.verified.VType.{VType}
use Rattle.kilim_program.specs.Program.{Program}
use Rattle.kilim_isolation_graph.proofs.Lists.{drop_at, drop_end}
use Rattle.kilim_isolation_rules.specs.declared.deed.Passed.{Passed}
use Rattle.kilim_isolation_rules.specs.Calls.{parameters}
use Rattle.kilim_isolation_rules.specs.Marks.{any_mixes, mixes}

none_mixes : (p : Program) (ts : List VType) → any_mixes p ts [] ≡ false
none_mixes p [] = refl
none_mixes p (t ∷ ts) = refl

pub mixes_end : (p : Program) (ts into : List VType) (k : ℕ) (total : Bool) → length into ≤ k → any_mixes p (drop k ts) (drop k into) ≡ total → false ≡ total
mixes_end p ts into k total le so_far = sym (none_mixes p (drop k ts)) ∙ (ap (λ ds. any_mixes p (drop k ts) ds) (sym (drop_end into k le)) ∙ so_far)

pub mixes_past : (p : Program) (ts into : List VType) (k : ℕ) (total : Bool) → length ts ≤ k → any_mixes p (drop k ts) (drop k into) ≡ total → false ≡ total
mixes_past p ts into k total le so_far = sym (ap (λ xs. any_mixes p xs (drop k into)) (drop_end ts k le)) ∙ so_far

pub mixes_at : (p : Program) (ts into : List VType) (k : ℕ) (t d : VType) (b total : Bool) → k < length ts → k < length into → b ≡ mixes p (get_or ts k t) (get_or into k d) → any_mixes p (drop k ts) (drop k into) ≡ total →
    (b || any_mixes p (drop (k + 1) ts) (drop (k + 1) into)) ≡ total
mixes_at p ts into k t d b total lt within is so_far =
    ap (λ z. z || any_mixes p (drop (k + 1) ts) (drop (k + 1) into)) is
    ∙ (sym (ap (λ xs. any_mixes p xs (drop k into)) (drop_at ts k t lt) ∙ ap (λ ys. any_mixes p (get_or ts k t ∷ drop (k + 1) ts) ys) (drop_at into k d within)) ∙ so_far)

pub passed_more : (tys : List Ty) (qs : List Qualifier) (xs : List (Option ℕ)) (ts : List VType) (old new total : List Passed) (i : ℕ) (d : Ty) (e : Qualifier) (f : Option ℕ) (g : VType) →
    i < min (min (min (length tys) (length qs)) (length xs)) (length ts) →
    new ≡ old ++ record { name = get_or xs i f; ty = get_or ts i g; into = get_or tys i d; qualifier = get_or qs i e; is_begun = false } ∷ [] →
    old ++ parameters (drop i tys) (drop i qs) (drop i xs) (drop i ts) ≡ total → new ++ parameters (drop (i + 1) tys) (drop (i + 1) qs) (drop (i + 1) xs) (drop (i + 1) ts) ≡ total
passed_more tys qs xs ts old new total i d e f g lt is so_far =
    let lt_tys : i < length tys = omega arith in
    let lt_qs : i < length qs = omega arith in
    let lt_xs : i < length xs = omega arith in
    let lt_ts : i < length ts = omega arith in
    ap (λ v. v ++ rest) is
    ∙ (append_assoc old (record { name = get_or xs i f; ty = get_or ts i g; into = get_or tys i d; qualifier = get_or qs i e; is_begun = false } ∷ []) rest
    ∙ (sym (ap (λ z. old ++ parameters z (drop i qs) (drop i xs) (drop i ts)) (drop_at tys i d lt_tys)
    ∙ (ap (λ z. old ++ parameters (get_or tys i d ∷ drop (i + 1) tys) z (drop i xs) (drop i ts)) (drop_at qs i e lt_qs)
    ∙ (ap (λ z. old ++ parameters (get_or tys i d ∷ drop (i + 1) tys) (get_or qs i e ∷ drop (i + 1) qs) z (drop i ts)) (drop_at xs i f lt_xs)
    ∙ ap (λ z. old ++ parameters (get_or tys i d ∷ drop (i + 1) tys) (get_or qs i e ∷ drop (i + 1) qs) (get_or xs i f ∷ drop (i + 1) xs) z) (drop_at ts i g lt_ts))))
    ∙ so_far))
  where
    rest : List Passed
    rest = parameters (drop (i + 1) tys) (drop (i + 1) qs) (drop (i + 1) xs) (drop (i + 1) ts)

none_1 : (tys : List Ty) (xs : List (Option ℕ)) (ts : List VType) → parameters tys [] xs ts ≡ []
none_1 [] xs ts = refl
none_1 (ty ∷ tys) xs ts = refl

none_2 : (tys : List Ty) (qs : List Qualifier) (ts : List VType) → parameters tys qs [] ts ≡ []
none_2 [] qs ts = refl
none_2 (ty ∷ tys) [] ts = refl
none_2 (ty ∷ tys) (q ∷ qs) ts = refl

none_3 : (tys : List Ty) (qs : List Qualifier) (xs : List (Option ℕ)) → parameters tys qs xs [] ≡ []
none_3 [] qs xs = refl
none_3 (ty ∷ tys) [] xs = refl
none_3 (ty ∷ tys) (q ∷ qs) [] = refl
none_3 (ty ∷ tys) (q ∷ qs) (x ∷ xs) = refl

pub passed_end : (tys : List Ty) (qs : List Qualifier) (xs : List (Option ℕ)) (ts : List VType) (old total : List Passed) (i : ℕ) →
    min (min (min (length tys) (length qs)) (length xs)) (length ts) ≤ i → old ++ parameters (drop i tys) (drop i qs) (drop i xs) (drop i ts) ≡ total → old ≡ total
passed_end tys qs xs ts old total i le so_far = sym (append-nil old) ∙ (ap (λ ps. old ++ ps) (sym none) ∙ so_far)
  where
    which : ((length tys ≤ i) ⊎ (length qs ≤ i)) ⊎ ((length xs ≤ i) ⊎ (length ts ≤ i))
    which = grind arith

    none : parameters (drop i tys) (drop i qs) (drop i xs) (drop i ts) ≡ []
    none = elim which [
      | inl (inl a) ↦ ap (λ z. parameters z (drop i qs) (drop i xs) (drop i ts)) (drop_end tys i a)
      | inl (inr a) ↦ ap (λ z. parameters (drop i tys) z (drop i xs) (drop i ts)) (drop_end qs i a) ∙ none_1 (drop i tys) (drop i xs) (drop i ts)
      | inr (inl a) ↦ ap (λ z. parameters (drop i tys) (drop i qs) z (drop i ts)) (drop_end xs i a) ∙ none_2 (drop i tys) (drop i qs) (drop i ts)
      | inr (inr a) ↦ ap (λ z. parameters (drop i tys) (drop i qs) (drop i xs) z) (drop_end ts i a) ∙ none_3 (drop i tys) (drop i qs) (drop i xs)
    ]

-- ---- items of the stack

pub drop_both : {A : Type 0} (xs : List A) (n : ℕ) → drop 1 (drop n xs) ≡ drop (n + 1) xs
drop_both xs n = drop-drop 1 n xs ∙ ap (λ (k : ℕ). drop k xs) (omega arith)

pub drop_none : {A : Type 0} (xs : List A) (n : ℕ) → drop n xs ≡ drop (n + 0) xs
drop_none xs n = ap (λ (k : ℕ). drop k xs) (omega arith)
