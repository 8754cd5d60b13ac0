-- Two lists of reports in one.
use Rattle.std.proofs.Common.{◌≡◌, ℕ, suc, ◌+◌, ◌<◌, ◌≤◌, true, false, if◌then◌else◌, List, [], ◌∷◌, ◌++◌, length, get_or, drop, drop-cons, sym, ap, ◌∙◌, arith, append_assoc}
use Rattle.std.proofs.lemmas.List.{append-nil, length-drop, nil_from_length}
use Rattle.kilim_isolation_pauses.specs.declared.report.Report.{Report}
use Rattle.kilim_isolation.specs.Faults.{comes_before, earlier, later, merged}

pub drop_at : {A : Type 0} (xs : List A) (i : ℕ) (d : A) → i < length xs → drop i xs ≡ get_or xs i d ∷ drop (i + 1) xs
drop_at xs i d lt =
    let n : suc i ≡ i + 1 = omega arith in
    drop-cons xs i d lt ∙ ap (λ (k : ℕ). get_or xs i d ∷ drop k xs) n

pub drop_end : {A : Type 0} (xs : List A) (i : ℕ) → length xs ≤ i → drop i xs ≡ []
drop_end xs i le = nil_from_length (drop i xs) (omega (arith, length-drop i xs))

pub earlier_more : (r : Report) (qs : List Report) (i : ℕ) (d : Report) → i < length qs → comes_before (get_or qs i d) r ≡ true → earlier r (drop i qs) ≡ get_or qs i d ∷ earlier r (drop (i + 1) qs)
earlier_more r qs i d lt before = ap (earlier r) (drop_at qs i d lt) ∙ ap (λ b. if b then get_or qs i d ∷ earlier r (drop (i + 1) qs) else []) before

pub later_more : (r : Report) (qs : List Report) (i : ℕ) (d : Report) → i < length qs → comes_before (get_or qs i d) r ≡ true → later r (drop i qs) ≡ later r (drop (i + 1) qs)
later_more r qs i d lt before = ap (later r) (drop_at qs i d lt) ∙ ap (λ b. if b then later r (drop (i + 1) qs) else get_or qs i d ∷ drop (i + 1) qs) before

pub earlier_stop : (r : Report) (qs : List Report) (i : ℕ) (d : Report) → i < length qs → comes_before (get_or qs i d) r ≡ false → earlier r (drop i qs) ≡ []
earlier_stop r qs i d lt before = ap (earlier r) (drop_at qs i d lt) ∙ ap (λ b. if b then get_or qs i d ∷ earlier r (drop (i + 1) qs) else []) before

pub later_stop : (r : Report) (qs : List Report) (i : ℕ) (d : Report) → i < length qs → comes_before (get_or qs i d) r ≡ false → later r (drop i qs) ≡ drop i qs
later_stop r qs i d lt before =
    ap (later r) (drop_at qs i d lt) ∙ (ap (λ b. if b then later r (drop (i + 1) qs) else get_or qs i d ∷ drop (i + 1) qs) before ∙ sym (drop_at qs i d lt))

-- a turn of `push_earlier`, and its ends
pub push_more : (r : Report) (qs now next total : List Report) (i : ℕ) (q d : Report) → i < length qs → q ≡ get_or qs i d → comes_before q r ≡ true → now ++ earlier r (drop i qs) ≡ total → next ≡ now ++ q ∷ [] →
    next ++ earlier r (drop (i + 1) qs) ≡ total
push_more r qs now next total i q d lt is before so_far step =
    let rest : List Report = earlier r (drop (i + 1) qs) in
    let passes : comes_before (get_or qs i d) r ≡ true = ap (λ (z : Report). comes_before z r) (sym is) ∙ before in
    ap (λ (v : List Report). v ++ rest) (step ∙ ap (λ (z : Report). now ++ z ∷ []) is)
    ∙ (append_assoc now (get_or qs i d ∷ []) rest ∙ (ap (λ (v : List Report). now ++ v) (sym (earlier_more r qs i d lt passes)) ∙ so_far))

pub rest_more : (r : Report) (qs total : List Report) (i : ℕ) (q d : Report) → i < length qs → q ≡ get_or qs i d → comes_before q r ≡ true → later r (drop i qs) ≡ total → later r (drop (i + 1) qs) ≡ total
rest_more r qs total i q d lt is before so_far = sym (later_more r qs i d lt (ap (λ (z : Report). comes_before z r) (sym is) ∙ before)) ∙ so_far

pub push_stop : (r : Report) (qs now total : List Report) (i : ℕ) (q d : Report) → i < length qs → q ≡ get_or qs i d → comes_before q r ≡ false → now ++ earlier r (drop i qs) ≡ total → now ≡ total
push_stop r qs now total i q d lt is before so_far =
    sym (append-nil now) ∙ (ap (λ (v : List Report). now ++ v) (sym (earlier_stop r qs i d lt (ap (λ (z : Report). comes_before z r) (sym is) ∙ before))) ∙ so_far)

pub rest_stop : (r : Report) (qs total : List Report) (i : ℕ) (q d : Report) → i < length qs → q ≡ get_or qs i d → comes_before q r ≡ false → later r (drop i qs) ≡ total → drop i qs ≡ total
rest_stop r qs total i q d lt is before so_far = sym (later_stop r qs i d lt (ap (λ (z : Report). comes_before z r) (sym is) ∙ before)) ∙ so_far

pub push_end : (r : Report) (qs now total : List Report) (i : ℕ) → length qs ≤ i → now ++ earlier r (drop i qs) ≡ total → now ≡ total
push_end r qs now total i le so_far = sym (append-nil now) ∙ (ap (λ (v : List Report). now ++ earlier r v) (sym (drop_end qs i le)) ∙ so_far)

pub rest_end : (r : Report) (qs total : List Report) (i k : ℕ) → length qs ≤ i → length qs ≤ k → later r (drop i qs) ≡ total → drop k qs ≡ total
rest_end r qs total i k le past so_far = drop_end qs k past ∙ (ap (later r) (sym (drop_end qs i le)) ∙ so_far)

-- a turn of `merge`
pub merge_more : (rs qs old mid new total : List Report) (k at next : ℕ) (x : Report) → k < length rs → x ≡ get_or rs k x → mid ≡ old ++ earlier x (drop at qs) → drop next qs ≡ later x (drop at qs) →
    new ≡ mid ++ x ∷ [] → old ++ merged (drop k rs) (drop at qs) ≡ total → new ++ merged (drop (k + 1) rs) (drop next qs) ≡ total
merge_more rs qs old mid new total k at next x lt is pushed rest added so_far =
    ap (λ v. v ++ merged (drop (k + 1) rs) (drop next qs)) (added ∙ ap (λ v. v ++ x ∷ []) pushed)
    ∙ (ap (λ v. ((old ++ earlier x (drop at qs)) ++ x ∷ []) ++ merged (drop (k + 1) rs) v) rest
    ∙ (append_assoc (old ++ earlier x (drop at qs)) (x ∷ []) (merged (drop (k + 1) rs) (later x (drop at qs)))
    ∙ (append_assoc old (earlier x (drop at qs)) (x ∷ merged (drop (k + 1) rs) (later x (drop at qs)))
    ∙ (ap (λ z. old ++ merged z (drop at qs)) (sym front) ∙ so_far))))
  where
    front : drop k rs ≡ x ∷ drop (k + 1) rs
    front = drop_at rs k x lt ∙ ap (λ z. z ∷ drop (k + 1) rs) (sym is)
