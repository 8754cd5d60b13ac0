-- What the table of an order says.
use Rattle.std.proofs.Common.{◌≡◌, ℕ, suc, ◌-◌, ◌<◌, ◌≤◌, eqb, Bool, true, false, ◌||◌, if◌then◌else◌, refl, ap, sym, subst, ◌∙◌, inl, inr, arith, List, [], ◌∷◌, ◌++◌, length, get_or, set, replicate}
use Rattle.std.proofs.lemmas.Bool.{cases_eq, eq-eqb, ne_eqb}
use Rattle.std.proofs.lemmas.List.{get_or-replicate, length-replicate, length-set, get_or-set_same, get_or-set_other}
use Rattle.kilim_isolation_graph.specs.Canonical.{is_among, index_of}
use Rattle.kilim_isolation_graph.specs.Orders.{marked, mark_of, AreMarks}

-- ---- one more number

among_push : (xs : List ℕ) (n k : ℕ) → (n ≡ k → ⊥) → is_among k (xs ++ n ∷ []) ≡ is_among k xs
among_push [] n k other = ap (λ (b : Bool). b || false) (ne_eqb n k other)
among_push (x ∷ xs) n k other = ap (λ (b : Bool). eqb x k || b) (among_push xs n k other)

among_new : (xs : List ℕ) (n : ℕ) → is_among n (xs ++ n ∷ []) ≡ true
among_new [] n = ap (λ (b : Bool). b || false) (eq-eqb n n refl)
among_new (x ∷ xs) n = ap (λ (b : Bool). eqb x n || b) (among_new xs n) ∙ or_true (eqb x n)
  where
    or_true : (b : Bool) → (b || true) ≡ true
    or_true true = refl
    or_true false = refl

index_push : (xs : List ℕ) (n k : ℕ) → is_among k xs ≡ true → index_of k (xs ++ n ∷ []) ≡ index_of k xs
index_push [] n k among = absurd (cc)
index_push (x ∷ xs) n k among = by (eqb x k) among (index_push xs n k)
  where
    by : (b : Bool) → (b || is_among k xs) ≡ true → (is_among k xs ≡ true → index_of k (xs ++ n ∷ []) ≡ index_of k xs) → (if b then 0 else suc (index_of k (xs ++ n ∷ []))) ≡ (if b then 0 else suc (index_of k xs))
    by true e go = refl
    by false e go = ap suc (go e)

index_new : (xs : List ℕ) (n : ℕ) → is_among n xs ≡ false → index_of n (xs ++ n ∷ []) ≡ length xs
index_new [] n none = ap (λ (b : Bool). if b then 0 else 1) (eq-eqb n n refl)
index_new (x ∷ xs) n none = by (eqb x n) none (index_new xs n)
  where
    by : (b : Bool) → (b || is_among n xs) ≡ false → (is_among n xs ≡ false → index_of n (xs ++ n ∷ []) ≡ length xs) → (if b then 0 else suc (index_of n (xs ++ n ∷ []))) ≡ suc (length xs)
    by true e go = absurd (cc)
    by false e go = ap suc (go e)

index_none : (xs : List ℕ) (n : ℕ) → is_among n xs ≡ false → index_of n xs ≡ length xs
index_none [] n none = refl
index_none (x ∷ xs) n none = by (eqb x n) none (index_none xs n)
  where
    by : (b : Bool) → (b || is_among n xs) ≡ false → (is_among n xs ≡ false → index_of n xs ≡ length xs) → (if b then 0 else suc (index_of n xs)) ≡ suc (length xs)
    by true e go = absurd (cc)
    by false e go = ap suc (go e)

mark_other : (xs : List ℕ) (n k : ℕ) → (n ≡ k → ⊥) → mark_of k (xs ++ n ∷ []) ≡ mark_of k xs
mark_other xs n k other = ap (λ (b : Bool). marked b (index_of k (xs ++ n ∷ []))) (among_push xs n k other) ∙ by (is_among k xs) refl
  where
    by : (b : Bool) → is_among k xs ≡ b → marked b (index_of k (xs ++ n ∷ [])) ≡ marked b (index_of k xs)
    by true e = ap suc (index_push xs n k e)
    by false e = refl

mark_new : (xs : List ℕ) (n : ℕ) → is_among n xs ≡ false → mark_of n (xs ++ n ∷ []) ≡ suc (length xs)
mark_new xs n none = ap (λ (b : Bool). marked b (index_of n (xs ++ n ∷ []))) (among_new xs n) ∙ ap suc (index_new xs n none)

-- ---- the table

pub no_marks : (table : List ℕ) (limit : ℕ) → table ≡ replicate limit 0 → AreMarks table []
no_marks table limit is n lt = ap (λ (xs : List ℕ). get_or xs n 0) is ∙ get_or-replicate limit n 0 0 (let long : length table ≡ limit = ap length is ∙ length-replicate {A = ℕ} limit 0 in omega (arith, long, lt))

pub marks_set : (old new xs ys : List ℕ) (n count : ℕ) → AreMarks old xs → is_among n xs ≡ false → ys ≡ xs ++ n ∷ [] → count ≡ length ys → new ≡ set old n count → AreMarks new ys
marks_set old new xs ys n count were none more counted is k lt =
    let within : k < length old = omega (arith, ap length is, length-set old n count) in
    let one_more : count ≡ suc (length xs) = counted ∙ ap length more ∙ pushed xs in
    ap (λ (t : List ℕ). get_or t k 0) is
    ∙ elim (cases_eq n k) [
      | inl same ↦ subst (λ (j : ℕ). get_or (set old n count) j 0 ≡ mark_of j (xs ++ n ∷ [])) same (get_or-set_same old n count 0 (subst (λ (j : ℕ). j < length old) (sym same) within) ∙ one_more ∙ sym (mark_new xs n none))
      | inr other ↦ get_or-set_other old n k count 0 (λ e. other (sym e)) ∙ were k within ∙ sym (mark_other xs n k other)
    ]
    ∙ ap (mark_of k) (sym more)
  where
    pushed : (zs : List ℕ) → length (zs ++ n ∷ []) ≡ suc (length zs)
    pushed [] = refl
    pushed (z ∷ zs) = ap suc (pushed zs)

pub marks_past : (table xs ys : List ℕ) (n : ℕ) → AreMarks table xs → length table ≤ n → ys ≡ xs ++ n ∷ [] → AreMarks table ys
marks_past table xs ys n were past more k lt = were k lt ∙ sym (mark_other xs n k (λ e. absurd (omega (arith, e)))) ∙ ap (mark_of k) (sym more)

-- ---- what is read from it

pub is_marked : (xs : List ℕ) (n mark : ℕ) → mark ≡ mark_of n xs → 0 < mark → is_among n xs ≡ true
is_marked xs n mark is some = by (is_among n xs) is
  where
    by : (b : Bool) → mark ≡ marked b (index_of n xs) → b ≡ true
    by true e = refl
    by false e = absurd (omega (arith, e))

pub not_marked : (xs : List ℕ) (n mark : ℕ) → mark ≡ mark_of n xs → mark ≤ 0 → is_among n xs ≡ false
not_marked xs n mark is none = by (is_among n xs) is
  where
    by : (b : Bool) → mark ≡ marked b (index_of n xs) → b ≡ false
    by true e = absurd (omega (arith, e))
    by false e = refl

pub marked_at : (xs : List ℕ) (n mark : ℕ) → mark ≡ mark_of n xs → 0 < mark → mark - 1 ≡ index_of n xs
marked_at xs n mark is some = by (is_among n xs) is
  where
    by : (b : Bool) → mark ≡ marked b (index_of n xs) → mark - 1 ≡ index_of n xs
    by true e = omega (arith, e)
    by false e = absurd (omega (arith, e))

pub marked_none : (xs : List ℕ) (n mark : ℕ) → mark ≡ mark_of n xs → mark ≤ 0 → length xs ≡ index_of n xs
marked_none xs n mark is none = sym (index_none xs n (not_marked xs n mark is none))
