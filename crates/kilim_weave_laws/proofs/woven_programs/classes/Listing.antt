-- Lists with more behind them.
use Rattle.std.proofs.Common.{◌≡◌, ℕ, zero, suc, ◌+◌, ◌≤◌, Bool, true, false, not, List, [], ◌∷◌, ◌++◌, length, take, Some, slice_get, refl, sym, ap, subst, ◌∙◌, arith}
use Rattle.std.specs.List.{list_all, list_any}
use Rattle.std.proofs.lemmas.Bool.{and_parts, and_from, not-true, or_from, or_parts}
use Rattle.kilim_program.specs.declared.class.Class.{Class}
use Rattle.kilim_program.specs.declared.names.ClassId.{ClassId}
use Rattle.kilim_program.specs.BuiltIn.{class_id}
use Rattle.kilim_program.specs.Keeps.{each_class_from}
use Rattle.kilim_program.specs.Same.{all_differ}

pub all_joined : {A : Type 0} (test : A → Bool) (xs ys : List A) → list_all test xs ≡ true → list_all test ys ≡ true → list_all test (xs ++ ys) ≡ true
all_joined test [] ys a b = b
all_joined test (x ∷ xs) ys a b = let p = and_parts (test x) (list_all test xs) a in and_from (test x) _ p.0 (all_joined test xs ys p.1 b)

pub all_kept : {A : Type 0} (f g : A → Bool) → ((x : A) → f x ≡ true → g x ≡ true) → (xs : List A) → list_all f xs ≡ true → list_all g xs ≡ true
all_kept f g k [] e = refl
all_kept f g k (x ∷ xs) e = let p = and_parts (f x) (list_all f xs) e in and_from (g x) _ (k x p.0) (all_kept f g k xs p.1)

pub none_joined : {A : Type 0} (test : A → Bool) (xs ys : List A) → list_any test xs ≡ false → list_any test ys ≡ false → list_any test (xs ++ ys) ≡ false
none_joined test [] ys a b = b
none_joined test (x ∷ xs) ys a b = let p = or_parts (test x) (list_any test xs) a in or_from (test x) _ p.0 (none_joined test xs ys p.1 b)

pub none_of : {A : Type 0} (test : A → Bool) (xs : List A) → ((k : ℕ) (x : A) → slice_get xs k ≡ Some x → test x ≡ false) → list_any test xs ≡ false
none_of test [] none = refl
none_of test (x ∷ xs) none = or_from (test x) _ (none 0 x refl) (none_of test xs (λ k y e. none (suc k) y e))

pub none_at : {A : Type 0} (test : A → Bool) (xs : List A) (k : ℕ) (x : A) → list_any test xs ≡ false → slice_get xs k ≡ Some x → test x ≡ false
none_at test [] k x n e = absurd (cc)
none_at test (y ∷ xs) zero x n e = subst (λ z. test z ≡ false) (let s : y ≡ x = cc in s) (or_parts (test y) (list_any test xs) n).0
none_at test (y ∷ xs) (suc k) x n e = none_at test xs k x (or_parts (test y) (list_any test xs) n).1 e

pub take_front : {A : Type 0} (n : ℕ) (xs ys : List A) → n ≤ length xs → take n (xs ++ ys) ≡ take n xs
take_front zero xs ys h = refl
take_front (suc n) [] ys h = absurd (omega (arith, h))
take_front (suc n) (x ∷ xs) ys h = ap (λ zs. x ∷ zs) (take_front n xs ys (omega (arith, h)))

-- ---- no two are the same

-- two lists, of which none of the one is the same as one of the other
pub differ_joined : {A : Type 0} (same : A → A → Bool) (xs ys : List A) → all_differ same xs ≡ true → all_differ same ys ≡ true → ((k : ℕ) (x : A) → slice_get xs k ≡ Some x → list_any (same x) ys ≡ false) → all_differ same (xs ++ ys) ≡ true
differ_joined same [] ys a b apart = b
differ_joined same (x ∷ xs) ys a b apart =
    let p = and_parts (not (list_any (same x) xs)) (all_differ same xs) a in
    and_from (not (list_any (same x) (xs ++ ys))) _ (ap not (none_joined (same x) xs ys (not-true _ p.0) (apart 0 x refl))) (differ_joined same xs ys p.1 b (λ k y e. apart (suc k) y e))

none_less : {A : Type 0} (f g : A → Bool) → ((x : A) → g x ≡ true → f x ≡ true) → (xs : List A) → list_any f xs ≡ false → list_any g xs ≡ false
none_less f g k [] n = refl
none_less f g k (x ∷ xs) n = let p = or_parts (f x) (list_any f xs) n in or_from (g x) _ (by (g x) refl p.0) (none_less f g k xs p.1)
  where
    by : (b : Bool) → g x ≡ b → f x ≡ false → b ≡ false
    by true e h = let y = k x e in let z : true ≡ false = sym y ∙ h in z
    by false e h = refl

-- what differs by less differs by more
pub differ_more : {A : Type 0} (same more : A → A → Bool) → ((x y : A) → more x y ≡ true → same x y ≡ true) → (xs : List A) → all_differ same xs ≡ true → all_differ more xs ≡ true
differ_more same more k [] h = refl
differ_more same more k (x ∷ xs) h =
    let p = and_parts (not (list_any (same x) xs)) (all_differ same xs) h in
    and_from (not (list_any (more x) xs)) _ (ap not (none_less (same x) (more x) (λ y e. k x y e) xs (not-true _ p.0))) (differ_more same more k xs p.1)

-- ---- classes by their numbers

pub each_joined : (test : ClassId → Class → Bool) (n : ℕ) (xs ys : List Class) → each_class_from test n xs ≡ true → each_class_from test (n + length xs) ys ≡ true → each_class_from test n (xs ++ ys) ≡ true
each_joined test n [] ys a b = let number : n + 0 ≡ n = omega arith in ap (λ (k : ℕ). each_class_from test k ys) (sym number) ∙ b
each_joined test n (x ∷ xs) ys a b =
    let p = and_parts (test (class_id n) x) (each_class_from test (suc n) xs) a in
    let number : n + suc (length xs) ≡ suc n + length xs = omega arith in
    and_from (test (class_id n) x) _ p.0 (each_joined test (suc n) xs ys p.1 (ap (λ (k : ℕ). each_class_from test k ys) (sym number) ∙ b))

pub each_kept : (f g : ClassId → Class → Bool) (n : ℕ) (xs : List Class) → ((k : ℕ) (x : Class) → slice_get xs k ≡ Some x → f (class_id (n + k)) x ≡ true → g (class_id (n + k)) x ≡ true) → each_class_from f n xs ≡ true → each_class_from g n xs ≡ true
each_kept f g n [] k h = refl
each_kept f g n (x ∷ xs) k h =
    let p = and_parts (f (class_id n) x) (each_class_from f (suc n) xs) h in
    let number : n + 0 ≡ n = omega arith in
    let first = subst (λ (j : ℕ). f (class_id j) x ≡ true → g (class_id j) x ≡ true) number (k 0 x refl) in
    and_from (g (class_id n) x) _ (first p.0) (each_kept f g (suc n) xs (λ j y e. let later : n + suc j ≡ suc n + j = omega arith in subst (λ (i : ℕ). f (class_id i) y ≡ true → g (class_id i) y ≡ true) later (k (suc j) y e)) p.1)
