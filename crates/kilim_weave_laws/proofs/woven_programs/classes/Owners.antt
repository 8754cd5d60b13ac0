-- Members by their owners.
use Rattle.std.proofs.Common.{◌≡◌, ◌≢◌, ℕ, suc, ◌+◌, Bool, true, false, cond, eqb, List, [], ◌∷◌, ◌++◌, length, map, Some, slice_get, refl, sym, ap, ◌∙◌, arith, ne_eqb}
use Rattle.kilim_program.specs.declared.names.ClassId.{ClassId}
use Rattle.kilim_program.specs.Keeps.{owned_from}

pub owned_joined : {A : Type 0} (owner : A → ClassId) (c : ClassId) (n : ℕ) (xs ys : List A) → owned_from owner c n (xs ++ ys) ≡ owned_from owner c n xs ++ owned_from owner c (n + length xs) ys
owned_joined owner c n [] ys = let number : n + 0 ≡ n = omega arith in ap (λ (k : ℕ). owned_from owner c k ys) (sym number)
owned_joined owner c n (x ∷ xs) ys = by (eqb (owner x).0 c.0) (owned_joined owner c (suc n) xs ys)
  where
    number : suc n + length xs ≡ n + suc (length xs)
    number = omega arith

    by : (b : Bool) → owned_from owner c (suc n) (xs ++ ys) ≡ owned_from owner c (suc n) xs ++ owned_from owner c (suc n + length xs) ys →
        cond b (n ∷ owned_from owner c (suc n) (xs ++ ys)) (owned_from owner c (suc n) (xs ++ ys)) ≡ cond b (n ∷ owned_from owner c (suc n) xs) (owned_from owner c (suc n) xs) ++ owned_from owner c (n + suc (length xs)) ys
    by true e = ap (λ zs. n ∷ zs) e ∙ ap (λ (k : ℕ). (n ∷ owned_from owner c (suc n) xs) ++ owned_from owner c k ys) number
    by false e = e ∙ ap (λ (k : ℕ). owned_from owner c (suc n) xs ++ owned_from owner c k ys) number

-- members of other classes are none
pub owned_none : {A : Type 0} (owner : A → ClassId) (c : ClassId) (n : ℕ) (xs : List A) → ((k : ℕ) (x : A) → slice_get xs k ≡ Some x → (owner x).0 ≢ c.0) → owned_from owner c n xs ≡ []
owned_none owner c n [] other = refl
owned_none owner c n (x ∷ xs) other =
    ap (λ (b : Bool). cond b (n ∷ owned_from owner c (suc n) xs) (owned_from owner c (suc n) xs)) (ne_eqb (owner x).0 c.0 (other 0 x refl)) ∙ owned_none owner c (suc n) xs (λ k y e. other (suc k) y e)

-- the same owners have members at the same places
pub owned_same : {A : Type 0} (owner : A → ClassId) (c : ClassId) (n : ℕ) (xs ys : List A) → map owner xs ≡ map owner ys → owned_from owner c n xs ≡ owned_from owner c n ys
owned_same owner c n [] [] e = refl
owned_same owner c n [] (y ∷ ys) e = absurd (cc)
owned_same owner c n (x ∷ xs) [] e = absurd (cc)
owned_same owner c n (x ∷ xs) (y ∷ ys) e =
    let head : owner x ≡ owner y = cc in
    let rest : map owner xs ≡ map owner ys = cc in
    let later = owned_same owner c (suc n) xs ys rest in
    ap (λ (d : ClassId). cond (eqb d.0 c.0) (n ∷ owned_from owner c (suc n) xs) (owned_from owner c (suc n) xs)) head ∙ ap (λ (zs : List ℕ). cond (eqb (owner y).0 c.0) (n ∷ zs) zs) later
