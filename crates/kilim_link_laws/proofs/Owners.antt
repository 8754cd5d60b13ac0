-- The numbers of the members that name a class as owner.
use Rattle.std.proofs.Common.{◌≡◌, ℕ, zero, suc, ◌+◌, ◌<◌, ◌≤◌, Bool, true, false, cond, ◌==◌, if◌then◌else◌, List, [], ◌∷◌, ◌++◌, map, length, take, slice_get, Some, sum_by, refl, sym, ap, ◌∙◌, eq-eqb, ne_eqb, arith}
use Rattle.std.specs.List.{range_with_len}
use Rattle.std.proofs.lemmas.Bool.{cond-true, cond-false}
use Rattle.std.proofs.lemmas.List.Sums.{sum_by-cons}
use Rattle.std.proofs.lemmas.Option.{same_Some, none-some}
use Rattle.kilim_class_file.specs.declared.class_file.ClassFile.{ClassFile}
use Rattle.kilim_class_file.specs.declared.class_file.MemberInfo.{MemberInfo}
use Rattle.kilim_program.specs.declared.names.ClassId.{ClassId}
use Rattle.kilim_program.specs.Keeps.{owned_from}
use Rattle.kilim_link_laws.proofs.Members.{before}
use Rattle.kilim_link_laws.proofs.Shifted.{same_number_shifted}

module _ {A : Type 0} (owner : A → ClassId) (c : ClassId) where
  owned_here : (n : ℕ) (x : A) (xs : List A) → (owner x).0 ≡ c.0 → owned_from owner c n (x ∷ xs) ≡ n ∷ owned_from owner c (suc n) xs
  owned_here n x xs is = cond-true ((owner x).0 == c.0) (n ∷ owned_from owner c (suc n) xs) (owned_from owner c (suc n) xs) (eq-eqb (owner x).0 c.0 is)

  owned_later : (n : ℕ) (x : A) (xs : List A) → ((owner x).0 ≡ c.0 → ⊥) → owned_from owner c n (x ∷ xs) ≡ owned_from owner c (suc n) xs
  owned_later n x xs not_it = cond-false ((owner x).0 == c.0) (n ∷ owned_from owner c (suc n) xs) (owned_from owner c (suc n) xs) (ne_eqb (owner x).0 c.0 not_it)

  pub none_owned : (n : ℕ) (xs : List A) → ((j : ℕ) (x : A) → slice_get xs j ≡ Some x → (owner x).0 ≡ c.0 → ⊥) → owned_from owner c n xs ≡ []
  none_owned n [] each = refl
  none_owned n (x ∷ xs) each = owned_later n x xs (each 0 x refl) ∙ none_owned (suc n) xs (λ j y e. each (suc j) y e)

  -- those that stand in a row
  pub row_owned : (n a len : ℕ) (xs : List A) → a + len ≤ length xs → ((j : ℕ) (x : A) → slice_get xs j ≡ Some x → a ≤ j → j < a + len → (owner x).0 ≡ c.0) →
      ((j : ℕ) (x : A) → slice_get xs j ≡ Some x → (owner x).0 ≡ c.0 → (a ≤ j) × (j < a + len)) → owned_from owner c n xs ≡ range_with_len (n + a) len
  row_owned n a zero xs within inside outside = none_owned n xs (λ j x e is. let o = outside j x e is in let l = o.0 in let r = o.1 in omega (arith, l, r))
  row_owned n a (suc len) [] within inside outside = absurd (omega (arith, within))
  row_owned n zero (suc len) (x ∷ xs) within inside outside =
      let number : n + 0 ≡ n = omega arith in
      let next : suc n + 0 ≡ n + 0 + 1 = omega arith in
      owned_here n x xs (inside 0 x refl (omega arith) (omega arith))
      ∙ (ap (λ (m : ℕ). m ∷ owned_from owner c (suc n) xs) (sym number)
      ∙ ap (λ (ms : List ℕ). (n + 0) ∷ ms)
      (row_owned (suc n) 0 len xs (omega (arith, within)) (λ j y e l r. inside (suc j) y e (omega arith) (omega (arith, r))) (λ j y e is. let o = outside (suc j) y e is in let r = o.1 in (omega arith, omega (arith, r)))
      ∙ ap (λ (m : ℕ). range_with_len m len) next))
  row_owned n (suc a) (suc len) (x ∷ xs) within inside outside =
      let next : suc n + a ≡ n + suc a = omega arith in
      owned_later n x xs (λ is. let o = outside 0 x refl is in let l = o.0 in omega (arith, l))
      ∙ (row_owned (suc n) a (suc len) xs (omega (arith, within)) (λ j y e l r. inside (suc j) y e (omega (arith, l)) (omega (arith, r)))
      (λ j y e is. let o = outside (suc j) y e is in let l = o.0 in let r = o.1 in (omega (arith, l), omega (arith, r)))
      ∙ ap (λ (m : ℕ). range_with_len m (suc len)) next)

  owned_so : (b : Bool) (n : ℕ) (ms zs : List ℕ) → cond b (n ∷ (ms ++ zs)) (ms ++ zs) ≡ cond b (n ∷ ms) ms ++ zs
  owned_so true n ms zs = refl
  owned_so false n ms zs = refl

  pub owned-append : (n : ℕ) (xs ys : List A) → owned_from owner c n (xs ++ ys) ≡ owned_from owner c n xs ++ owned_from owner c (n + length xs) ys
  owned-append n [] ys = let number : n ≡ n + 0 = omega arith in ap (λ (m : ℕ). owned_from owner c m ys) number
  owned-append n (x ∷ xs) ys =
      let number : suc n + length xs ≡ n + suc (length xs) = omega arith in
      let rest = owned-append (suc n) xs ys ∙ ap (λ (m : ℕ). owned_from owner c (suc n) xs ++ owned_from owner c m ys) number in
      ap (λ (ms : List ℕ). cond ((owner x).0 == c.0) (n ∷ ms) ms) rest ∙ owned_so ((owner x).0 == c.0) n (owned_from owner c (suc n) xs) (owned_from owner c (n + suc (length xs)) ys)

-- ---- by the numbers of the owners

abbrev pub owned_numbers : ℕ → ℕ → List ℕ → List ℕ
owned_numbers c n [] = []
owned_numbers c n (x ∷ xs) = if x == c then n ∷ owned_numbers c (suc n) xs else owned_numbers c (suc n) xs

pub owned_by_numbers : {A : Type 0} (owner : A → ClassId) (c : ClassId) (n : ℕ) (xs : List A) → owned_from owner c n xs ≡ owned_numbers c.0 n (map (λ (x : A). (owner x).0) xs)
owned_by_numbers owner c n [] = refl
owned_by_numbers owner c n (x ∷ xs) = ap (λ (ms : List ℕ). if (owner x).0 == c.0 then n ∷ ms else ms) (owned_by_numbers owner c (suc n) xs)

shifted_so : (b : Bool) (n m : ℕ) (ms : List ℕ) → cond b ((m + n) ∷ map (λ (i : ℕ). m + i) ms) (map (λ (i : ℕ). m + i) ms) ≡ map (λ (i : ℕ). m + i) (cond b (n ∷ ms) ms)
shifted_so true n m ms = refl
shifted_so false n m ms = refl

-- owners and places further on
pub owned_shifted : (first m c n : ℕ) (xs : List ℕ) → owned_numbers (first + c) (m + n) (map (λ (x : ℕ). first + x) xs) ≡ map (λ (i : ℕ). m + i) (owned_numbers c n xs)
owned_shifted first m c n [] = refl
owned_shifted first m c n (x ∷ xs) =
    let number : suc (m + n) ≡ m + suc n = omega arith in
    let rest = ap (λ (k : ℕ). owned_numbers (first + c) k (map (λ (y : ℕ). first + y) xs)) number ∙ owned_shifted first m c (suc n) xs in
    ap (λ (b : Bool). cond b ((m + n) ∷ owned_numbers (first + c) (suc (m + n)) (map (λ (y : ℕ). first + y) xs)) (owned_numbers (first + c) (suc (m + n)) (map (λ (y : ℕ). first + y) xs))) (same_number_shifted first x c)
    ∙ (ap (λ (ms : List ℕ). cond (x == c) ((m + n) ∷ ms) ms) rest ∙ shifted_so (x == c) n m (owned_numbers c (suc n) xs))

-- ---- the members before those of a file

pub before_all : (list : ClassFile → List MemberInfo) (files : List ClassFile) (n k : ℕ) (file : ClassFile) → slice_get files k ≡ Some file → k < n → before list files k + length (list file) ≤ before list files n
before_all list [] n k file there less = absurd (none-some file there)
before_all list (f ∷ files) zero k file there less = absurd (omega (arith, less))
before_all list (f ∷ files) (suc n) zero file there less =
    let same : length (list f) ≡ length (list file) = ap (λ (g : ClassFile). length (list g)) (same_Some f file there) in omega (arith, same)
before_all list (f ∷ files) (suc n) (suc k) file there less = let rest = before_all list files n k file there (omega (arith, less)) in omega (arith, rest)

-- a sum over as many views
pub before_is_sum : {V : Type 0} (list : ClassFile → List MemberInfo) (view : ClassFile → V) (size : V → ℕ) → ((file : ClassFile) → size (view file) ≡ length (list file)) →
    (files : List ClassFile) (vs : List V) (n : ℕ) → n ≤ length files → sum_by size (take n (map view files ++ vs)) ≡ before list files n
before_is_sum list view size same files vs zero within = refl
before_is_sum list view size same [] vs (suc n) within = absurd (omega (arith, within))
before_is_sum list view size same (f ∷ files) vs (suc n) within =
    let rest = before_is_sum list view size same files vs n (omega (arith, within)) in
    let sum = sum_by-cons size (view f) (take n (map view files ++ vs)) in
    let one = same f in
    omega (arith, rest, sum, one)
