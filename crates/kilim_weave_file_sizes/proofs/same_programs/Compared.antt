-- Lists that are compared element by element.
use Rattle.std.proofs.Common.{◌≡◌, ℕ, suc, ◌+◌, ◌<◌, ◌≤◌, eqb, Bool, true, List, [], ◌∷◌, ◌++◌, length, get_or, take, take-suc, add-one, append_assoc, eqb-true, refl, sym, ap, ◌∙◌, arith}
use Rattle.std.specs.Cmp.Lexicographic.{pointwise}
use Rattle.std.proofs.lemmas.Bool.{and_parts}
use Rattle.std.proofs.lemmas.List.{append-nil, nil_from_length, take_all}
use Rattle.kilim_weave_file_sizes.proofs.Loops.{all_behind, behind_first}

-- one pair more is equal
pub same_more : {A : Type 0} (one other rest : List A) (i : ℕ) (d e : A) → i < length one → 1 ≤ length rest → get_or one i d ≡ get_or rest 0 e → take i one ++ rest ≡ other
    → take (i + 1) one ++ behind_first rest ≡ other
same_more one other [] i d e lt some same so_far = absurd (omega arith)
same_more {A = A} one other (z ∷ rest) i d e lt some same so_far =
    rw add-one
    (ap (λ (t : List A). take (suc i) one ++ t) (all_behind z rest)
    ∙ (ap (λ (t : List A). t ++ rest) (take-suc one i d lt)
    ∙ (append_assoc (take i one) (get_or one i d ∷ []) rest ∙ (ap (λ (x : A). take i one ++ (x ∷ rest)) same ∙ so_far))))

-- all pairs are equal, and none is left
pub all_same : {A : Type 0} (one other rest : List A) (i : ℕ) (empty : Bool) → length one ≤ i → empty ≡ eqb (length rest) 0 → take i one ++ rest ≡ other → empty ≡ true → one ≡ other
all_same {A = A} one other rest i empty le is so_far holds =
    let none : rest ≡ [] = nil_from_length rest (eqb-true (length rest) 0 (sym is ∙ holds)) in
    sym (take_all i one le) ∙ (sym (append-nil (take i one)) ∙ (ap (λ (t : List A). take i one ++ t) (sym none) ∙ so_far))

-- where elements that are said to be equal are equal, so are lists
pub same_lists : {A : Type 0} (E : A → A → Bool) → ((a b : A) → E a b ≡ true → a ≡ b) → (xs ys : List A) (r : Bool) → r ≡ pointwise E xs ys → r ≡ true → xs ≡ ys
same_lists E each [] [] r is so = refl
same_lists E each [] (y ∷ ys) r is so = absurd cc
same_lists E each (x ∷ xs) [] r is so = absurd cc
same_lists E each (x ∷ xs) (y ∷ ys) r is so =
    let both = and_parts (E x y) (pointwise E xs ys) (sym is ∙ so) in
    λ i. each x y both.0 i ∷ same_lists E each xs ys (pointwise E xs ys) refl both.1 i
