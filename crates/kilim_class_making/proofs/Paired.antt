-- Lists that are compared element by element, in a loop.
use Rattle.std.proofs.Common.{◌≡◌, ℕ, suc, ◌+◌, ◌-◌, ◌<◌, ◌≤◌, eqb, Bool, true, List, [], ◌∷◌, ◌++◌, length, get_or, take, drop, take-suc, add-one, append_assoc, eqb-true, sym, ap, ◌∙◌, arith}
use Rattle.std.proofs.Math.Seq.{take-length}
use Rattle.std.proofs.lemmas.List.{append-nil, nil_from_length, take_all}

-- what stands behind the first element
abbrev pub behind_first : {A : Type 0} → List A → List A
behind_first xs = take (length xs - 1) (drop 1 xs)

all_behind : {A : Type 0} (x : A) (xs : List A) → behind_first (x ∷ xs) ≡ xs
all_behind x xs = let all : length (x ∷ xs) - 1 ≡ length xs = omega arith in rw all (take-length xs)

-- one pair more is equal
pub same_more : {A : Type 0} (one other rest : List A) (i : ℕ) (d e : A) → i < length one → 1 ≤ length rest → get_or one i d ≡ get_or rest 0 e → take i one ++ rest ≡ other
    → take (i + 1) one ++ behind_first rest ≡ other
same_more one other [] i d e lt some same so_far = absurd (omega arith)
same_more {A = A} one other (z ∷ rest) i d e lt some same so_far =
    rw add-one
    (ap (λ (t : List A). take (suc i) one ++ t) (all_behind z rest)
    ∙ (ap (λ (t : List A). t ++ rest) (take-suc one i d lt)
    ∙ (append_assoc (take i one) (get_or one i d ∷ []) rest ∙ (ap (λ (x : A). take i one ++ (x ∷ rest)) same ∙ so_far))))

-- all pairs are equal, and none is left
pub all_same : {A : Type 0} (one other rest : List A) (i : ℕ) (empty : Bool) → length one ≤ i → empty ≡ eqb (length rest) 0 → take i one ++ rest ≡ other → empty ≡ true → one ≡ other
all_same {A = A} one other rest i empty le is so_far holds =
    let none : rest ≡ [] = nil_from_length rest (eqb-true (length rest) 0 (sym is ∙ holds)) in
    sym (take_all i one le) ∙ (sym (append-nil (take i one)) ∙ (ap (λ (t : List A). take i one ++ t) (sym none) ∙ so_far))
