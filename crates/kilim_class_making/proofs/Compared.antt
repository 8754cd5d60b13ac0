-- Lists that are compared element by element.
use Rattle.std.proofs.Common.{◌≡◌, Bool, true, List, [], ◌∷◌, refl, sym, ◌∙◌}
use Rattle.std.specs.Cmp.Lexicographic.{pointwise}
use Rattle.std.proofs.lemmas.Bool.{and_parts}

-- where elements that are said to be equal are equal, so are lists
pub same_lists : {A : Type 0} (E : A → A → Bool) → ((a b : A) → E a b ≡ true → a ≡ b) → (xs ys : List A) (r : Bool) → r ≡ pointwise E xs ys → r ≡ true → xs ≡ ys
same_lists E each [] [] r is so = refl
same_lists E each [] (y ∷ ys) r is so = absurd cc
same_lists E each (x ∷ xs) [] r is so = absurd cc
same_lists E each (x ∷ xs) (y ∷ ys) r is so =
    let both = and_parts (E x y) (pointwise E xs ys) (sym is ∙ so) in
    λ i. each x y both.0 i ∷ same_lists E each xs ys (pointwise E xs ys) refl both.1 i
