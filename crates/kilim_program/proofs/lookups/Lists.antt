-- The first one that passes, in lists that are put together.
use Rattle.std.proofs.Common.{◌≡◌, Bool, true, false, cond, List, [], ◌∷◌, ◌++◌, Option, Some, None, refl}
use Rattle.kilim_program.specs.Names.{first_that}

first_so : {A : Type 0} (b : Bool) (y : A) (o r : Option A) (x : A) → cond b (Some y) o ≡ Some x → (o ≡ Some x → r ≡ Some x) → cond b (Some y) r ≡ Some x
first_so true y o r x e later = e
first_so false y o r x e later = later e

-- it stays the first one whatever follows
pub first_left : {A : Type 0} (test : A → Bool) (xs ys : List A) (x : A) → first_that test xs ≡ Some x → first_that test (xs ++ ys) ≡ Some x
first_left test [] ys x e = absurd (cc)
first_left test (y ∷ xs) ys x e = first_so (test y) y (first_that test xs) (first_that test (xs ++ ys)) x e (first_left test xs ys x)

first_none : {A : Type 0} (b : Bool) (y : A) (o r s : Option A) → cond b (Some y) o ≡ None → (o ≡ None → r ≡ s) → cond b (Some y) r ≡ s
first_none true y o r s e later = absurd (cc)
first_none false y o r s e later = later e

-- where there is none, it is the first one of what follows
pub first_right : {A : Type 0} (test : A → Bool) (xs ys : List A) → first_that test xs ≡ None → first_that test (xs ++ ys) ≡ first_that test ys
first_right test [] ys e = refl
first_right test (y ∷ xs) ys e = first_none (test y) y (first_that test xs) (first_that test (xs ++ ys)) (first_that test ys) e (first_right test xs ys)
