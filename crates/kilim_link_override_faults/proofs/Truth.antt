-- Tests that hold of no element.
use Rattle.std.proofs.Common.{◌≡◌, ℕ, zero, suc, ◌<◌, Bool, true, false, refl, sym, ap, ◌∙◌, List, [], ◌∷◌, length, arith}
use Rattle.std.specs.Prelude.{◌&&◌, ◌||◌, not, slice_index_or, Contains}
use Rattle.std.specs.List.{list_any}

pub cases : {G : Type 0} (v : Bool) → (v ≡ true → G) → (v ≡ false → G) → G
cases true f g = f refl
cases false f g = g refl

pub none_here : (a b : Bool) → (a || b) ≡ false → a ≡ false
none_here true b e = e
none_here false b e = refl

pub none_later : (a b : Bool) → (a || b) ≡ false → b ≡ false
none_later true b e = absurd cc
none_later false b e = e

pub none_of_two : (a b : Bool) → a ≡ false → b ≡ false → (a || b) ≡ false
none_of_two true b ea eb = ea
none_of_two false b ea eb = eb

pub some_later : (a b : Bool) → (a || b) ≡ true → a ≡ false → b ≡ true
some_later true b e n = absurd cc
some_later false b e n = e

pub first_is_false : (a b : Bool) → b ≡ true → (a && b) ≡ false → a ≡ false
first_is_false true b eb e = sym eb ∙ e
first_is_false false b eb e = refl

pub is_it : (a : Bool) → not a ≡ false → a ≡ true
is_it true e = refl
is_it false e = absurd cc

-- what holds of fewer holds of none where the other does
pub none_of_less : {A : Type 0} (more less : A → Bool) → ((x : A) → more x ≡ false → less x ≡ false) → (xs : List A) → list_any more xs ≡ false → list_any less xs ≡ false
none_of_less more less f [] e = refl
none_of_less more less f (x ∷ xs) e =
    none_of_two (less x) (list_any less xs) (f x (none_here (more x) (list_any more xs) e)) (none_of_less more less f xs (none_later (more x) (list_any more xs) e))

-- what follows from an element that passes one test and neither of two others
pub by_found : {A : Type 0} (test one other : A → Bool) (goal : Bool) → ((x : A) → test x ≡ true → one x ≡ false → other x ≡ false → goal ≡ false)
    → (xs : List A) → list_any test xs ≡ true → list_any one xs ≡ false → list_any other xs ≡ false → goal ≡ false
by_found test one other goal f [] t a b = absurd cc
by_found test one other goal f (x ∷ xs) t a b =
    cases (test x)
    (λ is. f x is (none_here (one x) (list_any one xs) a) (none_here (other x) (list_any other xs) b))
    (λ is. by_found test one other goal f xs (some_later (test x) (list_any test xs) t is) (none_later (one x) (list_any one xs) a) (none_later (other x) (list_any other xs) b))

-- of an element of a list
none_at : {A : Type 0} (test : A → Bool) (xs : List A) (k : ℕ) (x : A) → k < length xs → slice_index_or xs k x ≡ x → list_any test xs ≡ false → test x ≡ false
none_at test [] k x lt is e = absurd (omega arith)
none_at test (y ∷ ys) zero x lt is e = sym (ap test is) ∙ none_here (test y) (list_any test ys) e
none_at test (y ∷ ys) (suc k) x lt is e = none_at test ys k x (omega arith) is (none_later (test y) (list_any test ys) e)

pub none_of_contained : {A : Type 0} (test : A → Bool) (xs : List A) (x : A) → Contains xs x → list_any test xs ≡ false → test x ≡ false
none_of_contained test xs x there e = none_at test xs there.0 x there.1 there.2 e

pub some_of_contained : {A : Type 0} (test : A → Bool) (xs : List A) (x : A) → Contains xs x → test x ≡ true → list_any test xs ≡ true
some_of_contained test xs x there is =
    cases (list_any test xs)
    (λ e. e)
    (λ e. absurd (let wrong : true ≡ false = sym is ∙ none_of_contained test xs x there e in cc))
