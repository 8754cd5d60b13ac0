-- What is at a place of a list after a change.
use Rattle.std.proofs.Common.{◌≡◌, ℕ, zero, suc, ◌+◌, ◌<◌, ◌≤◌, true, false, ◌==◌, List, [], ◌∷◌, ◌++◌, Some, None, refl, sym, ap, ◌∙◌, arith}
use Rattle.std.specs.Prelude.{length, slice_get, slice_set}
use Rattle.std.proofs.lemmas.Bool.Decides.{nat_tests}
use Rattle.kilim_lemmas.proofs.Lists.{set_other}

pub get_set_other : {A : Type 0} (xs : List A) (t u : ℕ) (y : A) → (u == t) ≡ false → slice_get (slice_set xs t y) u ≡ slice_get xs u
get_set_other xs t u y e = set_other xs t u y (λ same. absurd (let h : (u == t) ≡ true = grind (arith, nat_tests) in let k : true ≡ false = sym h ∙ e in cc))

pub get_past : {A : Type 0} (xs : List A) (t : ℕ) → length xs ≤ t → slice_get xs t ≡ None
get_past [] t e = refl
get_past (z ∷ zs) zero e = absurd (omega arith)
get_past (z ∷ zs) (suc t) e = get_past zs t (omega arith)

pub got_within : {A : Type 0} (xs : List A) (t : ℕ) (x : A) → slice_get xs t ≡ Some x → t < length xs
got_within [] t x e = absurd (cc)
got_within (z ∷ zs) zero x e = omega arith
got_within (z ∷ zs) (suc t) x e = let h = got_within zs t x e in omega arith

pub length_pushed : {A : Type 0} (xs : List A) (y : A) → length (xs ++ y ∷ []) ≡ suc (length xs)
length_pushed [] y = refl
length_pushed (z ∷ zs) y = ap suc (length_pushed zs y)

-- one more at the end
pub longer : {A : Type 0} (xs ys : List A) (y : A) → ys ≡ xs ++ y ∷ [] → length ys ≡ length xs + 1
longer xs ys y e = let h : length (xs ++ y ∷ []) ≡ suc (length xs) = length_pushed xs y in let f : length ys ≡ length (xs ++ y ∷ []) = ap length e in omega arith
