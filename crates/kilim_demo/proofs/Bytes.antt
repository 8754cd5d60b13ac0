-- Bytes that are mostly known.
use Rattle.std.proofs.Common.{◌≡◌, ℕ, zero, suc, ◌<◌, ◌%◌, Bool, true, false, ◌&&◌, nat_lt, List, [], ◌∷◌, ◌++◌, take, drop, refl, arith}
use Rattle.std.proofs.lemmas.Bool.{ltb-true}
use Rattle.std.specs.List.{AllByRecursion, list_all}
use Rattle.kilim_class_grammar.specs.Format.{IsBytes}
use Rattle.kilim_class_grammar.specs.Spelling.{u2}

abbrev pub Small : List ℕ → Type 0
Small bs = AllByRecursion (λ b. b < 256) bs

abbrev pub are_small : List ℕ → Bool
are_small bs = list_all (λ b. nat_lt b 256) bs

pub are_bytes : (bs : List ℕ) → Small bs → IsBytes bs
are_bytes [] small i = omega arith
are_bytes (b ∷ bs) small zero = small.0
are_bytes (b ∷ bs) small (suc i) = are_bytes bs small.1 i

below : (b : ℕ) → nat_lt b 256 ≡ true → b < 256
below b e = ltb-true b 256 e

both_true : (t : Bool) (b : ℕ) (rest : Bool) → nat_lt b 256 ≡ t → (t && rest) ≡ true → (b < 256) × (rest ≡ true)
both_true true b rest lt e = (below b lt, e)
both_true false b rest lt e = absurd (cc)

pub small_by : (bs : List ℕ) → are_small bs ≡ true → Small bs
small_by [] e = tt
small_by (b ∷ bs) e = let s = both_true (nat_lt b 256) b (are_small bs) refl e in (s.0, small_by bs s.1)

pub small_both : (xs ys : List ℕ) → Small xs → Small ys → Small (xs ++ ys)
small_both [] ys a b = b
small_both (x ∷ xs) ys a b = (a.0, small_both xs ys a.1 b)

pub small_take : (n : ℕ) (xs : List ℕ) → Small xs → Small (take n xs)
small_take zero xs a = tt
small_take (suc n) [] a = tt
small_take (suc n) (x ∷ xs) a = (a.0, small_take n xs a.1)

pub small_drop : (n : ℕ) (xs : List ℕ) → Small xs → Small (drop n xs)
small_drop zero xs a = a
small_drop (suc n) [] a = a
small_drop (suc n) (x ∷ xs) a = small_drop n xs a.1

rest_below : (n : ℕ) → n % 256 < 256
rest_below n = omega arith

pub small_two : (n : ℕ) → Small (u2 n)
small_two n = (rest_below _, (rest_below n, tt))
