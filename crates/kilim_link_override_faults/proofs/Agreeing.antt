-- Tests of several parts.
use Rattle.std.proofs.Common.{◌≡◌, Bool, true, false, refl, List, ◌≢◌, suc, length, [], ◌∷◌, ap}
use Rattle.std.specs.Prelude.{◌&&◌}
use Rattle.kilim_program.specs.declared.ty.Qualifier.{Qualifier}
use Rattle.kilim_program.specs.Same.{same_qualifier, same_qualifiers}

pub both_of : (a b c d e : Bool) → (a && (b && c)) ≡ true → e ≡ d → e ≡ (a && (b && (c && d)))
both_of true true true d e t is = is
both_of true true false d e t is = absurd cc
both_of true false c d e t is = absurd cc
both_of false b c d e t is = absurd cc

pub none_of : (a b c d : Bool) → (a && (b && c)) ≡ false → false ≡ (a && (b && (c && d)))
none_of true true true d t = absurd cc
none_of true true false d t = refl
none_of true false c d t = refl
none_of false b c d t = refl

pub swapped : (a b c : Bool) → (a && (b && c)) ≡ (b && (a && c))
swapped true true c = refl
swapped true false c = refl
swapped false true c = refl
swapped false false c = refl

pub turned : (a b : Bool) → (a && b) ≡ (b && a)
turned true true = refl
turned true false = refl
turned false true = refl
turned false false = refl

and_false : (a b : Bool) → false ≡ b → false ≡ (a && b)
and_false true b e = e
and_false false b e = refl

pub apart : (xs ys : List Qualifier) → length xs ≢ length ys → false ≡ same_qualifiers xs ys
apart [] [] ne = absurd (ne refl)
apart [] (y ∷ ys) ne = refl
apart (x ∷ xs) [] ne = refl
apart (x ∷ xs) (y ∷ ys) ne = and_false (same_qualifier x y) (same_qualifiers xs ys) (apart xs ys (λ e. ne (ap suc e)))
