-- Lists of numbers and of pairs of numbers.
use Rattle.std.proofs.Common.{◌≡◌, ◌⊎◌, inl, inr, ℕ, zero, suc, ◌<◌, List, [], ◌∷◌, ◌++◌, length, get_or, map, refl, arith}
use Rattle.std.specs.List.{Contains, AllPairs}
use Rattle.kilim_type_spec.specs.Typed.{Among}
use Rattle.kilim_type_flow.specs.Edges.{Has, Increases, IsBefore, IsBeforeAll}
use Rattle.kilim_type_flow.specs.Listing.{from_to}

-- ---- numbers

among_at : (xs : List ℕ) (k x : ℕ) → k < length xs → get_or xs k x ≡ x → Among xs x
among_at [] k x less is = absurd (omega arith)
among_at (y ∷ ys) zero x less is = inl is
among_at (y ∷ ys) (suc k) x less is = inr (among_at ys k x (omega arith) is)

pub among_from : (xs : List ℕ) (x : ℕ) → Contains xs x → Among xs x
among_from xs x c = among_at xs c.0 x c.1 c.2

pub among_is : (xs : List ℕ) (x : ℕ) → Among xs x → Contains xs x
among_is [] x h = absurd h
among_is (y ∷ ys) x (inl e) = (0, omega arith, e)
among_is (y ∷ ys) x (inr h) = let c = among_is ys x h in (suc c.0, (let less = c.1 in omega (arith, less)), c.2)

-- ---- pairs

pub has_left : (ps qs : List (ℕ × ℕ)) (a b : ℕ) → Has ps a b → Has (ps ++ qs) a b
has_left [] qs a b h = absurd h
has_left (p ∷ ps) qs a b (inl e) = inl e
has_left (p ∷ ps) qs a b (inr h) = inr (has_left ps qs a b h)

pub has_right : (ps qs : List (ℕ × ℕ)) (a b : ℕ) → Has qs a b → Has (ps ++ qs) a b
has_right [] qs a b h = h
has_right (p ∷ ps) qs a b h = inr (has_right ps qs a b h)

pub has_parts : (ps qs : List (ℕ × ℕ)) (a b : ℕ) → Has (ps ++ qs) a b → Has ps a b ⊎ Has qs a b
has_parts [] qs a b h = inr h
has_parts (p ∷ ps) qs a b (inl e) = inl (inl e)
has_parts (p ∷ ps) qs a b (inr h) = elim (has_parts ps qs a b h) [ inl x ↦ inl (inr x) | inr y ↦ inr y ]

-- those from one place
pub from_one : (p : ℕ) (tos : List ℕ) (a b : ℕ) → Has (map (from_to p) tos) a b → (p ≡ a) × Among tos b
from_one p [] a b h = absurd h
from_one p (t ∷ ts) a b (inl e) = (e.0, inl e.1)
from_one p (t ∷ ts) a b (inr h) = let r = from_one p ts a b h in (r.0, inr r.1)

pub to_each : (p : ℕ) (tos : List ℕ) (b : ℕ) → Among tos b → Has (map (from_to p) tos) p b
to_each p [] b h = absurd h
to_each p (t ∷ ts) b (inl e) = inl (refl, e)
to_each p (t ∷ ts) b (inr h) = inr (to_each p ts b h)

-- ---- order

before_all : (a : ℕ × ℕ) (qs : List (ℕ × ℕ)) → ((c d : ℕ) → Has qs c d → IsBefore a (c, d)) → IsBeforeAll a qs
before_all a [] h = tt
before_all a (q ∷ qs) h = (h q.0 q.1 (inl (refl, refl)), before_all a qs (λ c d x. h c d (inr x)))

before_both : (a : ℕ × ℕ) (ps qs : List (ℕ × ℕ)) → IsBeforeAll a ps → ((c d : ℕ) → Has qs c d → IsBefore a (c, d)) → IsBeforeAll a (ps ++ qs)
before_both a [] qs all h = before_all a qs h
before_both a (p ∷ ps) qs all h = (all.0, before_both a ps qs all.1 h)

pub increases_on : (ps qs : List (ℕ × ℕ)) → Increases ps → Increases qs → ((a b c d : ℕ) → Has ps a b → Has qs c d → IsBefore (a, b) (c, d)) → Increases (ps ++ qs)
increases_on [] qs x y h = y
increases_on (p ∷ ps) qs x y h = (before_both p ps qs x.0 (λ c d there. h p.0 p.1 c d (inl (refl, refl)) there), increases_on ps qs x.1 y (λ a b c d here there. h a b c d (inr here) there))

before_rest : (p t : ℕ) (tos : List ℕ) → ((k : ℕ) → k < length tos → t < get_or tos k 0) → IsBeforeAll (from_to p t) (map (from_to p) tos)
before_rest p t [] h = tt
before_rest p t (u ∷ us) h = (inr (refl, h 0 (omega arith)), before_rest p t us (λ k less. h (suc k) (omega (arith, less))))

-- edges from one place to places that increase
pub rises_from : (p : ℕ) (tos : List ℕ) → AllPairs (λ x y. x < y) tos → Increases (map (from_to p) tos)
rises_from p [] h = tt
rises_from p (t ∷ ts) h = (before_rest p t ts (λ k less. h 0 (suc k) 0 (omega arith) (omega (arith, less))), rises_from p ts (λ i j d less within. h (suc i) (suc j) d (omega (arith, less)) (omega (arith, within))))
