-- A vector as a stack: its end is the top.
use Rattle.std.proofs.Common.{◌≡◌, ℕ, zero, suc, ◌+◌, ◌<◌, ◌≤◌, List, [], ◌∷◌, ◌++◌, length, refl, sym, ap, ◌∙◌, arith, length-append, append_assoc, reverse, drop, get_or, drop-cons}
use Rattle.std.specs.List.{flat_map}
use Rattle.std.proofs.lemmas.List.{reverse-append, reverse-reverse, length-reverse}
use Rattle.kilim_program.specs.declared.names.FieldId.{FieldId}
use Rattle.kilim_program.specs.declared.value.Value.{Value}
use Rattle.kilim_program.specs.declared.value.Value.TheVariants.{Int, Long, Null, Ref, Text, Box, Fiber}
use Rattle.kilim_run_trees.specs.Walk.{value_refs, element_refs, field_refs}

pub reverse_refs : (v : Value) → reverse (value_refs v) ≡ value_refs v
reverse_refs (Int n) = refl
reverse_refs (Long n) = refl
reverse_refs Null = refl
reverse_refs (Ref n) = refl
reverse_refs (Text units) = refl
reverse_refs (Box box) = refl
reverse_refs Fiber = refl

pub one_by_one : {A : Type 0} (f : A → List ℕ) (base stack after : List ℕ) (xs : List A) (k at : ℕ) (x d : A) → k ≡ at + 1 → at < length xs → x ≡ get_or xs at d → reverse (f x) ≡ f x → stack ≡ base ++ reverse (flat_map f (drop k xs)) → after ≡ stack ++ f x → after ≡ base ++ reverse (flat_map f (drop at xs))
one_by_one f base stack after xs k at x d next lt is same stack_is after_is =
    let here : drop at xs ≡ x ∷ drop (suc at) xs = drop-cons xs at d lt ∙ ap (λ x. x ∷ drop (suc at) xs) (sym is) in
    let k_is : k ≡ suc at = omega (arith, next) in
    let rest : List ℕ = flat_map f (drop (suc at) xs) in
    let turned : reverse (flat_map f (drop at xs)) ≡ reverse rest ++ f x = ap (λ ys. reverse (flat_map f ys)) here ∙ (reverse-append (f x) rest ∙ ap (λ ys. reverse rest ++ ys) same) in
    after_is ∙ (ap (λ s. s ++ f x) (stack_is ∙ ap (λ k. base ++ reverse (flat_map f (drop k xs))) k_is) ∙ (append_assoc base (reverse rest) (f x) ∙ ap (λ ys. base ++ ys) (sym turned)))

pub still_to_come : {A : Type 0} (f : A → List ℕ) (xs : List A) (at : ℕ) (x d : A) → at < length xs → x ≡ get_or xs at d → length (f x) + length (flat_map f (drop (suc at) xs)) ≤ length (flat_map f xs)
still_to_come f [] at x d lt is = absurd (omega arith)
still_to_come f (y ∷ xs) zero x d lt is = omega (arith, ap (λ x. length (f x)) is, length-append (f y) (flat_map f xs))
still_to_come f (y ∷ xs) (suc at) x d lt is = let lt' : at < length xs = omega arith in omega (arith, still_to_come f xs at x d lt' is, length-append (f y) (flat_map f xs))

pub ref_fits : {A : Type 0} (f : A → List ℕ) (base stack : List ℕ) (xs : List A) (k at : ℕ) (x d : A) (room : ℕ) → k ≡ at + 1 → at < length xs → x ≡ get_or xs at d → stack ≡ base ++ reverse (flat_map f (drop k xs)) → length base + length (flat_map f xs) ≤ room → length stack + length (f x) ≤ room
ref_fits f base stack xs k at x d room next lt is stack_is fits =
    let k_is : k ≡ suc at = omega (arith, next) in
    let rest : List ℕ = flat_map f (drop (suc at) xs) in
    omega (arith, fits, still_to_come f xs at x d lt is, ap length (stack_is ∙ ap (λ k. base ++ reverse (flat_map f (drop k xs))) k_is), length-append base (reverse rest), length-reverse rest)

pub refs_few : (vs : List Value) → length (element_refs vs) ≤ length vs
refs_few [] = omega arith
refs_few (Int n ∷ vs) = omega (arith, refs_few vs)
refs_few (Long n ∷ vs) = omega (arith, refs_few vs)
refs_few (Null ∷ vs) = omega (arith, refs_few vs)
refs_few (Ref n ∷ vs) = omega (arith, refs_few vs)
refs_few (Text units ∷ vs) = omega (arith, refs_few vs)
refs_few (Box box ∷ vs) = omega (arith, refs_few vs)
refs_few (Fiber ∷ vs) = omega (arith, refs_few vs)

pub one_at_most : (v : Value) → length (value_refs v) ≤ 1
one_at_most (Int n) = omega arith
one_at_most (Long n) = omega arith
one_at_most Null = omega arith
one_at_most (Ref n) = omega arith
one_at_most (Text units) = omega arith
one_at_most (Box box) = omega arith
one_at_most Fiber = omega arith

pub field_refs_few : (es : List (FieldId × Value)) → length (field_refs es) ≤ length es
field_refs_few [] = omega arith
field_refs_few (e ∷ es) = omega (arith, field_refs_few es, one_at_most e.1, length-append (value_refs e.1) (field_refs es))

pub pop_reversed : (stack rest : List ℕ) (at : ℕ) → stack ≡ rest ++ at ∷ [] → reverse stack ≡ at ∷ reverse rest
pop_reversed stack rest at e = ap reverse e ∙ reverse-append rest (at ∷ [])

pub push_reversed : (stack rest ns : List ℕ) → stack ≡ rest ++ reverse ns → reverse stack ≡ ns ++ reverse rest
push_reversed stack rest ns e = ap reverse e ∙ (reverse-append rest (reverse ns) ∙ ap (λ xs. xs ++ reverse rest) (reverse-reverse ns))
