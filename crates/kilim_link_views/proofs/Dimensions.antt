-- The descriptor of an array, dimension by dimension.
use Rattle.std.proofs.Common.{◌≡◌, ℕ, suc, ◌+◌, ◌-◌, ◌<◌, List, [], ◌∷◌, ◌++◌, ap, ◌∙◌, arith, append_assoc}
use Rattle.kilim_program.specs.Names.{array_descriptor}

pub array_more : (n k : ℕ) (base old new total : List ℕ) → k < n → new ≡ old ++ 91 ∷ [] → old ++ array_descriptor (n - k) base ≡ total → new ++ array_descriptor (n - (k + 1)) base ≡ total
array_more n k base old new total lt is so_far =
    let e : suc (n - (k + 1)) ≡ n - k = omega arith in
    ap (λ v. v ++ array_descriptor (n - (k + 1)) base) is
    ∙ (append_assoc old (91 ∷ []) (array_descriptor (n - (k + 1)) base) ∙ (ap (λ (j : ℕ). old ++ array_descriptor j base) e ∙ so_far))
