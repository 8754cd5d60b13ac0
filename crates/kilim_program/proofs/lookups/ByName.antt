-- The class of a name: a search that goes past one class goes on behind it.
use Rattle.std.proofs.Common.{◌≡◌, ℕ, zero, suc, ◌+◌, ◌<◌, Bool, false, if◌then◌else◌, List, [], ◌∷◌, length, drop, get_or, Option, Some, refl, sym, ap, subst, ◌∙◌, arith}
use Rattle.std.specs.Str.{bytes_eq}
use Rattle.kilim_program.specs.declared.class.Class.{Class}
use Rattle.kilim_program.specs.declared.names.ClassId.{ClassId}
use Rattle.kilim_program.specs.Names.{class_from}

past : (cs : List Class) (name : List ℕ) (n at : ℕ) (d : Class) → at < length cs → bytes_eq (get_or cs at d).name name ≡ false → class_from (drop at cs) name n ≡ class_from (drop (suc at) cs) name (suc n)
past [] name n at d less other = absurd (omega (arith, less))
past (c ∷ cs) name n zero d less other = ap (λ (z : Bool). if z then Some (record { 0 = n }) else class_from cs name (suc n)) other
past (c ∷ cs) name n (suc at) d less other = past cs name n at d (omega (arith, less)) other

pub goes_past : (items cs : List Class) (name : List ℕ) (at : ℕ) (x d : Class) (found : Option ClassId) → items ≡ cs → at < length items → x ≡ get_or items at d → bytes_eq x.name name ≡ false →
    class_from (drop at cs) name at ≡ found → class_from (drop (at + 1) cs) name (at + 1) ≡ found
goes_past items cs name at x d found same less is other before =
    let number : suc at ≡ at + 1 = omega arith in
    let less_here : at < length cs = subst (λ (xs : List Class). at < length xs) same less in
    let there : bytes_eq (get_or cs at d).name name ≡ false = subst (λ (xs : List Class). bytes_eq (get_or xs at d).name name ≡ false) same (subst (λ (c : Class). bytes_eq c.name name ≡ false) is other) in
    subst (λ (k : ℕ). class_from (drop k cs) name k ≡ found) number (sym (past cs name at at d less_here there) ∙ before)
