-- What calls take.
use Rattle.std.proofs.Common.{◌≡◌, ℕ, ◌+◌, ◌-◌, ◌<◌, ◌≤◌, refl, ap, sym, ◌∙◌, arith, List, [], ◌∷◌, ◌++◌, length, map, take, reverse, get_or}
use Rattle.std.proofs.lemmas.List.{map-append, reverse-append, append_assoc, append-nil, take_more, take_all, length-map, length-reverse}
use Rattle.kilim_program.specs.declared.class.Method.{Method}
use Rattle.kilim_program.specs.declared.ty.Ty.{Ty}
use Rattle.kilim_program.specs.declared.verified.VType.TheVariants.{Top}
use Rattle.kilim_type_spec.specs.Step.{Operand, Is, vtype, arguments}
use Rattle.kilim_type_step.specs.declared.operands.Taken.{Taken}
use Rattle.kilim_type_step.specs.declared.operands.Taken.TheVariants as taken
use Rattle.kilim_type_step.specs.Operands.{operand_of, operands_of, anything}

abbrev pub types_of : List Ty → List Operand
types_of tys = map (λ (ty : Ty). Is (vtype ty)) tys

-- one more argument, the last of the ones that are left
pub argument_on : (tys : List Ty) (ts : List Taken) (left : ℕ) (d : Ty) → 0 < left → left ≤ length tys → operands_of ts ++ reverse (types_of (take left tys)) ≡ reverse (types_of tys) →
    operands_of (ts ++ taken.Is (vtype (get_or tys (left - 1) d)) ∷ []) ++ reverse (types_of (take (left - 1) tys)) ≡ reverse (types_of tys)
argument_on tys ts left d h k is =
    let x : Operand = Is (vtype (get_or tys (left - 1) d)) in
    let more : take left tys ≡ take (left - 1) tys ++ get_or tys (left - 1) d ∷ [] = ap (λ n. take n tys) (let n : left ≡ left - 1 + 1 = omega arith in n) ∙ take_more tys (left - 1) d (omega arith) in
    let last : reverse (types_of (take left tys)) ≡ x ∷ reverse (types_of (take (left - 1) tys)) =
    ap (λ zs. reverse (types_of zs)) more ∙ ap reverse (map-append (λ (ty : Ty). Is (vtype ty)) (take (left - 1) tys) (get_or tys (left - 1) d ∷ [])) ∙ reverse-append (types_of (take (left - 1) tys)) (x ∷ []) in
    ap (λ zs. zs ++ reverse (types_of (take (left - 1) tys))) (map-append operand_of ts (taken.Is (vtype (get_or tys (left - 1) d)) ∷ []))
    ∙ append_assoc (operands_of ts) (x ∷ []) (reverse (types_of (take (left - 1) tys))) ∙ ap (λ zs. operands_of ts ++ zs) (sym last) ∙ is

pub arguments_none : (tys : List Ty) (left : ℕ) → left ≡ length tys → reverse (types_of (take left tys)) ≡ reverse (types_of tys)
arguments_none tys left e = ap (λ zs. reverse (types_of zs)) (take_all left tys (omega arith))

pub arguments_all : (tys : List Ty) (ts : List Taken) (left : ℕ) → left ≤ 0 → operands_of ts ++ reverse (types_of (take left tys)) ≡ reverse (types_of tys) → operands_of ts ≡ reverse (types_of tys)
arguments_all tys ts left h is = sym (append-nil (operands_of ts)) ∙ ap (λ n. operands_of ts ++ reverse (types_of (take n tys))) (let n : 0 ≡ left = omega arith in n) ∙ is

pub receiver_on : (ts : List Taken) (os : List Operand) (t : Taken) → operands_of ts ≡ os → operands_of (ts ++ t ∷ []) ≡ os ++ (operand_of t ∷ [])
receiver_on ts os t e = map-append operand_of ts (t ∷ []) ∙ ap (λ zs. zs ++ (operand_of t ∷ [])) e

tops : (os : List Operand) → map (λ o. Is Top) os ≡ anything (length os)
tops [] = refl
tops (o ∷ os) = ap (λ zs. Is Top ∷ zs) (tops os)

-- as many as there are parameters
pub tops_taken : (callee : Method) → map (λ o. Is Top) (arguments callee) ≡ anything (length callee.params)
tops_taken callee = tops (arguments callee) ∙ ap anything (length-reverse (types_of callee.params) ∙ length-map callee.params (λ (ty : Ty). Is (vtype ty)))
