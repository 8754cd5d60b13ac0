-- Lists, and texts put together.
use Rattle.std.proofs.Common.{◌≡◌, ℕ, zero, suc, ◌+◌, ◌-◌, ◌<◌, List, [], ◌∷◌, ◌++◌, drop, length, slice_get, Option, Some, None, refl, sym, ap, ◌∙◌, arith, append_assoc}
use Rattle.std.proofs.lemmas.List.{append-nil, length-append}
use Rattle.kilim_program.specs.Names.{array_descriptor}
use Rattle.kilim_class_code.specs.declared.opcodes.instr.RawInstr.{RawInstr}
use Rattle.kilim_class_code.specs.opcodes.Instr.{instr_text}
use Rattle.kilim_class_builder.specs.Members.{source_text}

pub array_more : (n k : ℕ) (base old new total : List ℕ) → k < n → new ≡ old ++ 91 ∷ [] → old ++ array_descriptor (n - k) base ≡ total → new ++ array_descriptor (n - (k + 1)) base ≡ total
array_more n k base old new total lt is so_far =
    let e : suc (n - (k + 1)) ≡ n - k = omega arith in
    ap (λ v. v ++ array_descriptor (n - (k + 1)) base) is
    ∙ (append_assoc old (91 ∷ []) (array_descriptor (n - (k + 1)) base) ∙ (ap (λ (j : ℕ). old ++ array_descriptor j base) e ∙ so_far))

-- one more instruction stands behind those before it
pub source_more : (at : ℕ) (is : List RawInstr) (i : RawInstr) → source_text at (is ++ i ∷ []) ≡ source_text at is ++ instr_text (at + length (source_text at is)) i
unfolding source_text
source_more at [] i =
    let none : at ≡ at + 0 = omega arith in
    append-nil (instr_text at i) ∙ ap (λ (n : ℕ). instr_text n i) none
source_more at (j ∷ js) i =
    let front = instr_text at j in
    let next = at + length front in
    let number : next + length (source_text next js) ≡ at + length (front ++ source_text next js) = let len = length-append front (source_text next js) in omega (arith, len) in
    ap (λ (bs : List ℕ). front ++ bs) (source_more next js i ∙ ap (λ (n : ℕ). source_text next js ++ instr_text n i) number)
    ∙ sym (append_assoc front (source_text next js) (instr_text (at + length (front ++ source_text next js)) i))

-- what a loop over instructions has written
pub source_step : (old new : List ℕ) (is : List RawInstr) (i : RawInstr) → old ≡ source_text 0 is → new ≡ old ++ instr_text (length old) i → new ≡ source_text 0 (is ++ i ∷ [])
source_step old new is i so_far one =
    let number : length old ≡ 0 + length (source_text 0 is) = let len : length old ≡ length (source_text 0 is) = ap length so_far in omega (arith, len) in
    one ∙ (ap (λ (n : ℕ). old ++ instr_text n i) number ∙ (ap (λ (bs : List ℕ). bs ++ instr_text (0 + length (source_text 0 is)) i) so_far ∙ sym (source_more 0 is i)))
