-- Stores, elements of arrays, and pop, dup and swap forms, by what is on the stack.
use Rattle.std.proofs.Common.{◌≡◌, ℕ, ◌+◌, refl, ap, sym, ◌∙◌, List, [], ◌∷◌, drop, slice_get, Option, Some, None, Result, Ok, Err}
use Rattle.std.specs.Prelude.{nat_le}
use Rattle.kilim_program.specs.declared.class.Method.{Method}
use Rattle.kilim_program.specs.declared.verified.VType.{VType}
use Rattle.kilim_program.specs.Program.{Program}
use Rattle.kilim_type_spec.specs.Step.{Types, Operand, meets, rule, store, stored, size, element}
use Rattle.kilim_program.specs.declared.verified.VType.TheVariants.{Top, Int, Long, Null, UninitThis, Uninit, Object}
use Rattle.kilim_type_step.specs.Answers.{element_by}
use Rattle.kilim_type_step.proofs.Rows.{front_is, past}

pub store_lacks : (p : Program) (m : Method) (o : Operand) (slot : ℕ) (f : Types) → slice_get f.stack 0 ≡ None → store p m o slot f.stack f ≡ Err 3
store_lacks p m o slot f e = ap (λ s. store p m o slot s f) (past f.stack 0 e)

pub store_on : (p : Program) (m : Method) (o : Operand) (slot : ℕ) (f : Types) (t : VType) → slice_get f.stack 0 ≡ Some t →
    store p m o slot f.stack f ≡ rule 5 (meets p o t) (rule 6 (nat_le (slot + size t) m.max_locals) (Ok (record f { locals = stored f.locals slot t; stack = drop 1 f.stack })))
store_on p m o slot f t e = ap (λ s. store p m o slot s f) (front_is f.stack 0 t e)

-- ---- elements

abbrev pub element_result : Option VType → Result VType ℕ
element_result None = Err 5
element_result (Some t) = Ok t

element_shown : (s : List VType) → element s ≡ element_result (element_by (slice_get s 1))
element_shown [] = refl
element_shown (i ∷ []) = refl
element_shown (i ∷ Null ∷ s) = refl
element_shown (i ∷ Object ty ∷ s) = refl
element_shown (i ∷ Top ∷ s) = refl
element_shown (i ∷ Int ∷ s) = refl
element_shown (i ∷ Long ∷ s) = refl
element_shown (i ∷ UninitThis ∷ s) = refl
element_shown (i ∷ Uninit at ∷ s) = refl

pub element_found : (s : List VType) (o : Option VType) (t : VType) → o ≡ slice_get s 1 → element_by o ≡ Some t → element s ≡ Ok t
element_found s o t e f = element_shown s ∙ ap (λ (x : Option VType). element_result (element_by x)) (sym e) ∙ ap element_result f

pub element_lacks : (s : List VType) (o : Option VType) → o ≡ slice_get s 1 → element_by o ≡ None → element s ≡ Err 5
element_lacks s o e f = element_shown s ∙ ap (λ (x : Option VType). element_result (element_by x)) (sym e) ∙ ap element_result f
