-- The operands of calls, as they stand on the stack.
use Rattle.std.proofs.Common.{◌≡◌, ◌∙◌, sym, ap, refl, ℕ, zero, suc, ◌+◌, ◌<◌, ◌≤◌, false, true≢false, List, [], ◌∷◌, ◌++◌, Some, length, take, drop, reverse, slice_get, arith}
use Rattle.std.proofs.lemmas.List.{reverse-append}
use Rattle.kilim_program.specs.declared.value.Value.{Value}
use Rattle.kilim_run_machine.specs.Effect.{Effect, on_values}
use Rattle.kilim_run_interp.specs.instruction.Calls.{on_call}
use Rattle.kilim_run_rows.specs.Outcome.{is_stuck}

pub values_there : (n : ℕ) (stack : List Value) (go : List Value → List Value → Effect) → is_stuck (on_values n stack go) ≡ false → n ≤ length stack
values_there zero stack go fine = omega arith
values_there (suc n) [] go fine = absurd (true≢false fine)
values_there (suc n) (v ∷ rest) go fine = let less = values_there n rest (λ vs below. go (v ∷ vs) below) fine in omega (arith, less)

pub values_taken : (n : ℕ) (stack : List Value) (go : List Value → List Value → Effect) → n ≤ length stack → on_values n stack go ≡ go (take n stack) (drop n stack)
values_taken zero stack go less = refl
values_taken (suc n) [] go less = absurd (omega (arith, less))
values_taken (suc n) (v ∷ rest) go less = values_taken n rest (λ vs below. go (v ∷ vs) below) (omega (arith, less))

pub call_there : (n : ℕ) (stack : List Value) (go : List Value → Value → List Value → Effect) → is_stuck (on_call n stack go) ≡ false → n < length stack
call_there zero [] go fine = absurd (true≢false fine)
call_there zero (v ∷ rest) go fine = omega arith
call_there (suc n) [] go fine = absurd (true≢false fine)
call_there (suc n) (v ∷ rest) go fine = let less = call_there n rest (λ vs r below. go (v ∷ vs) r below) fine in omega (arith, less)

pub call_taken : (n : ℕ) (stack : List Value) (go : List Value → Value → List Value → Effect) (r : Value) → slice_get stack n ≡ Some r → on_call n stack go ≡ go (take n stack) r (drop (n + 1) stack)
call_taken zero [] go r there = absurd (cc)
call_taken zero (v ∷ rest) go r there = let e : v ≡ r = grind (arith, there) in ap (λ (w : Value). go [] w rest) e
call_taken (suc n) [] go r there = absurd (cc)
call_taken (suc n) (v ∷ rest) go r there =
    let e : suc n + 1 ≡ suc (n + 1) = omega arith in
    let same = call_taken n rest (λ vs w below. go (v ∷ vs) w below) r there in
    same ∙ ap (λ (k : ℕ). go (v ∷ take n rest) r (drop k (v ∷ rest))) (sym e)

take_more : (n : ℕ) (stack : List Value) (r : Value) → slice_get stack n ≡ Some r → take (n + 1) stack ≡ take n stack ++ r ∷ []
take_more zero [] r there = absurd (cc)
take_more zero (v ∷ rest) r there = let e : v ≡ r = grind (arith, there) in ap (λ (w : Value). w ∷ []) e
take_more (suc n) [] r there = absurd (cc)
take_more (suc n) (v ∷ rest) r there = let e : suc n + 1 ≡ suc (n + 1) = omega arith in ap (λ (k : ℕ). take k (v ∷ rest)) e ∙ ap (λ (t : List Value). v ∷ t) (take_more n rest r there)

-- the receiver is the first argument
pub receiver_first : (n : ℕ) (stack : List Value) (r : Value) → slice_get stack n ≡ Some r → reverse (take (n + 1) stack) ≡ r ∷ reverse (take n stack)
receiver_first n stack r there = ap reverse (take_more n stack r there) ∙ reverse-append (take n stack) (r ∷ [])
