-- What `length()` of a string leaves.
use Rattle.std.proofs.Common.{◌≡◌, ◌∙◌, sym, ap, refl, ℕ, suc, ◌<◌, ◌≤◌, ℤ, Bool, true, false, true≢false, List, [], ◌∷◌, length, arith}
use Rattle.std.specs.Prelude.{codes}
use Rattle.std.specs.Str.{bytes_eq}
use Rattle.kilim_program.specs.declared.class.Method.{Method}
use Rattle.kilim_program.specs.declared.value.Value.{Value}
use Rattle.kilim_program.specs.declared.value.Value.TheVariants.{Int, Text}
use Rattle.kilim_run_state.specs.Machine.{Objects}
use Rattle.kilim_run_machine.specs.Effect.{Effect, Goes, on_value, when}
use Rattle.kilim_run_machine.specs.Does.{calls_text, int_length}
use Rattle.kilim_run_state.specs.frames.Stacked.{Stacked}
use Rattle.kilim_run_rows.specs.Outcome.{height, is_stuck}

goes : (b : Bool) (e : Effect) → is_stuck (when b e) ≡ false → when b e ≡ e
goes true e fine = refl
goes false e fine = absurd (true≢false fine)

module _ (named : Method) (next : ℕ) (ls : List Value) (h : Objects) (s t : Stacked) (units : List ℕ) (first : s ≡ record t { values = Text units ∷ t.values })
    (fine : is_stuck (on_value s.values (λ receiver rest. calls_text named [] next ls rest h receiver)) ≡ false) where
  row : on_value s.values (λ receiver rest. calls_text named [] next ls rest h receiver) ≡ Goes next ls (Int (int_length (length units)) ∷ t.values) h
  row =
      let at = ap (λ (x : Stacked). on_value x.values (λ receiver rest. calls_text named [] next ls rest h receiver)) first in
      at ∙ goes (bytes_eq named.name (codes "length")) (Goes next ls (Int (int_length (length units)) ∷ t.values) h) (ap is_stuck (sym at) ∙ fine)

  pub length_left : (w : Stacked) (n : ℤ) → w ≡ record t { values = Int n ∷ t.values } → n ≡ int_length (length units) → on_value s.values (λ receiver rest. calls_text named [] next ls rest h receiver) ≡ Goes next ls w.values h
  length_left w n pushed is = row ∙ (ap (λ (y : ℤ). Goes next ls (Int y ∷ t.values) h) (sym is) ∙ ap (λ (x : Stacked). Goes next ls x.values h) (sym pushed))

  pub length_fits : height (on_value s.values (λ receiver rest. calls_text named [] next ls rest h receiver)) ≤ s.room → length t.values < t.room
  length_fits fits =
      let tall : height (on_value s.values (λ receiver rest. calls_text named [] next ls rest h receiver)) ≡ suc (length t.values) = ap height row in
      let same : s.room ≡ t.room = ap (λ (x : Stacked). x.room) first in
      omega (arith, tall, same, fits)
