-- Where jumps that compare go.
use Rattle.std.proofs.Common.{◌≡◌, ◌∙◌, ap, ℕ, ℤ, Bool, List, ◌∷◌}
use Rattle.kilim_program.specs.declared.value.Value.{Value}
use Rattle.kilim_program.specs.declared.value.Value.TheVariants.{Int}
use Rattle.kilim_run_state.specs.Machine.{Objects}
use Rattle.kilim_run_machine.specs.Effect.{Goes, on_int}
use Rattle.kilim_run_machine.specs.Does.{compare_jump, int_jump, place_if}
use Rattle.kilim_run_state.specs.frames.Stacked.{Stacked}

pub jumps_by : (test : ℤ → Bool) (to next : ℕ) (ls : List Value) (s t : Stacked) (h : Objects) (a : ℤ) (b : Bool) → s ≡ record t { values = Int a ∷ t.values } → test a ≡ b → int_jump test to next ls s.values h ≡ Goes (place_if b to next) ls t.values h
jumps_by test to next ls s t h a b first is =
    ap (λ (x : Stacked). int_jump test to next ls x.values h) first ∙ ap (λ (c : Bool). Goes (place_if c to next) ls t.values h) is

pub jumps_by_two : (test : ℤ → ℤ → Bool) (to next : ℕ) (ls : List Value) (s t u : Stacked) (h : Objects) (a b : ℤ) (c : Bool) → s ≡ record t { values = Int b ∷ t.values } → t ≡ record u { values = Int a ∷ u.values } → test a b ≡ c →
    compare_jump test to next ls s.values h ≡ Goes (place_if c to next) ls u.values h
jumps_by_two test to next ls s t u h a b c first second is =
    ap (λ (x : Stacked). compare_jump test to next ls x.values h) first
    ∙ (ap (λ (x : Stacked). on_int x.values (λ y rest. Goes (place_if (test y b) to next) ls rest h)) second ∙ ap (λ (d : Bool). Goes (place_if d to next) ls u.values h) is)
