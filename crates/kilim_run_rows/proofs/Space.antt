-- There is room for a value that an instruction leaves on top.
use Rattle.std.proofs.Common.{◌≡◌, ap, ℕ, suc, ◌<◌, ◌≤◌, List, ◌∷◌, length, arith}
use Rattle.kilim_program.specs.declared.value.Value.{Value}
use Rattle.kilim_run_state.specs.Machine.{Objects}
use Rattle.kilim_run_machine.specs.Effect.{Effect, Goes}
use Rattle.kilim_run_state.specs.frames.Stacked.{Stacked}
use Rattle.kilim_run_rows.specs.Outcome.{height}

pub space_for : (e : Effect) (next : ℕ) (ls : List Value) (v : Value) (s t u : Stacked) (h : Objects) → e ≡ Goes next ls (v ∷ u.values) h → s.room ≡ t.room → t.room ≡ u.room → height e ≤ s.room → length u.values < u.room
space_for e next ls v s t u h row first second fits = let tall : height e ≡ suc (length u.values) = ap height row in omega (arith, tall, first, second, fits)
