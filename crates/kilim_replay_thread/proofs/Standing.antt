-- Frames that stand at an instruction leave the same where it raises or throws, whatever its operands are.
use Rattle.std.proofs.Common.{◌≡◌, List, ◌∷◌}
use Rattle.kilim_program.specs.declared.names.ClassId.{ClassId}
use Rattle.kilim_program.specs.declared.value.Value.{Value}
use Rattle.kilim_program.specs.Program.{Program}
use Rattle.kilim_run_state.specs.declared.frames.frames.Frames.{Frames}
use Rattle.kilim_run_state.specs.frames.Calls.{activation, below_of}
use Rattle.kilim_run_state.specs.Machine.{Activation}
use Rattle.kilim_run_machine.specs.Raising.{index_at, thrown}
use Rattle.kilim_run_interp.specs.Step.{StandsAt}

module _ (p : Program) (top : Activation) (below : List Activation) (f : Frames) (at : StandsAt (top ∷ below) f) where
  pub same_thrown : (c : ClassId) (v : Value) → thrown p c v (activation f.top) (below_of f) ≡ thrown p c v top below
  same_thrown c v = λ i. thrown p c v (record { method = at.0 i; place = at.1 i; locals = at.2 i; stack = f.top.stack.values }) (at.3 i)

  pub same_index : index_at p (activation f.top) ≡ index_at p top
  same_index = λ i. index_at p (record { method = at.0 i; place = at.1 i; locals = at.2 i; stack = f.top.stack.values })
