-- What an instruction and a move do is the same under other names.
use Rattle.std.specs.Prelude.{ℕ, List, ◌∷◌}
use Rattle.kilim_program.specs.declared.class.Method.{Method}
use Rattle.kilim_program.specs.declared.instr.Instr.{Instr}
use Rattle.kilim_program.specs.declared.value.Value.{Value}
use Rattle.kilim_program.specs.Program.{Program}
use Rattle.kilim_run_state.specs.Machine.{Objects, Activation}
use Rattle.kilim_run_machine.specs.Does.{does}
use Rattle.kilim_run_machine.specs.Moves.{moves}
use Rattle.kilim_run_model.specs.kin.Kin.{Names, Owner, AreKin, AreHeld, FramesKin, IsThere, StandsIn, Alike, EffectKin, MoveKin}

-- What an instruction does is the same under other names, and it touches no more than the objects that stand on
-- the stack.
abbrev pub RowsKin : Program → Type 0
RowsKin p = (of : Names) (owner : ℕ → Owner) (t : ℕ) (h k : Objects) → Alike of owner t k h k → (own : Method) (i : Instr) (next : ℕ) (ls ms vs ws : List Value) →
    AreKin of ls ms → AreKin of vs ws → AreHeld (IsThere h) vs → EffectKin (StandsIn h vs) of owner t h k (does p own i next ls vs h) (does p own i next ms ws k)

-- So is a move of a task's frames.
abbrev pub MovesKin : Program → Type 0
MovesKin p = (of : Names) (owner : ℕ → Owner) (t : ℕ) (h k : Objects) → Alike of owner t k h k → (top other : Activation) (fs gs : List Activation) →
    AreHeld (IsThere h) top.stack → FramesKin of (top ∷ fs) (other ∷ gs) → MoveKin (StandsIn h top.stack) of owner t h k (moves p top fs h) (moves p other gs k)

abbrev pub RowsAreKin : Type 0
RowsAreKin = (p : Program) → RowsKin p

abbrev pub MovesAreKin : Type 0
MovesAreKin = (p : Program) → MovesKin p
