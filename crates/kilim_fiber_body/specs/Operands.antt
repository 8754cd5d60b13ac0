-- The operands of a built-in method that is called.
use Rattle.std.specs.Prelude.{◌≡◌, ◌<◌, List, [], ◌∷◌, length}
use Rattle.kilim_program.specs.declared.value.Value.{Value}
use Rattle.kilim_run_state.specs.declared.frames.frames.Frames.{Frames}
use Rattle.kilim_fiber_body.specs.Body.{operands_of}
use Rattle.kilim_fiber_body.specs.declared.operands.Operands.{Operands}
use Rattle.kilim_fiber_body.specs.declared.operands.Operands.TheVariants as copied

-- copies of them, where there are at most three
abbrev pub AreCopies : List Value → Operands → Type 0
AreCopies args copied.None = args ≡ []
AreCopies args (copied.One value) = args ≡ value ∷ []
AreCopies args (copied.Two first second) = args ≡ first ∷ second ∷ []
AreCopies args (copied.Three first second third) = args ≡ first ∷ second ∷ third ∷ []
AreCopies args copied.More = 3 < length args

abbrev pub AreOperands : Frames → Operands → Type 0
AreOperands frames found = AreCopies (operands_of frames) found
