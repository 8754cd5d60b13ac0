-- A thread that fits is fine.
use Rattle.kilim_type_sound.specs.Fits.{Classes, Typing, Wanted}
use Rattle.kilim_run_model.specs.State.{Setting}
use Rattle.kilim_run_model.specs.Lone.{Lone}
use Rattle.kilim_fiber_spec.specs.fiber_kin.Served.{IsFineThread}
use Rattle.kilim_isolation_laws.specs.typed_threads.fine.Typed.{IsVerified, FitsAs, StackIsThere}

-- A thread of verified code that fits the frames of verification, and whose top stack's references are in its heap, isn't stuck at its
-- next instruction, has room for what comes on its stacks, and holds no fiber.
abbrev pub FittingIsFine : Type 0
FittingIsFine = (set : Setting) (typing : Typing) (live : Wanted) (of : Classes) (l : Lone) → IsVerified set typing live → FitsAs set typing live of l → StackIsThere l → IsFineThread set l
