-- The code of a named program.
use Rattle.std.specs.Prelude.{◌≡◌, Bool, List}
use Rattle.kilim_program.specs.Program.{Program}
use Rattle.kilim_run_model.specs.State.{Setting}
use Rattle.kilim_fiber_body.specs.declared.code.Code.{Code}
use Rattle.kilim_fiber.specs.Fiber.{ServesCode}

-- It serves the setting, and its woven program is the one that is named.
pub record ServesNamed (W : Program) (marks : List (List Bool)) (set : Setting) (code : Code) : Type 0 where
  pub serves : ServesCode set code
  pub program : code.program ≡ W
  pub counted : code.counted ≡ marks
