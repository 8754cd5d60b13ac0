-- A mailbox that a thread bounds is new.
use Rattle.std.proofs.Common.{List}
use Rattle.std.specs.Prelude.{Bool}
use Rattle.kilim_program.specs.Program.{Program}
use Rattle.kilim_run_model.specs.State.{Setting}
use Rattle.kilim_run_board.specs.NewBounds.{BoundsAreNew}
use Rattle.kilim_fiber_laws.specs.Served.{CanServe}
use Rattle.kilim_new_bounds.proofs.Runs.{accepted_new}

pub bounds_are_new : (set : Setting) (W : Program) (marks : List (List Bool)) → CanServe set W marks → BoundsAreNew set
bounds_are_new set W marks served = accepted_new set served.run
