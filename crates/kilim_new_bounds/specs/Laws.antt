-- A mailbox that gets a bound is new.
use Rattle.kilim_run_model.specs.State.{Setting}
use Rattle.kilim_isolation_laws.specs.Laws.{IsRunOfAccepted}
use Rattle.kilim_run_board.specs.NewBounds.{BoundsAreNew}

-- a mailbox that a thread of an accepted program bounds is new
abbrev pub AcceptedBoundsAreNew : Type 0
AcceptedBoundsAreNew = (set : Setting) → IsRunOfAccepted set → BoundsAreNew set
