-- All is put together.
use Rattle.kilim_weave_spec.specs.Woven.{fiber_ty}
use Rattle.kilim_fiber_spec.specs.Runs.{most_uncounted}
use Rattle.kilim_fiber_spec.specs.Serves.{From}
use Rattle.kilim_fiber_spec.proofs.alike.AllRows.{rows_from}
use Rattle.kilim_fiber_spec.proofs.alike.FiberCalls.{members_from}
use Rattle.kilim_fiber_laws.proofs.stands.shares.Called.{each}
use Rattle.kilim_fiber_laws.proofs.stands.shares.Fibers.{fiber_is}
use Rattle.kilim_fiber_laws.proofs.stands.shares.Together.{shares_rows, shares_pauses}
use Rattle.kilim_fiber_laws.proofs.simulation.Same.{serves, bound_is_enough}
use Rattle.kilim_fiber_laws.proofs.stands.Formed.{formed}
use Rattle.kilim_fiber_laws.specs.stands.serves.Law.{WovenServes}

pub whole : WovenServes
whole = λ set W counted keeps plainly typed pauses short main woven. (
  λ m. (formed set W counted keeps plainly typed pauses short woven m).0,
  λ m. (formed set W counted keeps plainly typed pauses short woven m).1,
  λ m. (formed set W counted keeps plainly typed pauses short woven m).2,
  λ first known. serves set W counted most_uncounted
      (members_from set.program W (fiber_ty set.program) (fiber_is set.program W counted keeps plainly woven) (each set.program W counted keeps plainly woven))
      (λ m. (formed set W counted keeps plainly typed pauses short woven m).0)
      (λ m. (formed set W counted keeps plainly typed pauses short woven m).1)
      (rows_from set W counted (λ m. (formed set W counted keeps plainly typed pauses short woven m).0) (λ m. (formed set W counted keeps plainly typed pauses short woven m).1)
      (shares_rows set W counted keeps plainly typed woven) (fiber_ty set.program) (shares_pauses set W counted keeps plainly typed woven main))
      bound_is_enough (From set first) known,
)
