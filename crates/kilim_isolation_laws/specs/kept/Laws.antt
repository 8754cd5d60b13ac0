-- What every thread of an accepted program keeps.
use Rattle.kilim_run_model.specs.Kept.{Kept}
use Rattle.kilim_run_model.specs.Reach.{Liveness}
use Rattle.kilim_run_model.specs.State.{Setting}
use Rattle.kilim_isolation_laws.specs.reached_objects.Laws.{AreLive}
use Rattle.kilim_isolation_laws.specs.Laws.{IsRunOfAccepted}

-- whatever each of its threads reaches is in its own heap, and what it gives away next is a whole tree
abbrev pub AcceptedIsKept : Type 0
AcceptedIsKept = (set : Setting) → IsRunOfAccepted set → (live : Liveness) → AreLive set.program live → Kept live set
