-- In no interleaving of an accepted program is an object reached by two threads.
use Rattle.kilim_run_model.specs.Reach.{Liveness, PlaysIsolated}
use Rattle.kilim_run_model.specs.State.{Setting}
use Rattle.kilim_isolation_laws.specs.reached_objects.Laws.{AreLive}
use Rattle.kilim_isolation_laws.specs.Laws.{IsRunOfAccepted}

-- Nor by a thread and a place in a queue, or by two places in queues. A thread reaches what is at or below an object that an item of
-- its stacks or a live local names.
abbrev pub AcceptedIsIsolated : Type 0
AcceptedIsIsolated = (set : Setting) → IsRunOfAccepted set → (live : Liveness) → AreLive set.program live → PlaysIsolated live set
