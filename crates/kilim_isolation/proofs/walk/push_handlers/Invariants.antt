use Rattle.std.proofs.Common.{◌≡◌, ◌++◌, drop}
use Rattle.kilim_isolation.specs.Walks.{handled_at}
use Rattle.kilim_isolation.proofs.walk.push_handlers.Given as goal

abbrev pub invariant-loop-handler : goal.invariant-loop-handler
invariant-loop-handler l = l.exits ++ handled_at (drop l.handler-index l.handlers) l.place ≡ l.fn.exits ++ handled_at l.handlers l.place
