use Rattle.std.proofs.Common.{◌≡◌, ◌++◌, map, drop}
use Rattle.kilim_isolation_paths.specs.declared.machine.Exit.TheVariants as exit
use Rattle.kilim_isolation.proofs.walk.push_leads.Given as goal

abbrev pub invariant-loop-to : goal.invariant-loop-to
invariant-loop-to l = l.exits ++ map exit.To (drop l.to-index l.places) ≡ l.fn.exits ++ map exit.To l.places
