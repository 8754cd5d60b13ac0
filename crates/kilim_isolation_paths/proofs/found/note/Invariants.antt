use Rattle.std.proofs.Common.{◌≡◌, ◌≤◌, ◌++◌, length, take, drop, ◌-◌}
use Rattle.kilim_isolation_paths.specs.Search.{noted}
use Rattle.kilim_isolation_paths.proofs.found.note.Given as goal

abbrev pub invariant-loop-k : goal.invariant-loop-k
invariant-loop-k l = record { within : l.k ≤ length l.found.items; so_far : take l.k l.found.items ++ noted (drop l.k l.found.items) l.new ≡ noted l.found.items l.new; same : l.found.items ≡ l.fn.found.items }

abbrev pub decreases-loop-k : goal.decreases-loop-k
decreases-loop-k l = length l.found.items - l.k
