use Rattle.std.proofs.Common.{◌≡◌, ◌++◌, ◌∷◌, Some, map, drop}
use Rattle.kilim_isolation.proofs.exits.of_table.Given as goal

abbrev pub invariant-loop-to : goal.invariant-loop-to
invariant-loop-to l = l.exits ++ map Some (drop l.to-index l.targets) ≡ Some l.default ∷ map Some l.targets
