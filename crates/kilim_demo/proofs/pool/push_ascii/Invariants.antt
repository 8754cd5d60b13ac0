use Rattle.std.proofs.Common.{◌≡◌, ◌++◌, drop}
use Rattle.kilim_demo.proofs.pool.push_ascii.Given as goal

abbrev pub invariant-loop-byte : goal.invariant-loop-byte
invariant-loop-byte l = l.units.items ++ drop l.byte-index l.ascii ≡ l.fn.units.items ++ l.ascii
