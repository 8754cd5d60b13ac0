use Rattle.std.proofs.Common.{◌≡◌, ◌++◌, drop, map}
use Rattle.kilim_demo.specs.Constants.{entry_of}
use Rattle.kilim_demo.proofs.pool.add_all.Given as goal

abbrev pub invariant-loop-constant : goal.invariant-loop-constant
invariant-loop-constant l = l.pool ++ map entry_of (drop l.constant-index l.constants) ≡ l.fn.pool ++ map entry_of l.constants
