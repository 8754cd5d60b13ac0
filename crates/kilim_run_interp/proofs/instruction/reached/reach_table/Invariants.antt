use Rattle.std.proofs.Common.{◌≡◌, length}
use Rattle.kilim_run_interp.specs.instruction.Reached.{AreReached}
use Rattle.kilim_run_interp.proofs.instruction.reached.reach_table.Given as goal

abbrev pub invariant-loop-at : goal.invariant-loop-at
invariant-loop-at l = record { told : AreReached l.program l.table.items; long : length l.table.items ≡ l.at }
