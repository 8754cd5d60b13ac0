use Rattle.std.proofs.Common.{◌≡◌, length}
use Rattle.kilim_fiber_steps.specs.records.natives.Tables.{AreExecutes}
use Rattle.kilim_fiber_steps.proofs.records.natives.tables.execute_table.Given as goal

abbrev pub invariant-loop-at : goal.invariant-loop-at
invariant-loop-at l = record { tell : AreExecutes l.program l.table.items; long : length l.table.items ≡ l.at }
