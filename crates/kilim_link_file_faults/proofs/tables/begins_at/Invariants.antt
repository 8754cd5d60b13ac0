use Rattle.std.proofs.Common.{◌≡◌, ◌==◌, drop}
use Rattle.std.specs.List.{list_any}
use Rattle.kilim_link_spec.specs.Faults.{begins_at}
use Rattle.kilim_link_file_faults.proofs.tables.begins_at.Given as goal

abbrev pub invariant-loop-placed : goal.invariant-loop-placed
invariant-loop-placed l = begins_at (drop l.placed-index l.instrs) l.fn.at ≡ begins_at l.instrs l.fn.at
