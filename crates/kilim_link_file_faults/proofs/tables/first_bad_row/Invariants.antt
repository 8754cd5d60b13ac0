use Rattle.std.proofs.Common.{◌≡◌, ◌-◌, Some, length, drop}
use Rattle.kilim_link_spec.specs.Linked.{first_of}
use Rattle.kilim_link_spec.specs.Faults.{bad_rows, is_bad_row, numbers_that}
use Rattle.kilim_link_file_faults.proofs.tables.first_bad_row.Given as goal

abbrev pub invariant-loop-i : goal.invariant-loop-i
invariant-loop-i l = first_of (numbers_that (is_bad_row l.pool l.code l.instrs) l.i (drop l.i l.rows)) ≡ first_of (bad_rows l.pool l.instrs (Some l.code))

abbrev pub decreases-loop-i : goal.decreases-loop-i
decreases-loop-i l = length l.rows - l.i
