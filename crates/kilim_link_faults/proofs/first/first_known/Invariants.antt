use Rattle.std.proofs.Common.{◌≡◌, ◌-◌, length, drop}
use Rattle.kilim_link_spec.specs.Faults.{first_fault}
use Rattle.kilim_link_spec.specs.Linked.{first_of}
use Rattle.kilim_link_faults.specs.Parts.{faults_from}
use Rattle.kilim_link_faults.proofs.first.first_known.Given as goal

abbrev pub invariant-loop-i : goal.invariant-loop-i
invariant-loop-i l = first_of (faults_from l.world l.i (drop l.i l.files)) ≡ first_fault l.files l.fn.form

abbrev pub decreases-loop-i : goal.decreases-loop-i
decreases-loop-i l = length l.files - l.i
