use Rattle.std.proofs.Common.{take}
use Rattle.std.specs.List.{flat_map}
use Rattle.kilim_isolation.specs.Faults.{AreReportsOfAll}
use Rattle.kilim_isolation.proofs.check.all_reports.Given as goal

abbrev pub invariant-loop-class : goal.invariant-loop-class
invariant-loop-class l = AreReportsOfAll l.typed (flat_map (λ class. class.methods) (take l.class-index l.typed.program.classes)) l.reports
