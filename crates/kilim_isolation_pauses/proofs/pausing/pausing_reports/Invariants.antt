use Rattle.std.proofs.Common.{◌≡◌, ◌++◌, drop}
use Rattle.std.specs.List.{flat_map}
use Rattle.kilim_program.specs.declared.class.Class.{Class}
use Rattle.kilim_isolation_pauses.specs.Pausing.{reports_of}
use Rattle.kilim_isolation_pauses.proofs.pausing.pausing_reports.Given as goal

abbrev pub invariant-loop-class : goal.invariant-loop-class
invariant-loop-class l = l.reports ++ flat_map (reports_of l.typed) (flat_map (λ (class : Class). class.methods) (drop l.class-index l.typed.program.classes)) ≡ flat_map (reports_of l.typed) (flat_map (λ (class : Class). class.methods) l.typed.program.classes)
