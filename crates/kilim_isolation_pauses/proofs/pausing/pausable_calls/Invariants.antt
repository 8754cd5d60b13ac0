use Rattle.std.proofs.Common.{◌≡◌, ◌++◌, drop}
use Rattle.std.specs.List.{flat_map}
use Rattle.kilim_program.specs.declared.class.Class.{Class}
use Rattle.kilim_isolation_pauses.specs.Pausing.{calls_of}
use Rattle.kilim_isolation_pauses.proofs.pausing.pausable_calls.Given as goal

abbrev pub invariant-loop-class : goal.invariant-loop-class
invariant-loop-class l = l.calls ++ flat_map (calls_of l.program) (flat_map (λ (class : Class). class.methods) (drop l.class-index l.program.classes)) ≡ flat_map (calls_of l.program) (flat_map (λ (class : Class). class.methods) l.program.classes)
