use Rattle.std.proofs.Common.{◌≡◌, ◌++◌, drop, map}
use Rattle.kilim_type_spec.specs.Typed.{frames_from, listed}
use Rattle.kilim_type_spec.specs.Faults.{walk_fault}
use Rattle.kilim_type_verify.proofs.walk.walk_code.Given as goal

abbrev pub invariant-loop-index : goal.invariant-loop-index
invariant-loop-index l =
    (walk_fault l.program l.method l.pending l.flow (drop l.index l.code) ≡ walk_fault l.fn.program l.fn.method l.fn.first l.initial.flow l.code)
    × (l.frames.items ++ map (listed l.method) (frames_from l.program l.method l.flow (drop l.index l.code)) ≡ map (listed l.fn.method) (frames_from l.fn.program l.fn.method l.initial.flow l.code))
