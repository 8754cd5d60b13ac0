use Rattle.std.proofs.Common.{◌≡◌, drop, take, map}
use Rattle.kilim_program.specs.declared.class.Method.{Method}
use Rattle.kilim_type_spec.specs.Typed.{listed, frames_of}
use Rattle.kilim_type_spec.specs.Faults.{faults_from}
use Rattle.kilim_type_verify.proofs.programs.walk_methods.Given as goal

abbrev pub invariant-loop-number : goal.invariant-loop-number
invariant-loop-number l =
    (faults_from l.program l.number (drop l.number l.methods) ≡ faults_from l.fn.program 0 l.fn.program.methods)
    × (l.all.items ≡ map (λ (x : Method). map (listed x) (frames_of l.program x)) (take l.number l.methods))
