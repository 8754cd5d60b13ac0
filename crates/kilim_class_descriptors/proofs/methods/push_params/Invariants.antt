use Rattle.std.proofs.Common.{◌≡◌, ◌-◌, length}
use Rattle.kilim_class_descriptors.specs.Reading.{params_at}
use Rattle.kilim_class_descriptors.proofs.Steps.{with_front}
use Rattle.kilim_class_descriptors.proofs.methods.push_params.Given as goal

abbrev pub invariant-loop : goal.invariant-loop
invariant-loop l = with_front l.params (params_at (length l.units - l.counter) l.rest) ≡ params_at (length l.units) l.units
