use Rattle.std.proofs.Common.{refl}
use Rattle.kilim_run_machine.specs.Does.{does}
use Rattle.kilim_theorems.proofs.instruction_examples.arithmetic_is_javas.Goals as goal

pub returns : goal.returns
unfolding does
returns c p own heap = record { two_ints = refl; one_int = refl; int_to_long = refl; two_longs = refl; shifted_longs = refl; compared_longs = refl; one_long = refl; long_to_int = refl }
