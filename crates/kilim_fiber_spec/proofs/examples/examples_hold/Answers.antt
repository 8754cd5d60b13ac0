use Rattle.std.proofs.Common.{refl}
use Rattle.kilim_program.specs.Lengths.{jump_targets, ends_path}
use Rattle.kilim_program.specs.Fits.{fits_type}
use Rattle.kilim_run_machine.specs.Does.{does}
use Rattle.kilim_type_spec.specs.Step.{meets, row, special_fits}
use Rattle.kilim_type_spec.specs.Typed.{typing_of}
use Rattle.kilim_fiber_spec.proofs.examples.examples_hold.Goals as goal

pub returns : goal.returns
unfolding jump_targets ends_path fits_type does meets row special_fits typing_of
returns c = record {
  pauses = refl;
  goes_on = refl;
  spent = (refl, refl);
  done = (refl, refl);
  done_at_last = refl;
  fiber_at_last = refl;
}
