use Rattle.std.proofs.Common.{refl}
use Rattle.kilim_program.specs.Lengths.{jump_targets, ends_path}
use Rattle.kilim_program.specs.Fits.{fits_type}
use Rattle.kilim_type_spec.specs.Step.{meets, row, special_fits}
use Rattle.kilim_type_spec.specs.Typed.{typing_of}
use Rattle.kilim_weave_spec.proofs.Loop.{loop_is_woven}
use Rattle.kilim_weave_spec.proofs.examples_hold.Goals as goal

pub returns : goal.returns
unfolding jump_targets ends_path fits_type meets row special_fits typing_of
returns c = record {
  loop_is_woven = loop_is_woven;
  loop_weight = refl;
  values_code = refl;
  values_length = refl;
  values_frames = refl;
  values_labels = (refl, (refl, (refl, (refl, (refl, (refl, (refl, (refl, (refl, (refl, (refl, (refl, (refl, (refl, (refl, (refl, (refl, (refl, (refl, (refl, (refl, (refl, tt))))))))))))))))))))));
  values_stack = refl;
  values_locals = refl;
  values_weight = refl;
}
