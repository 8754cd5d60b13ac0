-- How long instructions are, and programs that break a fact.
use Rattle.std.proofs.Common.{refl}
use Rattle.kilim_program.specs.Broken.{FactsAreBroken}
use Rattle.kilim_program.specs.Keeps.{ids_are_places, code_is_whole, frames_are_proper, members_are_owned, none_is_named_as_array, own_classes_fit}
use Rattle.kilim_program.specs.Lengths.{has_length, matches_increase, jump_targets, ends_path, code_stands, targets_stand, code_ends, places_increase}

pub facts_are_broken : FactsAreBroken
unfolding ids_are_places code_is_whole frames_are_proper none_is_named_as_array members_are_owned own_classes_fit has_length matches_increase jump_targets ends_path code_stands targets_stand code_ends places_increase
facts_are_broken = record {
  fitting_lengths = refl;
  beyond_lengths = refl;
  extends_object = refl;
  extends_task = refl;
  extends_own = refl;
  extends_exception = refl;
  extends_last_exception = refl;
  extends_fiber = refl;
  extends_string = refl;
  takes_the_name = refl;
  is_a_place = refl;
  is_no_place = refl;
  returns = refl;
  begins_later = refl;
  falls_off = refl;
  ends_later = refl;
  jumps_inside = refl;
  owned = refl;
  owned_by_another = refl;
  frames_in_order = refl;
  frames_at_one_place = refl;
  long_and_its_half = refl;
  long_at_the_end = refl;
  long_before_an_int = refl;
  objects_of_references = refl;
  local_object_of_int = refl;
  object_of_int_on_the_stack = refl;
  named_as_a_class = refl;
  named_as_an_array = refl;
}
