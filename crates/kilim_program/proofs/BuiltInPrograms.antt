-- The built-in classes alone are a program.
use Rattle.std.proofs.Common.{[], refl}
use Rattle.kilim_program.specs.declared.class.Form.TheVariants.{Plain, Woven}
use Rattle.kilim_program.specs.Examples.{BuiltInKeeps, built_in_program}
use Rattle.kilim_program.specs.Keeps.{Keeps, ids_are_places, none_is_its_ancestor, code_is_whole, members_are_owned, names_differ, method_is_sound, overriding_agrees, none_is_left_abstract, none_is_both, no_task_arrays, superclasses_fit, own_classes_fit, fields_fit, constants_fit, frames_are_proper, none_is_named_as_array}
use Rattle.kilim_program.specs.Lengths.{code_stands, targets_stand, code_ends, places_increase}

plain_keeps : Keeps (built_in_program Plain)
unfolding ids_are_places none_is_its_ancestor code_is_whole members_are_owned names_differ method_is_sound overriding_agrees none_is_left_abstract none_is_both no_task_arrays superclasses_fit own_classes_fit fields_fit constants_fit frames_are_proper none_is_named_as_array code_stands targets_stand code_ends places_increase
plain_keeps = record {
  ids = refl;
  ancestors = refl;
  code = refl;
  frames = refl;
  frame_types = refl;
  handlers = refl;
  catches = refl;
  paused = refl;
  built_in = record { own_classes = []; own_methods = []; own_fields = []; classes = refl; methods = refl; fields = refl; bodies = refl };
  members = refl;
  names = refl;
  class_names = refl;
  methods = refl;
  both = refl;
  task_arrays = refl;
  superclasses = refl;
  own_classes = refl;
  fields = refl;
  overriding = refl;
  abstract_left = refl;
  constants = refl;
}

woven_keeps : Keeps (built_in_program Woven)
unfolding ids_are_places none_is_its_ancestor code_is_whole members_are_owned names_differ method_is_sound overriding_agrees none_is_left_abstract none_is_both no_task_arrays superclasses_fit own_classes_fit fields_fit constants_fit frames_are_proper none_is_named_as_array code_stands targets_stand code_ends places_increase
woven_keeps = record {
  ids = refl;
  ancestors = refl;
  code = refl;
  frames = refl;
  frame_types = refl;
  handlers = refl;
  catches = refl;
  paused = refl;
  built_in = record { own_classes = []; own_methods = []; own_fields = []; classes = refl; methods = refl; fields = refl; bodies = refl };
  members = refl;
  names = refl;
  class_names = refl;
  methods = refl;
  both = refl;
  task_arrays = refl;
  superclasses = refl;
  own_classes = refl;
  fields = refl;
  overriding = refl;
  abstract_left = refl;
  constants = refl;
}

pub built_in_keeps : BuiltInKeeps
built_in_keeps = record { plain = plain_keeps; woven = woven_keeps }
