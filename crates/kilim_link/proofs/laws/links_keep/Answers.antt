use Rattle.kilim_link.proofs.laws.links_keep.Goals as goal

pub returns : goal.returns
returns c = λ files form p well. record {
  ids = c.ids_are_places.ensures files form p well;
  ancestors = c.none_is_its_ancestor.ensures files form p well;
  code = c.code_is_whole.ensures files form p well;
  frames = c.frames_increase.ensures files form p well;
  frame_types = c.frames_are_proper.ensures files form p well;
  handlers = c.tables_stand.ensures files form p well;
  catches = c.catches_are_there.ensures files form p well;
  paused = c.none_pauses_with_table.ensures files form p well;
  built_in = c.built_in_is_last.ensures files form p well;
  members = c.members_are_owned.ensures files form p well;
  names = c.names_differ.ensures files form p well;
  class_names = c.none_is_named_as_array.ensures files form p well;
  methods = c.methods_are_sound.ensures files form p well;
  both = c.none_is_both.ensures files form p well;
  task_arrays = c.no_task_arrays.ensures files form p well (c.outline_agrees.ensures files form p well).tasks;
  superclasses = c.superclasses_fit.ensures files form p well;
  own_classes = c.own_classes_fit.ensures files form p well;
  fields = c.fields_fit.ensures files form p well;
  overriding = c.overriding_agrees.ensures files form p well;
  abstract_left = c.none_is_left_abstract.ensures files form p well;
  constants = c.constants_fit.ensures files form p well;
}
