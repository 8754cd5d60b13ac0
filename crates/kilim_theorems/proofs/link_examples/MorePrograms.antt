-- More programs, computed.
use Rattle.std.proofs.Common.{[], ◌∷◌, ◌≡◌, refl}
use Rattle.std.specs.Prelude.{None}
use Rattle.kilim_program.specs.declared.class.Form.TheVariants.{Plain, Woven}
use Rattle.kilim_class_code.specs.Code.{targets_of, is_place, first_failing, mid_target, ends, falls_off}
use Rattle.kilim_class_code.specs.Exact.{body_fault}
use Rattle.kilim_link_spec.specs.Annotations.{types_on_member, params_in}
use Rattle.kilim_link_spec.specs.Code.{instrs_from, decoded, instr_in}
use Rattle.kilim_link_spec.specs.Faults.{declared_twice, class_missing, is_circular, circular, member_missing, left_out_parts, left_out, both_kinds, field_kinds, override_differs, code_broken, descriptor_broken, super_kind, is_class_name, name_broken, abstract_left, problems_of, link_faults, handler_faults, first_fault}
use Rattle.kilim_link_spec.specs.Frames.{frames_from}
use Rattle.kilim_link_spec.specs.Linked.{Linked, program_of}
use Rattle.kilim_link_spec.specs.Mentions.{members_named, mentions_of, class_names, all_types}
use Rattle.kilim_link_spec.specs.Qualified.{qualified}
use Rattle.kilim_link_spec.specs.World.{class_text, world_of}
use Rattle.kilim_class_file.specs.Parts.{text_of, has_its_code}
use Rattle.kilim_class_descriptors.specs.Reading.{base_at, field_behind, field_at, param_at, params_at, result_at, whole_field, whole_method, class_at as descriptors_class_at}
use Rattle.kilim_class_grammar.specs.Reader.{many}
use Rattle.kilim_class_code.specs.opcodes.Reading.{target_at, zeros_at, range_at, table_at, count_at, pairs_at, lookup_at, wide_operands_at, wide_at, operands_at, instr_at, pair_at as opcodes_pair_at}
use Rattle.kilim_class_code.specs.opcodes.Table.{rows, form_of as opcodes_form_of}
use Rattle.kilim_program.specs.Keeps.{ids_are_places, none_is_its_ancestor, code_is_whole, members_are_owned, names_differ, method_is_sound, overriding_agrees, none_is_left_abstract, none_is_both, no_task_arrays, superclasses_fit, own_classes_fit, fields_fit, constants_fit, frames_are_proper, none_is_named_as_array}
use Rattle.kilim_program.specs.Lengths.{has_length, jump_targets, ends_path, code_stands, targets_stand, code_ends, places_increase}
use Rattle.kilim_program.specs.Keeps.{Keeps}
use Rattle.kilim_theorems.specs.link_examples.Examples.{a_class, a_constructor}
use Rattle.kilim_theorems.specs.link_examples.Programs.{ProgramsAreLinked, woven_file, woven_program, woven_execute, q_file, p_linked, q_class, p_class, m_method, x_field, pair_program}

woven : Linked (woven_file ∷ []) Woven woven_program
unfolding types_on_member params_in class_text world_of qualified instrs_from decoded instr_in frames_from program_of members_named mentions_of class_names all_types declared_twice class_missing is_circular circular member_missing left_out_parts left_out both_kinds field_kinds override_differs code_broken descriptor_broken super_kind is_class_name name_broken abstract_left handler_faults problems_of link_faults first_fault targets_of is_place first_failing mid_target ends falls_off body_fault rows opcodes_form_of target_at zeros_at range_at table_at count_at opcodes_pair_at pairs_at lookup_at wide_operands_at wide_at operands_at instr_at descriptors_class_at base_at field_behind field_at param_at params_at result_at whole_field whole_method text_of has_its_code
woven = refl

woven_fault : first_fault (woven_file ∷ []) Woven ≡ None
unfolding types_on_member params_in class_text world_of qualified instrs_from decoded instr_in frames_from program_of members_named mentions_of class_names all_types declared_twice class_missing is_circular circular member_missing left_out_parts left_out both_kinds field_kinds override_differs code_broken descriptor_broken super_kind is_class_name name_broken abstract_left handler_faults problems_of link_faults first_fault targets_of is_place first_failing mid_target ends falls_off body_fault rows opcodes_form_of target_at zeros_at range_at table_at count_at opcodes_pair_at pairs_at lookup_at wide_operands_at wide_at operands_at instr_at descriptors_class_at base_at field_behind field_at param_at params_at result_at whole_field whole_method text_of has_its_code
woven_fault = refl

woven_keeps : Keeps woven_program
unfolding ids_are_places none_is_its_ancestor code_is_whole members_are_owned names_differ method_is_sound overriding_agrees none_is_left_abstract none_is_both no_task_arrays superclasses_fit own_classes_fit fields_fit constants_fit frames_are_proper none_is_named_as_array has_length jump_targets ends_path code_stands targets_stand code_ends places_increase
woven_keeps = record {
  ids = refl;
  ancestors = refl;
  code = refl;
  frames = refl;
  frame_types = refl;
  handlers = refl;
  catches = refl;
  paused = refl;
  built_in = record { own_classes = a_class ∷ []; own_methods = a_constructor ∷ woven_execute ∷ []; own_fields = []; classes = refl; methods = refl; fields = refl; bodies = refl };
  members = refl;
  names = refl;
  class_names = refl;
  methods = refl;
  both = refl;
  task_arrays = refl;
  superclasses = refl;
  own_classes = refl;
  fields = refl;
  overriding = refl;
  abstract_left = refl;
  constants = refl;
}

pair : Linked (q_file ∷ p_linked ∷ []) Plain pair_program
unfolding types_on_member params_in class_text world_of qualified instrs_from decoded instr_in frames_from program_of members_named mentions_of class_names all_types declared_twice class_missing is_circular circular member_missing left_out_parts left_out both_kinds field_kinds override_differs code_broken descriptor_broken super_kind is_class_name name_broken abstract_left handler_faults problems_of link_faults first_fault targets_of is_place first_failing mid_target ends falls_off body_fault rows opcodes_form_of target_at zeros_at range_at table_at count_at opcodes_pair_at pairs_at lookup_at wide_operands_at wide_at operands_at instr_at descriptors_class_at base_at field_behind field_at param_at params_at result_at whole_field whole_method text_of has_its_code many
pair = refl

pair_fault : first_fault (q_file ∷ p_linked ∷ []) Plain ≡ None
unfolding types_on_member params_in class_text world_of qualified instrs_from decoded instr_in frames_from program_of members_named mentions_of class_names all_types declared_twice class_missing is_circular circular member_missing left_out_parts left_out both_kinds field_kinds override_differs code_broken descriptor_broken super_kind is_class_name name_broken abstract_left handler_faults problems_of link_faults first_fault targets_of is_place first_failing mid_target ends falls_off body_fault rows opcodes_form_of target_at zeros_at range_at table_at count_at opcodes_pair_at pairs_at lookup_at wide_operands_at wide_at operands_at instr_at descriptors_class_at base_at field_behind field_at param_at params_at result_at whole_field whole_method text_of has_its_code many
pair_fault = refl

pair_keeps : Keeps pair_program
unfolding ids_are_places none_is_its_ancestor code_is_whole members_are_owned names_differ method_is_sound overriding_agrees none_is_left_abstract none_is_both no_task_arrays superclasses_fit own_classes_fit fields_fit constants_fit frames_are_proper none_is_named_as_array has_length jump_targets ends_path code_stands targets_stand code_ends places_increase
pair_keeps = record {
  ids = refl;
  ancestors = refl;
  code = refl;
  frames = refl;
  frame_types = refl;
  handlers = refl;
  catches = refl;
  paused = refl;
  built_in = record { own_classes = q_class ∷ p_class ∷ []; own_methods = m_method ∷ []; own_fields = x_field ∷ []; classes = refl; methods = refl; fields = refl; bodies = refl };
  members = refl;
  names = refl;
  class_names = refl;
  methods = refl;
  both = refl;
  task_arrays = refl;
  superclasses = refl;
  own_classes = refl;
  fields = refl;
  overriding = refl;
  abstract_left = refl;
  constants = refl;
}

pub programs_are_linked : ProgramsAreLinked
programs_are_linked = record { woven = woven; woven_fault = woven_fault; woven_keeps = woven_keeps; pair = pair; pair_fault = pair_fault; pair_keeps = pair_keeps }
