-- The class file of 235 bytes, computed.
use Rattle.std.proofs.Common.{[], ◌∷◌, ◌≡◌, refl}
use Rattle.std.specs.Prelude.{None, Ok}
use Rattle.kilim_program.specs.declared.class.Form.TheVariants.{Plain}
use Rattle.kilim_class_attributes.specs.parts.Indices.{has_kind, index_at as attribute_parts_index_at}
use Rattle.kilim_class_attributes.specs.parts.Names.{named}
use Rattle.kilim_class_attributes.specs.Attributes.{exceptions_at, whole_parts, info_of, attribute_of, attribute_at, attributes_at}
use Rattle.kilim_class_attributes.specs.Codes.{code_info_of, code_attribute_of, code_attribute_at, code_bytes_at, handler_at, handlers_at, code_at}
use Rattle.kilim_class_attributes.specs.Forms.{form_at, form_of as attributes_form_of}
use Rattle.kilim_class_attributes.specs.Lists.{many_after, listed, named_bytes_at}
use Rattle.kilim_class_code.specs.Code.{targets_of, is_place, first_failing, mid_target, ends, falls_off}
use Rattle.kilim_class_code.specs.Exact.{body_fault}
use Rattle.kilim_link_spec.specs.Annotations.{types_on_member, params_in}
use Rattle.kilim_link_spec.specs.Code.{instrs_from, decoded, instr_in}
use Rattle.kilim_link_spec.specs.Faults.{declared_twice, class_missing, is_circular, circular, member_missing, left_out_parts, left_out, both_kinds, field_kinds, override_differs, code_broken, descriptor_broken, super_kind, is_class_name, name_broken, abstract_left, problems_of, link_faults, handler_faults, first_fault}
use Rattle.kilim_link_spec.specs.Frames.{frames_from}
use Rattle.kilim_link_spec.specs.Linked.{Linked, program_of}
use Rattle.kilim_link_spec.specs.Mentions.{members_named, mentions_of, class_names, all_types}
use Rattle.kilim_link_spec.specs.Qualified.{qualified}
use Rattle.kilim_link_spec.specs.World.{class_text, world_of}
use Rattle.kilim_class_file.specs.Parts.{text_of, has_its_code}
use Rattle.kilim_class_file.specs.Reading.{member_at, method_at, magic_at, version_at, front_at, names_at, lists_at, read_class, index_at as classfile_index_at, class_at as classfile_class_at}
use Rattle.kilim_class_file.specs.Text.{size_limit}
use Rattle.kilim_class_pool.specs.Entries.{refers_well, first_bad}
use Rattle.kilim_class_pool.specs.Reading.{text_at, handle_at, reference_at, content_at, entry_at_index, entries_at, pool_at, pair_at as constant_pool_pair_at}
use Rattle.kilim_class_descriptors.specs.Reading.{base_at, field_behind, field_at, param_at, params_at, result_at, whole_field, whole_method, class_at as descriptors_class_at}
use Rattle.kilim_class_grammar.specs.Reader.{many}
use Rattle.kilim_class_mutf8.specs.Whole.{units_of, units_within}
use Rattle.kilim_class_mutf8.specs.Reading.{two_at, three_at, unit_at}
use Rattle.kilim_class_code.specs.opcodes.Reading.{target_at, zeros_at, range_at, table_at, count_at, pairs_at, lookup_at, wide_operands_at, wide_at, operands_at, instr_at, pair_at as opcodes_pair_at}
use Rattle.kilim_class_code.specs.opcodes.Table.{rows, form_of as opcodes_form_of}
use Rattle.kilim_program.specs.Keeps.{ids_are_places, none_is_its_ancestor, code_is_whole, members_are_owned, names_differ, method_is_sound, overriding_agrees, none_is_left_abstract, none_is_both, no_task_arrays, superclasses_fit, own_classes_fit, fields_fit, constants_fit, frames_are_proper, none_is_named_as_array}
use Rattle.kilim_program.specs.Lengths.{has_length, jump_targets, ends_path, code_stands, targets_stand, code_ends, places_increase}
use Rattle.kilim_program.specs.Keeps.{Keeps}
use Rattle.kilim_theorems.specs.link_examples.Examples.{AIsLinked, a_bytes, a_file, a_class, a_constructor, a_execute, a_program}

is_read : read_class a_bytes ≡ Ok a_file
unfolding text_of has_its_code size_limit classfile_index_at member_at method_at magic_at version_at front_at names_at lists_at classfile_class_at read_class refers_well first_bad text_at constant_pool_pair_at handle_at reference_at content_at entry_at_index entries_at pool_at exceptions_at whole_parts info_of attribute_of attribute_at attributes_at code_info_of code_attribute_of code_attribute_at code_bytes_at handler_at handlers_at code_at attributes_form_of form_at many_after listed named_bytes_at named has_kind attribute_parts_index_at many two_at three_at unit_at units_of units_within
is_read = refl

links : Linked (a_file ∷ []) Plain a_program
unfolding types_on_member params_in class_text world_of qualified instrs_from decoded instr_in frames_from program_of members_named mentions_of class_names all_types declared_twice class_missing is_circular circular member_missing left_out_parts left_out both_kinds field_kinds override_differs code_broken descriptor_broken super_kind is_class_name name_broken abstract_left handler_faults problems_of link_faults first_fault targets_of is_place first_failing mid_target ends falls_off body_fault rows opcodes_form_of target_at zeros_at range_at table_at count_at opcodes_pair_at pairs_at lookup_at wide_operands_at wide_at operands_at instr_at descriptors_class_at base_at field_behind field_at param_at params_at result_at whole_field whole_method text_of has_its_code
links = refl

has_no_fault : first_fault (a_file ∷ []) Plain ≡ None
unfolding types_on_member params_in class_text world_of qualified instrs_from decoded instr_in frames_from program_of members_named mentions_of class_names all_types declared_twice class_missing is_circular circular member_missing left_out_parts left_out both_kinds field_kinds override_differs code_broken descriptor_broken super_kind is_class_name name_broken abstract_left handler_faults problems_of link_faults first_fault targets_of is_place first_failing mid_target ends falls_off body_fault rows opcodes_form_of target_at zeros_at range_at table_at count_at opcodes_pair_at pairs_at lookup_at wide_operands_at wide_at operands_at instr_at descriptors_class_at base_at field_behind field_at param_at params_at result_at whole_field whole_method text_of has_its_code
has_no_fault = refl

keeps : Keeps a_program
unfolding ids_are_places none_is_its_ancestor code_is_whole members_are_owned names_differ method_is_sound overriding_agrees none_is_left_abstract none_is_both no_task_arrays superclasses_fit own_classes_fit fields_fit constants_fit frames_are_proper none_is_named_as_array has_length jump_targets ends_path code_stands targets_stand code_ends places_increase
keeps = record {
  ids = refl;
  ancestors = refl;
  code = refl;
  frames = refl;
  frame_types = refl;
  handlers = refl;
  catches = refl;
  paused = refl;
  built_in = record { own_classes = a_class ∷ []; own_methods = a_constructor ∷ a_execute ∷ []; own_fields = []; classes = refl; methods = refl; fields = refl; bodies = refl };
  members = refl;
  names = refl;
  class_names = refl;
  methods = refl;
  both = refl;
  task_arrays = refl;
  superclasses = refl;
  own_classes = refl;
  fields = refl;
  overriding = refl;
  abstract_left = refl;
  constants = refl;
}

pub a_is_linked : AIsLinked
a_is_linked = record { read = is_read; links = links; fault = has_no_fault; keeps = keeps }
