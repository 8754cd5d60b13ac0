-- Searching, computed.
use Rattle.std.proofs.Common.{refl}
use Rattle.kilim_link_spec.specs.Annotations.{types_on_member, params_in}
use Rattle.kilim_link_spec.specs.World.{class_text, world_of}
use Rattle.kilim_link_spec.specs.Qualified.{qualified}
use Rattle.kilim_link_spec.specs.Code.{instrs_from, decoded, instr_in}
use Rattle.kilim_link_spec.specs.Frames.{frames_from}
use Rattle.kilim_link_spec.specs.Linked.{program_of}
use Rattle.kilim_link_spec.specs.Mentions.{members_named, mentions_of, class_names, all_types}
use Rattle.kilim_link_spec.specs.Faults.{declared_twice, class_missing, is_circular, circular, member_missing, left_out_parts, left_out, both_kinds, field_kinds, override_differs, code_broken, descriptor_broken, super_kind, is_class_name, name_broken, abstract_left, problems_of, link_faults, handler_faults, first_fault}
use Rattle.kilim_class_code.specs.Code.{targets_of, is_place, first_failing, mid_target, ends, falls_off}
use Rattle.kilim_class_code.specs.Exact.{body_fault}
use Rattle.kilim_class_code.specs.opcodes.Table.{rows, form_of}
use Rattle.kilim_class_code.specs.opcodes.Reading.{target_at, zeros_at, range_at, table_at, count_at, pair_at, pairs_at, lookup_at, wide_operands_at, wide_at, operands_at, instr_at}
use Rattle.kilim_class_descriptors.specs.Reading.{class_at, base_at, field_behind, field_at, param_at, params_at, result_at, whole_field, whole_method}
use Rattle.kilim_class_file.specs.Parts.{text_of}
use Rattle.kilim_theorems.specs.link_examples.Search.{SearchesHold}

pub searches_hold : SearchesHold
unfolding types_on_member params_in class_text world_of qualified instrs_from decoded instr_in frames_from program_of members_named mentions_of class_names all_types declared_twice class_missing is_circular circular member_missing left_out_parts left_out both_kinds field_kinds override_differs code_broken descriptor_broken super_kind is_class_name name_broken abstract_left handler_faults problems_of link_faults first_fault targets_of is_place first_failing mid_target ends falls_off body_fault rows form_of target_at zeros_at range_at table_at count_at pair_at pairs_at lookup_at wide_operands_at wide_at operands_at instr_at class_at base_at field_behind field_at param_at params_at result_at whole_field whole_method text_of
searches_hold = record {
  has_classes_in_order = refl;
  has_fields_in_order = refl;
  has_methods_in_order = refl;
  has_called_by_number = refl;
  has_nearest_of_two = refl;
  has_nearest_in_any_order = refl;
  has_private_is_found = refl;
  has_constructor_is_found = refl;
  has_constructor_of_sys = refl;
  has_static_is_found = refl;
  has_other_descriptor = refl;
  has_left_out_member = refl;
  has_other_field = refl;
  has_missing_interface = refl;
  has_missing_in_field = refl;
  has_missing_in_method = refl;
  has_missing_in_result = refl;
  has_missing_owner = refl;
  has_missing_array_owner = refl;
  has_missing_in_called = refl;
  has_missing_new = refl;
  has_missing_elements = refl;
  has_missing_cast = refl;
  has_missing_instance = refl;
  has_missing_by_place = refl;
  has_first_of_two = refl;
  has_owner_before_descriptor = refl;
  has_none_is_named = refl;
  has_caught_is_named = refl;
  has_broken_code = refl;
  has_broken_code_with_frames = refl;
  has_index_of_wrong_kind = refl;
  has_first_class_first = refl;
  has_members_by_place = refl;
  has_descriptors_by_place = refl;
  has_fields_by_place = refl;
  has_code_by_place = refl;
  has_plain_members = refl;
  has_woven_members = refl;
}
