-- Edges, computed.
use Rattle.std.proofs.Common.{refl}
use Rattle.kilim_link_spec.specs.Annotations.{types_on_member, params_in}
use Rattle.kilim_link_spec.specs.World.{class_text, world_of}
use Rattle.kilim_link_spec.specs.Qualified.{qualified}
use Rattle.kilim_link_spec.specs.Code.{instrs_from, decoded, instr_in}
use Rattle.kilim_link_spec.specs.Frames.{frames_from}
use Rattle.kilim_link_spec.specs.Linked.{program_of}
use Rattle.kilim_link_spec.specs.Mentions.{members_named, mentions_of, class_names, all_types}
use Rattle.kilim_link_spec.specs.Faults.{declared_twice, class_missing, is_circular, circular, member_missing, left_out_parts, left_out, both_kinds, field_kinds, override_differs, code_broken, descriptor_broken, super_kind, is_class_name, name_broken, abstract_left, problems_of, link_faults, handler_faults, first_fault}
use Rattle.kilim_class_code.specs.Code.{targets_of, is_place, first_failing, mid_target, ends, falls_off}
use Rattle.kilim_class_code.specs.Exact.{body_fault}
use Rattle.kilim_class_code.specs.opcodes.Table.{rows, form_of}
use Rattle.kilim_class_code.specs.opcodes.Reading.{target_at, zeros_at, range_at, table_at, count_at, pair_at, pairs_at, lookup_at, wide_operands_at, wide_at, operands_at, instr_at}
use Rattle.kilim_class_descriptors.specs.Reading.{class_at, base_at, field_behind, field_at, param_at, params_at, result_at, whole_field, whole_method}
use Rattle.kilim_class_file.specs.Parts.{text_of}
use Rattle.kilim_theorems.specs.link_examples.Edges.{EdgesHold}

pub edges_hold : EdgesHold
unfolding types_on_member params_in class_text world_of qualified instrs_from decoded instr_in frames_from program_of members_named mentions_of class_names all_types declared_twice class_missing is_circular circular member_missing left_out_parts left_out both_kinds field_kinds override_differs code_broken descriptor_broken super_kind is_class_name name_broken abstract_left handler_faults problems_of link_faults first_fault targets_of is_place first_failing mid_target ends falls_off body_fault rows form_of target_at zeros_at range_at table_at count_at pair_at pairs_at lookup_at wide_operands_at wide_at operands_at instr_at class_at base_at field_behind field_at param_at params_at result_at whole_field whole_method text_of
edges_hold = record {
  has_target_inside = refl;
  has_unknown_number = refl;
  has_cut_code = refl;
  has_unknown_before_target = refl;
  has_target_before_end = refl;
  has_unknown_before_left_out = refl;
  has_left_out_before_unknown = refl;
  has_float_array = refl;
  has_end_before_index = refl;
  has_index_zero = refl;
  has_index_past_the_end = refl;
  has_second_of_long = refl;
  has_long_by_ldc = refl;
  has_float_by_ldc = refl;
  has_new_array = refl;
  has_new_malformed_array = refl;
  has_field_by_method = refl;
  has_ints_of_static = refl;
  has_too_many_of_static = refl;
  has_ints_of_instance = refl;
  has_too_many_of_instance = refl;
  has_too_many_of_abstract = refl;
  has_void_parameter = refl;
  has_dims_255 = refl;
  has_dims_256 = refl;
  has_cast_to_255 = refl;
  has_cast_to_256 = refl;
  has_elements_of_255 = refl;
  has_called_with_255 = refl;
  has_called_with_256 = refl;
  has_malformed_owner = refl;
  has_name_with_dot = refl;
  has_name_with_semicolon = refl;
  has_name_with_bracket = refl;
  has_name_behind_slash = refl;
  has_name_before_slash = refl;
  has_no_name = refl;
  has_slash_alone = refl;
  has_other_characters = refl;
  has_of_a_package_of_ours = refl;
  has_name_of_65000 = refl;
  has_name_of_65001 = refl;
  has_wide_name_of_65000 = refl;
  has_wide_name_of_65001 = refl;
  has_frames_of_static = refl;
}
