-- Members and classes beside each other, computed.
use Rattle.std.proofs.Common.{refl}
use Rattle.kilim_link_spec.specs.Annotations.{types_on_member, params_in}
use Rattle.kilim_link_spec.specs.World.{class_text, world_of}
use Rattle.kilim_link_spec.specs.Qualified.{qualified}
use Rattle.kilim_link_spec.specs.Code.{instrs_from, decoded, instr_in}
use Rattle.kilim_link_spec.specs.Frames.{frames_from}
use Rattle.kilim_link_spec.specs.Linked.{program_of}
use Rattle.kilim_link_spec.specs.Mentions.{members_named, mentions_of, class_names, all_types}
use Rattle.kilim_link_spec.specs.Faults.{declared_twice, class_missing, is_circular, circular, member_missing, left_out_parts, left_out, both_kinds, field_kinds, override_differs, code_broken, descriptor_broken, super_kind, is_class_name, name_broken, abstract_left, problems_of, link_faults, handler_faults, first_fault}
use Rattle.kilim_class_code.specs.Code.{targets_of, is_place, first_failing, mid_target, ends, falls_off}
use Rattle.kilim_class_code.specs.Exact.{body_fault}
use Rattle.kilim_class_code.specs.opcodes.Table.{rows, form_of}
use Rattle.kilim_class_code.specs.opcodes.Reading.{target_at, zeros_at, range_at, table_at, count_at, pair_at, pairs_at, lookup_at, wide_operands_at, wide_at, operands_at, instr_at}
use Rattle.kilim_class_descriptors.specs.Reading.{class_at, base_at, field_behind, field_at, param_at, params_at, result_at, whole_field, whole_method}
use Rattle.kilim_class_file.specs.Parts.{text_of}
use Rattle.kilim_theorems.specs.link_examples.Relations.{RelationsHold}

pub relations_hold : RelationsHold
unfolding types_on_member params_in class_text world_of qualified instrs_from decoded instr_in frames_from program_of members_named mentions_of class_names all_types declared_twice class_missing is_circular circular member_missing left_out_parts left_out both_kinds field_kinds override_differs code_broken descriptor_broken super_kind is_class_name name_broken abstract_left handler_faults problems_of link_faults first_fault targets_of is_place first_failing mid_target ends falls_off body_fault rows form_of target_at zeros_at range_at table_at count_at pair_at pairs_at lookup_at wide_operands_at wide_at operands_at instr_at class_at base_at field_behind field_at param_at params_at result_at whole_field whole_method text_of
relations_hold = record {
  has_field_twice = refl;
  has_fields_of_one_name = refl;
  has_fields_and_method = refl;
  has_all_twice = refl;
  has_other_receiver = refl;
  has_same_receiver = refl;
  has_private_receiver = refl;
  has_other_parameter = refl;
  has_same_parameter = refl;
  has_stated_parameter = refl;
  has_farther_ancestor = refl;
  has_final_static = refl;
  has_final_private = refl;
  has_final_constructor = refl;
  has_start_overridden = refl;
  has_start_overridden_as_safe = refl;
  has_own_abstract_first = refl;
  has_nearest_abstract_first = refl;
  has_implemented_between = refl;
  has_abstract_again = refl;
  has_abstract_private = refl;
  has_abstract_inherits = refl;
  has_extends_pausable = refl;
  has_extends_mailbox = refl;
  has_extends_fiber = refl;
  has_extends_fiber_woven = refl;
  has_below_final = refl;
  has_extends_itself = refl;
  has_below_both = refl;
  has_private_holds_ints = refl;
  has_private_holds_privates = refl;
  has_private_holds_value = refl;
  has_double_result = refl;
  has_float_cast = refl;
  has_float_frame = refl;
  has_its_constants = refl;
  has_long_constant = refl;
  has_string_constant = refl;
  has_other_constants = refl;
  has_listed_class = refl;
  has_array_of_subclass = refl;
  has_parts_by_list = refl;
  has_first_opcode = refl;
  has_second_of_parameters = refl;
  has_free_before_cuttable = refl;
  has_qualifiers_by_kind = refl;
  has_safe_execute = refl;
  has_private_execute = refl;
  has_execute_with_fiber = refl;
  has_execute_with_fiber_plain = refl;
  has_free_constructor = refl;
  has_static_constructor = refl;
  has_pauses = refl;
  has_pauses_not = refl;
}
