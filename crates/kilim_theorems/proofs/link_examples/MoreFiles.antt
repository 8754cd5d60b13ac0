-- More examples, computed.
use Rattle.std.proofs.Common.{refl}
use Rattle.kilim_link_spec.specs.Annotations.{types_on_member, params_in}
use Rattle.kilim_link_spec.specs.World.{class_text, world_of}
use Rattle.kilim_link_spec.specs.Qualified.{qualified}
use Rattle.kilim_link_spec.specs.Code.{instrs_from, decoded, instr_in}
use Rattle.kilim_link_spec.specs.Frames.{frames_from}
use Rattle.kilim_link_spec.specs.Linked.{program_of}
use Rattle.kilim_link_spec.specs.Mentions.{members_named, mentions_of, class_names, all_types}
use Rattle.kilim_link_spec.specs.Faults.{declared_twice, class_missing, is_circular, circular, member_missing, left_out_parts, left_out, both_kinds, field_kinds, override_differs, code_broken, descriptor_broken, super_kind, is_class_name, name_broken, abstract_left, problems_of, link_faults, handler_faults, first_fault}
use Rattle.kilim_class_code.specs.Code.{targets_of, is_place, first_failing, mid_target, ends, falls_off}
use Rattle.kilim_class_code.specs.Exact.{body_fault}
use Rattle.kilim_class_code.specs.opcodes.Table.{rows, form_of}
use Rattle.kilim_class_code.specs.opcodes.Reading.{target_at, zeros_at, range_at, table_at, count_at, pair_at, pairs_at, lookup_at, wide_operands_at, wide_at, operands_at, instr_at}
use Rattle.kilim_class_descriptors.specs.Reading.{class_at, base_at, field_behind, field_at, param_at, params_at, result_at, whole_field, whole_method}
use Rattle.kilim_class_file.specs.Parts.{text_of}
use Rattle.kilim_theorems.specs.link_examples.Details.{DetailsHold}

pub details_hold : DetailsHold
unfolding types_on_member params_in class_text world_of qualified instrs_from decoded instr_in frames_from program_of members_named mentions_of class_names all_types declared_twice class_missing is_circular circular member_missing left_out_parts left_out both_kinds field_kinds override_differs code_broken descriptor_broken super_kind is_class_name name_broken abstract_left handler_faults problems_of link_faults first_fault targets_of is_place first_failing mid_target ends falls_off body_fault rows form_of target_at zeros_at range_at table_at count_at pair_at pairs_at lookup_at wide_operands_at wide_at operands_at instr_at class_at base_at field_behind field_at param_at params_at result_at whole_field whole_method text_of
details_hold = record {
  has_method_twice = refl;
  has_fiber_plain = refl;
  has_fiber_woven = refl;
  has_fiber_given = refl;
  has_fiber_given_woven = refl;
  has_task_array = refl;
  has_float_argument = refl;
  has_initializer = refl;
  has_synchronized = refl;
  has_native = refl;
  has_an_interface = refl;
  has_handlers = refl;
  has_pausable_constructor = refl;
  has_no_constant = refl;
  has_other_constant = refl;
  has_its_constant = refl;
  has_other_parameters = refl;
  has_array_owner = refl;
  has_fiber_owner = refl;
  has_fiber_owner_woven = refl;
  has_static_of_interface = refl;
  has_virtual_of_interface = refl;
  has_class_constant = refl;
  has_overridden = refl;
  has_final_overridden = refl;
  has_static_overridden = refl;
  has_private_overridden = refl;
  has_implemented = refl;
  has_private_implements = refl;
  has_inherited_abstract = refl;
  has_abstract_static = refl;
  has_final_super = refl;
  has_private_super = refl;
  has_message_super = refl;
  has_built_in_super = refl;
  has_private_holds_message = refl;
  has_message_holds_message = refl;
  has_message_holds_task = refl;
  has_too_many_slots = refl;
  has_enough_slots = refl;
  has_lone_surrogate = refl;
  has_low_surrogate = refl;
  has_surrogate_and_letter = refl;
  has_surrogate_pair = refl;
  has_array_name = refl;
  has_frames_by_slots = refl;
  has_qualifiers_of_parameters = refl;
  has_qualifiers_by_default = refl;
  has_qualifiers_of_static = refl;
  has_qualifiers_of_execute = refl;
  has_qualifiers_of_constructor = refl;
}
