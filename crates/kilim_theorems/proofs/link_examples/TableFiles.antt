-- Exception tables, computed.
use Rattle.std.proofs.Common.{refl}
use Rattle.kilim_link_spec.specs.Annotations.{types_on_member, params_in}
use Rattle.kilim_link_spec.specs.World.{class_text, world_of}
use Rattle.kilim_link_spec.specs.Qualified.{qualified}
use Rattle.kilim_link_spec.specs.Code.{instrs_from, decoded, instr_in}
use Rattle.kilim_link_spec.specs.Frames.{frames_from}
use Rattle.kilim_link_spec.specs.Linked.{program_of}
use Rattle.kilim_link_spec.specs.Mentions.{members_named, mentions_of, class_names, all_types}
use Rattle.kilim_link_spec.specs.Faults.{declared_twice, class_missing, is_circular, circular, member_missing, left_out_parts, left_out, both_kinds, field_kinds, override_differs, code_broken, descriptor_broken, super_kind, is_class_name, name_broken, abstract_left, problems_of, link_faults, handler_faults, first_fault}
use Rattle.kilim_class_code.specs.Code.{targets_of, is_place, first_failing, mid_target, ends, falls_off}
use Rattle.kilim_class_code.specs.Exact.{body_fault}
use Rattle.kilim_class_code.specs.opcodes.Table.{rows, form_of}
use Rattle.kilim_class_code.specs.opcodes.Reading.{target_at, zeros_at, range_at, table_at, count_at, pair_at, pairs_at, lookup_at, wide_operands_at, wide_at, operands_at, instr_at}
use Rattle.kilim_class_descriptors.specs.Reading.{class_at, base_at, field_behind, field_at, param_at, params_at, result_at, whole_field, whole_method}
use Rattle.kilim_class_file.specs.Parts.{text_of}
use Rattle.kilim_theorems.specs.link_examples.Tables.{TablesHold}

pub tables_hold : TablesHold
unfolding types_on_member params_in class_text world_of qualified instrs_from decoded instr_in frames_from program_of members_named mentions_of class_names all_types declared_twice class_missing is_circular circular member_missing left_out_parts left_out both_kinds field_kinds override_differs code_broken descriptor_broken super_kind is_class_name name_broken abstract_left handler_faults problems_of link_faults first_fault targets_of is_place first_failing mid_target ends falls_off body_fault rows form_of target_at zeros_at range_at table_at count_at pair_at pairs_at lookup_at wide_operands_at wide_at operands_at instr_at class_at base_at field_behind field_at param_at params_at result_at whole_field whole_method text_of
tables_hold = record {
  places_stand = (refl, refl, refl, refl);
  ranges_are_bad = (refl, refl, refl, refl, refl, refl);
  handlers_are_bad = (refl, refl);
  first_is_told = refl;
  types_stand = (refl, refl, refl);
  table_is_linked = refl;
}
