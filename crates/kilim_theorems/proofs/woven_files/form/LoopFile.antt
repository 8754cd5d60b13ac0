-- The task that yields, woven, computed.
use Rattle.std.proofs.Common.{◌≡◌, refl}
use Rattle.kilim_class_code.specs.Code.{code_text, targets_of, is_place, first_failing, mid_target, ends, falls_off}
use Rattle.kilim_class_code.specs.Exact.{body_fault}
use Rattle.kilim_class_file.specs.Parts.{text_of}
use Rattle.kilim_link_spec.specs.Code.{instrs_from, decoded}
use Rattle.kilim_class_descriptors.specs.Reading.{whole_method, params_at, param_at, field_at, field_behind, base_at, class_at, result_at}
use Rattle.kilim_class_code.specs.opcodes.Instr.{instr_text, operands_text, number_of, target_text, table_text, padding_text, integer_text}
use Rattle.kilim_class_code.specs.opcodes.Reading.{instr_at, operands_at, target_at, zeros_at, range_at, table_at, wide_at, wide_operands_at}
use Rattle.kilim_class_code.specs.opcodes.Table.{rows, form_of}
use Rattle.kilim_class_making.specs.pool_needs.Adding.{found, with_text, with_pair, with_ref, with_class, with_need, with_needs}
use Rattle.kilim_weave_file_spec.specs.FullFrames.{full_frames}
use Rattle.kilim_weave_file_spec.specs.Raw.{added_raw, moved_raw, raw_code}
use Rattle.kilim_weave_file_spec.specs.Texts.{woven_descriptor}
use Rattle.kilim_weave_file_spec.specs.WovenFile.{woven_file}
use Rattle.kilim_theorems.specs.woven_files.form.Samples.{loop_program, loop_file, loop_pairs, loop_expected}

pub loop_is_woven : woven_file loop_program loop_file loop_pairs ≡ loop_expected
unfolding padding_text integer_text woven_file with_needs with_need with_text with_class with_pair with_ref found woven_descriptor text_of whole_method params_at param_at field_at field_behind base_at class_at result_at full_frames added_raw moved_raw raw_code code_text instr_text operands_text number_of target_text table_text instrs_from decoded instr_at operands_at target_at zeros_at range_at table_at wide_at wide_operands_at rows form_of targets_of is_place first_failing mid_target ends falls_off body_fault
loop_is_woven = refl
