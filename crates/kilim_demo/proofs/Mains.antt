-- The class files of main classes are read again, computed: for each number of stages.
use Rattle.std.proofs.Common.{◌≡◌, ℕ, ◌+◌, true, List, ◌++◌, take, drop, refl}
use Rattle.std.specs.Fmt.{digits}
use Rattle.std.specs.Prelude.{Ok}
use Rattle.kilim_class_attributes.specs.parts.Indices.{has_kind, index_at as attribute_parts_index_at}
use Rattle.kilim_class_attributes.specs.parts.Names.{named}
use Rattle.kilim_class_attributes.specs.parts.Annotations.{value_behind, value_at, annotation_at, part_at, parts_at}
use Rattle.kilim_class_attributes.specs.parts.Choices.{sentence_at}
use Rattle.kilim_class_attributes.specs.parts.Frames.{type_behind, type_at, delta_and_type_at, counted_types_at, appended_at, full_at, frame_behind, frame_at, frames_at}
use Rattle.kilim_class_attributes.specs.Attributes.{exceptions_at, whole_parts, info_of, attribute_of, attribute_at, attributes_at}
use Rattle.kilim_class_attributes.specs.Codes.{code_info_of, code_attribute_of, code_attribute_at, code_bytes_at, handler_at, handlers_at, code_at}
use Rattle.kilim_class_attributes.specs.Forms.{form_at, form_of as attributes_form_of}
use Rattle.kilim_class_attributes.specs.Lists.{many_after, listed, named_bytes_at}
use Rattle.kilim_class_file.specs.Parts.{text_of, has_its_code}
use Rattle.kilim_class_file.specs.Reading.{member_at, method_at, magic_at, version_at, front_at, names_at, lists_at, read_class, index_at as classfile_index_at, class_at as classfile_class_at}
use Rattle.kilim_class_file.specs.Text.{class_text, size_limit}
use Rattle.kilim_class_pool.specs.Entries.{refers_well, first_bad}
use Rattle.kilim_class_pool.specs.Reading.{text_at, handle_at, reference_at, content_at, entry_at_index, entries_at, pool_at, pair_at as constant_pool_pair_at}
use Rattle.kilim_class_grammar.specs.Reader.{many}
use Rattle.kilim_class_grammar.specs.Spelling.{u2}
use Rattle.kilim_class_mutf8.specs.Whole.{units_of, units_within}
use Rattle.kilim_class_mutf8.specs.Reading.{two_at, three_at, unit_at}
use Rattle.kilim_demo.specs.MainClass.{beginning, printing, putting, main_code, main_constructor, main_entries, main_file, main_frames, main_pool}
use Rattle.kilim_demo.specs.Stage.{stage_name}
use Rattle.kilim_demo.proofs.Bytes.{are_small}

-- the bytes with 0 for what isn't known
unfoldable pub known : ℕ → List ℕ
known stages = class_text (main_file stages 0)

-- the number of messages stands at a place of these bytes, and once more behind that
abbrev pub parts_of : List ℕ → ℕ → ℕ → List ℕ
parts_of bytes at m = take at bytes ++ (u2 m ++ (take 47 (drop (at + 2) bytes) ++ (u2 m ++ drop (at + 51) bytes)))

pub record IsRead (stages at : ℕ) (m : ℕ) : Type 0 where
  pub parts : class_text (main_file stages m) ≡ parts_of (known stages) at m
  pub bytes : are_small (known stages) ≡ true
  pub read : read_class (class_text (main_file stages m)) ≡ Ok (main_file stages m)

pub read_1 : (m : ℕ) → IsRead 1 528 m
unfolding known main_code main_constructor main_entries main_file main_frames main_pool beginning putting printing stage_name digits text_of has_its_code size_limit classfile_index_at member_at method_at magic_at version_at front_at names_at lists_at classfile_class_at read_class refers_well first_bad text_at constant_pool_pair_at handle_at reference_at content_at entry_at_index entries_at pool_at exceptions_at whole_parts info_of attribute_of attribute_at attributes_at code_info_of code_attribute_of code_attribute_at code_bytes_at handler_at handlers_at code_at attributes_form_of form_at many_after listed named_bytes_at named has_kind attribute_parts_index_at many two_at three_at unit_at units_of units_within value_behind value_at annotation_at part_at parts_at sentence_at type_behind type_at delta_and_type_at counted_types_at appended_at full_at frame_behind frame_at frames_at
read_1 m = record { parts = refl; bytes = refl; read = refl }

pub read_2 : (m : ℕ) → IsRead 2 566 m
unfolding known main_code main_constructor main_entries main_file main_frames main_pool beginning putting printing stage_name digits text_of has_its_code size_limit classfile_index_at member_at method_at magic_at version_at front_at names_at lists_at classfile_class_at read_class refers_well first_bad text_at constant_pool_pair_at handle_at reference_at content_at entry_at_index entries_at pool_at exceptions_at whole_parts info_of attribute_of attribute_at attributes_at code_info_of code_attribute_of code_attribute_at code_bytes_at handler_at handlers_at code_at attributes_form_of form_at many_after listed named_bytes_at named has_kind attribute_parts_index_at many two_at three_at unit_at units_of units_within value_behind value_at annotation_at part_at parts_at sentence_at type_behind type_at delta_and_type_at counted_types_at appended_at full_at frame_behind frame_at frames_at
read_2 m = record { parts = refl; bytes = refl; read = refl }

pub read_3 : (m : ℕ) → IsRead 3 604 m
unfolding known main_code main_constructor main_entries main_file main_frames main_pool beginning putting printing stage_name digits text_of has_its_code size_limit classfile_index_at member_at method_at magic_at version_at front_at names_at lists_at classfile_class_at read_class refers_well first_bad text_at constant_pool_pair_at handle_at reference_at content_at entry_at_index entries_at pool_at exceptions_at whole_parts info_of attribute_of attribute_at attributes_at code_info_of code_attribute_of code_attribute_at code_bytes_at handler_at handlers_at code_at attributes_form_of form_at many_after listed named_bytes_at named has_kind attribute_parts_index_at many two_at three_at unit_at units_of units_within value_behind value_at annotation_at part_at parts_at sentence_at type_behind type_at delta_and_type_at counted_types_at appended_at full_at frame_behind frame_at frames_at
read_3 m = record { parts = refl; bytes = refl; read = refl }

pub read_4 : (m : ℕ) → IsRead 4 642 m
unfolding known main_code main_constructor main_entries main_file main_frames main_pool beginning putting printing stage_name digits text_of has_its_code size_limit classfile_index_at member_at method_at magic_at version_at front_at names_at lists_at classfile_class_at read_class refers_well first_bad text_at constant_pool_pair_at handle_at reference_at content_at entry_at_index entries_at pool_at exceptions_at whole_parts info_of attribute_of attribute_at attributes_at code_info_of code_attribute_of code_attribute_at code_bytes_at handler_at handlers_at code_at attributes_form_of form_at many_after listed named_bytes_at named has_kind attribute_parts_index_at many two_at three_at unit_at units_of units_within value_behind value_at annotation_at part_at parts_at sentence_at type_behind type_at delta_and_type_at counted_types_at appended_at full_at frame_behind frame_at frames_at
read_4 m = record { parts = refl; bytes = refl; read = refl }

pub read_5 : (m : ℕ) → IsRead 5 680 m
unfolding known main_code main_constructor main_entries main_file main_frames main_pool beginning putting printing stage_name digits text_of has_its_code size_limit classfile_index_at member_at method_at magic_at version_at front_at names_at lists_at classfile_class_at read_class refers_well first_bad text_at constant_pool_pair_at handle_at reference_at content_at entry_at_index entries_at pool_at exceptions_at whole_parts info_of attribute_of attribute_at attributes_at code_info_of code_attribute_of code_attribute_at code_bytes_at handler_at handlers_at code_at attributes_form_of form_at many_after listed named_bytes_at named has_kind attribute_parts_index_at many two_at three_at unit_at units_of units_within value_behind value_at annotation_at part_at parts_at sentence_at type_behind type_at delta_and_type_at counted_types_at appended_at full_at frame_behind frame_at frames_at
read_5 m = record { parts = refl; bytes = refl; read = refl }

pub read_6 : (m : ℕ) → IsRead 6 718 m
unfolding known main_code main_constructor main_entries main_file main_frames main_pool beginning putting printing stage_name digits text_of has_its_code size_limit classfile_index_at member_at method_at magic_at version_at front_at names_at lists_at classfile_class_at read_class refers_well first_bad text_at constant_pool_pair_at handle_at reference_at content_at entry_at_index entries_at pool_at exceptions_at whole_parts info_of attribute_of attribute_at attributes_at code_info_of code_attribute_of code_attribute_at code_bytes_at handler_at handlers_at code_at attributes_form_of form_at many_after listed named_bytes_at named has_kind attribute_parts_index_at many two_at three_at unit_at units_of units_within value_behind value_at annotation_at part_at parts_at sentence_at type_behind type_at delta_and_type_at counted_types_at appended_at full_at frame_behind frame_at frames_at
read_6 m = record { parts = refl; bytes = refl; read = refl }

pub read_7 : (m : ℕ) → IsRead 7 756 m
unfolding known main_code main_constructor main_entries main_file main_frames main_pool beginning putting printing stage_name digits text_of has_its_code size_limit classfile_index_at member_at method_at magic_at version_at front_at names_at lists_at classfile_class_at read_class refers_well first_bad text_at constant_pool_pair_at handle_at reference_at content_at entry_at_index entries_at pool_at exceptions_at whole_parts info_of attribute_of attribute_at attributes_at code_info_of code_attribute_of code_attribute_at code_bytes_at handler_at handlers_at code_at attributes_form_of form_at many_after listed named_bytes_at named has_kind attribute_parts_index_at many two_at three_at unit_at units_of units_within value_behind value_at annotation_at part_at parts_at sentence_at type_behind type_at delta_and_type_at counted_types_at appended_at full_at frame_behind frame_at frames_at
read_7 m = record { parts = refl; bytes = refl; read = refl }

pub read_8 : (m : ℕ) → IsRead 8 794 m
unfolding known main_code main_constructor main_entries main_file main_frames main_pool beginning putting printing stage_name digits text_of has_its_code size_limit classfile_index_at member_at method_at magic_at version_at front_at names_at lists_at classfile_class_at read_class refers_well first_bad text_at constant_pool_pair_at handle_at reference_at content_at entry_at_index entries_at pool_at exceptions_at whole_parts info_of attribute_of attribute_at attributes_at code_info_of code_attribute_of code_attribute_at code_bytes_at handler_at handlers_at code_at attributes_form_of form_at many_after listed named_bytes_at named has_kind attribute_parts_index_at many two_at three_at unit_at units_of units_within value_behind value_at annotation_at part_at parts_at sentence_at type_behind type_at delta_and_type_at counted_types_at appended_at full_at frame_behind frame_at frames_at
read_8 m = record { parts = refl; bytes = refl; read = refl }

pub read_9 : (m : ℕ) → IsRead 9 832 m
unfolding known main_code main_constructor main_entries main_file main_frames main_pool beginning putting printing stage_name digits text_of has_its_code size_limit classfile_index_at member_at method_at magic_at version_at front_at names_at lists_at classfile_class_at read_class refers_well first_bad text_at constant_pool_pair_at handle_at reference_at content_at entry_at_index entries_at pool_at exceptions_at whole_parts info_of attribute_of attribute_at attributes_at code_info_of code_attribute_of code_attribute_at code_bytes_at handler_at handlers_at code_at attributes_form_of form_at many_after listed named_bytes_at named has_kind attribute_parts_index_at many two_at three_at unit_at units_of units_within value_behind value_at annotation_at part_at parts_at sentence_at type_behind type_at delta_and_type_at counted_types_at appended_at full_at frame_behind frame_at frames_at
read_9 m = record { parts = refl; bytes = refl; read = refl }

pub read_10 : (m : ℕ) → IsRead 10 871 m
unfolding known main_code main_constructor main_entries main_file main_frames main_pool beginning putting printing stage_name digits text_of has_its_code size_limit classfile_index_at member_at method_at magic_at version_at front_at names_at lists_at classfile_class_at read_class refers_well first_bad text_at constant_pool_pair_at handle_at reference_at content_at entry_at_index entries_at pool_at exceptions_at whole_parts info_of attribute_of attribute_at attributes_at code_info_of code_attribute_of code_attribute_at code_bytes_at handler_at handlers_at code_at attributes_form_of form_at many_after listed named_bytes_at named has_kind attribute_parts_index_at many two_at three_at unit_at units_of units_within value_behind value_at annotation_at part_at parts_at sentence_at type_behind type_at delta_and_type_at counted_types_at appended_at full_at frame_behind frame_at frames_at
read_10 m = record { parts = refl; bytes = refl; read = refl }

pub read_11 : (m : ℕ) → IsRead 11 910 m
unfolding known main_code main_constructor main_entries main_file main_frames main_pool beginning putting printing stage_name digits text_of has_its_code size_limit classfile_index_at member_at method_at magic_at version_at front_at names_at lists_at classfile_class_at read_class refers_well first_bad text_at constant_pool_pair_at handle_at reference_at content_at entry_at_index entries_at pool_at exceptions_at whole_parts info_of attribute_of attribute_at attributes_at code_info_of code_attribute_of code_attribute_at code_bytes_at handler_at handlers_at code_at attributes_form_of form_at many_after listed named_bytes_at named has_kind attribute_parts_index_at many two_at three_at unit_at units_of units_within value_behind value_at annotation_at part_at parts_at sentence_at type_behind type_at delta_and_type_at counted_types_at appended_at full_at frame_behind frame_at frames_at
read_11 m = record { parts = refl; bytes = refl; read = refl }

pub read_12 : (m : ℕ) → IsRead 12 949 m
unfolding known main_code main_constructor main_entries main_file main_frames main_pool beginning putting printing stage_name digits text_of has_its_code size_limit classfile_index_at member_at method_at magic_at version_at front_at names_at lists_at classfile_class_at read_class refers_well first_bad text_at constant_pool_pair_at handle_at reference_at content_at entry_at_index entries_at pool_at exceptions_at whole_parts info_of attribute_of attribute_at attributes_at code_info_of code_attribute_of code_attribute_at code_bytes_at handler_at handlers_at code_at attributes_form_of form_at many_after listed named_bytes_at named has_kind attribute_parts_index_at many two_at three_at unit_at units_of units_within value_behind value_at annotation_at part_at parts_at sentence_at type_behind type_at delta_and_type_at counted_types_at appended_at full_at frame_behind frame_at frames_at
read_12 m = record { parts = refl; bytes = refl; read = refl }

pub read_13 : (m : ℕ) → IsRead 13 988 m
unfolding known main_code main_constructor main_entries main_file main_frames main_pool beginning putting printing stage_name digits text_of has_its_code size_limit classfile_index_at member_at method_at magic_at version_at front_at names_at lists_at classfile_class_at read_class refers_well first_bad text_at constant_pool_pair_at handle_at reference_at content_at entry_at_index entries_at pool_at exceptions_at whole_parts info_of attribute_of attribute_at attributes_at code_info_of code_attribute_of code_attribute_at code_bytes_at handler_at handlers_at code_at attributes_form_of form_at many_after listed named_bytes_at named has_kind attribute_parts_index_at many two_at three_at unit_at units_of units_within value_behind value_at annotation_at part_at parts_at sentence_at type_behind type_at delta_and_type_at counted_types_at appended_at full_at frame_behind frame_at frames_at
read_13 m = record { parts = refl; bytes = refl; read = refl }

pub read_14 : (m : ℕ) → IsRead 14 1027 m
unfolding known main_code main_constructor main_entries main_file main_frames main_pool beginning putting printing stage_name digits text_of has_its_code size_limit classfile_index_at member_at method_at magic_at version_at front_at names_at lists_at classfile_class_at read_class refers_well first_bad text_at constant_pool_pair_at handle_at reference_at content_at entry_at_index entries_at pool_at exceptions_at whole_parts info_of attribute_of attribute_at attributes_at code_info_of code_attribute_of code_attribute_at code_bytes_at handler_at handlers_at code_at attributes_form_of form_at many_after listed named_bytes_at named has_kind attribute_parts_index_at many two_at three_at unit_at units_of units_within value_behind value_at annotation_at part_at parts_at sentence_at type_behind type_at delta_and_type_at counted_types_at appended_at full_at frame_behind frame_at frames_at
read_14 m = record { parts = refl; bytes = refl; read = refl }

pub read_15 : (m : ℕ) → IsRead 15 1066 m
unfolding known main_code main_constructor main_entries main_file main_frames main_pool beginning putting printing stage_name digits text_of has_its_code size_limit classfile_index_at member_at method_at magic_at version_at front_at names_at lists_at classfile_class_at read_class refers_well first_bad text_at constant_pool_pair_at handle_at reference_at content_at entry_at_index entries_at pool_at exceptions_at whole_parts info_of attribute_of attribute_at attributes_at code_info_of code_attribute_of code_attribute_at code_bytes_at handler_at handlers_at code_at attributes_form_of form_at many_after listed named_bytes_at named has_kind attribute_parts_index_at many two_at three_at unit_at units_of units_within value_behind value_at annotation_at part_at parts_at sentence_at type_behind type_at delta_and_type_at counted_types_at appended_at full_at frame_behind frame_at frames_at
read_15 m = record { parts = refl; bytes = refl; read = refl }
