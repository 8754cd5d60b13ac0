-- The class files of the first stage are read again, computed: with each operation.
use Rattle.std.proofs.Common.{◌≡◌, ℕ, ◌+◌, true, List, ◌∷◌, ◌++◌, take, drop, refl}
use Rattle.std.specs.Fmt.{digits}
use Rattle.std.specs.Prelude.{Ok}
use Rattle.kilim_class_attributes.specs.parts.Indices.{has_kind, index_at as attribute_parts_index_at}
use Rattle.kilim_class_attributes.specs.parts.Names.{named}
use Rattle.kilim_class_attributes.specs.parts.Annotations.{value_behind, value_at, annotation_at, part_at, parts_at}
use Rattle.kilim_class_attributes.specs.parts.Choices.{sentence_at}
use Rattle.kilim_class_attributes.specs.parts.Frames.{type_behind, type_at, delta_and_type_at, counted_types_at, appended_at, full_at, frame_behind, frame_at, frames_at}
use Rattle.kilim_class_attributes.specs.Attributes.{exceptions_at, whole_parts, info_of, attribute_of, attribute_at, attributes_at}
use Rattle.kilim_class_attributes.specs.Codes.{code_info_of, code_attribute_of, code_attribute_at, code_bytes_at, handler_at, handlers_at, code_at}
use Rattle.kilim_class_attributes.specs.Forms.{form_at, form_of as attributes_form_of}
use Rattle.kilim_class_attributes.specs.Lists.{many_after, listed, named_bytes_at}
use Rattle.kilim_class_file.specs.declared.class_file.ClassFile.{ClassFile}
use Rattle.kilim_class_file.specs.Parts.{text_of, has_its_code}
use Rattle.kilim_class_file.specs.Reading.{member_at, method_at, magic_at, version_at, front_at, names_at, lists_at, read_class, index_at as classfile_index_at, class_at as classfile_class_at}
use Rattle.kilim_class_file.specs.Text.{class_text, size_limit}
use Rattle.kilim_class_pool.specs.Entries.{refers_well, first_bad}
use Rattle.kilim_class_pool.specs.Reading.{text_at, handle_at, reference_at, content_at, entry_at_index, entries_at, pool_at, pair_at as constant_pool_pair_at}
use Rattle.kilim_class_grammar.specs.Reader.{many}
use Rattle.kilim_class_grammar.specs.Spelling.{u2}
use Rattle.kilim_class_mutf8.specs.Whole.{units_of, units_within}
use Rattle.kilim_class_mutf8.specs.Reading.{two_at, three_at, unit_at}
use Rattle.kilim_demo.specs.declared.draws.Operation.{Operation}
use Rattle.kilim_demo.specs.declared.draws.Operation.TheVariants.{Adds, Prepends, Cuts}
use Rattle.kilim_demo.specs.Stage.{giving, operation_code, taking, stage_code, stage_constructor, stage_entries, stage_file, stage_frames, stage_name, stage_pool}
use Rattle.kilim_demo.proofs.Bytes.{are_small}

abbrev pub file_of : ℕ → Operation → ℕ → ℕ → ClassFile
file_of k op m c = stage_file k m (record { operation = op; number = c })

-- the bytes with 0 for what isn't known
unfoldable pub known : ℕ → Operation → List ℕ
known k op = class_text (file_of k op 0 0)

-- the number of messages stands at a place of these bytes, and the number of the stage not far behind
abbrev pub parts_of : List ℕ → ℕ → Operation → ℕ → ℕ → List ℕ
parts_of bytes at Adds m c = take at bytes ++ (u2 m ++ (take 20 (drop (at + 2) bytes) ++ (c ∷ drop (at + 23) bytes)))
parts_of bytes at Prepends m c = take at bytes ++ (u2 m ++ (take 19 (drop (at + 2) bytes) ++ (c ∷ drop (at + 22) bytes)))
parts_of bytes at Cuts m c = take at bytes ++ (u2 m ++ drop (at + 2) bytes)

pub record IsRead (k at : ℕ) (op : Operation) (m c : ℕ) : Type 0 where
  pub parts : class_text (file_of k op m c) ≡ parts_of (known k op) at op m c
  pub bytes : are_small (known k op) ≡ true
  pub read : read_class (class_text (file_of k op m c)) ≡ Ok (file_of k op m c)

pub read_1 : (op : Operation) (m c : ℕ) → IsRead 1 482 op m c
unfolding known stage_code stage_constructor stage_entries stage_file stage_frames stage_name stage_pool taking giving operation_code digits text_of has_its_code size_limit classfile_index_at member_at method_at magic_at version_at front_at names_at lists_at classfile_class_at read_class refers_well first_bad text_at constant_pool_pair_at handle_at reference_at content_at entry_at_index entries_at pool_at exceptions_at whole_parts info_of attribute_of attribute_at attributes_at code_info_of code_attribute_of code_attribute_at code_bytes_at handler_at handlers_at code_at attributes_form_of form_at many_after listed named_bytes_at named has_kind attribute_parts_index_at many two_at three_at unit_at units_of units_within value_behind value_at annotation_at part_at parts_at sentence_at type_behind type_at delta_and_type_at counted_types_at appended_at full_at frame_behind frame_at frames_at
read_1 Adds m c = record { parts = refl; bytes = refl; read = refl }
read_1 Prepends m c = record { parts = refl; bytes = refl; read = refl }
read_1 Cuts m c = record { parts = refl; bytes = refl; read = refl }
