-- All 256 numbers, computed.
use Rattle.std.proofs.Common.{refl}
use Rattle.kilim_class_file.specs.Parts.{text_of}
use Rattle.kilim_theorems.specs.link_examples.Instructions.{InstructionsAgree}
use Rattle.kilim_link_spec.specs.World.{class_text}
use Rattle.kilim_class_descriptors.specs.Reading.{class_at, base_at, field_behind, field_at, whole_field}
use Rattle.kilim_class_code.specs.opcodes.Table.{rows, form_of}

pub instructions_agree : InstructionsAgree
unfolding rows form_of text_of class_text class_at base_at field_behind field_at whole_field
instructions_agree = record {
  plain = refl;
  locals = refl;
  jumps = refl;
  indexed = refl;
  codes_of_arrays = refl;
  all_plain = refl;
  each_plain = refl;
  all_locals = refl;
  each_local = refl;
  all_jumps = refl;
  each_jump = refl;
  all_fields = refl;
  each_field = refl;
  all_methods = refl;
  each_method = refl;
  all_types = refl;
  each_type = refl;
  all_constants = refl;
  each_constant = refl;
  all_elements = refl;
  each_element = refl;
  take_integer = refl;
  take_long = refl;
  take_string = refl;
  take_class = refl;
  take_array = refl;
  take_malformed = refl;
  take_field = refl;
  take_method = refl;
  take_interface_method = refl;
  take_float = refl;
  take_double = refl;
  take_text = refl;
  take_name_and_type = refl;
  take_method_type = refl;
  take_method_handle = refl;
  take_dynamic = refl;
  take_nothing = refl;
}
