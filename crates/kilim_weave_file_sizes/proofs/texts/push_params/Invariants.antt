use Rattle.std.proofs.Common.{◌≡◌, ◌++◌, drop}
use Rattle.std.specs.List.{flat_map}
use Rattle.kilim_class_descriptors.specs.Text.{field_text}
use Rattle.kilim_weave_file_sizes.proofs.texts.push_params.Given as goal

abbrev pub invariant-loop-field : goal.invariant-loop-field
invariant-loop-field l = l.out.items ++ flat_map field_text (drop l.field-index l.params) ≡ l.fn.out.items ++ flat_map field_text l.params
