-- The class A, woven, computed.
use Rattle.std.proofs.Common.{◌≡◌, codes, refl}
use Rattle.kilim_class_file.specs.Parts.{text_of}
use Rattle.kilim_theorems.specs.link_examples.Examples.{a_file}
use Rattle.kilim_theorems.specs.link_examples.Programs.{woven_program}
use Rattle.kilim_class_descriptors.specs.Reading.{whole_method, params_at, param_at, field_at, field_behind, base_at, class_at, result_at}
use Rattle.kilim_class_making.specs.pool_needs.Adding.{found, with_text, with_need, with_needs}
use Rattle.kilim_weave_file_spec.specs.Texts.{woven_descriptor}
use Rattle.kilim_weave_file_spec.specs.WovenFile.{woven_file}
use Rattle.kilim_theorems.specs.link_examples.Examples.{a_program}
use Rattle.kilim_theorems.specs.woven_files.form.Samples.{a_pairs, a_expected}
use Rattle.kilim_weave_file_spec.specs.Sizes.{pool_sum}

pub no_arguments : woven_descriptor (codes "()V") ≡ codes "(Lkilim/Fiber;)V"
unfolding woven_descriptor whole_method params_at param_at field_at field_behind base_at class_at result_at
no_arguments = refl

pub parenthesis : woven_descriptor (codes "(La)b;)La)b;") ≡ codes "(La)b;Lkilim/Fiber;)La)b;"
unfolding woven_descriptor whole_method params_at param_at field_at field_behind base_at class_at result_at
parenthesis = refl

pub a_is_woven : woven_file woven_program a_file a_pairs ≡ a_expected
unfolding woven_file with_needs with_need with_text found woven_descriptor text_of whole_method params_at param_at field_at field_behind base_at class_at result_at
a_is_woven = refl

pub a_sum : pool_sum a_program a_file a_pairs ≡ 96
unfolding pool_sum
a_sum = refl
