-- Woven class files, computed: a task that prints, and one that yields again and again, which links to its woven program.
use Rattle.std.specs.Prelude.{◌≡◌, [], ◌∷◌, None, codes}
use Rattle.kilim_program.specs.declared.class.Form.TheVariants.{Woven}
use Rattle.kilim_theorems.specs.link_examples.Examples.{a_file, a_program}
use Rattle.kilim_theorems.specs.link_examples.Programs.{woven_program}
use Rattle.kilim_link_spec.specs.Faults.{first_fault}
use Rattle.kilim_link_spec.specs.Linked.{Linked}
use Rattle.kilim_theorems.specs.woven_files.form.Samples.{a_expected, a_pairs, loop_expected, loop_file, loop_pairs, loop_program}
use Rattle.kilim_weave_file_spec.specs.Sizes.{pool_sum}
use Rattle.kilim_weave_file_spec.specs.Texts.{woven_descriptor}
use Rattle.kilim_weave_file_spec.specs.WovenFile.{woven_file}

pub record ExamplesHold : Type 0 where
  -- the fiber is the last parameter; a class name may have a closing parenthesis
  pub no_arguments : woven_descriptor (codes "()V") ≡ codes "(Lkilim/Fiber;)V"
  pub parenthesis : woven_descriptor (codes "(La)b;)La)b;") ≡ codes "(La)b;Lkilim/Fiber;)La)b;"
  -- one entry more, another descriptor, two locals
  pub a_is_woven : woven_file woven_program a_file a_pairs ≡ a_expected
  -- 20 indices, 64 others, and 8 and twice a local and a word of the stack
  pub a_sum : pool_sum a_program a_file a_pairs ≡ 96
  -- 55 bytes, three full frames, 21 entries more
  pub loop_is_woven : woven_file loop_program loop_file loop_pairs ≡ loop_expected
  pub loop_links : Linked (loop_expected ∷ []) Woven loop_program
  pub loop_has_no_fault : first_fault (loop_expected ∷ []) Woven ≡ None
