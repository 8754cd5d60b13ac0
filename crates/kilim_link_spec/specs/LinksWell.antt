-- Class files that link to a program without a fault.
use Rattle.std.specs.Prelude.{◌≡◌, ◌≤◌, List, [], length}
use Rattle.std.specs.List.{AllByRecursion}
use Rattle.kilim_class_file.specs.declared.class_file.ClassFile.{ClassFile}
use Rattle.kilim_class_file.specs.Text.{ClassFits}
use Rattle.kilim_program.specs.declared.class.Form.{Form}
use Rattle.kilim_program.specs.Program.{Program}
use Rattle.kilim_link_spec.specs.Faults.{link_faults}
use Rattle.kilim_link_spec.specs.Linked.{Linked}

-- The files have a text each, have no fault, and link to the program.
pub record LinksWell (files : List ClassFile) (form : Form) (p : Program) : Type 0 where
  -- not more than a program takes
  pub few : length files ≤ 1000
  -- each has a text
  pub fit : AllByRecursion ClassFits files
  pub none : link_faults files form ≡ []
  pub linked : Linked files form p
