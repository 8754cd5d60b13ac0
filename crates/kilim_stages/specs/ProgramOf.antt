-- The class files with some bytes, and the program to which they link.
use Rattle.std.specs.Prelude.{◌≡◌, ℕ, List, [], ◌∷◌}
use Rattle.kilim_class_file.specs.declared.class_file.ClassFile.{ClassFile}
use Rattle.kilim_class_file.specs.Text.{class_text, ClassFits}
use Rattle.kilim_program.specs.declared.class.Form.TheVariants.{Plain}
use Rattle.kilim_program.specs.Program.{Program}
use Rattle.kilim_link_spec.specs.Faults.{link_faults}
use Rattle.kilim_link_spec.specs.Linked.{Linked}

-- the bytes are those of this class file
pub record IsFile (bytes : List ℕ) (file : ClassFile) : Type 0 where
  pub fits : ClassFits file
  pub spelled : bytes ≡ class_text file

-- one class file for each of the bytes, in their order
abbrev pub AreFiles : List (List ℕ) → List ClassFile → Type 0
AreFiles [] [] = Unit {0}
AreFiles (bytes ∷ files) (file ∷ classes) = IsFile bytes file × AreFiles files classes
AreFiles files classes = ⊥

-- The bytes are those of class files, in their order, that link to the program as they are, without a fault.
pub record IsProgramOf (files : List (List ℕ)) (program : Program) : Type 0 where
  pub classes : List ClassFile
  pub are_files : AreFiles files classes
  pub none : link_faults classes Plain ≡ []
  pub linked : Linked classes Plain program
