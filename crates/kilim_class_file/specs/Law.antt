-- What reading class files comes to.
use Rattle.std.specs.Prelude.{◌≡◌, ℕ, List, Result, Ok}
use Rattle.kilim_class_grammar.specs.Format.{IsBytes, Format}
use Rattle.kilim_class_file.specs.declared.class_file.ClassFile.{ClassFile}
use Rattle.kilim_class_file.specs.Text.{class_text, PartsFit, ClassFits}
use Rattle.kilim_class_file.specs.Reading.{class_at, read_class}

-- what is read is spelled so and has a text, and what has a text is read again
pub record ClassFilesAreSpelled : Type 0 where
  pub takes : (bytes : List ℕ) (file : ClassFile) → IsBytes bytes → read_class bytes ≡ Ok file → (bytes ≡ class_text file) × ClassFits file
  pub again : (file : ClassFile) → ClassFits file → read_class (class_text file) ≡ Ok file

-- the same of the parts of a file, whatever follows
abbrev pub PartsAreSpelled : Type 0
PartsAreSpelled = (len : ℕ) → Format class_text (class_at len) PartsFit
