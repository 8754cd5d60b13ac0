-- What the command `weave` makes of the bytes of class files: woven files with their paths, and a line for each (own).
use Rattle.std.specs.Prelude.{◌≡◌, ℕ, List, None, map}
use Rattle.std.specs.String.{string_bytes}
use Rattle.kilim_program.specs.Program.{Program}
use Rattle.kilim_class_file.specs.declared.class_file.ClassFile.{ClassFile}
use Rattle.kilim_stages.specs.Accepted.{IsAcceptedOf}
use Rattle.kilim_stages.specs.ProgramOf.{AreFiles}
use Rattle.kilim_weave.specs.Faults.{weave_fault}
use Rattle.kilim_weave_file_command.specs.declared.woven_files.made.WovenFile.{WovenFile}
use Rattle.kilim_weave_file_command.specs.woven_files.Sizes.{first_size_fault}
use Rattle.kilim_weave_file_command.specs.woven_files.WovenFiles.{AreWovenFiles, path_of, wove_lines}
use Rattle.kilim_outside.specs.written.OutputFile.{OutputFile}
use Rattle.kilim_outside.specs.written.Written.{HaveOwnPaths}

-- a woven file, below a directory
abbrev pub output_of : List ℕ → WovenFile → OutputFile
output_of to file = record { path = path_of to (string_bytes file.name); bytes = file.bytes }

-- the woven files of the class files, in their order, each with a path of its own, and their lines
pub record IsWeaving (to : List ℕ) (files : List (List ℕ)) (made : List OutputFile) (text : List ℕ) : Type 0 where
  pub woven_files : List WovenFile
  pub are_woven : AreWovenFiles files woven_files
  pub are_made : made ≡ map (output_of to) woven_files
  pub own_paths : HaveOwnPaths made
  pub is_text : text ≡ wove_lines woven_files

-- The class files link to an accepted program. None of its methods has a fault of weaving, and no woven file may get too large.
pub record IsWeavable (files : List (List ℕ)) : Type 0 where
  pub program : Program
  pub accepted : IsAcceptedOf files program
  pub none : weave_fault program ≡ None
  pub classes : List ClassFile
  pub are_files : AreFiles files classes
  pub fit : first_size_fault program classes ≡ None
