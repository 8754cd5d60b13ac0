-- The reports of class files that aren't woven. The first stage that has a fault is reported.
use Rattle.std.specs.Prelude.{◌≡◌, ℕ, List, ◌++◌, Some, None, codes, ◌⊎◌}
use Rattle.std.specs.Fmt.{decimal}
use Rattle.kilim_program.specs.Program.{Program}
use Rattle.kilim_class_file.specs.declared.class_file.ClassFile.{ClassFile}
use Rattle.kilim_reports.specs.Names.{member_name_text}
use Rattle.kilim_stages.specs.Accepted.{IsAcceptedOf}
use Rattle.kilim_stages.specs.ProgramOf.{AreFiles}
use Rattle.kilim_stages.specs.Reports.{IsStageReport}
use Rattle.kilim_weave_file.specs.declared.fault.ApplyFault.{ApplyFault}
use Rattle.kilim_weave_file.specs.declared.fault.ApplyFault.TheVariants as size
use Rattle.kilim_weave.specs.Faults.{weave_fault}
use Rattle.kilim_weave_file_command.specs.woven_files.Sizes.{first_size_fault}
use Rattle.kilim_stages.specs.woven_stage.Reports.{IsMethodReport}

-- ---- lines, each with its line feed

-- the count of indices that the pool may reach
unfoldable pub pool_line : (class : List ℕ) (sum : ℕ) → List ℕ
pool_line class sum = codes "weave " ++ (member_name_text class ++ (codes " pool " ++ (decimal sum ++ codes "\n")))

-- the length in bytes that the file may reach
unfoldable pub file_line : (class : List ℕ) (size : ℕ) → List ℕ
file_line class size = codes "weave " ++ (member_name_text class ++ (codes " file " ++ (decimal size ++ codes "\n")))

abbrev pub IsSizeLine : (class : List ℕ) → ApplyFault → List ℕ → Type 0
IsSizeLine class (size.PoolFull sum) text = text ≡ pool_line class sum
IsSizeLine class (size.FileTooLarge size) text = text ≡ file_line class size
IsSizeLine class size.Memory text = ⊥

-- ---- reports

-- The program can be woven, and a woven file may get too large: the line of the first.
pub record IsSizeReport (files : List (List ℕ)) (text : List ℕ) : Type 0 where
  pub program : Program
  pub accepted : IsAcceptedOf files program
  pub none : weave_fault program ≡ None
  pub classes : List ClassFile
  pub are_files : AreFiles files classes
  pub class : List ℕ
  pub fault : ApplyFault
  pub first : first_size_fault program classes ≡ Some (class, fault)
  pub is_text : IsSizeLine class fault text

-- that of the stages before, or of the first method that can't be woven, or of the first file that may get too large
abbrev pub IsWeaveReport : List (List ℕ) → List (List ℕ) → List ℕ → Type 0
IsWeaveReport names files text = IsStageReport names files text ⊎ (IsMethodReport files text ⊎ IsSizeReport files text)
