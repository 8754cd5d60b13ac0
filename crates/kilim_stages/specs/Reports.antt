-- The reports of the stages that come before a program is accepted: reading, linking, typing, and the rules of isolation and
-- pausing. The first stage that has a fault is reported.
use Rattle.std.specs.Prelude.{◌≡◌, ◌≢◌, ℕ, List, [], ◌∷◌, Option, Some, None, Result, Ok, Err, ◌⊎◌}
use Rattle.kilim_program.specs.declared.class.Form.TheVariants.{Plain}
use Rattle.kilim_program.specs.declared.names.MethodId.{MethodId}
use Rattle.kilim_program.specs.Program.{Program}
use Rattle.kilim_class_file.specs.declared.class_file.ClassFile.{ClassFile}
use Rattle.kilim_class_file.specs.declared.fault.ClassFault.{ClassFault}
use Rattle.kilim_class_file.specs.Reading.{read_class}
use Rattle.kilim_reports.specs.ClassLines.{class_line}
use Rattle.kilim_link_spec.specs.declared.fault.LinkFault.TheVariants.{InClass}
use Rattle.kilim_link_spec.specs.declared.fault.Problem.{Problem}
use Rattle.kilim_link_spec.specs.Faults as link
use Rattle.kilim_reports.specs.LinkLines.{link_line}
use Rattle.kilim_type_spec.specs.Faults.{first_type_fault}
use Rattle.kilim_isolation.specs.Faults.{AreReports}
use Rattle.kilim_isolation_pauses.specs.declared.report.Report.{Report}
use Rattle.kilim_reports.specs.RuleLines.{fault_lines, type_line}
use Rattle.kilim_stages.specs.ProgramOf.{AreFiles, IsProgramOf}
use Rattle.kilim_stages.specs.Accepted.{typed_of}

-- the first file, in the order of the words, that can't be read, with its fault
abbrev pub or_fault : List ℕ → Result ClassFile ClassFault → Option (List ℕ × ClassFault) → Option (List ℕ × ClassFault)
or_fault name (Err fault) later = Some (name, fault)
or_fault name (Ok file) later = later

abbrev pub first_fault : List (List ℕ) → List (List ℕ) → Option (List ℕ × ClassFault)
first_fault (name ∷ names) (bytes ∷ files) = or_fault name (read_class bytes) (first_fault names files)
first_fault names files = None

-- a file isn't a class file that is accepted
pub record IsClassReport (names files : List (List ℕ)) (text : List ℕ) : Type 0 where
  pub name : List ℕ
  pub fault : ClassFault
  pub first : first_fault names files ≡ Some (name, fault)
  pub is_text : text ≡ class_line name fault

-- All are class files, and linked in their order they have a fault: the first class that has a problem, with the first one.
pub record IsLinkReport (files : List (List ℕ)) (text : List ℕ) : Type 0 where
  pub classes : List ClassFile
  pub are_files : AreFiles files classes
  pub class : List ℕ
  pub problem : Problem
  pub first : link.first_fault classes Plain ≡ Some (InClass class problem)
  pub is_text : text ≡ link_line class problem

-- They link to a program, which breaks a rule of typing: the first method, place and rule.
pub record IsTypeReport (files : List (List ℕ)) (text : List ℕ) : Type 0 where
  pub program : Program
  pub of_files : IsProgramOf files program
  pub method : MethodId
  pub place : ℕ
  pub rule : ℕ
  pub first : first_type_fault program ≡ Some (method, place, rule)
  pub is_text : text ≡ type_line program method place rule

-- It is well typed, and breaks rules of isolation or pausing: all of them, each at its place.
pub record IsRulesReport (files : List (List ℕ)) (text : List ℕ) : Type 0 where
  pub program : Program
  pub of_files : IsProgramOf files program
  pub typed : first_type_fault program ≡ None
  pub reports : List Report
  pub are_reports : AreReports (typed_of program) reports
  pub some : reports ≢ []
  pub is_text : text ≡ fault_lines program reports

-- the report of the first of these stages that has a fault
abbrev pub IsStageReport : List (List ℕ) → List (List ℕ) → List ℕ → Type 0
IsStageReport names files text = IsClassReport names files text ⊎ (IsLinkReport files text ⊎ (IsTypeReport files text ⊎ IsRulesReport files text))

-- the report of the first of them up to typing that has a fault
abbrev pub IsTypingReport : List (List ℕ) → List (List ℕ) → List ℕ → Type 0
IsTypingReport names files text = IsClassReport names files text ⊎ (IsLinkReport files text ⊎ IsTypeReport files text)
