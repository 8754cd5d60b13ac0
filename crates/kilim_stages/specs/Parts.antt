-- How the stages hand on what they answer. No clause of `typed_program` and of `accepted` cites what stands here but `IfReport`.
use Rattle.std.specs.Prelude.{◌≡◌, ◌≢◌, ℕ, List, [], Option, Some, None, Result, Ok, Err, ◌⊎◌}
use Rattle.kilim_program.specs.declared.class.Form.TheVariants.{Plain}
use Rattle.kilim_program.specs.declared.names.MethodId.{MethodId}
use Rattle.kilim_program.specs.Program.{Program}
use Rattle.kilim_class_file.specs.declared.class_file.ClassFile.{ClassFile}
use Rattle.kilim_class_file.specs.declared.fault.ClassFault.{ClassFault}
use Rattle.kilim_class_file.specs.Reading.{read_class}
use Rattle.kilim_reports.specs.ClassLines.{class_line}
use Rattle.kilim_link_spec.specs.declared.fault.LinkFault.TheVariants.{InClass}
use Rattle.kilim_link_spec.specs.declared.fault.Problem.{Problem}
use Rattle.kilim_link_spec.specs.Faults.{link_faults, first_fault}
use Rattle.kilim_link_spec.specs.Linked.{Linked}
use Rattle.kilim_reports.specs.LinkLines.{link_line}
use Rattle.kilim_type_spec.specs.Faults.{first_type_fault}
use Rattle.kilim_isolation.specs.Faults.{AreReports, IsAccepted}
use Rattle.kilim_isolation.specs.IsolatedProgram.{IsolatedProgram}
use Rattle.kilim_isolation_pauses.specs.declared.report.Report.{Report}
use Rattle.kilim_reports.specs.RuleLines.{fault_lines, type_line}
use Rattle.kilim_stages.specs.declared.refusal.Refusal.{Refusal}
use Rattle.kilim_stages.specs.declared.refusal.Refusal.TheVariants as refusal
use Rattle.kilim_type_spec.specs.TypedProgram.{TypedProgram}
use Rattle.kilim_stages.specs.Accepted.{typed_of}

-- where a report was made in place of a value, this is said of its text
abbrev pub Refused : Refusal → (List ℕ → Type 0) → Type 0
Refused refusal.NoMemory said = Unit {0}
Refused (refusal.Report text) said = said text.items

abbrev pub IfReport : {A : Type 0} → Result A Refusal → (List ℕ → Type 0) → Type 0
IfReport (Ok x) said = Unit {0}
IfReport (Err e) said = Refused e said

-- the line of bytes that are no class file, of the file with that name
pub record IsFaultLine (name bytes text : List ℕ) : Type 0 where
  pub fault : ClassFault
  pub read : read_class bytes ≡ Err fault
  pub is_text : text ≡ class_line name fault

-- the class files link to the program as they are, without a fault
pub record LinksTo (classes : List ClassFile) (program : Program) : Type 0 where
  pub none : link_faults classes Plain ≡ []
  pub linked : Linked classes Plain program

-- linked in their order they have a fault
pub record IsLinkLine (classes : List ClassFile) (text : List ℕ) : Type 0 where
  pub class : List ℕ
  pub problem : Problem
  pub first : first_fault classes Plain ≡ Some (InClass class problem)
  pub is_text : text ≡ link_line class problem

-- the line of the first type fault
pub record IsTypeLine (program : Program) (text : List ℕ) : Type 0 where
  pub method : MethodId
  pub place : ℕ
  pub rule : ℕ
  pub first : first_type_fault program ≡ Some (method, place, rule)
  pub is_text : text ≡ type_line program method place rule

-- the lines of all broken rules of isolation and pausing
pub record AreRuleLinesOf (t : TypedProgram) (text : List ℕ) : Type 0 where
  pub reports : List Report
  pub are_reports : AreReports t reports
  pub some : reports ≢ []
  pub is_text : text ≡ fault_lines t.program reports

-- ---- what each stage hands on

-- the program with its frames, without a type fault
pub record IsTyped (program : Program) (t : TypedProgram) : Type 0 where
  pub is : t ≡ typed_of program
  pub none : first_type_fault program ≡ None

pub record IsIsolated (t : TypedProgram) (i : IsolatedProgram) : Type 0 where
  pub is : i.typed ≡ t
  pub accepted : IsAccepted t

-- class files link to the program, which is well typed, with its frames
pub record IsTypedFrom (classes : List ClassFile) (t : TypedProgram) : Type 0 where
  pub links : LinksTo classes t.program
  pub none : first_type_fault t.program ≡ None
  pub is : t ≡ typed_of t.program

-- ---- what the stages up to typing report of class files

pub record IsTypeLineOf (classes : List ClassFile) (text : List ℕ) : Type 0 where
  pub program : Program
  pub links : LinksTo classes program
  pub line : IsTypeLine program text

abbrev pub IsTypingLine : List ClassFile → List ℕ → Type 0
IsTypingLine classes text = IsLinkLine classes text ⊎ IsTypeLineOf classes text
