-- The accepted program of class files with its main class, or the report of the first stage that has a fault.
use Rattle.std.specs.Prelude.{◌≡◌, ◌+◌, ℕ, true, List, [], ◌∷◌, ◌++◌, Some, None, codes, ◌⊎◌}
use Rattle.std.specs.Fmt.{decimal}
use Rattle.kilim_command.specs.Report.{named_line}
use Rattle.kilim_program.specs.Members.{is_fit_main}
use Rattle.kilim_program.specs.Names.{class_named}
use Rattle.kilim_program.specs.Program.{Program}
use Rattle.kilim_program.specs.declared.names.ClassId.{ClassId}
use Rattle.kilim_stages.specs.Accepted.{IsAcceptedOf}
use Rattle.kilim_stages.specs.Reports.{IsStageReport}
use Rattle.kilim_stages.specs.woven_stage.Reports.{IsMethodReport}
use Rattle.kilim_weave.specs.Faults.{weave_fault}

-- The class files link to an accepted program, each of whose methods can be woven; its class of that name is fit to be the main class.
pub record IsStart (name : List ℕ) (files : List (List ℕ)) (program : Program) (main : ClassId) : Type 0 where
  pub accepted : IsAcceptedOf files program
  pub weavable : weave_fault program ≡ None
  pub named : class_named program name ≡ Some main
  pub fit : is_fit_main program main ≡ true

-- they link to such a program, and it has no class of that name that is fit to be the main class
pub record IsMainReport (name : List ℕ) (files : List (List ℕ)) (text : List ℕ) : Type 0 where
  pub program : Program
  pub accepted : IsAcceptedOf files program
  pub weavable : weave_fault program ≡ None
  pub none : (main : ClassId) → class_named program name ≡ Some main → is_fit_main program main ≡ true → ⊥
  pub is_text : text ≡ named_line name

-- the report of the first stage that has a fault
abbrev pub IsStartReport : (names : List (List ℕ)) (name : List ℕ) (files : List (List ℕ)) (text : List ℕ) → Type 0
IsStartReport names name files text = IsStageReport names files text ⊎ (IsMethodReport files text ⊎ IsMainReport name files text)

-- the class files of an image are named by their numbers, from 1 on
abbrev pub names_from : ℕ → List (List ℕ) → List (List ℕ)
names_from n [] = []
names_from n (file ∷ files) = (codes "#" ++ decimal n) ∷ names_from (n + 1) files
