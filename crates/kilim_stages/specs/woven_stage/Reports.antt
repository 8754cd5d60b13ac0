-- The reports of class files whose program isn't woven. The first stage that has a fault is reported.
use Rattle.std.specs.Prelude.{◌≡◌, ℕ, List, ◌++◌, Some, codes, ◌⊎◌}
use Rattle.std.specs.Fmt.{decimal}
use Rattle.kilim_program.specs.declared.names.MethodId.{MethodId}
use Rattle.kilim_program.specs.Names.{method_at}
use Rattle.kilim_program.specs.Program.{Program}
use Rattle.kilim_reports.specs.RuleLines.{words_of}
use Rattle.kilim_stages.specs.Accepted.{IsAcceptedOf}
use Rattle.kilim_stages.specs.Reports.{IsStageReport}
use Rattle.kilim_weave.specs.declared.fault.WeaveFault.{WeaveFault}
use Rattle.kilim_weave.specs.declared.fault.WeaveFault.TheVariants as fault
use Rattle.kilim_weave.specs.Faults.{weave_fault}

-- ---- lines, each with its line feed

-- the class, and the method's name and descriptor; its weight
unfoldable pub too_long_line : Program → MethodId → ℕ → List ℕ
too_long_line p id weight = codes "weave " ++ (words_of p (method_at p id) ++ (codes " too-long " ++ (decimal weight ++ codes "\n")))

unfoldable pub arguments_line : Program → MethodId → List ℕ
arguments_line p id = codes "weave " ++ (words_of p (method_at p id) ++ codes " arguments\n")

abbrev pub IsMethodLine : Program → WeaveFault → List ℕ → Type 0
IsMethodLine p (fault.TooLong id weight) text = text ≡ too_long_line p id weight
IsMethodLine p (fault.ArgumentsFull id) text = text ≡ arguments_line p id
IsMethodLine p fault.Memory text = ⊥

-- ---- reports

-- The class files link to an accepted program, which has a method that can't be woven: the line of the first.
pub record IsMethodReport (files : List (List ℕ)) (text : List ℕ) : Type 0 where
  pub program : Program
  pub accepted : IsAcceptedOf files program
  pub fault : WeaveFault
  pub first : weave_fault program ≡ Some fault
  pub is_text : IsMethodLine program fault text

-- that of the stages before, or of the first method that can't be woven
abbrev pub IsWovenReport : (names files : List (List ℕ)) → List ℕ → Type 0
IsWovenReport names files text = IsStageReport names files text ⊎ IsMethodReport files text
