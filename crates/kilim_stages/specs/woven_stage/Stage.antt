-- The accepted program of some class files, and its woven form.
use Rattle.std.specs.Prelude.{◌≡◌, ℕ, List, Option, Some, None}
use Rattle.kilim_program.specs.declared.names.ClassId.{ClassId}
use Rattle.kilim_program.specs.main_class.Main.{fit_class_named}
use Rattle.kilim_program.specs.Program.{Program}
use Rattle.kilim_stages.specs.Accepted.{IsAcceptedOf}
use Rattle.kilim_stages.specs.declared.woven_stage.stage.WovenProgram.{WovenProgram}
use Rattle.kilim_weave.specs.declared.weaving.Woven.{Woven}
use Rattle.kilim_weave.specs.Faults.{weave_fault}
use Rattle.kilim_weave.specs.Weaves.{Weaves}

-- The class files with these bytes link to the program, which is accepted. Each of its methods can be woven, and this is its woven form.
pub record IsWovenOf (files : List (List ℕ)) (p : Program) (w : Woven) : Type 0 where
  pub accepted : IsAcceptedOf files p
  pub none : weave_fault p ≡ None
  pub weaves : Weaves p w

-- this program with its main class of that name, or it has none that is fit
abbrev pub IsWithMain : WovenProgram → List ℕ → Option (WovenProgram × ClassId) → Type 0
IsWithMain program name None = fit_class_named program.plain name ≡ None
IsWithMain program name (Some found) = (found.0 ≡ program) × (fit_class_named program.plain name ≡ Some found.1)
