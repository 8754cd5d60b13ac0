-- What is run, and how the stages hand on what they answer.
use Rattle.std.specs.Prelude.{◌≡◌, ℕ, Some, None}
use Rattle.kilim_program.specs.Program.{Program}
use Rattle.kilim_program.specs.declared.names.ClassId.{ClassId}
use Rattle.kilim_program.specs.main_class.Main.{fit_class_named}
use Rattle.kilim_stages.specs.Accepted.{IsAcceptedOf}
use Rattle.kilim_weave.specs.declared.weaving.Woven.{Woven}
use Rattle.kilim_weave.specs.Faults.{weave_fault}
use Rattle.kilim_run.specs.Runs.{setting_of}
use Rattle.kilim_fiber_laws.specs.Served.{CanServe}
use Rattle.kilim_top.specs.demo.Demo.{demo_limits, demo_texts, main_name}

-- the program is that of the demo, it is accepted, each of its methods can be woven, this is its main class, and its woven form can be run
pub record IsReady (number : ℕ) (program : Program) (woven : Woven) (main : ClassId) : Type 0 where
  pub accepted : IsAcceptedOf (demo_texts number) program
  pub none : weave_fault program ≡ None
  pub fit : fit_class_named program main_name ≡ Some main
  pub served : CanServe (setting_of program main demo_limits) woven.program woven.counted
