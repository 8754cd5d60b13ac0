-- How the parts of the stage hand on what they answer. No clause of `woven_program` cites what stands here.
use Rattle.std.specs.Prelude.{◌≡◌, ℕ, List, Some, None}
use Rattle.kilim_program.specs.Program.{Program}
use Rattle.kilim_weave.specs.declared.fault.WeaveFault.{WeaveFault}
use Rattle.kilim_weave.specs.Faults.{weave_fault}
use Rattle.kilim_weave.specs.Weaves.{Weaves}
use Rattle.kilim_stages.specs.declared.woven_stage.stage.WovenProgram.{WovenProgram}
use Rattle.kilim_stages.specs.woven_stage.Reports.{IsMethodLine}

-- this program and its woven form
pub record IsWovenBy (p : Program) (w : WovenProgram) : Type 0 where
  pub is : w.plain ≡ p
  pub none : weave_fault p ≡ None
  pub weaves : Weaves p w.woven

-- the line of the first of its methods that can't be woven
pub record IsMethodLineOf (p : Program) (text : List ℕ) : Type 0 where
  pub fault : WeaveFault
  pub first : weave_fault p ≡ Some fault
  pub is_text : IsMethodLine p fault text
