-- The class files of the demo of a number (own).
use Rattle.std.specs.Prelude.{ℕ, ◌+◌, List, [], ◌∷◌, ◌++◌, length}
use Rattle.kilim_class_file.specs.declared.class_file.ClassFile.{ClassFile}
use Rattle.kilim_demo.specs.declared.draws.Plan.{Plan}
use Rattle.kilim_demo.specs.declared.draws.Stage.{Stage}
use Rattle.kilim_demo.specs.Plan.{plan_of}
use Rattle.kilim_demo.specs.Node.{node_file}
use Rattle.kilim_demo.specs.Stage.{stage_file}
use Rattle.kilim_demo.specs.MainClass.{main_file}

-- the classes of stages, from stage k on
abbrev pub stage_files : ℕ → ℕ → List Stage → List ClassFile
stage_files k messages [] = []
stage_files k messages (stage ∷ stages) = stage_file k messages stage ∷ stage_files (k + 1) messages stages

-- `D/Node`, `D/S1` and so on, `D/Main`
abbrev pub planned_files : Plan → List ClassFile
planned_files plan = node_file ∷ (stage_files 1 plan.messages plan.stages ++ main_file (length plan.stages) plan.messages ∷ [])

unfoldable pub demo_of : ℕ → List ClassFile
demo_of number = planned_files (plan_of number)
