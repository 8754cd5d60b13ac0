-- How the stages hand on a program with its main class. No clause of a public call cites what stands here.
use Rattle.std.specs.Prelude.{◌≡◌, ℕ, List, Some, None}
use Rattle.kilim_command.specs.Report.{named_line}
use Rattle.kilim_program.specs.main_class.Main.{fit_class_named}
use Rattle.kilim_stages.specs.declared.woven_stage.stage.WovenProgram.{WovenProgram}
use Rattle.kilim_weave.specs.Weaves.{Weaves}
use Rattle.kilim_image_command.specs.Programs.{IsStart}
use Rattle.kilim_image_command.specs.declared.programs.Started.{Started}

-- the program as it is, with its main class of that name
pub record HasClass (program : WovenProgram) (name : List ℕ) (s : Started) : Type 0 where
  pub plain : s.plain ≡ program.plain
  pub woven : s.woven ≡ program.woven
  pub found : fit_class_named program.plain name ≡ Some s.main

-- the line that says that there is none
pub record HasNoClass (program : WovenProgram) (name text : List ℕ) : Type 0 where
  pub none : fit_class_named program.plain name ≡ None
  pub is_text : text ≡ named_line name

-- a program that can be run, with its woven form
pub record IsStarted (name : List ℕ) (files : List (List ℕ)) (s : Started) : Type 0 where
  pub start : IsStart name files s.plain s.main
  pub weaves : Weaves s.plain s.woven
