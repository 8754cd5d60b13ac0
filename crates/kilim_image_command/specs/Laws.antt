-- Laws: whose runs can be made, and that what can be done isn't reported.
use Rattle.std.specs.Prelude.{◌≡◌, ◌≤◌, ℕ, true, List, length}
use Rattle.kilim_command.specs.Report.{utf16_of}
use Rattle.kilim_fiber_laws.specs.Served.{CanServe}
use Rattle.kilim_program.specs.Members.{is_fit_main}
use Rattle.kilim_program.specs.Program.{Program}
use Rattle.kilim_program.specs.declared.names.ClassId.{ClassId}
use Rattle.kilim_run.specs.Runs.{setting_of}
use Rattle.kilim_run_state.specs.declared.run.Limits.{Limits}
use Rattle.kilim_stages.specs.Accepted.{IsAcceptedOf}
use Rattle.kilim_weave.specs.Weaves.{Weaves}
use Rattle.kilim_weave.specs.declared.weaving.Woven.{Woven}
use Rattle.kilim_image_command.specs.Programs.{IsStart, IsStartReport}
use Rattle.kilim_image_command.specs.Resuming.{CanGoOn, IsResumeReport}
use Rattle.kilim_image_command.specs.Saving.{CanBeSaved, IsSaveReport}

-- What weaving makes of the accepted program to which class files link serves each run of it with a fit main class.
abbrev pub WovenIsServed : Type 0
WovenIsServed = (files : List (List ℕ)) (p : Program) (w : Woven) → length files ≤ 1000 → IsAcceptedOf files p → Weaves p w → (main : ClassId) → is_fit_main p main ≡ true → (limits : Limits) → CanServe (setting_of p main limits) w.program w.counted

-- a run that can be begun isn't reported by a stage
abbrev pub NeverBegunAndReported : Type 0
NeverBegunAndReported = (names : List (List ℕ)) (name : List ℕ) (files : List (List ℕ)) (report : List ℕ) (p : Program) (main : ClassId) → IsStart name files p main → IsStartReport names name files report → ⊥

abbrev pub NeverSavedAndReported : Type 0
NeverSavedAndReported = (names : List (List ℕ)) (main : List ℕ) (limits : Limits) (few : ℕ) (files : List (List ℕ)) (report : List ℕ) → CanBeSaved main limits few files → IsSaveReport names main limits few files report → ⊥

abbrev pub NeverGoneOnAndReported : Type 0
NeverGoneOnAndReported = (bytes report : List ℕ) → CanGoOn bytes → IsResumeReport bytes report → ⊥
