-- A law: class files whose accepted program can be woven aren't reported.
use Rattle.std.specs.Prelude.{◌≡◌, ℕ, List, None}
use Rattle.kilim_program.specs.Program.{Program}
use Rattle.kilim_stages.specs.Accepted.{IsAcceptedOf}
use Rattle.kilim_weave.specs.Faults.{weave_fault}
use Rattle.kilim_stages.specs.woven_stage.Reports.{IsWovenReport}

abbrev pub WovenIsNotReported : Type 0
WovenIsNotReported = (names files : List (List ℕ)) (text : List ℕ) (p : Program) → IsAcceptedOf files p → weave_fault p ≡ None → IsWovenReport names files text → ⊥
