-- Laws: the same bytes link to no two programs, and no files are both accepted and reported, or well typed and reported up to typing.
use Rattle.std.specs.Prelude.{◌≡◌, ℕ, List}
use Rattle.kilim_program.specs.Program.{Program}
use Rattle.kilim_stages.specs.ProgramOf.{IsProgramOf}
use Rattle.kilim_stages.specs.Accepted.{IsAcceptedOf, IsTypedOf}
use Rattle.kilim_stages.specs.Reports.{IsStageReport, IsTypingReport}

abbrev pub OneProgramOf : Type 0
OneProgramOf = (files : List (List ℕ)) (p q : Program) → IsProgramOf files p → IsProgramOf files q → p ≡ q

abbrev pub NeverBoth : Type 0
NeverBoth = (names files : List (List ℕ)) (text : List ℕ) (p : Program) → IsAcceptedOf files p → IsStageReport names files text → ⊥

abbrev pub NeverTypedAndReported : Type 0
NeverTypedAndReported = (names files : List (List ℕ)) (text : List ℕ) (p : Program) → IsTypedOf files p → IsTypingReport names files text → ⊥
