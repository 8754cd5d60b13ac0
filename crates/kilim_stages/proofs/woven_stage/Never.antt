-- Class files whose accepted program can be woven aren't reported.
use Rattle.std.proofs.Common.{◌≡◌, Option, Some, None, subst, inl, inr}
use Rattle.kilim_lemmas.proofs.Options.{none_no_some}
use Rattle.kilim_program.specs.Program.{Program}
use Rattle.kilim_stages.specs.Laws.{NeverBoth, OneProgramOf}
use Rattle.kilim_weave.specs.Faults.{weave_fault}
use Rattle.kilim_stages.specs.woven_stage.Laws.{WovenIsNotReported}

pub never : OneProgramOf → NeverBoth → WovenIsNotReported
never one stages names files text p is none (inl report) = stages names files text p is report
never one stages names files text p is none (inr report) =
    none_no_some report.fault (weave_fault report.program) (subst (λ (q : Program). weave_fault q ≡ None) (one files p report.program is.of_files report.accepted.of_files) none) report.first
