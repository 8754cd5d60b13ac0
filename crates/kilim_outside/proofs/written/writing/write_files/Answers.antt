use Rattle.std.proofs.Common.{◌∙◌, arith}
use Rattle.kilim_outside.proofs.written.Steps.{has_more, keeps_more, stopped}
use Rattle.kilim_outside.proofs.written.writing.write_files.Goals as goal

pub returns-in-Err-clause-stopped : goal.returns-in-Err-clause-stopped
returns-in-Err-clause-stopped g c =
    stopped c.args.files.now c.loop-file.file-index c.file-item.result _ _ _ _ _ _ c.in-Err.fault c.requires (omega (arith, c.loop-file-test.true, c.loop-file.auto.file-index-end)) c.file-item.is
    c.loop-file.invariant.has c.loop-file.invariant.others c.loop-file.invariant.faults c.in-Err.ensures.others c.in-Err.ensures.cause

pub loop-file-preserved : goal.loop-file-preserved
loop-file-preserved g c = record {
  none = λ e. absurd (omega (arith, e));
  has = has_more c.args.files.now c.loop-file.file-index c.file-item.result _ _ c.requires (omega (arith, c.loop-file-test.true, c.loop-file.auto.file-index-end)) c.file-item.is c.in-Ok.ensures.others c.loop-file.invariant.has c.in-Ok.ensures.file;
  others = keeps_more c.args.files.now c.loop-file.file-index c.file-item.result _ _ _ (omega (arith, c.loop-file-test.true, c.loop-file.auto.file-index-end)) c.file-item.is c.loop-file.invariant.others c.in-Ok.ensures.others;
  faults = c.in-Ok.ensures.cause.ok ∙ c.loop-file.invariant.faults;
}
