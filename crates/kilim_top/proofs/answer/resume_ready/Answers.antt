use Rattle.std.proofs.Common.{subst, sym}
use Rattle.kilim_top.proofs.Stopping.{refused_resume, stopped_ready}
use Rattle.kilim_top.proofs.answer.resume_ready.Goals as goal

pub returns-in-Ok : goal.returns-in-Ok
returns-in-Ok c =
    stopped_ready c.accepted_files_are_isolated.ensures c.args.words.now.image.now c.args.words.now.workers c.args.files.now c.index-files-0.result c.in-Ok.stopped c.requires c.index-files-0.is (rw c.as_slice.ensures at c.in-Ok.ensures.stopped)

pub returns-in-Err : goal.returns-in-Err
returns-in-Err c =
    refused_resume c.args.words.now.image.now c.args.words.now.workers c.args.files.now c.index-files-0.result c.in-Err.refusal c.refused.result c.requires c.index-files-0.is (rw c.as_slice.ensures at c.in-Err.ensures.report) c.refused.ensures
