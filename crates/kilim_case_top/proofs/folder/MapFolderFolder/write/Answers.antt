use Rattle.kilim_outside.proofs.Refused.{refused_cause}
use Rattle.kilim_case_top.proofs.folder.MapFolderFolder.write.Goals as goal

pub returns-then-fails_now-clause-cause : goal.returns-then-fails_now-clause-cause
returns-then-fails_now-clause-cause c = refused_cause _ _ _ _ c.write_refusal.result c.fails_now.ensures c.write_refusal.ensures.own c.write_refusal.ensures.failed
