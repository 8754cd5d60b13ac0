use Rattle.kilim_outside.proofs.Refused.{refused_cause}
use Rattle.kilim_case_top.proofs.folder.MapFolderFolder.read.Goals as goal

pub returns-then-not-can_read-clause-cause : goal.returns-then-not-can_read-clause-cause
returns-then-not-can_read-clause-cause c = refused_cause _ _ _ _ c.read_refusal.result c.can_read.ensures c.read_refusal.ensures.own c.read_refusal.ensures.failed
