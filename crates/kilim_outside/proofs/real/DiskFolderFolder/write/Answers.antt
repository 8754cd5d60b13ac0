use Rattle.std.proofs.Common.{refl}
use Rattle.kilim_outside.proofs.Refused.{refused_cause}
use Rattle.kilim_outside.proofs.real.DiskFolderFolder.write.Goals as goal

pub returns-in-Err-clause-cause : goal.returns-in-Err-clause-cause
returns-in-Err-clause-cause g c = refused_cause _ _ _ _ c.write_refusal.result refl c.write_refusal.ensures.own c.write_refusal.ensures.failed
