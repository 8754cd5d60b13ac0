use Rattle.std.proofs.Common.{ℕ, ap, refl}
use Rattle.kilim_run_journal.specs.declared.entry.Act.TheVariants.{Put}
use Rattle.kilim_replay.proofs.machine.put.Goals as goal

pub returns-clause-put : goal.returns-clause-put
returns-clause-put c = record { world = refl; stands = c.pass.ensures.stands; mails = c.in-Ok.ensures.mails; told = ap (λ (n : ℕ). Put c.args.name n c.args.shape) c.in-Ok.ensures.number }
