use Rattle.kilim_mail_ready.proofs.Queues.{there_now}
use Rattle.kilim_mail_ready.proofs.ready.Ready.lend.Goals as goal

pub lend_next-requires : goal.lend_next-requires
lend_next-requires g c = record { there = there_now c.self.inside.queue c.args.self.now c.args.seat c.self.view_is c.requires.there }
