use Rattle.kilim_mail_ready.proofs.Queues.{there_now}
use Rattle.kilim_mail_ready.proofs.ready.Ready.line_up.Goals as goal

pub add_last-requires : goal.add_last-requires
add_last-requires g c = record { there = there_now c.self.inside.queue c.args.self.now c.args.seat c.self.view_is c.requires.there }
