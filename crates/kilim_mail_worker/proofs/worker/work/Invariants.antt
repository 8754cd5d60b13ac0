use Rattle.std.proofs.Common.{[]}
use Rattle.kilim_mail_worker.specs.Turns.{KeepsPasses, Works}
use Rattle.kilim_mail_worker.proofs.worker.work.Given as goal

abbrev pub invariant-loop : goal.invariant-loop
invariant-loop g l = KeepsPasses l.turns l.initial.worker l.worker × Works g.K.Run.of l.turns l.worker []
