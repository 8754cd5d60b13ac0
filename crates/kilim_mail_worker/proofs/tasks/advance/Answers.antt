use Rattle.std.proofs.Common.{subst, sym}
use Rattle.kilim_mail_ledger.specs.Ledger.{items_of}
use Rattle.kilim_mail_notes.specs.declared.histories.History.{History}
use Rattle.kilim_mail_notes.specs.Histories.{trace_of}
use Rattle.kilim_mail_worker.specs.Turns.{Works}
use Rattle.kilim_mail_worker.proofs.Handing.{keeps_same}
use Rattle.kilim_mail_worker.proofs.tasks.advance.Goals as goal

pub grant-requires-clause-works : goal.grant-requires-clause-works
grant-requires-clause-works g c κs _ = subst (λ (h : History). Works g.K.Run.of c.args.turns.now c.args.worker.now (items_of (trace_of h))) (sym c.in-Ok.ensures.history) c.requires.works

pub returns-in-Err-clause-passes : goal.returns-in-Err-clause-passes
returns-in-Err-clause-passes g c = keeps_same c.args.turns.now c.args.worker.now
