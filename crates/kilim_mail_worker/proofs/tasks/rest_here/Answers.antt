use Rattle.kilim_mail_ledger.specs.Ledger.{items_of}
use Rattle.kilim_mail_notes.specs.Histories.{trace_of}
use Rattle.kilim_mail_worker.proofs.Handing.{gives_all}
use Rattle.kilim_mail_worker.proofs.tasks.rest_here.Goals as goal

pub returns-in-Ok-clause-works : goal.returns-in-Ok-clause-works
returns-in-Ok-clause-works g c = gives_all c.args.turns.now g.K.Run.of c.args.worker.now c.line_up.new.worker (items_of (trace_of c.args.body.history)) c.in-Ok.ensures.gives c.requires.works
