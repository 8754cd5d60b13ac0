use Rattle.std.proofs.Common.{◌≡◌, ◌++◌, ◌∷◌, [], ◌∙◌, ap}
use Rattle.kilim_mail_ready.proofs.Queues.{new_stands}
use Rattle.kilim_mail_ready.proofs.ready.first_queue.Goals as goal

pub returns-clause-stands : goal.returns-clause-stands
returns-clause-stands g c = new_stands g.F.Fibers.task_of g.F.Fibers.course_of g.F.Fibers.holds g.F.Fibers.asked g.K.Run.of _ c.args.body c.new-ledger.ensures.none (c.push_last.ensures ∙ ap (λ bs. bs ++ c.args.body ∷ []) (c.in-Ok.ensures.items ∙ c.new-bodies.ensures.items)) c.requires.first c.requires.stands
