use Rattle.std.proofs.Common.{◌≡◌, ◌++◌, ◌∷◌, [], ◌∙◌, sym, ap}
use Rattle.kilim_mail_ready.specs.Ready.{held}
use Rattle.kilim_mail_ready.proofs.Queues.{held_last, last_stands}
use Rattle.kilim_mail_ready.proofs.ready.add_last.Goals as goal

pub returns-clause-added : goal.returns-clause-added
returns-clause-added g c =
    let is = c.push_last.ensures ∙ ap (λ bs. bs ++ c.args.body ∷ []) c.in-Ok.ensures.items in
    record {
      bodies = is;
      others = c.came.ensures.others;
      accounts = c.came.ensures.accounts;
      balances = λ made b. c.came.ensures.balances (held c.args.queue.now.bodies.items) (held c.push_last.new.items.items) made b (λ h. held_last h c.args.body c.args.queue.now.bodies.items c.push_last.new.items.items is);
    }

pub returns-clause-stands : goal.returns-clause-stands
returns-clause-stands g c = λ old this.
    last_stands g.F.Fibers.task_of g.F.Fibers.course_of g.F.Fibers.holds g.F.Fibers.asked g.K.Run.of c.args.seat c.args.queue.now (record { ledger = c.came.new.self; bodies = c.push_last.new.items; lent = c.args.queue.now.lent; stopped = c.args.queue.now.stopped }) c.args.body (returns-clause-added g c) old this
