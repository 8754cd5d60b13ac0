use Rattle.std.proofs.Common.{◌≡◌, ◌∙◌, sym, ap}
use Rattle.kilim_mail_ready.specs.Ready.{held}
use Rattle.kilim_mail_ready.proofs.Queues.{held_first}
use Rattle.kilim_mail_ready.proofs.ready.take_first.Goals as goal

pub returns-in-Some-clause-some : goal.returns-in-Some-clause-some
returns-in-Some-clause-some g c = record {
  bodies = c.in-Some.ensures;
  others = c.went.ensures.others;
  accounts = c.went.ensures.accounts;
  balances = λ made b. c.went.ensures.balances (held c.args.queue.now.bodies.items) (held c.pop_first.new.items.items) made b (λ h. held_first h c.in-Some.body c.args.queue.now.bodies.items c.pop_first.new.items.items c.in-Some.ensures);
}
