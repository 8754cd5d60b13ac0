use Rattle.std.proofs.Common.{◌∙◌, ap, sym}
use Rattle.std.specs.Prelude.{codes}
use Rattle.kilim_run_interp.specs.instruction.Reached.{by_class_in, params_in}
use Rattle.kilim_run_interp.proofs.instruction.Reaching.{found_in, found_own}
use Rattle.kilim_run_interp.proofs.instruction.reached.reach_of.Goals as goal

pub returns : goal.returns
returns c = record {
  count = c.len.ensures ∙ sym (ap params_in c.requires);
  by_class = c.by_class.ensures ∙ sym (ap (by_class_in c.args.program.now) c.requires);
  on_fiber = found_in c.args.program.now c.args.method (codes "kilim/Fiber") c.args.named.now c.asked_on-on_fiber.result c.requires c.asked_on-on_fiber.ensures;
  on_own = found_own c.args.program.now c.args.method c.args.named.now c.called_on.result c.requires c.called_on.ensures;
  on_mailbox = found_in c.args.program.now c.args.method (codes "kilim/Mailbox") c.args.named.now c.asked_on-on_mailbox.result c.requires c.asked_on-on_mailbox.ensures;
}
