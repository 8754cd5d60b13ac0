use Rattle.kilim_run_interp.proofs.instruction.Invokes.{gives_alone}
use Rattle.kilim_run_interp.proofs.instruction.calls.give_message.Goals as goal

pub unreachable-requires : goal.unreachable-requires
unreachable-requires c = gives_alone c.args.count c.args.next c.args.frame.now.locals c.args.frame.now.stack.values c.args.heap.now c.if-count-ne0.true c.requires.fine
