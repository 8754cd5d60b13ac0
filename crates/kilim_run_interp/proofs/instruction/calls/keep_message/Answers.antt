use Rattle.kilim_run_interp.proofs.instruction.Invokes.{keeps_one}
use Rattle.kilim_run_interp.proofs.instruction.calls.keep_message.Goals as goal

pub unreachable-requires : goal.unreachable-requires
unreachable-requires c = keeps_one c.args.count c.args.next c.args.frame.now.locals c.args.frame.now.stack.values c.args.heap.now c.if-count-ne1.true c.requires.fine
