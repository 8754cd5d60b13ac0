use Rattle.std.proofs.Common.{arith}
use Rattle.kilim_run_rows.proofs.Slots.{long_stored}
use Rattle.kilim_run_rows.proofs.locals.store_long.Goals as goal

pub set-requires : goal.set-requires
set-requires c = let less = long_stored c.args.program.now c.args.own.now c.args.slot c.args.next c.args.frame.now.locals c.args.frame.now.stack.values c.args.heap.now c.requires.fine in omega (arith, less)
