use Rattle.std.proofs.Common.{arith}
use Rattle.kilim_run_rows.proofs.Slots.{increased}
use Rattle.kilim_run_rows.proofs.locals.increase.Goals as goal

pub get-requires : goal.get-requires
get-requires c = let less = increased c.args.program.now c.args.own.now c.args.slot c.args.next c.args.frame.now.locals c.args.frame.now.stack.values c.args.heap.now c.args.by c.requires.fine in omega (arith, less)

pub set-requires : goal.set-requires
set-requires c = let less = increased c.args.program.now c.args.own.now c.args.slot c.args.next c.args.frame.now.locals c.args.frame.now.stack.values c.args.heap.now c.args.by c.requires.fine in omega (arith, less)
