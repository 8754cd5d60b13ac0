use Rattle.std.proofs.Common.{arith}
use Rattle.kilim_run_rows.proofs.Slots.{reference_loaded}
use Rattle.kilim_run_rows.proofs.locals.load_reference.Goals as goal

pub get-requires : goal.get-requires
get-requires c = let less = reference_loaded c.args.program.now c.args.own.now c.args.slot c.args.next c.args.frame.now.locals c.args.frame.now.stack.values c.args.heap.now c.requires.fine in omega (arith, less)
