use Rattle.kilim_program.specs.declared.instr.Instr.TheVariants.{DupX1}
use Rattle.kilim_run_rows.proofs.Pairs.{below_one_copies, copies_show, has_room}
use Rattle.kilim_run_rows.proofs.words.copy_below_one.Goals as goal

pub word_below_two-requires : goal.word_below_two-requires
word_below_two-requires c =
    let row = below_one_copies c.args.program.now c.args.own.now c.args.next c.args.frame.now.locals c.args.frame.now.stack.values c.args.heap.now c.requires.fine in
    record { there = row.there; room = has_room c.args.program.now c.args.own.now DupX1 c.args.next c.args.frame.now.locals c.args.frame.now.stack.values c.args.heap.now 1 2 c.args.frame.now.stack.room row c.requires.room }

pub returns-clause-step : goal.returns-clause-step
returns-clause-step c =
    let row = below_one_copies c.args.program.now c.args.own.now c.args.next c.args.frame.now.locals c.args.frame.now.stack.values c.args.heap.now c.requires.fine in
    copies_show c.args.program.now c.args.own.now DupX1 c.args.next c.word_below_two.result c.args.frame.now c.word_below_two.new.frame c.args.heap.now 1 2 row c.word_below_two.ensures.laid
