use Rattle.kilim_program.specs.declared.instr.Instr.TheVariants.{Dup}
use Rattle.kilim_run_rows.proofs.Pairs.{copies_show, has_room, word_copies}
use Rattle.kilim_run_rows.proofs.words.copy_word.Goals as goal

pub word_again-requires : goal.word_again-requires
word_again-requires c =
    let row = word_copies c.args.program.now c.args.own.now c.args.next c.args.frame.now.locals c.args.frame.now.stack.values c.args.heap.now c.requires.fine in
    record { there = row.there; room = has_room c.args.program.now c.args.own.now Dup c.args.next c.args.frame.now.locals c.args.frame.now.stack.values c.args.heap.now 1 1 c.args.frame.now.stack.room row c.requires.room }

pub returns-clause-step : goal.returns-clause-step
returns-clause-step c =
    let row = word_copies c.args.program.now c.args.own.now c.args.next c.args.frame.now.locals c.args.frame.now.stack.values c.args.heap.now c.requires.fine in
    copies_show c.args.program.now c.args.own.now Dup c.args.next c.word_again.result c.args.frame.now c.word_again.new.frame c.args.heap.now 1 1 row c.word_again.ensures.laid
