use Rattle.std.proofs.Common.{◌∙◌, sym}
use Rattle.kilim_program.specs.declared.instr.Instr.TheVariants.{Dup2}
use Rattle.kilim_run_rows.proofs.Pairs.{copies_show, has_room, long_copies, pair_copies}
use Rattle.kilim_run_rows.proofs.words.copy_two.Goals as goal

pub word_again-requires : goal.word_again-requires
word_again-requires c =
    let row = long_copies c.args.program.now c.args.own.now c.args.next c.args.frame.now.locals c.args.frame.now.stack.values c.args.heap.now c.peek.result.now c.peek.ensures (sym c.is_long.ensures ∙ c.if-is_long.true) c.requires.fine in
    record { there = row.there; room = has_room c.args.program.now c.args.own.now Dup2 c.args.next c.args.frame.now.locals c.args.frame.now.stack.values c.args.heap.now 1 1 c.args.frame.now.stack.room row c.requires.room }

pub returns-then-is_long-clause-step : goal.returns-then-is_long-clause-step
returns-then-is_long-clause-step c =
    let row = long_copies c.args.program.now c.args.own.now c.args.next c.args.frame.now.locals c.args.frame.now.stack.values c.args.heap.now c.peek.result.now c.peek.ensures (sym c.is_long.ensures ∙ c.if-is_long.true) c.requires.fine in
    copies_show c.args.program.now c.args.own.now Dup2 c.args.next c.word_again.result c.args.frame.now c.word_again.new.frame c.args.heap.now 1 1 row c.word_again.ensures.laid

pub pair_again-requires : goal.pair_again-requires
pair_again-requires c =
    let row = pair_copies c.args.program.now c.args.own.now c.args.next c.args.frame.now.locals c.args.frame.now.stack.values c.args.heap.now c.peek.result.now c.peek.ensures (sym c.is_long.ensures ∙ c.if-is_long.false) c.requires.fine in
    record { there = row.there; room = has_room c.args.program.now c.args.own.now Dup2 c.args.next c.args.frame.now.locals c.args.frame.now.stack.values c.args.heap.now 2 2 c.args.frame.now.stack.room row c.requires.room }

pub returns-clause-step : goal.returns-clause-step
returns-clause-step c =
    let row = pair_copies c.args.program.now c.args.own.now c.args.next c.args.frame.now.locals c.args.frame.now.stack.values c.args.heap.now c.peek.result.now c.peek.ensures (sym c.is_long.ensures ∙ c.if-is_long.false) c.requires.fine in
    copies_show c.args.program.now c.args.own.now Dup2 c.args.next c.pair_again.result c.args.frame.now c.pair_again.new.frame c.args.heap.now 2 2 row c.pair_again.ensures.laid
