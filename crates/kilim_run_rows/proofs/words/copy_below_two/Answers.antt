use Rattle.std.proofs.Common.{◌∙◌, sym}
use Rattle.kilim_program.specs.declared.instr.Instr.TheVariants.{DupX2}
use Rattle.kilim_run_rows.proofs.Pairs.{below_long_copies, below_pair_copies, copies_show, has_room, two_below_pair}
use Rattle.kilim_run_rows.proofs.words.copy_below_two.Goals as goal

pub peek-requires : goal.peek-requires
peek-requires c = two_below_pair c.args.program.now c.args.own.now c.args.next c.args.frame.now.locals c.args.frame.now.stack.values c.args.heap.now c.requires.fine

pub word_below_two-requires : goal.word_below_two-requires
word_below_two-requires c =
    let row = below_long_copies c.args.program.now c.args.own.now c.args.next c.args.frame.now.locals c.args.frame.now.stack.values c.args.heap.now c.peek.result.now c.peek.ensures (sym c.is_long.ensures ∙ c.if-is_long.true) c.requires.fine in
    record { there = row.there; room = has_room c.args.program.now c.args.own.now DupX2 c.args.next c.args.frame.now.locals c.args.frame.now.stack.values c.args.heap.now 1 2 c.args.frame.now.stack.room row c.requires.room }

pub returns-then-is_long-clause-step : goal.returns-then-is_long-clause-step
returns-then-is_long-clause-step c =
    let row = below_long_copies c.args.program.now c.args.own.now c.args.next c.args.frame.now.locals c.args.frame.now.stack.values c.args.heap.now c.peek.result.now c.peek.ensures (sym c.is_long.ensures ∙ c.if-is_long.true) c.requires.fine in
    copies_show c.args.program.now c.args.own.now DupX2 c.args.next c.word_below_two.result c.args.frame.now c.word_below_two.new.frame c.args.heap.now 1 2 row c.word_below_two.ensures.laid

pub word_below_three-requires : goal.word_below_three-requires
word_below_three-requires c =
    let row = below_pair_copies c.args.program.now c.args.own.now c.args.next c.args.frame.now.locals c.args.frame.now.stack.values c.args.heap.now c.peek.result.now c.peek.ensures (sym c.is_long.ensures ∙ c.if-is_long.false) c.requires.fine in
    record { there = row.there; room = has_room c.args.program.now c.args.own.now DupX2 c.args.next c.args.frame.now.locals c.args.frame.now.stack.values c.args.heap.now 1 3 c.args.frame.now.stack.room row c.requires.room }

pub returns-clause-step : goal.returns-clause-step
returns-clause-step c =
    let row = below_pair_copies c.args.program.now c.args.own.now c.args.next c.args.frame.now.locals c.args.frame.now.stack.values c.args.heap.now c.peek.result.now c.peek.ensures (sym c.is_long.ensures ∙ c.if-is_long.false) c.requires.fine in
    copies_show c.args.program.now c.args.own.now DupX2 c.args.next c.word_below_three.result c.args.frame.now c.word_below_three.new.frame c.args.heap.now 1 3 row c.word_below_three.ensures.laid
