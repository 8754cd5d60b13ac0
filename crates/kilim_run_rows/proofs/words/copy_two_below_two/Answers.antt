use Rattle.std.proofs.Common.{◌∙◌, sym}
use Rattle.kilim_program.specs.declared.instr.Instr.TheVariants.{Dup2X2}
use Rattle.kilim_run_rows.proofs.Pairs.{copies_show, has_room, long_below_long_copies, long_below_pair_copies, pair_below_long_copies, pair_below_pair_copies, three_below_pair, two_below_long}
use Rattle.kilim_run_rows.proofs.words.copy_two_below_two.Goals as goal

pub peek-requires-then-is_long : goal.peek-requires-then-is_long
peek-requires-then-is_long c = two_below_long c.args.program.now c.args.own.now c.args.next c.args.frame.now.locals c.args.frame.now.stack.values c.args.heap.now c.peek.result.now c.peek.ensures (sym c.is_long.ensures ∙ c.if-is_long.true) c.requires.fine

pub peek-requires-2 : goal.peek-requires-2
peek-requires-2 c = three_below_pair c.args.program.now c.args.own.now c.args.next c.args.frame.now.locals c.args.frame.now.stack.values c.args.heap.now c.peek.result.now c.peek.ensures (sym c.is_long.ensures ∙ c.if-is_long.false) c.requires.fine

pub word_below_two-requires : goal.word_below_two-requires
word_below_two-requires c =
    let row = long_below_long_copies c.args.program.now c.args.own.now c.args.next c.args.frame.now.locals c.args.frame.now.stack.values c.args.heap.now c.peek.result.now c.peek-then-is_long.result.now c.peek.ensures (sym c.is_long.ensures ∙ c.if-is_long.true) c.peek-then-is_long.ensures (sym c.is_long-then-is_long.ensures ∙ c.if-is_long-2.true) c.requires.fine in
    record { there = row.there; room = has_room c.args.program.now c.args.own.now Dup2X2 c.args.next c.args.frame.now.locals c.args.frame.now.stack.values c.args.heap.now 1 2 c.args.frame.now.stack.room row c.requires.room }

pub returns-then-is_long-2-clause-step : goal.returns-then-is_long-2-clause-step
returns-then-is_long-2-clause-step c =
    let row = long_below_long_copies c.args.program.now c.args.own.now c.args.next c.args.frame.now.locals c.args.frame.now.stack.values c.args.heap.now c.peek.result.now c.peek-then-is_long.result.now c.peek.ensures (sym c.is_long.ensures ∙ c.if-is_long.true) c.peek-then-is_long.ensures (sym c.is_long-then-is_long.ensures ∙ c.if-is_long-2.true) c.requires.fine in
    copies_show c.args.program.now c.args.own.now Dup2X2 c.args.next c.word_below_two.result c.args.frame.now c.word_below_two.new.frame c.args.heap.now 1 2 row c.word_below_two.ensures.laid

pub word_below_three-requires : goal.word_below_three-requires
word_below_three-requires c =
    let row = long_below_pair_copies c.args.program.now c.args.own.now c.args.next c.args.frame.now.locals c.args.frame.now.stack.values c.args.heap.now c.peek.result.now c.peek-then-is_long.result.now c.peek.ensures (sym c.is_long.ensures ∙ c.if-is_long.true) c.peek-then-is_long.ensures (sym c.is_long-then-is_long.ensures ∙ c.if-is_long-2.false) c.requires.fine in
    record { there = row.there; room = has_room c.args.program.now c.args.own.now Dup2X2 c.args.next c.args.frame.now.locals c.args.frame.now.stack.values c.args.heap.now 1 3 c.args.frame.now.stack.room row c.requires.room }

pub returns-then-is_long-clause-step : goal.returns-then-is_long-clause-step
returns-then-is_long-clause-step c =
    let row = long_below_pair_copies c.args.program.now c.args.own.now c.args.next c.args.frame.now.locals c.args.frame.now.stack.values c.args.heap.now c.peek.result.now c.peek-then-is_long.result.now c.peek.ensures (sym c.is_long.ensures ∙ c.if-is_long.true) c.peek-then-is_long.ensures (sym c.is_long-then-is_long.ensures ∙ c.if-is_long-2.false) c.requires.fine in
    copies_show c.args.program.now c.args.own.now Dup2X2 c.args.next c.word_below_three.result c.args.frame.now c.word_below_three.new.frame c.args.heap.now 1 3 row c.word_below_three.ensures.laid

pub pair_below_three-requires : goal.pair_below_three-requires
pair_below_three-requires c =
    let row = pair_below_long_copies c.args.program.now c.args.own.now c.args.next c.args.frame.now.locals c.args.frame.now.stack.values c.args.heap.now c.peek.result.now c.peek-2.result.now c.peek.ensures (sym c.is_long.ensures ∙ c.if-is_long.false) c.peek-2.ensures (sym c.is_long-2.ensures ∙ c.if-is_long-3.true) c.requires.fine in
    record { there = row.there; room = has_room c.args.program.now c.args.own.now Dup2X2 c.args.next c.args.frame.now.locals c.args.frame.now.stack.values c.args.heap.now 2 3 c.args.frame.now.stack.room row c.requires.room }

pub returns-then-is_long-3-clause-step : goal.returns-then-is_long-3-clause-step
returns-then-is_long-3-clause-step c =
    let row = pair_below_long_copies c.args.program.now c.args.own.now c.args.next c.args.frame.now.locals c.args.frame.now.stack.values c.args.heap.now c.peek.result.now c.peek-2.result.now c.peek.ensures (sym c.is_long.ensures ∙ c.if-is_long.false) c.peek-2.ensures (sym c.is_long-2.ensures ∙ c.if-is_long-3.true) c.requires.fine in
    copies_show c.args.program.now c.args.own.now Dup2X2 c.args.next c.pair_below_three.result c.args.frame.now c.pair_below_three.new.frame c.args.heap.now 2 3 row c.pair_below_three.ensures.laid

pub pair_below_four-requires : goal.pair_below_four-requires
pair_below_four-requires c =
    let row = pair_below_pair_copies c.args.program.now c.args.own.now c.args.next c.args.frame.now.locals c.args.frame.now.stack.values c.args.heap.now c.peek.result.now c.peek-2.result.now c.peek.ensures (sym c.is_long.ensures ∙ c.if-is_long.false) c.peek-2.ensures (sym c.is_long-2.ensures ∙ c.if-is_long-3.false) c.requires.fine in
    record { there = row.there; room = has_room c.args.program.now c.args.own.now Dup2X2 c.args.next c.args.frame.now.locals c.args.frame.now.stack.values c.args.heap.now 2 4 c.args.frame.now.stack.room row c.requires.room }

pub returns-clause-step : goal.returns-clause-step
returns-clause-step c =
    let row = pair_below_pair_copies c.args.program.now c.args.own.now c.args.next c.args.frame.now.locals c.args.frame.now.stack.values c.args.heap.now c.peek.result.now c.peek-2.result.now c.peek.ensures (sym c.is_long.ensures ∙ c.if-is_long.false) c.peek-2.ensures (sym c.is_long-2.ensures ∙ c.if-is_long-3.false) c.requires.fine in
    copies_show c.args.program.now c.args.own.now Dup2X2 c.args.next c.pair_below_four.result c.args.frame.now c.pair_below_four.new.frame c.args.heap.now 2 4 row c.pair_below_four.ensures.laid
