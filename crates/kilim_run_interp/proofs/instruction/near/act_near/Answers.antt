-- A row for each instruction: what its call requires, and what it ensures.
use Rattle.std.proofs.Common.{refl, arith}
use Rattle.kilim_run_machine.specs.Does.{does}
use Rattle.kilim_run_interp.proofs.instruction.Tables.{int_load_row, int_shift_row, long_shift_row, narrow_store_row, one_int_row, two_longs_row, value_returned}
use Rattle.kilim_run_interp.proofs.instruction.near.act_near.Goals as goal

pub returns-in-Nop : goal.returns-in-Nop
unfolding does
returns-in-Nop g c = record { step = rw c.in-Nop.is; same = record { method = refl; room = refl } }

pub constant-requires : goal.constant-requires
unfolding does
constant-requires g c = let fits = rw c.in-AconstNull.is at c.requires.room in omega (arith, fits)

pub returns-in-AconstNull : goal.returns-in-AconstNull
unfolding does
returns-in-AconstNull g c = record { step = rw c.in-AconstNull.is c.constant.ensures.step; same = c.constant.ensures.same }

pub constant-requires-in-Iconst : goal.constant-requires-in-Iconst
unfolding does
constant-requires-in-Iconst g c = let fits = rw c.in-Iconst.is at c.requires.room in omega (arith, fits)

pub constant-requires-in-Lconst : goal.constant-requires-in-Lconst
unfolding does
constant-requires-in-Lconst g c = let fits = rw c.in-Lconst.is at c.requires.room in omega (arith, fits)

pub load_int-requires : goal.load_int-requires
load_int-requires g c = record { fine = rw c.in-Iload.is at c.requires.fine; room = rw c.in-Iload.is at c.requires.room }

pub returns-in-Iload : goal.returns-in-Iload
returns-in-Iload g c = record { step = rw c.in-Iload.is c.load_int.ensures.step; same = c.load_int.ensures.same }

pub load_long-requires : goal.load_long-requires
load_long-requires g c = record { fine = rw c.in-Lload.is at c.requires.fine; room = rw c.in-Lload.is at c.requires.room }

pub returns-in-Lload : goal.returns-in-Lload
returns-in-Lload g c = record { step = rw c.in-Lload.is c.load_long.ensures.step; same = c.load_long.ensures.same }

pub load_reference-requires : goal.load_reference-requires
load_reference-requires g c = record { fine = rw c.in-Aload.is at c.requires.fine; room = rw c.in-Aload.is at c.requires.room }

pub returns-in-Aload : goal.returns-in-Aload
returns-in-Aload g c = record { step = rw c.in-Aload.is c.load_reference.ensures.step; same = c.load_reference.ensures.same }

pub store_int-requires : goal.store_int-requires
store_int-requires g c = record { fine = rw c.in-Istore.is at c.requires.fine; room = rw c.in-Istore.is at c.requires.room }

pub returns-in-Istore : goal.returns-in-Istore
returns-in-Istore g c = record { step = rw c.in-Istore.is c.store_int.ensures.step; same = c.store_int.ensures.same }

pub store_long-requires : goal.store_long-requires
store_long-requires g c = record { fine = rw c.in-Lstore.is at c.requires.fine; room = rw c.in-Lstore.is at c.requires.room }

pub returns-in-Lstore : goal.returns-in-Lstore
returns-in-Lstore g c = record { step = rw c.in-Lstore.is c.store_long.ensures.step; same = c.store_long.ensures.same }

pub store_reference-requires : goal.store_reference-requires
store_reference-requires g c = record { fine = rw c.in-Astore.is at c.requires.fine; room = rw c.in-Astore.is at c.requires.room }

pub returns-in-Astore : goal.returns-in-Astore
returns-in-Astore g c = record { step = rw c.in-Astore.is c.store_reference.ensures.step; same = c.store_reference.ensures.same }

pub read_long-requires : goal.read_long-requires
read_long-requires g c = record { fine = rw c.in-Laload.is at c.requires.fine; room = rw c.in-Laload.is at c.requires.room }

pub returns-in-Laload : goal.returns-in-Laload
returns-in-Laload g c = record { step = rw c.in-Laload.is c.read_long.ensures.step; same = c.read_long.ensures.same }

pub read_reference-requires : goal.read_reference-requires
read_reference-requires g c = record { fine = rw c.in-Aaload.is at c.requires.fine; room = rw c.in-Aaload.is at c.requires.room }

pub returns-in-Aaload : goal.returns-in-Aaload
returns-in-Aaload g c = record { step = rw c.in-Aaload.is c.read_reference.ensures.step; same = c.read_reference.ensures.same }

pub write_int-requires : goal.write_int-requires
write_int-requires g c = record { fine = rw c.in-Iastore.is at c.requires.fine; room = rw c.in-Iastore.is at c.requires.room }

pub returns-in-Iastore : goal.returns-in-Iastore
returns-in-Iastore g c = record { step = rw c.in-Iastore.is c.write_int.ensures.step; same = c.write_int.ensures.same }

pub write_long-requires : goal.write_long-requires
write_long-requires g c = record { fine = rw c.in-Lastore.is at c.requires.fine; room = rw c.in-Lastore.is at c.requires.room }

pub returns-in-Lastore : goal.returns-in-Lastore
returns-in-Lastore g c = record { step = rw c.in-Lastore.is c.write_long.ensures.step; same = c.write_long.ensures.same }

pub write_reference-requires : goal.write_reference-requires
write_reference-requires g c = record { fine = rw c.in-Aastore.is at c.requires.fine; room = rw c.in-Aastore.is at c.requires.room }

pub returns-in-Aastore : goal.returns-in-Aastore
returns-in-Aastore g c = record { step = rw c.in-Aastore.is c.write_reference.ensures.step; same = c.write_reference.ensures.same }

pub pop_word-requires : goal.pop_word-requires
pop_word-requires g c = record { fine = rw c.in-Pop.is at c.requires.fine; room = rw c.in-Pop.is at c.requires.room }

pub returns-in-Pop : goal.returns-in-Pop
returns-in-Pop g c = record { step = rw c.in-Pop.is c.pop_word.ensures.step; same = c.pop_word.ensures.same }

pub pop_two-requires : goal.pop_two-requires
pop_two-requires g c = record { fine = rw c.in-Pop2.is at c.requires.fine; room = rw c.in-Pop2.is at c.requires.room }

pub returns-in-Pop2 : goal.returns-in-Pop2
returns-in-Pop2 g c = record { step = rw c.in-Pop2.is c.pop_two.ensures.step; same = c.pop_two.ensures.same }

pub copy_word-requires : goal.copy_word-requires
copy_word-requires g c = record { fine = rw c.in-Dup.is at c.requires.fine; room = rw c.in-Dup.is at c.requires.room }

pub returns-in-Dup : goal.returns-in-Dup
returns-in-Dup g c = record { step = rw c.in-Dup.is c.copy_word.ensures.step; same = c.copy_word.ensures.same }

pub copy_below_one-requires : goal.copy_below_one-requires
copy_below_one-requires g c = record { fine = rw c.in-DupX1.is at c.requires.fine; room = rw c.in-DupX1.is at c.requires.room }

pub returns-in-DupX1 : goal.returns-in-DupX1
returns-in-DupX1 g c = record { step = rw c.in-DupX1.is c.copy_below_one.ensures.step; same = c.copy_below_one.ensures.same }

pub copy_below_two-requires : goal.copy_below_two-requires
copy_below_two-requires g c = record { fine = rw c.in-DupX2.is at c.requires.fine; room = rw c.in-DupX2.is at c.requires.room }

pub returns-in-DupX2 : goal.returns-in-DupX2
returns-in-DupX2 g c = record { step = rw c.in-DupX2.is c.copy_below_two.ensures.step; same = c.copy_below_two.ensures.same }

pub copy_two-requires : goal.copy_two-requires
copy_two-requires g c = record { fine = rw c.in-Dup2.is at c.requires.fine; room = rw c.in-Dup2.is at c.requires.room }

pub returns-in-Dup2 : goal.returns-in-Dup2
returns-in-Dup2 g c = record { step = rw c.in-Dup2.is c.copy_two.ensures.step; same = c.copy_two.ensures.same }

pub copy_two_below_one-requires : goal.copy_two_below_one-requires
copy_two_below_one-requires g c = record { fine = rw c.in-Dup2X1.is at c.requires.fine; room = rw c.in-Dup2X1.is at c.requires.room }

pub returns-in-Dup2X1 : goal.returns-in-Dup2X1
returns-in-Dup2X1 g c = record { step = rw c.in-Dup2X1.is c.copy_two_below_one.ensures.step; same = c.copy_two_below_one.ensures.same }

pub copy_two_below_two-requires : goal.copy_two_below_two-requires
copy_two_below_two-requires g c = record { fine = rw c.in-Dup2X2.is at c.requires.fine; room = rw c.in-Dup2X2.is at c.requires.room }

pub returns-in-Dup2X2 : goal.returns-in-Dup2X2
returns-in-Dup2X2 g c = record { step = rw c.in-Dup2X2.is c.copy_two_below_two.ensures.step; same = c.copy_two_below_two.ensures.same }

pub swap_words-requires : goal.swap_words-requires
swap_words-requires g c = record { fine = rw c.in-Swap.is at c.requires.fine; room = rw c.in-Swap.is at c.requires.room }

pub returns-in-Swap : goal.returns-in-Swap
returns-in-Swap g c = record { step = rw c.in-Swap.is c.swap_words.ensures.step; same = c.swap_words.ensures.same }

pub divide_ints-requires : goal.divide_ints-requires
unfolding does
divide_ints-requires g c = record { fine = rw c.in-Idiv.is at c.requires.fine; room = rw c.in-Idiv.is at c.requires.room }

pub returns-in-Idiv : goal.returns-in-Idiv
unfolding does
returns-in-Idiv g c = record { step = rw c.in-Idiv.is c.divide_ints.ensures.step; same = c.divide_ints.ensures.same }

pub divide_longs-requires : goal.divide_longs-requires
unfolding does
divide_longs-requires g c = record { fine = rw c.in-Ldiv.is at c.requires.fine; room = rw c.in-Ldiv.is at c.requires.room }

pub returns-in-Ldiv : goal.returns-in-Ldiv
unfolding does
returns-in-Ldiv g c = record { step = rw c.in-Ldiv.is c.divide_longs.ensures.step; same = c.divide_longs.ensures.same }

pub divide_ints-requires-in-Irem : goal.divide_ints-requires-in-Irem
unfolding does
divide_ints-requires-in-Irem g c = record { fine = rw c.in-Irem.is at c.requires.fine; room = rw c.in-Irem.is at c.requires.room }

pub returns-in-Irem : goal.returns-in-Irem
unfolding does
returns-in-Irem g c = record { step = rw c.in-Irem.is c.divide_ints-in-Irem.ensures.step; same = c.divide_ints-in-Irem.ensures.same }

pub divide_longs-requires-in-Lrem : goal.divide_longs-requires-in-Lrem
unfolding does
divide_longs-requires-in-Lrem g c = record { fine = rw c.in-Lrem.is at c.requires.fine; room = rw c.in-Lrem.is at c.requires.room }

pub returns-in-Lrem : goal.returns-in-Lrem
unfolding does
returns-in-Lrem g c = record { step = rw c.in-Lrem.is c.divide_longs-in-Lrem.ensures.step; same = c.divide_longs-in-Lrem.ensures.same }

pub negate_long-requires : goal.negate_long-requires
negate_long-requires g c = record { fine = rw c.in-Lneg.is at c.requires.fine; room = rw c.in-Lneg.is at c.requires.room }

pub returns-in-Lneg : goal.returns-in-Lneg
returns-in-Lneg g c = record { step = rw c.in-Lneg.is c.negate_long.ensures.step; same = c.negate_long.ensures.same }

pub int_to_long-requires : goal.int_to_long-requires
int_to_long-requires g c = record { fine = rw c.in-I2l.is at c.requires.fine; room = rw c.in-I2l.is at c.requires.room }

pub returns-in-I2l : goal.returns-in-I2l
returns-in-I2l g c = record { step = rw c.in-I2l.is c.int_to_long.ensures.step; same = c.int_to_long.ensures.same }

pub long_to_int-requires : goal.long_to_int-requires
long_to_int-requires g c = record { fine = rw c.in-L2i.is at c.requires.fine; room = rw c.in-L2i.is at c.requires.room }

pub returns-in-L2i : goal.returns-in-L2i
returns-in-L2i g c = record { step = rw c.in-L2i.is c.long_to_int.ensures.step; same = c.long_to_int.ensures.same }

pub compare_longs-requires : goal.compare_longs-requires
compare_longs-requires g c = record { fine = rw c.in-Lcmp.is at c.requires.fine; room = rw c.in-Lcmp.is at c.requires.room }

pub returns-in-Lcmp : goal.returns-in-Lcmp
returns-in-Lcmp g c = record { step = rw c.in-Lcmp.is c.compare_longs.ensures.step; same = c.compare_longs.ensures.same }

pub jump_on_references-requires : goal.jump_on_references-requires
unfolding does
jump_on_references-requires g c = record { fine = rw c.in-IfAcmpeq.is at c.requires.fine; room = rw c.in-IfAcmpeq.is at c.requires.room }

pub returns-in-IfAcmpeq : goal.returns-in-IfAcmpeq
unfolding does
returns-in-IfAcmpeq g c = record { step = rw c.in-IfAcmpeq.is c.jump_on_references.ensures.step; same = c.jump_on_references.ensures.same }

pub jump_on_references-requires-in-IfAcmpne : goal.jump_on_references-requires-in-IfAcmpne
unfolding does
jump_on_references-requires-in-IfAcmpne g c = record { fine = rw c.in-IfAcmpne.is at c.requires.fine; room = rw c.in-IfAcmpne.is at c.requires.room }

pub returns-in-IfAcmpne : goal.returns-in-IfAcmpne
unfolding does
returns-in-IfAcmpne g c = record { step = rw c.in-IfAcmpne.is c.jump_on_references-in-IfAcmpne.ensures.step; same = c.jump_on_references-in-IfAcmpne.ensures.same }

pub jump_on_null-requires : goal.jump_on_null-requires
unfolding does
jump_on_null-requires g c = record { fine = rw c.in-Ifnull.is at c.requires.fine; room = rw c.in-Ifnull.is at c.requires.room }

pub returns-in-Ifnull : goal.returns-in-Ifnull
unfolding does
returns-in-Ifnull g c = record { step = rw c.in-Ifnull.is c.jump_on_null.ensures.step; same = c.jump_on_null.ensures.same }

pub jump_on_null-requires-in-Ifnonnull : goal.jump_on_null-requires-in-Ifnonnull
unfolding does
jump_on_null-requires-in-Ifnonnull g c = record { fine = rw c.in-Ifnonnull.is at c.requires.fine; room = rw c.in-Ifnonnull.is at c.requires.room }

pub returns-in-Ifnonnull : goal.returns-in-Ifnonnull
unfolding does
returns-in-Ifnonnull g c = record { step = rw c.in-Ifnonnull.is c.jump_on_null-in-Ifnonnull.ensures.step; same = c.jump_on_null-in-Ifnonnull.ensures.same }

pub jump_by_table-requires : goal.jump_by_table-requires
jump_by_table-requires g c = record { fine = rw c.in-Tableswitch.is at c.requires.fine; room = rw c.in-Tableswitch.is at c.requires.room }

pub returns-in-Tableswitch : goal.returns-in-Tableswitch
returns-in-Tableswitch g c = record { step = rw c.in-Tableswitch.is c.jump_by_table.ensures.step; same = c.jump_by_table.ensures.same }

pub jump_by_match-requires : goal.jump_by_match-requires
jump_by_match-requires g c = record { fine = rw c.in-Lookupswitch.is at c.requires.fine; room = rw c.in-Lookupswitch.is at c.requires.room }

pub returns-in-Lookupswitch : goal.returns-in-Lookupswitch
returns-in-Lookupswitch g c = record { step = rw c.in-Lookupswitch.is c.jump_by_match.ensures.step; same = c.jump_by_match.ensures.same }

pub read_constant-requires : goal.read_constant-requires
read_constant-requires g c = record { fine = rw c.in-Getstatic.is at c.requires.fine; room = rw c.in-Getstatic.is at c.requires.room }

pub returns-in-Getstatic : goal.returns-in-Getstatic
returns-in-Getstatic g c = record { step = rw c.in-Getstatic.is c.read_constant.ensures.step; same = c.read_constant.ensures.same }

pub read_field-requires : goal.read_field-requires
read_field-requires g c = record { fine = rw c.in-Getfield.is at c.requires.fine; room = rw c.in-Getfield.is at c.requires.room }

pub returns-in-Getfield : goal.returns-in-Getfield
returns-in-Getfield g c = record { step = rw c.in-Getfield.is c.read_field.ensures.step; same = c.read_field.ensures.same }

pub write_field-requires : goal.write_field-requires
write_field-requires g c = record { fine = rw c.in-Putfield.is at c.requires.fine; room = rw c.in-Putfield.is at c.requires.room }

pub returns-in-Putfield : goal.returns-in-Putfield
returns-in-Putfield g c = record { step = rw c.in-Putfield.is c.write_field.ensures.step; same = c.write_field.ensures.same }

pub array_length-requires : goal.array_length-requires
array_length-requires g c = record { fine = rw c.in-Arraylength.is at c.requires.fine; room = rw c.in-Arraylength.is at c.requires.room }

pub returns-in-Arraylength : goal.returns-in-Arraylength
returns-in-Arraylength g c = record { step = rw c.in-Arraylength.is c.array_length.ensures.step; same = c.array_length.ensures.same }

pub cast-requires : goal.cast-requires
cast-requires g c = record { fine = rw c.in-Checkcast.is at c.requires.fine; room = rw c.in-Checkcast.is at c.requires.room }

pub returns-in-Checkcast : goal.returns-in-Checkcast
returns-in-Checkcast g c = record { step = rw c.in-Checkcast.is c.cast.ensures.step; same = c.cast.ensures.same }

pub test_type-requires : goal.test_type-requires
test_type-requires g c = record { fine = rw c.in-Instanceof.is at c.requires.fine; room = rw c.in-Instanceof.is at c.requires.room }

pub returns-in-Instanceof : goal.returns-in-Instanceof
returns-in-Instanceof g c = record { step = rw c.in-Instanceof.is c.test_type.ensures.step; same = c.test_type.ensures.same }

pub read_int-requires : goal.read_int-requires
read_int-requires g c =
    let row = int_load_row c.args.program.now c.args.own.now c.args.instr.now c.args.next c.args.frame.now.locals c.args.frame.now.stack.values c.args.heap.now c.in-Iaload.is in
    record { fine = rw row at c.requires.fine; room = rw row at c.requires.room }

pub returns-in-Iaload : goal.returns-in-Iaload
returns-in-Iaload g c =
    let row = int_load_row c.args.program.now c.args.own.now c.args.instr.now c.args.next c.args.frame.now.locals c.args.frame.now.stack.values c.args.heap.now c.in-Iaload.is in
    record { step = rw row c.read_int.ensures.step; same = c.read_int.ensures.same }

pub write_narrowed-requires : goal.write_narrowed-requires
write_narrowed-requires g c =
    let row = narrow_store_row c.args.program.now c.args.own.now c.args.instr.now c.args.next c.args.frame.now.locals c.args.frame.now.stack.values c.args.heap.now c.in-Bastore.is in
    record { fine = rw row at c.requires.fine; room = rw row at c.requires.room }

pub returns-in-Bastore : goal.returns-in-Bastore
returns-in-Bastore g c =
    let row = narrow_store_row c.args.program.now c.args.own.now c.args.instr.now c.args.next c.args.frame.now.locals c.args.frame.now.stack.values c.args.heap.now c.in-Bastore.is in
    record { step = rw row c.write_narrowed.ensures.step; same = c.write_narrowed.ensures.same }

pub two_longs-requires : goal.two_longs-requires
two_longs-requires g c =
    let row = two_longs_row c.args.program.now c.args.own.now c.args.instr.now c.binary_of.result c.args.next c.args.frame.now.locals c.args.frame.now.stack.values c.args.heap.now c.binary_of.ensures c.in-Ladd.is in
    record { fine = rw row at c.requires.fine; room = rw row at c.requires.room }

pub returns-in-Ladd : goal.returns-in-Ladd
returns-in-Ladd g c =
    let row = two_longs_row c.args.program.now c.args.own.now c.args.instr.now c.binary_of.result c.args.next c.args.frame.now.locals c.args.frame.now.stack.values c.args.heap.now c.binary_of.ensures c.in-Ladd.is in
    record { step = rw row c.two_longs.ensures.step; same = c.two_longs.ensures.same }

pub shift_int-requires : goal.shift_int-requires
shift_int-requires g c =
    let row = int_shift_row c.args.program.now c.args.own.now c.args.instr.now c.shift_of.result c.args.next c.args.frame.now.locals c.args.frame.now.stack.values c.args.heap.now c.shift_of.ensures c.in-Ishl.is in
    record { fine = rw row at c.requires.fine; room = rw row at c.requires.room }

pub returns-in-Ishl : goal.returns-in-Ishl
returns-in-Ishl g c =
    let row = int_shift_row c.args.program.now c.args.own.now c.args.instr.now c.shift_of.result c.args.next c.args.frame.now.locals c.args.frame.now.stack.values c.args.heap.now c.shift_of.ensures c.in-Ishl.is in
    record { step = rw row c.shift_int.ensures.step; same = c.shift_int.ensures.same }

pub shift_long-requires : goal.shift_long-requires
shift_long-requires g c =
    let row = long_shift_row c.args.program.now c.args.own.now c.args.instr.now c.shift_of-in-Lshl.result c.args.next c.args.frame.now.locals c.args.frame.now.stack.values c.args.heap.now c.shift_of-in-Lshl.ensures c.in-Lshl.is in
    record { fine = rw row at c.requires.fine; room = rw row at c.requires.room }

pub returns-in-Lshl : goal.returns-in-Lshl
returns-in-Lshl g c =
    let row = long_shift_row c.args.program.now c.args.own.now c.args.instr.now c.shift_of-in-Lshl.result c.args.next c.args.frame.now.locals c.args.frame.now.stack.values c.args.heap.now c.shift_of-in-Lshl.ensures c.in-Lshl.is in
    record { step = rw row c.shift_long.ensures.step; same = c.shift_long.ensures.same }

pub one_int-requires : goal.one_int-requires
one_int-requires g c =
    let row = one_int_row c.args.program.now c.args.own.now c.args.instr.now c.unary_of.result c.args.next c.args.frame.now.locals c.args.frame.now.stack.values c.args.heap.now c.unary_of.ensures c.in-Ineg.is in
    record { fine = rw row at c.requires.fine; room = rw row at c.requires.room }

pub returns-in-Ineg : goal.returns-in-Ineg
returns-in-Ineg g c =
    let row = one_int_row c.args.program.now c.args.own.now c.args.instr.now c.unary_of.result c.args.next c.args.frame.now.locals c.args.frame.now.stack.values c.args.heap.now c.unary_of.ensures c.in-Ineg.is in
    record { step = rw row c.one_int.ensures.step; same = c.one_int.ensures.same }

pub returns-in-Ireturn : goal.returns-in-Ireturn
returns-in-Ireturn g c =
    let row = value_returned c.args.program.now c.args.own.now c.args.instr.now c.args.next c.args.frame.now.locals c.args.frame.now.stack.values c.args.heap.now c.in-Ireturn.is c.requires.fine in
    record { step = (row.0, row.1, record { frame = refl; heap = refl }); same = record { method = refl; room = refl } }

pub returns-in-Return : goal.returns-in-Return
unfolding does
returns-in-Return g c = record { step = (rw c.in-Return.is, record { frame = refl; heap = refl }); same = record { method = refl; room = refl } }

pub throw_object-requires : goal.throw_object-requires
throw_object-requires g c = rw c.in-Athrow.is at c.requires.fine

pub returns-in-Athrow : goal.returns-in-Athrow
returns-in-Athrow g c = record { step = rw c.in-Athrow.is c.throw_object.ensures.step; same = c.throw_object.ensures.same }

pub two_ints-requires : goal.two_ints-requires
unfolding does
two_ints-requires g c = record { fine = rw c.in-Iadd.is at c.requires.fine; room = rw c.in-Iadd.is at c.requires.room }

pub returns-in-Iadd : goal.returns-in-Iadd
unfolding does
returns-in-Iadd g c = record { step = rw c.in-Iadd.is c.two_ints.ensures.step; same = c.two_ints.ensures.same }

pub two_ints-requires-in-Isub : goal.two_ints-requires-in-Isub
unfolding does
two_ints-requires-in-Isub g c = record { fine = rw c.in-Isub.is at c.requires.fine; room = rw c.in-Isub.is at c.requires.room }

pub returns-in-Isub : goal.returns-in-Isub
unfolding does
returns-in-Isub g c = record { step = rw c.in-Isub.is c.two_ints-in-Isub.ensures.step; same = c.two_ints-in-Isub.ensures.same }

pub two_ints-requires-in-Imul : goal.two_ints-requires-in-Imul
unfolding does
two_ints-requires-in-Imul g c = record { fine = rw c.in-Imul.is at c.requires.fine; room = rw c.in-Imul.is at c.requires.room }

pub returns-in-Imul : goal.returns-in-Imul
unfolding does
returns-in-Imul g c = record { step = rw c.in-Imul.is c.two_ints-in-Imul.ensures.step; same = c.two_ints-in-Imul.ensures.same }

pub two_ints-requires-in-Iand : goal.two_ints-requires-in-Iand
unfolding does
two_ints-requires-in-Iand g c = record { fine = rw c.in-Iand.is at c.requires.fine; room = rw c.in-Iand.is at c.requires.room }

pub returns-in-Iand : goal.returns-in-Iand
unfolding does
returns-in-Iand g c = record { step = rw c.in-Iand.is c.two_ints-in-Iand.ensures.step; same = c.two_ints-in-Iand.ensures.same }

pub two_ints-requires-in-Ior : goal.two_ints-requires-in-Ior
unfolding does
two_ints-requires-in-Ior g c = record { fine = rw c.in-Ior.is at c.requires.fine; room = rw c.in-Ior.is at c.requires.room }

pub returns-in-Ior : goal.returns-in-Ior
unfolding does
returns-in-Ior g c = record { step = rw c.in-Ior.is c.two_ints-in-Ior.ensures.step; same = c.two_ints-in-Ior.ensures.same }

pub two_ints-requires-in-Ixor : goal.two_ints-requires-in-Ixor
unfolding does
two_ints-requires-in-Ixor g c = record { fine = rw c.in-Ixor.is at c.requires.fine; room = rw c.in-Ixor.is at c.requires.room }

pub returns-in-Ixor : goal.returns-in-Ixor
unfolding does
returns-in-Ixor g c = record { step = rw c.in-Ixor.is c.two_ints-in-Ixor.ensures.step; same = c.two_ints-in-Ixor.ensures.same }

pub jump_on_int-requires : goal.jump_on_int-requires
unfolding does
jump_on_int-requires g c = record { fine = rw c.in-Ifeq.is at c.requires.fine; room = rw c.in-Ifeq.is at c.requires.room }

pub returns-in-Ifeq : goal.returns-in-Ifeq
unfolding does
returns-in-Ifeq g c = record { step = rw c.in-Ifeq.is c.jump_on_int.ensures.step; same = c.jump_on_int.ensures.same }

pub jump_on_int-requires-in-Ifne : goal.jump_on_int-requires-in-Ifne
unfolding does
jump_on_int-requires-in-Ifne g c = record { fine = rw c.in-Ifne.is at c.requires.fine; room = rw c.in-Ifne.is at c.requires.room }

pub returns-in-Ifne : goal.returns-in-Ifne
unfolding does
returns-in-Ifne g c = record { step = rw c.in-Ifne.is c.jump_on_int-in-Ifne.ensures.step; same = c.jump_on_int-in-Ifne.ensures.same }

pub jump_on_int-requires-in-Iflt : goal.jump_on_int-requires-in-Iflt
unfolding does
jump_on_int-requires-in-Iflt g c = record { fine = rw c.in-Iflt.is at c.requires.fine; room = rw c.in-Iflt.is at c.requires.room }

pub returns-in-Iflt : goal.returns-in-Iflt
unfolding does
returns-in-Iflt g c = record { step = rw c.in-Iflt.is c.jump_on_int-in-Iflt.ensures.step; same = c.jump_on_int-in-Iflt.ensures.same }

pub jump_on_int-requires-in-Ifge : goal.jump_on_int-requires-in-Ifge
unfolding does
jump_on_int-requires-in-Ifge g c = record { fine = rw c.in-Ifge.is at c.requires.fine; room = rw c.in-Ifge.is at c.requires.room }

pub returns-in-Ifge : goal.returns-in-Ifge
unfolding does
returns-in-Ifge g c = record { step = rw c.in-Ifge.is c.jump_on_int-in-Ifge.ensures.step; same = c.jump_on_int-in-Ifge.ensures.same }

pub jump_on_int-requires-in-Ifgt : goal.jump_on_int-requires-in-Ifgt
unfolding does
jump_on_int-requires-in-Ifgt g c = record { fine = rw c.in-Ifgt.is at c.requires.fine; room = rw c.in-Ifgt.is at c.requires.room }

pub returns-in-Ifgt : goal.returns-in-Ifgt
unfolding does
returns-in-Ifgt g c = record { step = rw c.in-Ifgt.is c.jump_on_int-in-Ifgt.ensures.step; same = c.jump_on_int-in-Ifgt.ensures.same }

pub jump_on_int-requires-in-Ifle : goal.jump_on_int-requires-in-Ifle
unfolding does
jump_on_int-requires-in-Ifle g c = record { fine = rw c.in-Ifle.is at c.requires.fine; room = rw c.in-Ifle.is at c.requires.room }

pub returns-in-Ifle : goal.returns-in-Ifle
unfolding does
returns-in-Ifle g c = record { step = rw c.in-Ifle.is c.jump_on_int-in-Ifle.ensures.step; same = c.jump_on_int-in-Ifle.ensures.same }

pub jump_on_two_ints-requires : goal.jump_on_two_ints-requires
unfolding does
jump_on_two_ints-requires g c = record { fine = rw c.in-IfIcmpeq.is at c.requires.fine; room = rw c.in-IfIcmpeq.is at c.requires.room }

pub returns-in-IfIcmpeq : goal.returns-in-IfIcmpeq
unfolding does
returns-in-IfIcmpeq g c = record { step = rw c.in-IfIcmpeq.is c.jump_on_two_ints.ensures.step; same = c.jump_on_two_ints.ensures.same }

pub jump_on_two_ints-requires-in-IfIcmpne : goal.jump_on_two_ints-requires-in-IfIcmpne
unfolding does
jump_on_two_ints-requires-in-IfIcmpne g c = record { fine = rw c.in-IfIcmpne.is at c.requires.fine; room = rw c.in-IfIcmpne.is at c.requires.room }

pub returns-in-IfIcmpne : goal.returns-in-IfIcmpne
unfolding does
returns-in-IfIcmpne g c = record { step = rw c.in-IfIcmpne.is c.jump_on_two_ints-in-IfIcmpne.ensures.step; same = c.jump_on_two_ints-in-IfIcmpne.ensures.same }

pub jump_on_two_ints-requires-in-IfIcmplt : goal.jump_on_two_ints-requires-in-IfIcmplt
unfolding does
jump_on_two_ints-requires-in-IfIcmplt g c = record { fine = rw c.in-IfIcmplt.is at c.requires.fine; room = rw c.in-IfIcmplt.is at c.requires.room }

pub returns-in-IfIcmplt : goal.returns-in-IfIcmplt
unfolding does
returns-in-IfIcmplt g c = record { step = rw c.in-IfIcmplt.is c.jump_on_two_ints-in-IfIcmplt.ensures.step; same = c.jump_on_two_ints-in-IfIcmplt.ensures.same }

pub jump_on_two_ints-requires-in-IfIcmpge : goal.jump_on_two_ints-requires-in-IfIcmpge
unfolding does
jump_on_two_ints-requires-in-IfIcmpge g c = record { fine = rw c.in-IfIcmpge.is at c.requires.fine; room = rw c.in-IfIcmpge.is at c.requires.room }

pub returns-in-IfIcmpge : goal.returns-in-IfIcmpge
unfolding does
returns-in-IfIcmpge g c = record { step = rw c.in-IfIcmpge.is c.jump_on_two_ints-in-IfIcmpge.ensures.step; same = c.jump_on_two_ints-in-IfIcmpge.ensures.same }

pub jump_on_two_ints-requires-in-IfIcmpgt : goal.jump_on_two_ints-requires-in-IfIcmpgt
unfolding does
jump_on_two_ints-requires-in-IfIcmpgt g c = record { fine = rw c.in-IfIcmpgt.is at c.requires.fine; room = rw c.in-IfIcmpgt.is at c.requires.room }

pub returns-in-IfIcmpgt : goal.returns-in-IfIcmpgt
unfolding does
returns-in-IfIcmpgt g c = record { step = rw c.in-IfIcmpgt.is c.jump_on_two_ints-in-IfIcmpgt.ensures.step; same = c.jump_on_two_ints-in-IfIcmpgt.ensures.same }

pub jump_on_two_ints-requires-in-IfIcmple : goal.jump_on_two_ints-requires-in-IfIcmple
unfolding does
jump_on_two_ints-requires-in-IfIcmple g c = record { fine = rw c.in-IfIcmple.is at c.requires.fine; room = rw c.in-IfIcmple.is at c.requires.room }

pub returns-in-IfIcmple : goal.returns-in-IfIcmple
unfolding does
returns-in-IfIcmple g c = record { step = rw c.in-IfIcmple.is c.jump_on_two_ints-in-IfIcmple.ensures.step; same = c.jump_on_two_ints-in-IfIcmple.ensures.same }

pub returns-in-Invokevirtual : goal.returns-in-Invokevirtual
returns-in-Invokevirtual g c = record { step = (rw c.in-Invokevirtual.is, record { frame = refl; heap = refl }); same = record { method = refl; room = refl } }

pub returns-in-Invokespecial : goal.returns-in-Invokespecial
returns-in-Invokespecial g c = record { step = (rw c.in-Invokespecial.is, record { frame = refl; heap = refl }); same = record { method = refl; room = refl } }

pub returns-in-Invokestatic : goal.returns-in-Invokestatic
returns-in-Invokestatic g c = record { step = (rw c.in-Invokestatic.is, record { frame = refl; heap = refl }); same = record { method = refl; room = refl } }

pub returns-in-New : goal.returns-in-New
returns-in-New g c = record { step = (rw c.in-New.is, record { frame = refl; heap = refl }); same = record { method = refl; room = refl } }

pub returns-in-Newarray : goal.returns-in-Newarray
returns-in-Newarray g c = record { step = (rw c.in-Newarray.is, record { frame = refl; heap = refl }); same = record { method = refl; room = refl } }

pub returns-in-Anewarray : goal.returns-in-Anewarray
returns-in-Anewarray g c = record { step = (rw c.in-Anewarray.is, record { frame = refl; heap = refl }); same = record { method = refl; room = refl } }
