use Rattle.kilim_run_interp.proofs.instruction.Far.{none_far}
use Rattle.kilim_run_interp.proofs.instruction.table.act_far.Goals as goal

pub call_virtual-requires : goal.call_virtual-requires
call_virtual-requires c = record { fine = rw c.in-Invokevirtual.is at c.requires.fine; room = rw c.in-Invokevirtual.is at c.requires.room }

pub returns-in-Invokevirtual : goal.returns-in-Invokevirtual
returns-in-Invokevirtual c = record { step = rw c.in-Invokevirtual.is c.call_virtual.ensures.step; same = c.call_virtual.ensures.same }

pub call_special-requires : goal.call_special-requires
call_special-requires c = record { fine = rw c.in-Invokespecial.is at c.requires.fine; room = rw c.in-Invokespecial.is at c.requires.room }

pub returns-in-Invokespecial : goal.returns-in-Invokespecial
returns-in-Invokespecial c = record { step = rw c.in-Invokespecial.is c.call_special.ensures.step; same = c.call_special.ensures.same }

pub call_static-requires : goal.call_static-requires
call_static-requires c = record { fine = rw c.in-Invokestatic.is at c.requires.fine; room = rw c.in-Invokestatic.is at c.requires.room }

pub returns-in-Invokestatic : goal.returns-in-Invokestatic
returns-in-Invokestatic c = record { step = rw c.in-Invokestatic.is c.call_static.ensures.step; same = c.call_static.ensures.same }

pub make_object-requires : goal.make_object-requires
make_object-requires c = record { fine = rw c.in-New.is at c.requires.fine; room = rw c.in-New.is at c.requires.room }

pub returns-in-New : goal.returns-in-New
returns-in-New c = record { step = rw c.in-New.is c.make_object.ensures.step; same = c.make_object.ensures.same }

pub make_primitive_array-requires : goal.make_primitive_array-requires
make_primitive_array-requires c = record { fine = rw c.in-Newarray.is at c.requires.fine; room = rw c.in-Newarray.is at c.requires.room }

pub returns-in-Newarray : goal.returns-in-Newarray
returns-in-Newarray c = record { step = rw c.in-Newarray.is c.make_primitive_array.ensures.step; same = c.make_primitive_array.ensures.same }

pub make_reference_array-requires : goal.make_reference_array-requires
make_reference_array-requires c = record { fine = rw c.in-Anewarray.is at c.requires.fine; room = rw c.in-Anewarray.is at c.requires.room }

pub returns-in-Anewarray : goal.returns-in-Anewarray
returns-in-Anewarray c = record { step = rw c.in-Anewarray.is c.make_reference_array.ensures.step; same = c.make_reference_array.ensures.same }

pub unreachable-requires : goal.unreachable-requires
unreachable-requires c = none_far c.args.instr.now c.requires.far c.in_default.not-Invokevirtual c.in_default.not-Invokespecial c.in_default.not-Invokestatic c.in_default.not-New c.in_default.not-Newarray c.in_default.not-Anewarray
