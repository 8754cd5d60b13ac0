use Rattle.kilim_run_interp.proofs.instruction.reached.told.Goals as goal

pub told_static-requires : goal.told_static-requires
told_static-requires c = record { table = c.requires.table; fine = rw c.in-Invokestatic.is at c.requires.fine }

pub returns-in-Invokestatic : goal.returns-in-Invokestatic
returns-in-Invokestatic c = rw c.in-Invokestatic.is c.told_static.ensures

pub returns-in-Invokevirtual : goal.returns-in-Invokevirtual
returns-in-Invokevirtual c = rw c.in-Invokevirtual.is c.told_virtual.ensures

pub told_virtual-requires : goal.told_virtual-requires
told_virtual-requires c = record { table = c.requires.table; fine = rw c.in-Invokevirtual.is at c.requires.fine }
