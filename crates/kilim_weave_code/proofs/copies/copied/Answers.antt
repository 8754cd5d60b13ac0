use Rattle.std.proofs.Common.{sym}
use Rattle.kilim_weave_code.proofs.copies.copied.Goals as goal

pub returns-in-Nop : goal.returns-in-Nop
returns-in-Nop c = sym c.in-Nop.is

pub returns-in-AconstNull : goal.returns-in-AconstNull
returns-in-AconstNull c = sym c.in-AconstNull.is

pub returns-in-Iaload : goal.returns-in-Iaload
returns-in-Iaload c = sym c.in-Iaload.is

pub returns-in-Laload : goal.returns-in-Laload
returns-in-Laload c = sym c.in-Laload.is

pub returns-in-Aaload : goal.returns-in-Aaload
returns-in-Aaload c = sym c.in-Aaload.is

pub returns-in-Baload : goal.returns-in-Baload
returns-in-Baload c = sym c.in-Baload.is

pub returns-in-Caload : goal.returns-in-Caload
returns-in-Caload c = sym c.in-Caload.is

pub returns-in-Saload : goal.returns-in-Saload
returns-in-Saload c = sym c.in-Saload.is

pub returns-in-Iastore : goal.returns-in-Iastore
returns-in-Iastore c = sym c.in-Iastore.is

pub returns-in-Lastore : goal.returns-in-Lastore
returns-in-Lastore c = sym c.in-Lastore.is

pub returns-in-Aastore : goal.returns-in-Aastore
returns-in-Aastore c = sym c.in-Aastore.is

pub returns-in-Bastore : goal.returns-in-Bastore
returns-in-Bastore c = sym c.in-Bastore.is

pub returns-in-Castore : goal.returns-in-Castore
returns-in-Castore c = sym c.in-Castore.is

pub returns-in-Sastore : goal.returns-in-Sastore
returns-in-Sastore c = sym c.in-Sastore.is

pub returns-in-Arraylength : goal.returns-in-Arraylength
returns-in-Arraylength c = sym c.in-Arraylength.is

pub returns-in-Ireturn : goal.returns-in-Ireturn
returns-in-Ireturn c = sym c.in-Ireturn.is

pub returns-in-Lreturn : goal.returns-in-Lreturn
returns-in-Lreturn c = sym c.in-Lreturn.is

pub returns-in-Areturn : goal.returns-in-Areturn
returns-in-Areturn c = sym c.in-Areturn.is

pub returns-in-Return : goal.returns-in-Return
returns-in-Return c = sym c.in-Return.is

pub returns-in-Athrow : goal.returns-in-Athrow
returns-in-Athrow c = sym c.in-Athrow.is

pub returns-in-Pop : goal.returns-in-Pop
returns-in-Pop c = sym c.in-Pop.is

pub returns-in-Pop2 : goal.returns-in-Pop2
returns-in-Pop2 c = sym c.in-Pop2.is

pub returns-in-Dup : goal.returns-in-Dup
returns-in-Dup c = sym c.in-Dup.is

pub returns-in-DupX1 : goal.returns-in-DupX1
returns-in-DupX1 c = sym c.in-DupX1.is

pub returns-in-DupX2 : goal.returns-in-DupX2
returns-in-DupX2 c = sym c.in-DupX2.is

pub returns-in-Dup2 : goal.returns-in-Dup2
returns-in-Dup2 c = sym c.in-Dup2.is

pub returns-in-Dup2X1 : goal.returns-in-Dup2X1
returns-in-Dup2X1 c = sym c.in-Dup2X1.is

pub returns-in-Dup2X2 : goal.returns-in-Dup2X2
returns-in-Dup2X2 c = sym c.in-Dup2X2.is

pub returns-in-Swap : goal.returns-in-Swap
returns-in-Swap c = sym c.in-Swap.is
