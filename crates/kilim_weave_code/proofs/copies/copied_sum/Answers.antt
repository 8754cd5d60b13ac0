use Rattle.std.proofs.Common.{sym}
use Rattle.kilim_weave_code.proofs.copies.copied_sum.Goals as goal

pub returns-in-Iadd : goal.returns-in-Iadd
returns-in-Iadd c = sym c.in-Iadd.is

pub returns-in-Ladd : goal.returns-in-Ladd
returns-in-Ladd c = sym c.in-Ladd.is

pub returns-in-Isub : goal.returns-in-Isub
returns-in-Isub c = sym c.in-Isub.is

pub returns-in-Lsub : goal.returns-in-Lsub
returns-in-Lsub c = sym c.in-Lsub.is

pub returns-in-Imul : goal.returns-in-Imul
returns-in-Imul c = sym c.in-Imul.is

pub returns-in-Lmul : goal.returns-in-Lmul
returns-in-Lmul c = sym c.in-Lmul.is

pub returns-in-Idiv : goal.returns-in-Idiv
returns-in-Idiv c = sym c.in-Idiv.is

pub returns-in-Ldiv : goal.returns-in-Ldiv
returns-in-Ldiv c = sym c.in-Ldiv.is

pub returns-in-Irem : goal.returns-in-Irem
returns-in-Irem c = sym c.in-Irem.is

pub returns-in-Lrem : goal.returns-in-Lrem
returns-in-Lrem c = sym c.in-Lrem.is

pub returns-in-Ineg : goal.returns-in-Ineg
returns-in-Ineg c = sym c.in-Ineg.is

pub returns-in-Lneg : goal.returns-in-Lneg
returns-in-Lneg c = sym c.in-Lneg.is

pub returns-in-Ishl : goal.returns-in-Ishl
returns-in-Ishl c = sym c.in-Ishl.is

pub returns-in-Lshl : goal.returns-in-Lshl
returns-in-Lshl c = sym c.in-Lshl.is

pub returns-in-Ishr : goal.returns-in-Ishr
returns-in-Ishr c = sym c.in-Ishr.is

pub returns-in-Lshr : goal.returns-in-Lshr
returns-in-Lshr c = sym c.in-Lshr.is

pub returns-in-Iushr : goal.returns-in-Iushr
returns-in-Iushr c = sym c.in-Iushr.is

pub returns-in-Lushr : goal.returns-in-Lushr
returns-in-Lushr c = sym c.in-Lushr.is

pub returns-in-Iand : goal.returns-in-Iand
returns-in-Iand c = sym c.in-Iand.is

pub returns-in-Land : goal.returns-in-Land
returns-in-Land c = sym c.in-Land.is

pub returns-in-Ior : goal.returns-in-Ior
returns-in-Ior c = sym c.in-Ior.is

pub returns-in-Lor : goal.returns-in-Lor
returns-in-Lor c = sym c.in-Lor.is

pub returns-in-Ixor : goal.returns-in-Ixor
returns-in-Ixor c = sym c.in-Ixor.is

pub returns-in-Lxor : goal.returns-in-Lxor
returns-in-Lxor c = sym c.in-Lxor.is

pub returns-in-I2l : goal.returns-in-I2l
returns-in-I2l c = sym c.in-I2l.is

pub returns-in-L2i : goal.returns-in-L2i
returns-in-L2i c = sym c.in-L2i.is

pub returns-in-I2b : goal.returns-in-I2b
returns-in-I2b c = sym c.in-I2b.is

pub returns-in-I2c : goal.returns-in-I2c
returns-in-I2c c = sym c.in-I2c.is

pub returns-in-I2s : goal.returns-in-I2s
returns-in-I2s c = sym c.in-I2s.is

pub returns-in-Lcmp : goal.returns-in-Lcmp
returns-in-Lcmp c = sym c.in-Lcmp.is
