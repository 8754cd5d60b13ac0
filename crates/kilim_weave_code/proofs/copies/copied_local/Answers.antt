use Rattle.std.proofs.Common.{sym}
use Rattle.kilim_weave_code.proofs.copies.copied_local.Goals as goal

pub returns-in-Iload : goal.returns-in-Iload
returns-in-Iload c = sym c.in-Iload.is

pub returns-in-Lload : goal.returns-in-Lload
returns-in-Lload c = sym c.in-Lload.is

pub returns-in-Aload : goal.returns-in-Aload
returns-in-Aload c = sym c.in-Aload.is

pub returns-in-Istore : goal.returns-in-Istore
returns-in-Istore c = sym c.in-Istore.is

pub returns-in-Lstore : goal.returns-in-Lstore
returns-in-Lstore c = sym c.in-Lstore.is

pub returns-in-Astore : goal.returns-in-Astore
returns-in-Astore c = sym c.in-Astore.is

pub returns-in-Getstatic : goal.returns-in-Getstatic
returns-in-Getstatic c = sym c.in-Getstatic.is

pub returns-in-Getfield : goal.returns-in-Getfield
returns-in-Getfield c = sym c.in-Getfield.is

pub returns-in-Putfield : goal.returns-in-Putfield
returns-in-Putfield c = sym c.in-Putfield.is

pub returns-in-Invokevirtual : goal.returns-in-Invokevirtual
returns-in-Invokevirtual c = sym c.in-Invokevirtual.is

pub returns-in-Invokespecial : goal.returns-in-Invokespecial
returns-in-Invokespecial c = sym c.in-Invokespecial.is

pub returns-in-Invokestatic : goal.returns-in-Invokestatic
returns-in-Invokestatic c = sym c.in-Invokestatic.is

pub returns-in-New : goal.returns-in-New
returns-in-New c = sym c.in-New.is

pub returns-in-Newarray : goal.returns-in-Newarray
returns-in-Newarray c = sym c.in-Newarray.is

pub returns-in-Anewarray : goal.returns-in-Anewarray
returns-in-Anewarray c = sym c.in-Anewarray.is

pub returns-in-Checkcast : goal.returns-in-Checkcast
returns-in-Checkcast c = sym c.in-Checkcast.is

pub returns-in-Instanceof : goal.returns-in-Instanceof
returns-in-Instanceof c = sym c.in-Instanceof.is
