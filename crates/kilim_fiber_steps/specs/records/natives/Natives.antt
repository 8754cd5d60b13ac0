-- The built-in methods that the code tells apart, in the words of the machine.
use Rattle.kilim_run_machine.specs.Natives as native
use Rattle.kilim_fiber_steps.specs.declared.records.natives.natives.Member.{Member}
use Rattle.kilim_fiber_steps.specs.declared.records.natives.natives.Member.TheVariants as member
use Rattle.kilim_fiber_steps.specs.declared.records.natives.natives.Native.{Native}
use Rattle.kilim_fiber_steps.specs.declared.records.natives.natives.Native.TheVariants.{Execute, Start, Put, PutWait, Bound, Get, Getnb, Print, Yield, ArgCount, Arg, OfFiber}

abbrev pub member_meant : Member → native.FiberMember
member_meant member.Pc = native.Pc
member_meant member.Down = native.Down
member_meant member.Up = native.Up
member_meant member.Save = native.Save
member_meant member.Place = native.Place
member_meant member.Restore = native.Restore
member_meant member.Receiver = native.Receiver

abbrev pub meaning : Native → native.Native
meaning Execute = native.Execute
meaning Start = native.Start
meaning Put = native.Put
meaning PutWait = native.PutWait
meaning Bound = native.Bound
meaning Get = native.Get
meaning Getnb = native.Getnb
meaning Print = native.Print
meaning Yield = native.Yield
meaning ArgCount = native.ArgCount
meaning Arg = native.Arg
meaning (OfFiber m) = native.OfFiber (member_meant m)
