use Rattle.std.proofs.Common.{sym, subst}
use Rattle.kilim_fiber_steps.specs.records.natives.Tables.{AreNatives}
use Rattle.kilim_fiber_steps.proofs.records.natives.Growing.{native_told, one_longer}
use Rattle.kilim_fiber_steps.proofs.records.natives.tables.native_table.Goals as goal

pub loop-at-preserved : goal.loop-at-preserved
loop-at-preserved c =
    let e = c.in-Ok-push.ensures.items in
    record {
      tell =
          subst (AreNatives c.args.program.now) (sym e)
          (native_told c.args.program.now c.loop-at.table.items c.native_of-native.result c.in-Ok.number (let long = c.loop-at.invariant.long in let same = c.in-Ok.ensures in cc) c.loop-at.invariant.tell c.native_of-native.ensures.some);
      long = one_longer c.loop-at.table.items c.push.new.self.items c.native_of-native.result c.loop-at.at e c.loop-at.invariant.long;
    }
