use Rattle.std.proofs.Common.{sym, subst}
use Rattle.kilim_run_interp.specs.instruction.Reached.{AreReached}
use Rattle.kilim_run_interp.proofs.instruction.Growing.{one_longer}
use Rattle.kilim_run_interp.proofs.instruction.Reaching.{reach_grown}
use Rattle.kilim_run_interp.proofs.instruction.reached.reach_table.Goals as goal

pub loop-at-preserved : goal.loop-at-preserved
loop-at-preserved c =
    let e = c.in-Ok-push.ensures.items in
    record {
      told =
          subst (AreReached c.args.program.now) (sym e)
          (reach_grown c.args.program.now c.loop-at.table.items c.reach_of-reach.result c.in-Ok.number (let long = c.loop-at.invariant.long in let same = c.in-Ok.ensures in cc) c.loop-at.invariant.told c.reach_of-reach.ensures);
      long = one_longer c.loop-at.table.items c.push.new.self.items c.reach_of-reach.result c.loop-at.at e c.loop-at.invariant.long;
    }
