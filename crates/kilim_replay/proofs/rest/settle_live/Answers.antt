use Rattle.std.proofs.Common.{subst, sym}
use Rattle.kilim_replay_thread.specs.Live.{lone_at}
use Rattle.kilim_replay_thread.specs.Reach.{setting_of}
use Rattle.kilim_replay.specs.Rest.{HasCome}
use Rattle.kilim_replay.specs.declared.rest.Standing.{Standing}
use Rattle.kilim_replay.proofs.Closing.{has_come}
use Rattle.kilim_replay.proofs.rest.settle_live.Goals as goal

pub returns : goal.returns
returns c = record {
  come =
      let set = setting_of c.args.program.now c.args.main c.args.limits.now in
      let first = lone_at c.args.task c.args.world.now c.args.live in
      subst (λ (st : Standing). HasCome set c.args.task first c.reach.new.world st) (sym c.stand.ensures)
      (has_come set c.args.task first c.args.live.done c.reach.new.world c.reach.new.live c.in-Ok.came c.in-Ok.ensures.reaches c.in-Ok.ensures.coming);
}
