use Rattle.std.proofs.Common.{◌≤◌, ◌<◌, ◌∙◌, arith, refl}
use Rattle.kilim_run_model.specs.Course.{Stays}
use Rattle.kilim_replay_thread.specs.Live.{lone_at}
use Rattle.kilim_replay_thread.specs.Reach.{setting_of}
use Rattle.kilim_replay_thread.proofs.Reaching.{can_on, coming_by, fewer, quiet_on, reach_on, went_by}
use Rattle.kilim_replay_thread.proofs.advance.reach.Goals as goal

pub loop-came-init : goal.loop-came-init
loop-came-init c = record { quiet = Stays refl; least = omega arith; roomy = c.requires.roomy; kept = λ z. refl }

pub advance-requires-clause-can : goal.advance-requires-clause-can
advance-requires-clause-can c =
    can_on (setting_of c.args.program.now c.args.main c.args.limits.now) c.args.task (lone_at c.args.task c.args.world.now c.args.live.now) (lone_at c.args.task c.loop-came.world c.loop-came.live) c.requires.can c.loop-came.invariant.quiet

pub loop-came-smaller : goal.loop-came-smaller
loop-came-smaller c =
    let went = went_by (setting_of c.args.program.now c.args.main c.args.limits.now) c.args.task (lone_at c.args.task c.loop-came.world c.loop-came.live) c.loop-came.live.done c.advance.new.world c.advance.new.live c.in-Ok.came c.in-On.is c.in-Ok.ensures.reaches in
    fewer c.args.limits.now.steps c.loop-came.live.done c.advance.new.live.done went.more went.most

pub loop-came-preserved : goal.loop-came-preserved
loop-came-preserved c =
    let set = setting_of c.args.program.now c.args.main c.args.limits.now in
    let went = went_by set c.args.task (lone_at c.args.task c.loop-came.world c.loop-came.live) c.loop-came.live.done c.advance.new.world c.advance.new.live c.in-Ok.came c.in-On.is c.in-Ok.ensures.reaches in
    record {
      quiet = quiet_on set c.args.task (lone_at c.args.task c.args.world.now c.args.live.now) (lone_at c.args.task c.loop-came.world c.loop-came.live) (lone_at c.args.task c.advance.new.world c.advance.new.live) c.loop-came.invariant.quiet went.quiet;
      least =
          let a : c.args.live.now.done ≤ c.loop-came.live.done = c.loop-came.invariant.least in
          let b : c.loop-came.live.done < c.advance.new.live.done = went.more in
          omega arith;
      roomy = c.in-Ok.ensures.roomy;
      kept = λ z. c.in-Ok.ensures.kept z ∙ c.loop-came.invariant.kept z;
    }

pub returns-in_default-came : goal.returns-in_default-came
returns-in_default-came c = record {
  reaches =
      reach_on (setting_of c.args.program.now c.args.main c.args.limits.now) c.args.task (lone_at c.args.task c.args.world.now c.args.live.now) (lone_at c.args.task c.loop-came.world c.loop-came.live) c.args.live.now.done c.loop-came.live.done
      c.advance.new.world c.advance.new.live c.in-Ok.came c.loop-came.invariant.quiet c.loop-came.invariant.least c.in-Ok.ensures.reaches;
  coming = coming_by c.in-Ok.came c.in_default-came.not-On;
  room = c.in-Ok.ensures.room;
  roomy = c.in-Ok.ensures.roomy;
  kept = λ z. c.in-Ok.ensures.kept z ∙ c.loop-came.invariant.kept z;
}
