use Rattle.std.proofs.Common.{◌≤◌, refl, arith, rules}
use Rattle.kilim_fiber_body.specs.Body.{standing_at}
use Rattle.kilim_fiber_body.specs.Reach.{AtFirst}
use Rattle.kilim_fiber_body.specs.Steps.{setting_of}
use Rattle.kilim_fiber_body.proofs.Reaching.{joined, reached_later, wanting_by, went_later}
use Rattle.kilim_fiber_body.proofs.legs.reach.Goals as goal

pub loop-init : goal.loop-init
loop-init c = record { goes = AtFirst refl; roomy = c.requires.roomy; counted = omega arith; most = c.requires.most }

pub leg-requires-clause-ready : goal.leg-requires-clause-ready
leg-requires-clause-ready c = λ m goes. c.requires.ready m (joined (setting_of c.args.code.now c.args.limits.now c.args.main) c.args.code.now.program c.args.code.now.counted c.args.task (standing_at 0 c.args.body.now) m c.loop.invariant.goes goes)

pub loop-preserved : goal.loop-preserved
loop-preserved c =
    let set = setting_of c.args.code.now c.args.limits.now c.args.main in
    record {
      goes = went_later set c.args.code.now.program c.args.code.now.counted c.args.task (standing_at 0 c.args.body.now) (standing_at 0 c.loop.body) c.leg.new.body c.in-Ok.came c.in-On.is c.loop.invariant.goes c.in-Ok.ensures.reached;
      roomy = c.in-Ok.ensures.roomy;
      counted =
          let a : c.args.body.now.count ≤ c.loop.body.count = c.loop.invariant.counted in
          let m : c.loop.body.count ≤ c.leg.new.body.count = c.in-Ok.ensures.counted in
          omega arith;
      most = let over = c.if-body-limits.false in omega arith;
    }

pub returns-in_default-came : goal.returns-in_default-came
returns-in_default-came c =
    let set = setting_of c.args.code.now c.args.limits.now c.args.main in
    record {
      reaches = reached_later set c.args.code.now.program c.args.code.now.counted c.args.task (standing_at 0 c.args.body.now) (standing_at 0 c.loop.body) c.leg.new.body c.in-Ok.came c.in_default-came.not-On c.loop.invariant.goes c.in-Ok.ensures.reached;
      wanting = wanting_by c.in-Ok.came c.in_default-came.not-On;
      room = c.in-Ok.ensures.room;
      roomy = c.in-Ok.ensures.roomy;
      counted =
          let a : c.args.body.now.count ≤ c.loop.body.count = c.loop.invariant.counted in
          let m : c.loop.body.count ≤ c.leg.new.body.count = c.in-Ok.ensures.counted in
          omega arith;
      limit = search rules;
      most = let over = c.if-body-limits.false in omega arith;
    }
