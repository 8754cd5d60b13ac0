use Rattle.std.proofs.Common.{arith}
use Rattle.kilim_demo.proofs.Drawn.{drawn_more, drawn_all}
use Rattle.kilim_demo.proofs.draws.draw_stages.Goals as goal

pub loop-preserved : goal.loop-preserved
loop-preserved c =
    drawn_more c.args.count c.loop.counter c.loop.stages c.push.new.self _ c.loop.generator c.draw_stage.new.generator c.draw_stage.result (omega (arith, c.loop-test.true)) c.draw_stage.ensures c.in-Ok.ensures.ok c.loop.invariant

pub returns : goal.returns
returns c = drawn_all c.args.count c.loop.counter c.loop.stages _ c.loop.generator (omega (arith, c.loop-test.false)) c.loop.invariant
