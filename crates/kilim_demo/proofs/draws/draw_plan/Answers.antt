use Rattle.std.proofs.Common.{◌+◌, ◌%◌, refl}
use Rattle.kilim_demo.proofs.Drawn.{few_drawn, plan_is}
use Rattle.kilim_demo.proofs.draws.draw_plan.Goals as goal

pub returns-clause-plan : goal.returns-clause-plan
returns-clause-plan c =
    plan_is c.args.generator.now c.draw-first.new.generator c.draw-second.new.generator c.draw-first.result c.draw-second.result (1 + c.draw-second.result % 1000) c.in_ok-stages.stages
    c.draw-first.ensures c.draw-second.ensures refl c.in_ok-stages.ensures

pub returns-clause-few : goal.returns-clause-few
returns-clause-few c = few_drawn c.draw-first.result c.draw-second.new.generator c.in_ok-stages.stages c.in_ok-stages.ensures
