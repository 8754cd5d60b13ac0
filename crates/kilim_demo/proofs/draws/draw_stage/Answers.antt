use Rattle.std.proofs.Common.{◌%◌, refl}
use Rattle.kilim_demo.proofs.Drawn.{stage_is}
use Rattle.kilim_demo.proofs.draws.draw_stage.Goals as goal

pub returns : goal.returns
returns c =
    stage_is c.args.generator.now c.draw-first.new.generator c.draw-second.new.generator c.draw-first.result c.draw-second.result (c.draw-second.result % 100) c.operation_of-operation.result
    c.draw-first.ensures c.draw-second.ensures c.operation_of-operation.ensures refl
