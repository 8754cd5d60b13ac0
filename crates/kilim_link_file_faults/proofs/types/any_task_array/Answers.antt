use Rattle.std.proofs.Common.{◌&&◌, refl}
use Rattle.kilim_link_file_faults.specs.Shapes.{Shape}
use Rattle.kilim_link_spec.specs.LeftOut.{is_task_base}
use Rattle.kilim_link_file_faults.proofs.Loops.{found_at, passed_at, none_passes}
use Rattle.kilim_link_file_faults.proofs.types.any_task_array.Goals as goal

pub returns-then-is_task_array : goal.returns-then-is_task_array
returns-then-is_task_array c = found_at (λ (s : Shape). s.is_array && is_task_base c.args.world.now s.base) c.args.shapes.now c.args.shapes.now c.loop-shape.shape-index c.shape-item.result c.is_task_array.result refl c.loop-shape-test.true c.shape-item.is c.is_task_array.ensures c.loop-shape.invariant c.if-is_task_array.true

pub loop-shape-preserved : goal.loop-shape-preserved
loop-shape-preserved c = passed_at (λ (s : Shape). s.is_array && is_task_base c.args.world.now s.base) c.args.shapes.now c.args.shapes.now c.loop-shape.shape-index c.shape-item.result c.is_task_array.result refl c.loop-shape-test.true c.shape-item.is c.is_task_array.ensures c.loop-shape.invariant c.if-is_task_array.false

pub returns : goal.returns
returns c = none_passes (λ (s : Shape). s.is_array && is_task_base c.args.world.now s.base) c.args.shapes.now c.args.shapes.now c.loop-shape.shape-index refl c.loop-shape-test.false c.loop-shape.invariant
