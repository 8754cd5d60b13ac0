use Rattle.std.proofs.Common.{refl}
use Rattle.kilim_link_file_faults.specs.Shapes.{Shape}
use Rattle.kilim_link_spec.specs.LeftOut.{is_float_base}
use Rattle.kilim_link_file_faults.proofs.Loops.{found_at, passed_at, none_passes}
use Rattle.kilim_link_file_faults.proofs.types.has_float_base.Goals as goal

pub returns-then-is_float_base : goal.returns-then-is_float_base
returns-then-is_float_base c = found_at (λ (s : Shape). is_float_base s.base) c.args.shapes.now c.args.shapes.now c.loop-shape.shape-index c.shape-item.result c.is_float_base.result refl c.loop-shape-test.true c.shape-item.is c.is_float_base.ensures c.loop-shape.invariant c.if-is_float_base.true

pub loop-shape-preserved : goal.loop-shape-preserved
loop-shape-preserved c = passed_at (λ (s : Shape). is_float_base s.base) c.args.shapes.now c.args.shapes.now c.loop-shape.shape-index c.shape-item.result c.is_float_base.result refl c.loop-shape-test.true c.shape-item.is c.is_float_base.ensures c.loop-shape.invariant c.if-is_float_base.false

pub returns : goal.returns
returns c = none_passes (λ (s : Shape). is_float_base s.base) c.args.shapes.now c.args.shapes.now c.loop-shape.shape-index refl c.loop-shape-test.false c.loop-shape.invariant
