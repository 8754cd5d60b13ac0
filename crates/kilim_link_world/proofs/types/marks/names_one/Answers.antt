use Rattle.std.specs.Str.{bytes_eq}
use Rattle.kilim_link_world.proofs.types.Any.{found_at, passed_at, none_passes}
use Rattle.kilim_link_world.proofs.types.marks.names_one.Goals as goal

pub returns-then-is_type : goal.returns-then-is_type
returns-then-is_type c =
    found_at (bytes_eq c.args.text.now) c.args.types.now c.loop-annotation.annotation-index c.annotation-item.result c.is_type.result c.loop-annotation-test.true c.annotation-item.is c.is_type.ensures c.loop-annotation.invariant c.if-is_type.true

pub loop-annotation-preserved : goal.loop-annotation-preserved
loop-annotation-preserved c =
    passed_at (bytes_eq c.args.text.now) c.args.types.now c.loop-annotation.annotation-index c.annotation-item.result c.is_type.result c.loop-annotation-test.true c.annotation-item.is c.is_type.ensures c.loop-annotation.invariant c.if-is_type.false

pub returns : goal.returns
returns c = none_passes (bytes_eq c.args.text.now) c.args.types.now c.loop-annotation.annotation-index c.loop-annotation-test.false c.loop-annotation.invariant
