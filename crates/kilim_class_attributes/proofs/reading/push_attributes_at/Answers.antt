use Rattle.std.proofs.Common.{[]}
use Rattle.kilim_class_attributes.specs.declared.parts.fault.AttributeFault.TheVariants as fault
use Rattle.kilim_class_attributes.specs.Lists.{many_after}
use Rattle.kilim_class_attributes.specs.Attributes.{attribute_at}
use Rattle.kilim_class_attributes.proofs.Loops.{goes_on, stops, is_done}
use Rattle.kilim_class_attributes.proofs.reading.push_attributes_at.Goals as goal

pub returns-in-Err : goal.returns-in-Err
returns-in-Err c =
    stops (attribute_at c.args.pool.now c.args.place) fault.Memory c.in-Err.fault c.loop.attributes c.args.count c.loop.counter c.loop.rest.now (many_after (attribute_at c.args.pool.now c.args.place) [] c.args.count c.args.bytes.now) c.loop-test.true (rw c.as_slice.ensures at c.in-Err.ensures) c.loop.invariant

pub loop-preserved : goal.loop-preserved
loop-preserved c =
    rw c.in-Ok-push.ensures.ok (goes_on (attribute_at c.args.pool.now c.args.place) c.loop.attributes c.args.count c.loop.counter c.loop.rest.now c.in-Ok.attribute c.in-Ok.after.now (many_after (attribute_at c.args.pool.now c.args.place) [] c.args.count c.args.bytes.now) c.loop-test.true (rw c.as_slice.ensures at c.in-Ok.ensures) c.loop.invariant)

pub returns : goal.returns
returns c = is_done (attribute_at c.args.pool.now c.args.place) c.loop.attributes c.args.count c.loop.counter c.loop.rest.now (many_after (attribute_at c.args.pool.now c.args.place) [] c.args.count c.args.bytes.now) c.loop-test.false c.loop.invariant
