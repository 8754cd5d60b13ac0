use Rattle.std.proofs.Common.{[]}
use Rattle.kilim_class_attributes.specs.declared.parts.fault.AttributeFault.TheVariants as fault
use Rattle.kilim_class_attributes.specs.Lists.{many_after}
use Rattle.kilim_class_attributes.specs.Codes.{code_attribute_at}
use Rattle.kilim_class_attributes.proofs.Loops.{goes_on, stops, is_done}
use Rattle.kilim_class_attributes.proofs.code_reading.push_attributes_at.Goals as goal

pub returns-in-Err : goal.returns-in-Err
returns-in-Err c =
    stops (code_attribute_at c.args.pool.now) fault.Memory c.in-Err.fault c.loop.attributes c.args.count c.loop.counter c.loop.rest.now (many_after (code_attribute_at c.args.pool.now) [] c.args.count c.args.bytes.now) c.loop-test.true (rw c.as_slice.ensures at c.in-Err.ensures) c.loop.invariant

pub loop-preserved : goal.loop-preserved
loop-preserved c =
    rw c.in-Ok-push.ensures.ok (goes_on (code_attribute_at c.args.pool.now) c.loop.attributes c.args.count c.loop.counter c.loop.rest.now c.in-Ok.attribute c.in-Ok.after.now (many_after (code_attribute_at c.args.pool.now) [] c.args.count c.args.bytes.now) c.loop-test.true (rw c.as_slice.ensures at c.in-Ok.ensures) c.loop.invariant)

pub returns : goal.returns
returns c = is_done (code_attribute_at c.args.pool.now) c.loop.attributes c.args.count c.loop.counter c.loop.rest.now (many_after (code_attribute_at c.args.pool.now) [] c.args.count c.args.bytes.now) c.loop-test.false c.loop.invariant
