use Rattle.std.proofs.Common.{inr}
use Rattle.kilim_class_grammar.specs.Reader.{many}
use Rattle.kilim_class_grammar.proofs.Loops.{goes_on, stops, is_done}
use Rattle.kilim_class_attributes.specs.declared.parts.fault.AttributeFault.TheVariants as fault
use Rattle.kilim_class_attributes.specs.Codes.{handler_at}
use Rattle.kilim_class_attributes.proofs.code_reading.so_many_handlers_at.Goals as goal

pub returns-in-Err : goal.returns-in-Err
returns-in-Err c =
    stops (handler_at c.args.pool.now) fault.Memory c.in-Err.fault c.loop.handlers c.args.count c.loop.counter c.loop.rest.now (many (handler_at c.args.pool.now) c.args.count c.args.bytes.now) c.loop-test.true (inr c.in-Err.ensures) c.loop.invariant

pub loop-preserved : goal.loop-preserved
loop-preserved c =
    rw c.in-Ok-push.ensures.ok (goes_on (handler_at c.args.pool.now) c.loop.handlers c.args.count c.loop.counter c.loop.rest.now c.in-Ok.handler c.in-Ok.after.now (many (handler_at c.args.pool.now) c.args.count c.args.bytes.now) c.loop-test.true c.in-Ok.ensures c.loop.invariant)

pub returns : goal.returns
returns c = is_done (handler_at c.args.pool.now) c.loop.handlers c.args.count c.loop.counter c.loop.rest.now (many (handler_at c.args.pool.now) c.args.count c.args.bytes.now) c.loop-test.false c.loop.invariant
