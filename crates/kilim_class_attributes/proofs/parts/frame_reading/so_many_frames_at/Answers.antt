use Rattle.kilim_class_grammar.specs.Reader.{many}
use Rattle.kilim_class_grammar.proofs.Loops.{goes_on, stops, is_done}
use Rattle.kilim_class_attributes.specs.declared.parts.fault.AttributeFault.TheVariants.{Memory}
use Rattle.kilim_class_attributes.specs.parts.Frames.{frame_at}
use Rattle.kilim_class_attributes.proofs.parts.frame_reading.so_many_frames_at.Goals as goal

pub returns-in-Err : goal.returns-in-Err
returns-in-Err c =
    stops (frame_at c.args.pool.now) Memory c.in-Err.fault c.loop.frames c.args.count c.loop.counter c.loop.rest.now (many (frame_at c.args.pool.now) c.args.count c.args.bytes.now) c.loop-test.true c.in-Err.ensures c.loop.invariant

pub loop-preserved : goal.loop-preserved
loop-preserved c =
    rw c.in-Ok-push.ensures.ok (goes_on (frame_at c.args.pool.now) c.loop.frames c.args.count c.loop.counter c.loop.rest.now c.in-Ok.frame c.in-Ok.after.now (many (frame_at c.args.pool.now) c.args.count c.args.bytes.now) c.loop-test.true c.in-Ok.ensures c.loop.invariant)

pub returns : goal.returns
returns c = is_done (frame_at c.args.pool.now) c.loop.frames c.args.count c.loop.counter c.loop.rest.now (many (frame_at c.args.pool.now) c.args.count c.args.bytes.now) c.loop-test.false c.loop.invariant
