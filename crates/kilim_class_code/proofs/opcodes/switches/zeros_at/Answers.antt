use Rattle.kilim_class_code.specs.opcodes.Reading.{zeros_at}
use Rattle.kilim_class_code.proofs.opcodes.SwitchLoops.{zero_more}
use Rattle.kilim_class_code.proofs.opcodes.switches.zeros_at.Goals as goal

pub loop-preserved : goal.loop-preserved
loop-preserved c =
    zero_more c.args.op c.args.count c.loop.counter c.loop.rest.now c.in-Ok.zero c.in-Ok.after.now (zeros_at c.args.op c.args.count c.args.bytes.now) c.loop-test.true c.in-Ok.ensures c.if-zero-ne0.false c.loop.invariant
