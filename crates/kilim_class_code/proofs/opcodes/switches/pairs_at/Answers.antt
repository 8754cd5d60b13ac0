use Rattle.std.proofs.Common.{rules}
use Rattle.std.specs.Prelude.{None, FitsSigned}
use Rattle.std.specs.Int.{w32}
use Rattle.std.proofs.lemmas.Int.{to_z-of_z}
use Rattle.kilim_class_code.specs.opcodes.Reading.{pairs_at}
use Rattle.kilim_class_code.proofs.opcodes.SwitchLoops.{pair_more, pair_fails, pairs_done}
use Rattle.kilim_class_code.proofs.opcodes.switches.pairs_at.Goals as goal

pub returns-in-Err : goal.returns-in-Err
returns-in-Err c =
    pair_fails c.args.op c.args.at c.in-Err.fault c.loop.pairs c.args.count c.loop.counter c.loop.least c.loop.rest.now (pairs_at c.args.op c.args.at c.args.count None c.args.bytes.now) c.loop-test.true c.in-Err.ensures c.loop.invariant

pub loop-preserved : goal.loop-preserved
loop-preserved c =
    let fits : FitsSigned w32 c.in-Ok.pair.0 = search rules in
    rw (c.in-Ok-push.ensures.ok, to_z-of_z w32 c.in-Ok.pair.0 fits) (pair_more c.args.op c.args.at c.loop.pairs c.args.count c.loop.counter c.loop.least c.loop.rest.now c.in-Ok.pair c.in-Ok.after.now (pairs_at c.args.op c.args.at c.args.count None c.args.bytes.now) c.loop-test.true c.in-Ok.ensures c.loop.invariant)

pub returns : goal.returns
returns c = pairs_done c.args.op c.args.at c.loop.pairs c.args.count c.loop.counter c.loop.least c.loop.rest.now (pairs_at c.args.op c.args.at c.args.count None c.args.bytes.now) c.loop-test.false c.loop.invariant
