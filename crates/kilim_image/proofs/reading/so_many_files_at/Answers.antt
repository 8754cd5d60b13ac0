use Rattle.std.specs.Int.{w32}
use Rattle.kilim_class_grammar.specs.Reader.{many}
use Rattle.kilim_class_grammar.proofs.Loops.{goes_on, stops, is_done}
use Rattle.kilim_image.specs.Reading.{block_at}
use Rattle.kilim_image.specs.declared.fault.ImageFault.TheVariants as fault
use Rattle.kilim_image.proofs.reading.so_many_files_at.Goals as goal

pub returns-in-Err : goal.returns-in-Err
returns-in-Err c =
    let one = block_at w32 in
    stops one fault.Memory c.in-Err.fault c.loop.files c.args.count c.loop.counter c.loop.rest.now (many one c.args.count c.args.bytes.now) c.loop-test.true c.in-Err.ensures c.loop.invariant

pub loop-preserved : goal.loop-preserved
loop-preserved c =
    let one = block_at w32 in
    rw c.in-Ok-push.ensures.ok (goes_on one c.loop.files c.args.count c.loop.counter c.loop.rest.now c.in-Ok.file c.in-Ok.after.now (many one c.args.count c.args.bytes.now) c.loop-test.true c.in-Ok.ensures c.loop.invariant)

pub returns : goal.returns
returns c =
    let one = block_at w32 in
    is_done one c.loop.files c.args.count c.loop.counter c.loop.rest.now (many one c.args.count c.args.bytes.now) c.loop-test.false c.loop.invariant
