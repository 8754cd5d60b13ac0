use Rattle.kilim_class_grammar.specs.Reader.{many}
use Rattle.kilim_class_grammar.proofs.Loops.{goes_on, stops, is_done}
use Rattle.kilim_class_file.specs.declared.fault.ClassFault.TheVariants as fault
use Rattle.kilim_class_file.specs.Reading.{field_at}
use Rattle.kilim_class_file.proofs.reading.push_fields_at.Goals as goal

pub returns-in-Err : goal.returns-in-Err
returns-in-Err c =
    let one = field_at c.args.len c.args.pool.now in
    stops one fault.Memory c.in-Err.fault c.loop.fields c.args.count c.loop.counter c.loop.rest.now (many one c.args.count c.args.bytes.now) c.loop-test.true c.in-Err.ensures c.loop.invariant

pub loop-preserved : goal.loop-preserved
loop-preserved c =
    let one = field_at c.args.len c.args.pool.now in
    rw c.in_ok-push-in-Ok.ensures.ok (goes_on one c.loop.fields c.args.count c.loop.counter c.loop.rest.now c.in-Ok.field c.in-Ok.after.now (many one c.args.count c.args.bytes.now) c.loop-test.true c.in-Ok.ensures c.loop.invariant)

pub returns : goal.returns
returns c =
    let one = field_at c.args.len c.args.pool.now in
    is_done one c.loop.fields c.args.count c.loop.counter c.loop.rest.now (many one c.args.count c.args.bytes.now) c.loop-test.false c.loop.invariant
