use Rattle.std.proofs.Common.{inr}
use Rattle.kilim_class_grammar.specs.Reader.{many}
use Rattle.kilim_class_grammar.proofs.Loops.{goes_on, stops, is_done}
use Rattle.kilim_class_attributes.specs.declared.parts.fault.AttributeFault.TheVariants as fault
use Rattle.kilim_class_attributes.specs.declared.parts.name.AttributeName.TheVariants as name
use Rattle.kilim_class_attributes.specs.declared.parts.index.EntryKind.TheVariants as kind
use Rattle.kilim_class_attributes.specs.parts.Indices.{index_at}
use Rattle.kilim_class_attributes.proofs.info_reading.classes_at.Goals as goal

pub returns-in-Err : goal.returns-in-Err
returns-in-Err c =
    stops (index_at c.args.pool.now kind.Class (fault.Length name.Exceptions)) fault.Memory c.in-Err.fault c.loop.classes c.args.count c.loop.counter c.loop.rest.now (many (index_at c.args.pool.now kind.Class (fault.Length name.Exceptions)) c.args.count c.args.bytes.now) c.loop-test.true (inr c.in-Err.ensures) c.loop.invariant

pub loop-preserved : goal.loop-preserved
loop-preserved c =
    rw c.in-Ok-push.ensures.ok (goes_on (index_at c.args.pool.now kind.Class (fault.Length name.Exceptions)) c.loop.classes c.args.count c.loop.counter c.loop.rest.now c.in-Ok.class c.in-Ok.after.now (many (index_at c.args.pool.now kind.Class (fault.Length name.Exceptions)) c.args.count c.args.bytes.now) c.loop-test.true c.in-Ok.ensures c.loop.invariant)

pub returns : goal.returns
returns c = is_done (index_at c.args.pool.now kind.Class (fault.Length name.Exceptions)) c.loop.classes c.args.count c.loop.counter c.loop.rest.now (many (index_at c.args.pool.now kind.Class (fault.Length name.Exceptions)) c.args.count c.args.bytes.now) c.loop-test.false c.loop.invariant
