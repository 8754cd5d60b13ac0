use Rattle.std.proofs.Common.{inr}
use Rattle.kilim_class_grammar.specs.Reader.{many}
use Rattle.kilim_class_grammar.proofs.Loops.{goes_on, stops, is_done}
use Rattle.kilim_explain_lines.specs.declared.tables.TableFault.TheVariants as fault
use Rattle.kilim_explain_lines.specs.Tables.{local_variable_at}
use Rattle.kilim_explain_lines.proofs.reading.so_many_variables_at.Goals as goal

pub returns-in-Err : goal.returns-in-Err
returns-in-Err c =
    stops local_variable_at fault.Memory c.in-Err.fault c.loop.rows c.args.count c.loop.counter c.loop.rest.now (many local_variable_at c.args.count c.args.bytes.now) c.loop-test.true (inr c.in-Err.ensures) c.loop.invariant

pub loop-preserved : goal.loop-preserved
loop-preserved c =
    rw c.in-Ok-push.ensures.ok (goes_on local_variable_at c.loop.rows c.args.count c.loop.counter c.loop.rest.now c.in-Ok.row c.in-Ok.after.now (many local_variable_at c.args.count c.args.bytes.now) c.loop-test.true c.in-Ok.ensures c.loop.invariant)

pub returns : goal.returns
returns c = is_done local_variable_at c.loop.rows c.args.count c.loop.counter c.loop.rest.now (many local_variable_at c.args.count c.args.bytes.now) c.loop-test.false c.loop.invariant
