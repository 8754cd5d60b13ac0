use Rattle.std.proofs.Common.{inr}
use Rattle.kilim_class_grammar.specs.Reader.{many}
use Rattle.kilim_class_grammar.proofs.Loops.{goes_on, stops, is_done}
use Rattle.kilim_explain_lines.specs.declared.tables.TableFault.TheVariants as fault
use Rattle.kilim_explain_lines.specs.Tables.{line_number_at}
use Rattle.kilim_explain_lines.proofs.reading.so_many_lines_at.Goals as goal

pub returns-in-Err : goal.returns-in-Err
returns-in-Err c =
    stops line_number_at fault.Memory c.in-Err.fault c.loop.rows c.args.count c.loop.counter c.loop.rest.now (many line_number_at c.args.count c.args.bytes.now) c.loop-test.true (inr c.in-Err.ensures) c.loop.invariant

pub loop-preserved : goal.loop-preserved
loop-preserved c =
    rw c.in-Ok-push.ensures.ok (goes_on line_number_at c.loop.rows c.args.count c.loop.counter c.loop.rest.now c.in-Ok.row c.in-Ok.after.now (many line_number_at c.args.count c.args.bytes.now) c.loop-test.true c.in-Ok.ensures c.loop.invariant)

pub returns : goal.returns
returns c = is_done line_number_at c.loop.rows c.args.count c.loop.counter c.loop.rest.now (many line_number_at c.args.count c.args.bytes.now) c.loop-test.false c.loop.invariant
