use Rattle.kilim_link_spec.specs.Faults.{bad_rows, is_bad_row}
use Rattle.kilim_link_spec.specs.Linked.{first_of}
use Rattle.std.proofs.Common.{Some, ap}
use Rattle.kilim_link_file_faults.proofs.Rows.{number_found, number_passed, no_number, first_number}
use Rattle.kilim_link_file_faults.proofs.tables.first_bad_row.Goals as goal

pub returns-then-is_bad_row : goal.returns-then-is_bad_row
returns-then-is_bad_row c =
    number_found (is_bad_row c.args.pool.now c.args.code.now c.args.instrs.now) c.args.rows.now c.loop-i.i _ (first_of (bad_rows c.args.pool.now c.args.instrs.now (Some c.args.code.now))) c.is_bad_row.result c.loop-i-test.true c.is_bad_row.ensures c.loop-i.invariant c.if-is_bad_row.true

pub loop-i-preserved : goal.loop-i-preserved
loop-i-preserved c =
    number_passed (is_bad_row c.args.pool.now c.args.code.now c.args.instrs.now) c.args.rows.now c.loop-i.i _ (first_of (bad_rows c.args.pool.now c.args.instrs.now (Some c.args.code.now))) c.is_bad_row.result c.loop-i-test.true c.is_bad_row.ensures c.loop-i.invariant c.if-is_bad_row.false

pub loop-i-init : goal.loop-i-init
loop-i-init c = ap (first_number (is_bad_row c.args.pool.now c.args.code.now c.args.instrs.now) 0) c.requires

pub returns : goal.returns
returns c = no_number (is_bad_row c.args.pool.now c.args.code.now c.args.instrs.now) c.args.rows.now c.loop-i.i (first_of (bad_rows c.args.pool.now c.args.instrs.now (Some c.args.code.now))) c.loop-i-test.false c.loop-i.invariant
