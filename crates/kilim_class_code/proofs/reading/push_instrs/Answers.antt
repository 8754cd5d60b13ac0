use Rattle.std.proofs.Common.{arith, drop}
use Rattle.kilim_class_code.proofs.Codes.{of_op}
use Rattle.kilim_class_code.proofs.Steps.{some_len, stands_push, text_more, begins, begins_text, some_left, all_read}
use Rattle.kilim_class_code.proofs.reading.push_instrs.Goals as goal

pub loop-at-init : goal.loop-at-init
loop-at-init c = record { stands = rw c.requires.none begins; text = rw c.requires.none (begins_text c.args.code.now) }

pub loop-at-smaller : goal.loop-at-smaller
loop-at-smaller c =
    let some = some_len c.loop-at.at c.in-Ok.instr in
    let behind = c.in-Ok.ensures.found.behind in
    omega arith

pub loop-at-preserved : goal.loop-at-preserved
loop-at-preserved c = record {
  stands = rw c.in-Ok-push.ensures.ok (stands_push 0 c.loop-at.instrs c.loop-at.at c.in-Ok.instr c.in-Ok.next c.loop-at.invariant.stands c.in-Ok.ensures.found.fits c.in-Ok.ensures.found.behind);
  text = rw c.in-Ok-push.ensures.ok (text_more c.args.code.now c.loop-at.instrs c.loop-at.at c.in-Ok.instr c.in-Ok.next c.loop-at.invariant.text c.in-Ok.ensures.found.parts);
}

pub returns-in-Err-clause-fault : goal.returns-in-Err-clause-fault
returns-in-Err-clause-fault c =
    rw c.op_fault.ensures
    (of_op c.args.code.now c.loop-at.instrs c.loop-at.at (drop c.loop-at.at c.args.code.now) c.in-Err.fault c.loop-at.invariant.stands c.loop-at.invariant.text (some_left c.args.code.now c.loop-at.at c.loop-at-test.true) c.in-Err.ensures.fault)

pub returns-clause-found : goal.returns-clause-found
returns-clause-found c = all_read c.lengths.ensures c.args.code.now c.loop-at.instrs c.loop-at.at c.loop-at-test.false c.loop-at.invariant.stands c.loop-at.invariant.text
