use Rattle.std.proofs.Common.{◌∙◌, arith}
use Rattle.kilim_run_journal.proofs.TextRead.{is_bad, is_read, shorter, reading_goes_on, bad_is_none, read_whole, is_some, is_none}
use Rattle.kilim_run_journal.proofs.read.read_text.Goals as goal

pub returns-in-Ok-None-clause-err : goal.returns-in-Ok-None-clause-err
returns-in-Ok-None-clause-err c =
    is_bad _ _ _ _ c.loop-rest.invariant (is_some _ _ c.is_empty.ensures c.loop-rest-test.true) (omega (arith, c.in-Some.ensures.1, c.len.ensures)) (rw c.in-Ok-None.field-0-is at c.in-Ok-None.ensures)

pub returns-in-Ok-None-clause-whole : goal.returns-in-Ok-None-clause-whole
returns-in-Ok-None-clause-whole c es j =
    bad_is_none _ _ _ c.loop-rest.invariant (is_some _ _ c.is_empty.ensures c.loop-rest-test.true) (rw c.in-Ok-None.field-0-is at c.in-Ok-None.ensures) es j

pub returns-clause-ok : goal.returns-clause-ok
returns-clause-ok c = rw c.into_vec.ensures (is_read _ _ _ c.loop-rest.invariant (is_none _ _ c.is_empty.ensures c.loop-rest-test.false))

pub loop-rest-smaller : goal.loop-rest-smaller
loop-rest-smaller c = shorter _ c.in-Ok-Some.entry _ (rw c.in-Ok-Some.field-0-is at c.in-Ok-Some.ensures).1

pub loop-rest-preserved : goal.loop-rest-preserved
loop-rest-preserved c =
    let next = rw c.in-Ok-Some.field-0-is at c.in-Ok-Some.ensures in
    reading_goes_on _ _ _ _ c.in-Ok-Some.entry _ c.loop-rest.invariant next.0 next.1 c.in-Ok.ensures.ok

pub returns-clause-whole : goal.returns-clause-whole
returns-clause-whole c es j =
    c.into_vec.ensures ∙ read_whole _ _ _ (is_read _ _ _ c.loop-rest.invariant (is_none _ _ c.is_empty.ensures c.loop-rest-test.false)) j
