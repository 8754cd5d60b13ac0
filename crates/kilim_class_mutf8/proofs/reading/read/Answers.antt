use Rattle.std.proofs.Common.{ap, sym, ◌∙◌, inr}
use Rattle.kilim_class_mutf8.specs.Text.{placed}
use Rattle.kilim_class_mutf8.proofs.Texts.{all_read, none_left, has_fault, no_text, same_fault, one_more, shorter, filled, emptied, place}
use Rattle.kilim_class_mutf8.proofs.Wholes.{all_units, no_units}
use Rattle.kilim_class_mutf8.proofs.reading.read.Goals as goal

pub loop-rest-smaller : goal.loop-rest-smaller
loop-rest-smaller c = shorter c.loop-rest.rest.now c.in-Ok.unit c.in-Ok.after.now c.in-Ok.ensures

pub loop-rest-preserved : goal.loop-rest-preserved
loop-rest-preserved c =
    let m = one_more c.args.bytes.now c.loop-rest.units.items c.loop-rest.rest.now c.in-Ok.unit c.in-Ok.after.now c.loop-rest.invariant.parts c.loop-rest.invariant.fit c.in-Ok.ensures in
    record { parts = rw c.in-Ok-push.ensures.items m.0; fit = rw c.in-Ok-push.ensures.items m.1 }

pub returns-in-Err-clause-only : goal.returns-in-Err-clause-only
returns-in-Err-clause-only c = λ units fit e.
    absurd (no_text c.args.bytes.now c.loop-rest.units.items c.loop-rest.rest.now c.loop-rest.invariant.parts c.loop-rest.invariant.fit c.in-Err.fault c.in-Err.ensures
    (filled c.loop-rest.rest.now c.is_empty.result c.is_empty.ensures c.loop-rest-test.true) units fit e)

pub returns-in-Err-clause-first : goal.returns-in-Err-clause-first
returns-in-Err-clause-first c = λ fault h.
    inr (c.placed.ensures ∙ (ap (λ n. placed n c.in-Err.fault) (place c.args.bytes.now c.loop-rest.units.items c.loop-rest.rest.now c.loop-rest.invariant.parts)
    ∙ same_fault c.args.bytes.now c.loop-rest.units.items c.loop-rest.rest.now c.loop-rest.invariant.parts c.loop-rest.invariant.fit c.in-Err.fault c.in-Err.ensures fault h))

pub returns-clause-only : goal.returns-clause-only
returns-clause-only c = λ units fit e.
    c.in-Ok-from_vec.ensures ∙ all_read c.args.bytes.now c.loop-rest.units.items c.loop-rest.rest.now c.loop-rest.invariant.parts c.loop-rest.invariant.fit (emptied c.loop-rest.rest.now c.loop-rest-test.ensures) units fit e

pub returns-clause-first : goal.returns-clause-first
returns-clause-first c = λ fault h.
    none_left c.args.bytes.now c.loop-rest.units.items c.loop-rest.rest.now c.loop-rest.invariant.parts c.loop-rest.invariant.fit (emptied c.loop-rest.rest.now c.loop-rest-test.ensures) fault h

pub returns-in-Err-clause-units : goal.returns-in-Err-clause-units
returns-in-Err-clause-units c =
    inr (no_units c.args.bytes.now c.loop-rest.units.items c.loop-rest.rest.now c.loop-rest.invariant.parts c.loop-rest.invariant.fit c.in-Err.fault c.in-Err.ensures
    (filled c.loop-rest.rest.now c.is_empty.result c.is_empty.ensures c.loop-rest-test.true))

pub returns-clause-units : goal.returns-clause-units
returns-clause-units c =
    rw c.in-Ok-from_vec.ensures (all_units c.args.bytes.now c.loop-rest.units.items c.loop-rest.rest.now c.loop-rest.invariant.parts c.loop-rest.invariant.fit (emptied c.loop-rest.rest.now c.loop-rest-test.ensures))
