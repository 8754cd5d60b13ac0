use Rattle.std.proofs.Common.{◌∙◌, sym, refl}
use Rattle.kilim_run_journal.proofs.ShapesRead.{shape_goes_on, shape_ends, shape_is, shape_stops, shape_unread, shape_out}
use Rattle.kilim_run_journal.proofs.TextRead.{is_none}
use Rattle.kilim_run_journal.proofs.values.push_tokens.Goals as goal

pub loop-rest-preserved : goal.loop-rest-preserved
loop-rest-preserved c =
    shape_goes_on _ _ _ _ _ _ _ _ _ _ c.loop-rest.invariant (λ t x fits ended e. rw c.in-Some.is at (c.in-Ok.ensures.right t x fits ended e)) (rw c.in-Some.is at c.in-Ok.ensures.fits) (sym c.in-Ok-begun_behind.ensures ∙ c.in-Some-open.is) c.if-now-eq0.false c.is_followed-follows.ensures c.in-Ok-push.ensures.ok

pub returns-then-now-eq0-clause-right : goal.returns-then-now-eq0-clause-right
returns-then-now-eq0-clause-right c ts x value fits text =
    (refl, shape_ends _ _ _ _ _ _ _ _ _ c.loop-rest.invariant (λ t x fits ended e. rw c.in-Some.is at (c.in-Ok.ensures.right t x fits ended e)) (sym c.in-Ok-begun_behind.ensures ∙ c.in-Some-open.is) c.if-now-eq0.true c.in-Ok-push.ensures.ok ts x value fits text)

pub returns-in-None-clause-right : goal.returns-in-None-clause-right
returns-in-None-clause-right c ts x value fits text =
    absurd (shape_unread _ _ _ _ _ c.loop-rest.invariant (λ t x fits ended e. rw c.in-None.is at (c.in-Ok.ensures.right t x fits ended e)) ts x value fits text)

pub returns-in-None-open-clause-right : goal.returns-in-None-open-clause-right
returns-in-None-open-clause-right c ts x value fits text =
    absurd (shape_stops _ _ _ _ _ _ _ c.loop-rest.invariant (λ t x fits ended e. rw c.in-Some.is at (c.in-Ok.ensures.right t x fits ended e)) (sym c.in-Ok-begun_behind.ensures ∙ c.in-None-open.is) ts x value fits text)

pub returns-then-now-eq0-clause-value : goal.returns-then-now-eq0-clause-value
returns-then-now-eq0-clause-value c whole =
    shape_is _ _ _ _ _ _ _ _ c.loop-rest.invariant (rw c.in-Some.is at c.in-Ok.ensures.fits) (sym c.in-Ok-begun_behind.ensures ∙ c.in-Some-open.is) c.if-now-eq0.true c.in-Ok-push.ensures.ok

pub returns-clause-right : goal.returns-clause-right
returns-clause-right c ts x value fits text =
    absurd (shape_out _ _ _ _ _ c.loop-rest.invariant (is_none _ _ c.is_empty.ensures c.loop-rest-test.false) ts x value fits text)
