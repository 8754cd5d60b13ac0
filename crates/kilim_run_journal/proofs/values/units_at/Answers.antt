use Rattle.std.proofs.Common.{◌∙◌}
use Rattle.kilim_run_journal.proofs.TokensRead.{units_go_on, units_none, units_out, units_end, not_at_end}
use Rattle.kilim_run_journal.proofs.values.units_at.Goals as goal

pub loop-first-preserved : goal.loop-first-preserved
loop-first-preserved c =
    units_go_on _ _ _ _ _ _ _ c.loop-first.invariant (not_at_end _ _ _ _ c.in-Some.ensures.cases.0 c.if-first-end.false) c.in-Some-unit_at.ensures.right c.in-Some-unit_at.ensures.small c.in-Ok-push.ensures.items

pub returns-then-first-end-clause-right : goal.returns-then-first-end-clause-right
returns-then-first-end-clause-right c stands us x slash ends other fit e =
    let last = units_end _ _ _ _ _ _ c.loop-first.invariant c.in-Some.ensures.cases.0 c.if-first-end.true stands us x slash ends other fit e in
    (c.in-Ok.ensures ∙ last.0, last.1)

pub returns-in-None-clause-right : goal.returns-in-None-clause-right
returns-in-None-clause-right c =
    units_none _ _ _ _ c.loop-first.invariant (not_at_end _ _ _ _ c.in-Some.ensures.cases.0 c.if-first-end.false) c.in-None.ensures.right

pub returns-clause-right : goal.returns-clause-right
returns-clause-right c = units_out _ _ _ _ c.loop-first.invariant c.in_default.ensures.cases
