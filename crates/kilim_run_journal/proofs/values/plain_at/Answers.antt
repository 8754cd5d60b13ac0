use Rattle.std.proofs.Common.{◌≡◌, ◌∙◌, ◌++◌, sym, ap, refl, false, arith}
use Rattle.std.specs.Prelude.{IsSomeAnd, IfOk}
use Rattle.kilim_run_state.specs.declared.value.Token.TheVariants as part
use Rattle.kilim_run_journal.proofs.TokensRead.{number_arm, text_arm, close_arm, box_arm, null_arm, found_close, at_unit}
use Rattle.kilim_run_journal.specs.Text.{token_text}
use Rattle.kilim_run_journal.proofs.Tokens.{none_before}
use Rattle.kilim_run_journal.proofs.ShapesRead.{takes_some_behind}
use Rattle.kilim_run_journal.proofs.values.plain_at.Goals as goal

pub returns-then-is_number_unit-clause-right : goal.returns-then-is_number_unit-clause-right
returns-then-is_number_unit-clause-right c =
    number_arm (λ t x. IsSomeAnd c.number_token_at.result (λ r. (r.0 ≡ t) × (r.1.now ≡ x))) _ _ _ c.in-Some.ensures.cases.0 (sym c.is_number_unit.ensures ∙ c.if-is_number_unit.true) c.number_token_at.ensures.int c.number_token_at.ensures.long

pub returns-then-first-eq34-clause-right : goal.returns-then-first-eq34-clause-right
returns-then-first-eq34-clause-right c =
    let at = at_unit _ _ 34 _ c.in-Some.ensures.cases.0 c.if-first-eq34.true in
    text_arm (λ t x. IfOk c.text_at.result (λ found. IsSomeAnd found (λ r. (r.0 ≡ t) × (r.1.now ≡ x)))) _ _ at (λ units x fits e. c.text_at.ensures.right units x fits (sym at ∙ e))

pub returns-then-first-eq41-clause-right : goal.returns-then-first-eq41-clause-right
returns-then-first-eq41-clause-right c =
    let at = at_unit _ _ 41 _ c.in-Some.ensures.cases.0 c.if-first-eq41.true in
    close_arm (λ t x. (part.Close ≡ t) × (c.in-Some.rest.now ≡ x)) _ _ at (found_close _ _ at)

pub returns-then-first-eq64-clause-right : goal.returns-then-first-eq64-clause-right
returns-then-first-eq64-clause-right c =
    let at = at_unit _ _ 64 _ c.in-Some.ensures.cases.0 c.if-first-eq64.true in
    box_arm (λ t x. IsSomeAnd c.box_token_at.result (λ r. (r.0 ≡ t) × (r.1.now ≡ x))) _ _ at (λ b x fits ended e. c.box_token_at.ensures.right b x fits ended (sym at ∙ e))

pub returns-else-first-eq64-clause-right : goal.returns-else-first-eq64-clause-right
returns-else-first-eq64-clause-right c =
    null_arm (λ t x. IsSomeAnd c.null_at.result (λ r. (r.0 ≡ t) × (r.1.now ≡ x))) _ _ _ c.in-Some.ensures.cases.0 (sym c.is_number_unit.ensures ∙ c.if-is_number_unit.false) c.if-first-eq34.false c.if-first-eq41.false c.if-first-eq64.false c.null_at.ensures.right

pub returns-in-None-clause-right : goal.returns-in-None-clause-right
returns-in-None-clause-right c t x plain fits ended e =
    let some = takes_some_behind false t x c.args.bytes.now x fits (e ∙ sym (ap (λ front. front ++ (token_text t ++ x)) (none_before t))) refl in
    omega (arith, some, c.in-None.ensures.cases)
