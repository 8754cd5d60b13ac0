use Rattle.std.proofs.Common.{◌≡◌, ◌∙◌, sym}
use Rattle.std.specs.Prelude.{IsSomeAnd, IfOk}
use Rattle.kilim_run_journal.proofs.TokensRead.{opening_arm}
use Rattle.kilim_run_journal.proofs.values.token_at.Goals as goal

pub returns-then-opens-clause-right : goal.returns-then-opens-clause-right
returns-then-opens-clause-right c =
    opening_arm (λ t x. IfOk c.open_at.result (λ found. IsSomeAnd found (λ r. (r.0 ≡ t) × (r.1.now ≡ x)))) _ (sym c.opens.ensures ∙ c.if-opens.true) c.open_at.ensures.right
