use Rattle.std.proofs.Common.{refl}
use Rattle.kilim_run_journal.specs.Text.{stands_in_text}
use Rattle.kilim_run_journal.proofs.TokensRead.{written, text_parts, not_slash_34}
use Rattle.kilim_run_journal.proofs.values.text_at.Goals as goal

pub returns-in-Some-clause-right : goal.returns-in-Some-clause-right
returns-in-Some-clause-right c units x fits e =
    let found = c.in-Ok.ensures.right stands_in_text units x refl refl not_slash_34 fits (text_parts _ units x e) in
    written _ _ _ _ (rw c.in-Some.is at found)

pub returns-in-None-clause-right : goal.returns-in-None-clause-right
returns-in-None-clause-right c units x fits e =
    let found = c.in-Ok.ensures.right stands_in_text units x refl refl not_slash_34 fits (text_parts _ units x e) in
    rw c.in-None.is at found
