use Rattle.std.proofs.Common.{refl}
use Rattle.kilim_units.specs.NameText.{stands_in_name}
use Rattle.kilim_run_journal.proofs.TokensRead.{named, name_parts, not_slash_40}
use Rattle.kilim_run_journal.proofs.values.open_at.Goals as goal

pub returns-in-Some-clause-right : goal.returns-in-Some-clause-right
returns-in-Some-clause-right c name x fits e =
    let found = c.in-Ok.ensures.right stands_in_name name x refl refl not_slash_40 fits (name_parts _ name x e) in
    named _ _ _ _ (rw c.in-Some.is at found)

pub returns-in-None-clause-right : goal.returns-in-None-clause-right
returns-in-None-clause-right c name x fits e =
    let found = c.in-Ok.ensures.right stands_in_name name x refl refl not_slash_40 fits (name_parts _ name x e) in
    rw c.in-None.is at found
