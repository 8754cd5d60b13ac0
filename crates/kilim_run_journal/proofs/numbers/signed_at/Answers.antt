use Rattle.std.specs.Fmt.{signed_decimal}
use Rattle.kilim_run_journal.proofs.Parted.{signed_pass, fits_64}
use Rattle.kilim_run_journal.proofs.Readings.{not_none, same_some, same_signed}
use Rattle.kilim_run_journal.proofs.numbers.signed_at.Goals as goal

pub returns-in-Some : goal.returns-in-Some
returns-in-Some c z x h ends e =
    let parts = c.number_text.ensures (signed_decimal z) x (signed_pass z (fits_64 z h)) ends e in
    (same_signed _ z (same_some _ _ (c.in-Some.ensures z h parts.0)) h, parts.1)

pub returns-in-None : goal.returns-in-None
returns-in-None c z x h ends e =
    let parts = c.number_text.ensures (signed_decimal z) x (signed_pass z (fits_64 z h)) ends e in
    not_none _ (c.in-None.ensures z h parts.0)
