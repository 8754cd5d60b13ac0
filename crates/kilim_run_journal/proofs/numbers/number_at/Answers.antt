use Rattle.std.specs.Fmt.{decimal}
use Rattle.kilim_run_journal.proofs.Parted.{decimal_pass}
use Rattle.kilim_run_journal.proofs.Readings.{not_none, same_some}
use Rattle.kilim_run_journal.proofs.numbers.number_at.Goals as goal

pub returns-in-Some : goal.returns-in-Some
returns-in-Some c n x h ends e =
    let parts = c.number_text.ensures (decimal n) x (decimal_pass n h) ends e in
    (same_some _ _ (c.in-Some.ensures n h parts.0), parts.1)

pub returns-in-None : goal.returns-in-None
returns-in-None c n x h ends e =
    let parts = c.number_text.ensures (decimal n) x (decimal_pass n h) ends e in
    not_none _ (c.in-None.ensures n h parts.0)
