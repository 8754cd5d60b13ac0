use Rattle.kilim_run.specs.Runs.{setting_of}
use Rattle.kilim_run.proofs.Wholes.{is_journal, is_of}
use Rattle.kilim_run.proofs.runs.journal_by.Goals as goal

pub named_with-requires-clause-some : goal.named_with-requires-clause-some
named_with-requires-clause-some g c κs within = (setting_of c.args.code.now.plain c.args.main c.args.limits.now, is_of c.args.main c.args.limits.now c.args.code.now c.requires.served)

pub returns : goal.returns
returns g c =
    let set = setting_of c.args.code.now.plain c.args.main c.args.limits.now in
    let of = is_of c.args.main c.args.limits.now c.args.code.now c.requires.served in
    is_journal c.moved_is_whole.ensures c.runs_are_readable.ensures set c.args.code.now.program c.args.code.now.counted c.requires.served c.in-Ok.entries.items (c.in-Ok.ensures set of) (rw (← c.as_slice.ensures.value) c.journal_fits.ensures)
