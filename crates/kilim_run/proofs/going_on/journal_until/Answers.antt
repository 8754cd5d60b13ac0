use Rattle.kilim_run.specs.Runs.{setting_of}
use Rattle.kilim_run.proofs.Wholes.{is_course, is_of}
use Rattle.kilim_run.proofs.going_on.journal_until.Goals as goal

pub named_some-requires-clause-some : goal.named_some-requires-clause-some
named_some-requires-clause-some g c κs within = (setting_of c.args.code.now.plain c.args.main c.args.limits.now, is_of c.args.main c.args.limits.now c.args.code.now c.requires.served)

pub returns : goal.returns
returns g c =
    let set = setting_of c.args.code.now.plain c.args.main c.args.limits.now in
    let of = is_of c.args.main c.args.limits.now c.args.code.now c.requires.served in
    is_course c.entries_are_readable.ensures set c.args.entries c.in-Ok.journal.items (c.in-Ok.ensures set of) (rw (← c.as_slice.ensures.value) c.journal_fits.ensures)
