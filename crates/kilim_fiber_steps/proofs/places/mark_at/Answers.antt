use Rattle.kilim_fiber_steps.proofs.Marks.{is_number}
use Rattle.kilim_fiber_steps.proofs.places.mark_at.Goals as goal

pub returns-then-entry-place : goal.returns-then-entry-place
returns-then-entry-place c = is_number c.args.code.now c.args.marks.now c.args.end c.args.place c.args.at c.entry_at-entry.result.now c.flag_at-mark.result c.requires c.entry_at-entry.ensures c.flag_at-mark.ensures c.if-entry-place.true
