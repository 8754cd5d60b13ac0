use Rattle.std.proofs.Common.{sym}
use Rattle.kilim_fiber_steps.proofs.Marks.{first_at}
use Rattle.kilim_fiber_steps.proofs.places.place_at.Goals as goal

pub returns : goal.returns
returns c = sym (first_at c.args.code.now c.args.end c.args.at c.entry_at-entry.result.now c.entry_at-entry.ensures)
