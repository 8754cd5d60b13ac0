use Rattle.std.proofs.Common.{◌≡◌, sym, ◌+◌}
use Rattle.kilim_program.proofs.lookups.Numbers.{first_at}
use Rattle.kilim_program.proofs.lookups.code.place_after.Goals as goal

pub returns-then-at-code : goal.returns-then-at-code
returns-then-at-code c = sym (first_at c.args.code.now c.args.end (c.args.at + 1) c.entry_at-entry.result.now c.entry_at-entry.ensures)
