use Rattle.std.proofs.Common.{arith}
use Rattle.std.proofs.lemmas.Grind.{common_steps}
use Rattle.kilim_run_state.proofs.frames.Backwards.{last_dropped}
use Rattle.kilim_run_state.proofs.frames.stack.cut.Goals as goal

pub returns-clause-items : goal.returns-clause-items
returns-clause-items c =
    let e = last_dropped c.args.values.now.items c.args.count c.requires in
    grind (arith, common_steps, e, c.truncate.ensures.items, c.len.ensures)
