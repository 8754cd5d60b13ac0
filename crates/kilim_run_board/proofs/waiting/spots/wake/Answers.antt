use Rattle.std.proofs.Common.{arith}
use Rattle.kilim_run_board.proofs.waiting.Waiting.{woken_fewer}
use Rattle.kilim_run_board.proofs.waiting.Lists.{longer}
use Rattle.kilim_run_board.proofs.waiting.spots.wake.Goals as goal

pub returns-in-Some-clause-fits : goal.returns-in-Some-clause-fits
returns-in-Some-clause-fits g c =
    let fewer = woken_fewer c.args.waits c.args.parked.now.items (c.in-Some.waiter, c.wake.new.self.items) c.in-Some.ensures.some in
    let more = longer c.args.ready.now.items c.line_up.new.ready.items _ c.line_up.ensures.items in omega arith
