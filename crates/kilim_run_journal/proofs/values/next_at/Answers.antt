use Rattle.std.proofs.Common.{arith}
use Rattle.kilim_run_journal.proofs.ShapesRead.{takes_some_behind}
use Rattle.kilim_run_journal.proofs.values.next_at.Goals as goal

pub returns-else-rest-bytes-clause-right : goal.returns-else-rest-bytes-clause-right
returns-else-rest-bytes-clause-right c t x fits ended e =
    let found = rw c.in-Some.is at (c.in-Ok.ensures.right t x fits ended (c.behind_comma.ensures t x e)) in
    let less = takes_some_behind c.args.follows t x c.args.bytes.now c.in-Some.rest.now fits e found.1 in
    absurd (omega (arith, less, c.if-rest-bytes.false))
