use Rattle.kilim_replay.proofs.Ending.{Asked}
use Rattle.kilim_replay.proofs.rest.ask_all.Given as goal

abbrev pub invariant-loop-at : goal.invariant-loop-at
invariant-loop-at l = Asked l.program l.heap l.mailboxes l.standings l.at l.waits.items
