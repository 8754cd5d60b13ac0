use Rattle.kilim_replay_thread.proofs.Asking.{put_shown, put_wait_shown}
use Rattle.kilim_replay_thread.proofs.asks.ask_of_two.Goals as goal

pub put-requires-clause-shown : goal.put-requires-clause-shown
put-requires-clause-shown c =
    put_shown c.args.program.now c.args.world.now c.args.live.now c.args.native c.in-Box.mailbox c.args.first.now c.args.second.now c.in-Put.is c.in-Box.is c.requires.can

pub put_wait-requires-clause-shown : goal.put_wait-requires-clause-shown
put_wait-requires-clause-shown c =
    put_wait_shown c.args.program.now c.args.world.now c.args.live.now c.args.native c.in-Box-first.mailbox c.args.first.now c.args.second.now c.in-PutWait.is c.in-Box-first.is c.requires.can
