use Rattle.std.proofs.Common.{ap, sym}
use Rattle.kilim_run_model.specs.Lone.{message_next}
use Rattle.kilim_replay_thread.specs.Live.{behind_at}
use Rattle.kilim_replay_thread.proofs.Asking.{come_by}
use Rattle.kilim_replay_thread.proofs.asks.put.Goals as goal

pub returns-in-Null-clause-comes : goal.returns-in-Null-clause-comes
returns-in-Null-clause-comes c =
    come_by c.args.task c.args.world.now c.args.live.now c.raise_called.new.world c.raise_called.new.live c.raise_called.result _ _
    (ap (message_next c.args.program.now (behind_at c.args.task c.args.world.now c.args.live.now) c.args.mailbox) (sym c.in-Null.is)) c.raise_called.ensures.comes

pub returns-in-Ref-clause-comes : goal.returns-in-Ref-clause-comes
returns-in-Ref-clause-comes c =
    come_by c.args.task c.args.world.now c.args.live.now c.args.world.now c.args.live.now c.put_tree.result _ _
    (ap (message_next c.args.program.now (behind_at c.args.task c.args.world.now c.args.live.now) c.args.mailbox) (sym c.in-Ref.is)) c.put_tree.ensures.comes
