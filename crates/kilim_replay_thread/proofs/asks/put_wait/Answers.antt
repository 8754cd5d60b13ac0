use Rattle.std.proofs.Common.{ap, sym, subst}
use Rattle.std.specs.Prelude.{IfOk}
use Rattle.kilim_program.specs.declared.value.Value.{Value}
use Rattle.kilim_run_model.specs.Lone.{wait_next}
use Rattle.kilim_replay_thread.specs.Comes.{IsPutWait}
use Rattle.kilim_replay_thread.specs.Live.{behind_at}
use Rattle.kilim_replay_thread.proofs.Asking.{come_by, on_end}
use Rattle.kilim_replay_thread.proofs.asks.put_wait.Goals as goal

pub returns-in-Null-clause-comes : goal.returns-in-Null-clause-comes
returns-in-Null-clause-comes c =
    come_by c.args.task c.args.world.now c.args.live.now c.raise_called.new.world c.raise_called.new.live c.raise_called.result _ _
    (ap (wait_next c.args.program.now (behind_at c.args.task c.args.world.now c.args.live.now) c.args.mailbox) (sym c.in-Null.is)) c.raise_called.ensures.comes

pub returns-in-Ref-clause-comes : goal.returns-in-Ref-clause-comes
returns-in-Ref-clause-comes c =
    come_by c.args.task c.args.world.now c.args.live.now c.args.world.now c.args.live.now c.put_wait_tree.result _ _
    (ap (wait_next c.args.program.now (behind_at c.args.task c.args.world.now c.args.live.now) c.args.mailbox) (sym c.in-Ref.is)) c.put_wait_tree.ensures.comes

pub returns-in-Null-clause-waits : goal.returns-in-Null-clause-waits
returns-in-Null-clause-waits c = on_end c.args.mailbox c.args.message.now c.raise_called.result c.in-Null.is c.raise_called.ensures.ends

pub returns-in-Ref-clause-waits : goal.returns-in-Ref-clause-waits
returns-in-Ref-clause-waits c = subst (λ (v : Value). IfOk c.put_wait_tree.result (IsPutWait c.args.mailbox v)) (sym c.in-Ref.is) c.put_wait_tree.ensures.waits
