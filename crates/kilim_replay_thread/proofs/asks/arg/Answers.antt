use Rattle.std.proofs.Common.{ap, sym, ◌∙◌}
use Rattle.kilim_run_model.specs.Lone.{arg_next}
use Rattle.kilim_replay_thread.specs.Live.{behind_at}
use Rattle.kilim_replay_thread.proofs.Asking.{come_by}
use Rattle.kilim_replay_thread.proofs.asks.arg.Goals as goal

pub returns-in-None-clause-comes : goal.returns-in-None-clause-comes
returns-in-None-clause-comes c =
    come_by c.args.task c.args.world.now c.args.live.now c.raise_called.new.world c.raise_called.new.live c.raise_called.result _ _
    (sym (ap (arg_next c.args.program.now (behind_at c.args.task c.args.world.now c.args.live.now)) (sym c.arg_at.ensures ∙ c.in-None.is))) c.raise_called.ensures.comes
