use Rattle.std.proofs.Common.{arith, refl}
use Rattle.kilim_replay_thread.specs.Live.{answered_in, lone_at}
use Rattle.kilim_replay_thread.proofs.Asking.{opens_full}
use Rattle.kilim_replay_thread.proofs.advance.open.Goals as goal

pub returns-then-live-ge-MOST_BOXES-clause-comes : goal.returns-then-live-ge-MOST_BOXES-clause-comes
returns-then-live-ge-MOST_BOXES-clause-comes c = (opens_full c.args.task (lone_at c.args.task c.args.world.now c.args.live.now) (answered_in c.args.live.now.frames) c.args.live.now.done c.args.live.now.boxes (omega arith), refl)
