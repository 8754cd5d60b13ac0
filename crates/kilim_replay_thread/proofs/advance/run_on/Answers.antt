use Rattle.std.proofs.Common.{◌-◌, Option, subst}
use Rattle.kilim_run_state.specs.declared.frames.frames.Frames.{Frames}
use Rattle.kilim_replay_thread.specs.Live.{calls_in}
use Rattle.kilim_replay_thread.specs.Thread.{IsSafe}
use Rattle.kilim_replay_thread.proofs.advance.run_on.Goals as goal

pub run_thread-requires-clause-safe : goal.run_thread-requires-clause-safe
run_thread-requires-clause-safe c = subst (λ (o : Option Frames). IsSafe c.args.program.now (c.args.steps - c.args.live.now.done) (calls_in o) c.args.world.now.heap c.args.world.now.next) c.in-Some.is c.requires.safe
