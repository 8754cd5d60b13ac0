use Rattle.kilim_run_state.specs.frames.Calls.{answered, below_of}
use Rattle.kilim_replay_thread.proofs.Steps.{never_asks}
use Rattle.kilim_replay_thread.proofs.runs.settled.Goals as goal

pub returns-in-Went : goal.returns-in-Went
returns-in-Went c = record { roomy = c.in-Ok.ensures.roomy; settles = λ e before h k shows same. rw c.in-Went.is at (c.in-Ok.ensures.steps e before h k shows same) }

pub returns-in-Raised : goal.returns-in-Raised
returns-in-Raised c = record { roomy = c.in-Ok.ensures.roomy; settles = λ e before h k shows same. rw c.in-Raised.is at (c.in-Ok.ensures.steps e before h k shows same) }

pub returns-in-Thrown : goal.returns-in-Thrown
returns-in-Thrown c = record { roomy = c.in-Ok.ensures.roomy; settles = λ e before h k shows same. rw c.in-Thrown.is at (c.in-Ok.ensures.steps e before h k shows same) }

pub returns-in-Ended : goal.returns-in-Ended
returns-in-Ended c = record { roomy = c.in-Ok.ensures.roomy; settles = λ e before h k shows same. rw c.in-Ended.is at (c.in-Ok.ensures.steps e before h k shows same) }

pub unreachable-requires : goal.unreachable-requires
unreachable-requires c =
    let s = c.requires.shown in
    let steps = rw c.in-AtNative.is at (c.in-Ok.ensures.steps s.effect s.before s.heap s.after s.shows s.same) in
    never_asks c.args.program.now c.args.own.now c.args.next c.args.moved c.args.frames.now.top (below_of c.args.frames.now) c.requires.plain c.requires.other s c.in-AtNative.field-0.method c.in-AtNative.field-0.args (answered c.settle.new.frames) s.heap steps.0
