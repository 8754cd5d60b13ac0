use Rattle.std.proofs.Common.{refl, subst, sym}
use Rattle.kilim_run_state.specs.frames.Calls.{activation, below_of}
use Rattle.kilim_run_machine.specs.Moves.{Move, move_by}
use Rattle.kilim_fiber_steps.specs.Counted.{IsEnding, Went}
use Rattle.kilim_fiber_steps.proofs.Counting.{asks_by}
use Rattle.kilim_fiber_steps.proofs.runs.go_on.Goals as goal

pub returns-in-Asked-clause-settles : goal.returns-in-Asked-clause-settles
returns-in-Asked-clause-settles c e before h shows same =
    let told = rw c.in-Asked.is at shows in
    asks_by c.args.program.now (activation before) (below_of c.args.frames.now) (move_by c.args.program.now e (activation before) (below_of c.args.frames.now)) c.in-Asked.id c.in-Asked.count c.args.next c.args.frames.now c.await_answer.new.frames
    h c.args.heap.now c.await_answer.ensures.kept told.0 (c.await_answer.ensures.steps c.args.program.now c.args.own.now c.in-Asked.id e before h c.args.heap.now told same)

pub returns-in-Went-clause-settles : goal.returns-in-Went-clause-settles
returns-in-Went-clause-settles c e before h shows same = Went (rw c.in-Went.is at (c.in-Ok.ensures.steps e before h c.args.heap.now shows same))

pub returns-in-NewBox-clause-settles : goal.returns-in-NewBox-clause-settles
returns-in-NewBox-clause-settles c e before h shows same = rw c.in-NewBox.is at (c.in-Ok.ensures.steps e before h c.args.heap.now shows same)

pub returns-in-Returned-clause-settles : goal.returns-in-Returned-clause-settles
returns-in-Returned-clause-settles c e before h shows same = rw c.in-Returned.is at (c.in-Ok.ensures.steps e before h c.args.heap.now shows same)

pub returns-in-Ended-clause-settles : goal.returns-in-Ended-clause-settles
returns-in-Ended-clause-settles c e before h shows same =
    let told = rw c.in-Ended.is at (c.in-Ok.ensures.steps e before h c.args.heap.now shows same) in
    subst (λ (m : Move). IsEnding c.args.program.now (activation before) (below_of c.args.frames.now) m c.in-Ended.cause) (sym told.0) refl

pub returns-in-Raised-clause-settles : goal.returns-in-Raised-clause-settles
returns-in-Raised-clause-settles c e before h shows same =
    let told = rw c.in-Raised.is at (c.in-Ok.ensures.steps e before h c.args.heap.now shows same) in
    c.raised.ensures.settles (move_by c.args.program.now e (activation before) (below_of c.args.frames.now)) (activation before) (below_of c.args.frames.now) h told.0 told.1 told.2

pub returns-in-Thrown-clause-settles : goal.returns-in-Thrown-clause-settles
returns-in-Thrown-clause-settles c e before h shows same =
    let told = rw c.in-Thrown.is at (c.in-Ok.ensures.steps e before h c.args.heap.now shows same) in
    c.threw.ensures.settles (move_by c.args.program.now e (activation before) (below_of c.args.frames.now)) (activation before) (below_of c.args.frames.now) h c.args.heap.now told.0 told.1 told.2
