use Rattle.std.proofs.Common.{refl, sym, None, List, ◌∷◌, reverse, take, drop}
use Rattle.kilim_program.specs.declared.value.Value.{Value}
use Rattle.kilim_run_machine.specs.Effect as effect
use Rattle.kilim_run_machine.specs.Effect.{Effect}
use Rattle.kilim_run_machine.specs.Moves.{move_by}
use Rattle.kilim_run_state.specs.frames.Calls.{activation, below_of}
use Rattle.kilim_run_rows.specs.Outcome.{returned_by}
use Rattle.kilim_run_interp.specs.Step.{Steps}
use Rattle.kilim_run_interp.specs.declared.machine.Stepped.{Stepped}
use Rattle.kilim_run_interp.specs.declared.machine.Stepped.TheVariants.{NewBox}
use Rattle.kilim_run_interp.proofs.Results.{if_ok}
use Rattle.kilim_run_interp.proofs.Settling.{goes_on_at, goes_on_made, from_still, raises, throws, ends}
use Rattle.kilim_run_interp.proofs.machine.settle.Goals as goal

pub returns-in-Next-clause-steps : goal.returns-in-Next-clause-steps
returns-in-Next-clause-steps c e before h k shows same =
    goes_on_at c.args.program.now e before c.args.frames.now.top (below_of c.args.frames.now) h k c.args.next same (rw c.in-Next.is at shows)

pub returns-in-Made-clause-steps : goal.returns-in-Made-clause-steps
returns-in-Made-clause-steps c e before h k shows same =
    goes_on_made c.args.program.now e before c.args.frames.now.top (below_of c.args.frames.now) h k c.args.next c.in-Made.at same (rw c.in-Made.is at shows)

pub returns-in-Jump-clause-steps : goal.returns-in-Jump-clause-steps
returns-in-Jump-clause-steps c e before h k shows same =
    goes_on_at c.args.program.now e before c.args.frames.now.top (below_of c.args.frames.now) h k c.in-Jump.to same (rw c.in-Jump.is at shows)

pub returns-in-Opened-clause-steps : goal.returns-in-Opened-clause-steps
returns-in-Opened-clause-steps c e before h k shows same =
    let told = rw c.in-Opened.is at shows in
    from_still c.args.program.now e before c.args.frames.now.top (below_of c.args.frames.now) h k NewBox
    (record c.args.frames.now { operands = 0; next = c.args.next }) (effect.Opens c.args.next c.args.frames.now.top.locals c.args.frames.now.top.stack.values k) told.0 told.1
    (refl, record { frames = refl; heap = refl })

pub returns-in-Raised-clause-steps : goal.returns-in-Raised-clause-steps
returns-in-Raised-clause-steps c e before h k shows same =
    let told = rw c.in-Raised.is at shows in
    (raises c.args.program.now e before c.args.frames.now.top (below_of c.args.frames.now) h k c.in-Raised.cause told.0, (sym same, told.3, told.2, refl), told.1)

pub returns-in-Thrown-clause-steps : goal.returns-in-Thrown-clause-steps
returns-in-Thrown-clause-steps c e before h k shows same =
    let told = rw c.in-Thrown.is at shows in
    (throws c.args.program.now e before c.args.frames.now.top (below_of c.args.frames.now) h k c.in-Thrown.at c.in-Thrown.class c.in-Thrown.cause told.0, (sym same, told.3, told.2, refl), told.1)

pub returns-in-Ended-clause-steps : goal.returns-in-Ended-clause-steps
returns-in-Ended-clause-steps c e before h k shows same =
    let told = rw c.in-Ended.is at shows in
    (ends c.args.program.now e before c.args.frames.now.top (below_of c.args.frames.now) h k c.in-Ended.cause told.0, told.1)

pub returns-in-Called-clause-steps : goal.returns-in-Called-clause-steps
returns-in-Called-clause-steps c e before h k shows same =
    let told = rw c.in-Called.is at shows in
    let st : List Value = c.args.frames.now.top.stack.values in
    let x : Effect = effect.Calls c.in-Called.id (reverse (take c.in-Called.count st)) c.args.next c.args.frames.now.top.locals (drop c.in-Called.count st) k in
    if_ok c.enter.result
    (λ (stepped : Stepped). Steps (move_by c.args.program.now x (activation c.args.frames.now.top) (below_of c.args.frames.now)) stepped (activation c.args.frames.now.top ∷ below_of c.args.frames.now) c.enter.new.frames k k)
    (λ (stepped : Stepped). Steps (move_by c.args.program.now e (activation before) (below_of c.args.frames.now)) stepped (activation before ∷ below_of c.args.frames.now) c.enter.new.frames h k)
    (λ stepped steps. from_still c.args.program.now e before c.args.frames.now.top (below_of c.args.frames.now) h k stepped c.enter.new.frames x told.1 told.2 steps)
    (c.enter.ensures.steps k)

pub returns-in-Asked-clause-steps : goal.returns-in-Asked-clause-steps
returns-in-Asked-clause-steps c e before h k shows same =
    let told = rw c.in-Asked.is at shows in
    let st : List Value = c.args.frames.now.top.stack.values in
    let x : Effect = effect.Asks c.in-Asked.id (reverse (take c.in-Asked.count st)) c.args.next c.args.frames.now.top.locals (drop c.in-Asked.count st) k in
    if_ok c.hand_out.result
    (λ (stepped : Stepped). Steps (move_by c.args.program.now x (activation c.args.frames.now.top) (below_of c.args.frames.now)) stepped (activation c.args.frames.now.top ∷ below_of c.args.frames.now) c.hand_out.new.frames k k)
    (λ (stepped : Stepped). Steps (move_by c.args.program.now e (activation before) (below_of c.args.frames.now)) stepped (activation before ∷ below_of c.args.frames.now) c.hand_out.new.frames h k)
    (λ stepped steps. from_still c.args.program.now e before c.args.frames.now.top (below_of c.args.frames.now) h k stepped c.hand_out.new.frames x told.1 told.2 steps)
    (c.hand_out.ensures.steps k)

pub returns-in-Returned-clause-steps : goal.returns-in-Returned-clause-steps
returns-in-Returned-clause-steps c e before h k shows same =
    let told = rw c.in-Returned.is at shows in
    from_still c.args.program.now e before c.args.frames.now.top (below_of c.args.frames.now) h k c.leave.result c.leave.new.frames (effect.Returns None k) told.0 told.1 (c.leave.ensures.steps k)

pub returns-in-ReturnedValue-clause-steps : goal.returns-in-ReturnedValue-clause-steps
returns-in-ReturnedValue-clause-steps c e before h k shows same =
    let told = rw c.in-ReturnedValue.is at shows in
    from_still c.args.program.now e before c.args.frames.now.top (below_of c.args.frames.now) h k c.leave_with.result c.leave_with.new.frames
    (effect.Returns (returned_by c.args.own.now c.args.frames.now.top.stack.values) k) told.1 told.2 (c.leave_with.ensures.steps k)
