use Rattle.std.proofs.Common.{refl, List, reverse, take, drop}
use Rattle.kilim_program.specs.declared.value.Value.{Value}
use Rattle.kilim_run_machine.specs.Effect as effect
use Rattle.kilim_run_machine.specs.Effect.{Effect}
use Rattle.kilim_run_state.specs.frames.Calls.{below_of}
use Rattle.kilim_run_interp.specs.declared.machine.Stepped.TheVariants.{AtNative}
use Rattle.kilim_run_interp.proofs.Settling.{from_still}
use Rattle.kilim_run_interp.proofs.machine.await_answer.Goals as goal

pub returns-clause-steps : goal.returns-clause-steps
returns-clause-steps c program own id e before h k shows same =
    let st : List Value = c.args.frames.now.top.stack.values in
    let x : Effect = effect.Asks id (reverse (take c.args.count st)) c.args.next c.args.frames.now.top.locals (drop c.args.count st) k in
    from_still program e before c.args.frames.now.top (below_of c.args.frames.now) h k (AtNative (record { method = id; args = reverse (take c.args.count st) }))
    (record c.args.frames.now { operands = c.args.count; next = c.args.next }) x shows.1 shows.2 (refl, record { frames = refl; heap = refl })
