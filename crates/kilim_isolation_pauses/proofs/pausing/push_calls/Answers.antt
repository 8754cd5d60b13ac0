use Rattle.std.proofs.Common.{◌++◌, ℕ, refl, arith}
use Rattle.kilim_program.specs.declared.instr.Instr.{Instr}
use Rattle.kilim_isolation_pauses.specs.Pausing.{calls_along, call_if, called, pauses}
use Rattle.kilim_isolation_pauses.proofs.Loops.{rest_more, rest_end}
use Rattle.kilim_isolation_pauses.proofs.pausing.push_calls.Goals as goal

pub loop-placed-preserved : goal.loop-placed-preserved
loop-placed-preserved c =
    rest_more (calls_along c.args.program.now c.args.id) (λ (e : ℕ × Instr). call_if (pauses (called c.args.program.now e.1)) c.args.id e.0) c.loop-placed.calls c.push_if_pausable.new.calls
    (c.args.calls.now ++ calls_along c.args.program.now c.args.id c.args.code.now) c.args.code.now c.loop-placed.placed-index c.placed-item.result _ (λ y ys. refl) c.loop-placed-test.true c.placed-item.is c.loop-placed.invariant
    c.in_ok-push_if_pausable.ensures

pub returns : goal.returns
returns c =
    rest_end (calls_along c.args.program.now c.args.id) c.loop-placed.calls (c.args.calls.now ++ calls_along c.args.program.now c.args.id c.args.code.now) c.args.code.now c.loop-placed.placed-index refl (omega arith) c.loop-placed.invariant
