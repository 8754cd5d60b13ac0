use Rattle.std.proofs.Common.{refl, ◌∙◌, sym, reverse, take, drop}
use Rattle.kilim_run_machine.specs.Moves.{goes_on}
use Rattle.kilim_run_state.specs.frames.Calls.{activation, calls_of}
use Rattle.kilim_run_interp.proofs.Entering.{too_deep, enters}
use Rattle.kilim_run_interp.proofs.machine.enter.Goals as goal

pub returns-then-is_full-clause-steps : goal.returns-then-is_full-clause-steps
returns-then-is_full-clause-steps c heap = (
  too_deep c.args.program.now c.args.id (reverse (take c.args.count c.args.frames.now.top.stack.values))
      (goes_on (activation c.args.frames.now.top) c.args.next c.args.frames.now.top.locals (drop c.args.count c.args.frames.now.top.stack.values)) c.args.frames.now.below heap
      (sym c.is_full.ensures ∙ c.if-is_full.true),
  refl,
)

pub returns-clause-steps : goal.returns-clause-steps
returns-clause-steps c heap =
    enters c.args.program.now c.args.id (reverse (take c.args.count c.args.frames.now.top.stack.values))
    (goes_on (activation c.args.frames.now.top) c.args.next c.args.frames.now.top.locals (drop c.args.count c.args.frames.now.top.stack.values)) c.args.frames.now.below (calls_of c.put_on.new.frames) heap
    (sym c.is_full.ensures ∙ c.if-is_full.false) (rw c.in-Ok.is at c.put_on.ensures.calls)
