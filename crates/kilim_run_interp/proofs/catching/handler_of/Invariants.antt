use Rattle.std.proofs.Common.{◌≡◌, drop}
use Rattle.kilim_run_machine.specs.Raising.{handler_of}
use Rattle.kilim_run_interp.proofs.catching.handler_of.Given as goal

abbrev pub invariant-loop-handler : goal.invariant-loop-handler
invariant-loop-handler l = handler_of l.program l.class l.at (drop l.handler-index l.handlers) ≡ handler_of l.fn.program l.fn.class l.fn.at l.fn.handlers
