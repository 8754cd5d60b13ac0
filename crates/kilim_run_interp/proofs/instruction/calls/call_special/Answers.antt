use Rattle.std.proofs.Common.{sym}
use Rattle.kilim_run_interp.proofs.instruction.calls.call_special.Goals as goal

pub call_named-requires-clause-there : goal.call_named-requires-clause-there
call_named-requires-clause-there c = sym c.in-Some.ensures
