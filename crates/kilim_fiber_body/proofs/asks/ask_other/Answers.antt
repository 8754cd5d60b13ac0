use Rattle.std.proofs.Common.{Option, sym, subst}
use Rattle.kilim_run_state.specs.declared.frames.frames.Frames.{Frames}
use Rattle.kilim_fiber_body.specs.Body.{operands_in}
use Rattle.kilim_fiber_body.specs.Operands.{AreCopies}
use Rattle.kilim_fiber_body.proofs.asks.ask_other.Goals as goal

pub ask_with-asked-requires-clause-operands : goal.ask_with-asked-requires-clause-operands
ask_with-asked-requires-clause-operands c = subst (λ (o : Option Frames). AreCopies (operands_in o) c.in-Ok.operands) (sym c.in-Some.is) c.in-Ok.ensures
