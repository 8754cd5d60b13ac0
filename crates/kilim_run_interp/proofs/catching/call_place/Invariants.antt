use Rattle.std.proofs.Common.{◌≡◌, drop}
use Rattle.kilim_run_state.specs.Machine.{stands_behind}
use Rattle.kilim_run_interp.proofs.catching.call_place.Given as goal

abbrev pub invariant-loop-at : goal.invariant-loop-at
invariant-loop-at l = stands_behind (drop l.at l.code) l.end l.place ≡ stands_behind l.fn.code l.fn.end l.fn.place
