use Rattle.std.proofs.Common.{◌≡◌, ◌++◌, take}
use Rattle.kilim_run_state.specs.Machine.{slots_of}
use Rattle.kilim_run_state.proofs.frames.frame.lay.Given as goal

abbrev pub invariant-loop-value : goal.invariant-loop-value
invariant-loop-value l = l.items.items ≡ l.fn.items.items ++ slots_of (take l.value-index l.arguments)
