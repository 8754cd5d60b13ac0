use Rattle.std.proofs.Common.{◌≡◌}
use Rattle.kilim_run_state.specs.Machine.{slots_of}
use Rattle.kilim_run_state.proofs.frames.frame.laid.Given as goal

abbrev pub invariant-loop-value : goal.invariant-loop-value
invariant-loop-value l = l.items ≡ slots_of l.yielded
