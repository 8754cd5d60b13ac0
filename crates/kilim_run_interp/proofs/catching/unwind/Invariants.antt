use Rattle.std.proofs.Common.{◌≡◌, length}
use Rattle.kilim_program.specs.declared.value.Value.{Value}
use Rattle.kilim_run_state.specs.frames.Calls.{calls_of}
use Rattle.kilim_run_machine.specs.Raising.{unwound}
use Rattle.kilim_run_interp.specs.Step.{AreRoomy}
use Rattle.kilim_run_interp.proofs.catching.unwind.Given as goal

abbrev pub invariant-frames : goal.invariant-frames
invariant-frames l = AreRoomy l.program l.frames × ((v : Value) → unwound l.program l.class v (calls_of l.fn.frames) ≡ unwound l.program l.class v (calls_of l.frames))

abbrev pub decreases-frames : goal.decreases-frames
decreases-frames l = length l.frames.below
