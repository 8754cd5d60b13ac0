-- Frames as contracts see them: as the machine's.
use Rattle.std.specs.Prelude.{List, ◌∷◌, map, drop}
use Rattle.kilim_run_state.specs.Machine.{Activation}
use Rattle.kilim_run_state.specs.declared.frames.frame.Frame.{Frame}
use Rattle.kilim_run_state.specs.declared.frames.frames.Frames.{Frames}

abbrev pub activation : Frame → Activation
activation frame = record { method = frame.method; place = frame.pc; locals = frame.locals; stack = frame.stack.values }

-- the frames below the top one, the topmost first
abbrev pub below_of : Frames → List Activation
below_of frames = map activation frames.below

-- all of them, the top first
abbrev pub calls_of : Frames → List Activation
calls_of frames = activation frames.top ∷ below_of frames

-- those that go on behind the instruction that waits for an answer
abbrev pub answered : Frames → List Activation
answered frames =
    record { method = frames.top.method; place = frames.next; locals = frames.top.locals; stack = drop frames.operands frames.top.stack.values } ∷ below_of frames
