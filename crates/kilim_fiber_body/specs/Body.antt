-- What a fiber runs, as a woven fiber that stands.
use Rattle.std.specs.Prelude.{◌<◌, ◌≤◌, ℕ, List, [], ◌∷◌, Option, Some, None, length, drop, reverse, take}
use Rattle.kilim_program.specs.declared.value.Value.{Value}
use Rattle.kilim_program.specs.Program.{Program}
use Rattle.kilim_run_state.specs.Machine.{Activation}
use Rattle.kilim_run_state.specs.declared.frames.frames.Frames.{Frames}
use Rattle.kilim_run_state.specs.frames.Calls.{calls_of, answered}
use Rattle.kilim_run_interp.specs.Step.{AreRoomy, stack_limit}
use Rattle.kilim_run_trees.specs.Moved.{tree_heap}
use Rattle.kilim_fiber_spec.specs.Acts.{Apart}
use Rattle.kilim_fiber_laws.specs.woven_kin.Standing.{Standing}
use Rattle.kilim_fiber_body.specs.declared.body.Apart as body
use Rattle.kilim_fiber_body.specs.declared.body.Body.{Body}

abbrev pub calls_in : Option Frames → List Activation
calls_in None = []
calls_in (Some frames) = calls_of frames

-- the frames behind the instruction that was handed out
abbrev pub answered_in : Option Frames → List Activation
answered_in None = []
answered_in (Some frames) = answered frames

-- What waits to be put, with a heap of its own.
abbrev pub aside_in : Option body.Apart → List Apart
aside_in None = []
aside_in (Some a) = record { root = 0; shape = a.shape; heap = tree_heap a.tree } ∷ []

-- The places of its heap are the names. The next name is any place that is free, so it is told beside.
abbrev pub standing_at : ℕ → Body → Standing
standing_at x b = record { frames = calls_in b.frames; fiber = b.records; heap = b.heap; next = x; done = b.count; boxes = b.boxes; kept = b.kept; aside = aside_in b.apart }

-- behind the instruction that was handed out, which isn't counted yet
abbrev pub behind_at : ℕ → Body → Standing
behind_at x b = record { frames = answered_in b.frames; fiber = b.records; heap = b.heap; next = x; done = b.count; boxes = b.boxes; kept = b.kept; aside = aside_in b.apart }

-- each stack has room for what its method may have there
abbrev pub RoomyIn : Program → Option Frames → Type 0
RoomyIn W None = Unit {0}
RoomyIn W (Some frames) = AreRoomy W frames

-- behind that instruction there is room for one value more
abbrev pub RoomBehind : Program → Frames → Type 0
RoomBehind W frames = length (drop frames.operands frames.top.stack.values) < stack_limit W frames.top.method

abbrev pub RoomIn : Program → Option Frames → Type 0
RoomIn W None = ⊥
RoomIn W (Some frames) = RoomBehind W frames

abbrev pub HasFrames : Option Frames → Type 0
HasFrames None = ⊥
HasFrames (Some frames) = Unit {0}

-- the operands of the instruction that was handed out, the topmost one last
abbrev pub operands_of : Frames → List Value
operands_of frames = reverse (take frames.operands frames.top.stack.values)

abbrev pub operands_in : Option Frames → List Value
operands_in None = []
operands_in (Some frames) = operands_of frames

-- they are there
abbrev pub HasOperands : Option Frames → Type 0
HasOperands None = ⊥
HasOperands (Some frames) = frames.operands ≤ length frames.top.stack.values
