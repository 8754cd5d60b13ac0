-- A task of one heap, as a thread on that heap.
use Rattle.std.specs.Prelude.{◌≤◌, ◌<◌, ◌+◌, ◌==◌, ℕ, if◌then◌else◌, List, [], Option, Some, None, length, drop, reverse, take}
use Rattle.kilim_program.specs.Program.{Program}
use Rattle.kilim_program.specs.declared.value.Value.{Value}
use Rattle.kilim_run_state.specs.declared.cause.EndCause.{EndCause}
use Rattle.kilim_run_state.specs.declared.frames.frames.Frames.{Frames}
use Rattle.kilim_run_state.specs.Machine.{Activation}
use Rattle.kilim_run_state.specs.frames.Calls.{calls_of, answered}
use Rattle.kilim_run_interp.specs.Step.{AreRoomy, stack_limit}
use Rattle.kilim_run_model.specs.State.{Thread, Alive, Ended}
use Rattle.kilim_run_model.specs.Lone.{Lone}
use Rattle.kilim_replay_thread.specs.declared.task.Live.{Live}
use Rattle.kilim_replay_thread.specs.declared.task.World.{World}

abbrev pub calls_in : Option Frames → List Activation
calls_in None = []
calls_in (Some frames) = calls_of frames

-- the frames behind the instruction that was handed out
abbrev pub answered_in : Option Frames → List Activation
answered_in None = []
answered_in (Some frames) = answered frames

abbrev pub thread_in : Live → Thread
thread_in l = Alive (calls_in l.frames) l.done l.boxes

-- behind the instruction that was handed out
abbrev pub behind_in : Live → Thread
behind_in l = Alive (answered_in l.frames) (l.done + 1) l.boxes

-- only task 0 keeps an object
abbrev pub kept_for : ℕ → Option ℕ → Option ℕ
kept_for t kept = if t == 0 then kept else None

-- that task stands so
abbrev pub with_thread : ℕ → World → Thread → Lone
with_thread t w thread = record { heap = w.heap; next = w.next; thread = thread; kept = kept_for t w.kept }

abbrev pub lone_at : ℕ → World → Live → Lone
lone_at t w l = with_thread t w (thread_in l)

abbrev pub behind_at : ℕ → World → Live → Lone
behind_at t w l = with_thread t w (behind_in l)

-- it has ended
abbrev pub ended_at : World → EndCause → Lone
ended_at w why = record { heap = w.heap; next = w.next; thread = Ended why; kept = None }

-- each stack has room for what its method may have there
abbrev pub RoomyIn : Program → Option Frames → Type 0
RoomyIn p None = Unit {0}
RoomyIn p (Some frames) = AreRoomy p frames

-- behind that instruction there is room for one value more
abbrev pub RoomBehind : Program → Frames → Type 0
RoomBehind p frames = length (drop frames.operands frames.top.stack.values) < stack_limit p frames.top.method

abbrev pub RoomIn : Program → Option Frames → Type 0
RoomIn p None = ⊥
RoomIn p (Some frames) = RoomBehind p frames

abbrev pub HasFrames : Option Frames → Type 0
HasFrames None = ⊥
HasFrames (Some frames) = Unit {0}

-- the operands of the instruction that was handed out, the topmost one last
abbrev pub operands_of : Frames → List Value
operands_of frames = reverse (take frames.operands frames.top.stack.values)

abbrev pub operands_in : Option Frames → List Value
operands_in None = []
operands_in (Some frames) = operands_of frames

-- they are there
abbrev pub HasOperands : Option Frames → Type 0
HasOperands None = ⊥
HasOperands (Some frames) = frames.operands ≤ length frames.top.stack.values
