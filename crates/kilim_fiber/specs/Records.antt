-- What a fiber keeps where it rests: no frame, but a record for each frame that it left, and then the leaf's.
use Rattle.std.specs.Prelude.{◌≡◌, ◌+◌, ℕ, Bool, true, false, [], ◌∷◌, Option, None, length}
use Rattle.kilim_isolation_laws.specs.typed_threads.fine.Typed.{frames_of}
use Rattle.kilim_fiber_steps.specs.records.Members.{deeper_of}
use Rattle.kilim_run_state.specs.declared.frames.frames.Frames.{Frames}
use Rattle.kilim_run_model.specs.one_heap.Booked.{IsOf}
use Rattle.kilim_run_model.specs.Lone.{Lone}
use Rattle.kilim_run_model.specs.State.{Setting}
use Rattle.kilim_fiber_body.specs.declared.body.Body.{Body}
use Rattle.kilim_fiber_body.specs.declared.body.Came.{Came}
use Rattle.kilim_fiber_body.specs.declared.body.Came.TheVariants as came
use Rattle.kilim_fiber_spec.specs.Fibers.{Fib, Fiber_at}
use Rattle.kilim_fiber.specs.Fiber.{task_of, course_of}
use Rattle.kilim_fiber.specs.declared.fiber.Fiber.{Fiber}

-- It has left all frames: it pauses at the level of the first one, whose record stands there. The others' stand above, and the leaf's is the last.
abbrev pub HasLeftAll : Fib → Type 0
HasLeftAll (Fiber_at [] first (next ∷ more) false true) = Unit {0}
HasLeftAll records = ⊥

-- without frames it keeps the record at its own level and those above; but none where its `execute` is built in
abbrev pub records_in : Option Frames → Bool → Fib → ℕ
records_in None false records = 1 + length (deeper_of records)
records_in frames idle records = 0

-- How many records it keeps in place of frames: one for each frame that it left, and the leaf's; none while it has frames.
abbrev pub records_of : Fiber → ℕ
records_of f = records_in f.body.frames f.idle f.body.records

-- a body that comes to rest has no frame
abbrev pub NoFrameIsLeft : Came → Body → Type 0
NoFrameIsLeft came.Rests b = b.frames ≡ None
NoFrameIsLeft c b = Unit {0}

-- a fiber that ran and rests
pub record HasRested (f : Fiber) : Type 0 where
  pub busy : f.idle ≡ false
  pub frames : f.body.frames ≡ None
  pub records : HasLeftAll f.body.records

-- It keeps one record for each frame of the thread of its course, where that stands at the `get`, or behind the `yield`, and one for the leaf.
pub record KeepsEach (set : Setting) (f : Fiber) : Type 0 where
  pub here : Lone
  pub is : IsOf set (task_of f) (course_of f) here
  pub count : records_of f ≡ length (frames_of here.thread) + 1
