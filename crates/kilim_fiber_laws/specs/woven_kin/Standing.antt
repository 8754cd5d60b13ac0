-- A woven fiber as it stands, but for what others decide.
use Rattle.std.specs.Prelude.{ℕ, List, Option}
use Rattle.kilim_run_state.specs.Machine.{Objects, Activation}
use Rattle.kilim_fiber_spec.specs.Acts.{Apart}
use Rattle.kilim_fiber_spec.specs.Fibers.{Fib}

-- Its frames, the top first, none where it rests; what it keeps of frames in records; its heap, and the next object's name;
-- the instructions that it has counted, the mailboxes that it has made, and the object that task 0 keeps until its `execute` begins;
-- and what stands apart while a put waits.
pub record Standing : Type 0 where
  pub frames : List Activation
  pub fiber : Fib
  pub heap : Objects
  pub next : ℕ
  pub done : ℕ
  pub boxes : ℕ
  pub kept : Option ℕ
  pub aside : List Apart
