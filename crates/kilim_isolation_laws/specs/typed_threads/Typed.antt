-- Words for threads that go on fitting.
use Rattle.kilim_type_sound.specs.Fits.{Classes, Typing, Wanted}
use Rattle.kilim_type_sound.specs.Law.{Extends}
use Rattle.kilim_run_model.specs.State.{Setting}
use Rattle.kilim_run_model.specs.Lone.{Lone}
use Rattle.kilim_run_model.specs.Course.{Course, IsLone, Quiet}
use Rattle.std.specs.Prelude.{ℕ}
use Rattle.kilim_isolation_laws.specs.typed_threads.fine.Typed.{FitsAs, StackIsThere}

-- the thread fits, where no name lost its class, and new ones have one
pub record Further (set : Setting) (typing : Typing) (live : Wanted) (of : Classes) (l : Lone) : Type 0 where
  pub more : Classes
  pub grows : Extends of more
  pub is : FitsAs set typing live more l

-- the thread fits, with some class for each name
pub record IsTyped (set : Setting) (typing : Typing) (live : Wanted) (l : Lone) : Type 0 where
  pub of : Classes
  pub is : FitsAs set typing live of l

-- of each thread that there can be: what its top stack names is in its heap
abbrev pub StacksAreThere : Setting → Type 0
StacksAreThere set = (t : ℕ) (c : Course) (last l : Lone) → IsLone set t c last → Quiet set t last l → StackIsThere l
