-- A running fiber, and the thread of its course, which has a heap of its own: the same but for the names of objects.
use Rattle.std.specs.Prelude.{◌≡◌, ◌<◌, ℕ, List, Option, Some}
use Rattle.kilim_run_state.specs.Machine.{Objects, Activation}
use Rattle.kilim_run_model.specs.State.{Alive}
use Rattle.kilim_run_model.specs.Lone.{Lone}
use Rattle.kilim_run_model.specs.kin.Kin.{Names, NameKin, Alike}
use Rattle.kilim_run_model.specs.one_heap.Lones.{ThreadKin}
use Rattle.kilim_fiber_spec.specs.fiber_kin.Mine.{all_mine}

-- What a running fiber is: its frames, the top first, its heap, whose places are used again, the instructions that it has
-- counted, the mailboxes that it has made, and the object that task 0 keeps until its `execute` begins.
pub record Held : Type 0 where
  pub frames : List Activation
  pub heap : Objects
  pub done : ℕ
  pub boxes : ℕ
  pub kept : Option ℕ

-- as a thread, which has no next name: a fiber takes any place that is free
abbrev pub as_lone : Held → Lone
as_lone f = record { heap = f.heap; next = 0; thread = Alive f.frames f.done f.boxes; kept = f.kept }

-- `of` gives for a name of the thread's heap the fiber's place. It forgets no name, and two names that are both in the heap
-- have different places. The fiber's next name is nowhere looked at.
pub record IsLike (of : Names) (l f : Lone) : Type 0 where
  pub threads : ThreadKin of l.thread f.thread
  pub heaps : Alike of all_mine 0 f.heap l.heap f.heap
  pub kept : NameKin of l.kept f.kept
  pub below : (n x : ℕ) → of n ≡ Some x → n < l.next

pub record Like (l f : Lone) : Type 0 where
  pub of : Names
  pub is : IsLike of l f
