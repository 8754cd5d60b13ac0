-- What the members of `kilim/Fiber` do to a fiber's records, in the words of the woven machine.
use Rattle.std.specs.Prelude.{◌≡◌, ℕ, List, [], ◌∷◌, Option, Some, None}
use Rattle.kilim_program.specs.declared.value.Value.{Value}
use Rattle.kilim_run_machine.specs.Natives.{FiberMember}
use Rattle.kilim_fiber_spec.specs.Fibers.{Fib, Fiber_at, Rec, Saved, empty_record, member_does}

-- what a member comes to: nothing that woven code ever meets, or the fiber behind it with a result, if there is one
pub data Did : Type 0 where
  NotDone : Did
  Does : Fib → Option Value → Did

-- a member with its arguments, the fiber the last one of them
abbrev pub did : FiberMember → List Value → Fib → Did
did member args f = member_does NotDone Does member args f

-- ---- a record by its parts

abbrev pub place_of : Rec → ℕ
place_of (Saved place receiver values) = place

abbrev pub receiver_of : Rec → Value
receiver_of (Saved place receiver values) = receiver

abbrev pub values_of : Rec → List Value
values_of (Saved place receiver values) = values

-- ---- records on top of each other

-- those above a fiber's own level, the nearest first
abbrev pub deeper_of : Fib → List Rec
deeper_of (Fiber_at lower here deeper rewinding pausing) = deeper

abbrev pub first_receiver_of : List Rec → Option Value
first_receiver_of [] = None
first_receiver_of (r ∷ rs) = Some (receiver_of r)

-- the topmost record is taken off, or a new one is made
abbrev pub comes_next : List Rec → List Rec → Rec → Type 0
comes_next [] rest r = (rest ≡ []) × (r ≡ empty_record)
comes_next (d ∷ ds) rest r = (rest ≡ ds) × (r ≡ d)

-- the value that was saved last is taken out, where there is one
abbrev pub restored : Rec → Rec → Option Value → Type 0
restored (Saved place receiver []) new found = (new ≡ Saved place receiver []) × (found ≡ None)
restored (Saved place receiver (v ∷ vs)) new found = (new ≡ Saved place receiver vs) × (found ≡ Some v)
