-- What a body comes to, against what a woven fiber does next.
use Rattle.std.specs.Prelude.{◌≡◌, ◌⊎◌, ◌≤◌, ◌+◌, ℕ, Bool, true, false, List, [], ◌∷◌, Option, Some, None}
use Rattle.std.specs.FinMap.{get}
use Rattle.std.specs.List.{AllByRecursion}
use Rattle.kilim_program.specs.Program.{Program}
use Rattle.kilim_program.specs.declared.names.BoxName.{BoxName}
use Rattle.kilim_program.specs.declared.value.Value.{Value}
use Rattle.kilim_program.specs.declared.value.Value.TheVariants.{Ref}
use Rattle.kilim_run_state.specs.declared.value.Object.{Object}
use Rattle.kilim_run_state.specs.declared.value.Token.{Token}
use Rattle.kilim_run_state.specs.Machine.{Objects}
use Rattle.kilim_run_machine.specs.Natives.{Native, Pc, Down, Up, Restore, Receiver}
use Rattle.kilim_run_machine.specs.Natives as native
use Rattle.kilim_run_state.specs.Shapes.{shape_of}
use Rattle.kilim_run_state.specs.Trees.{Root}
use Rattle.kilim_run_model.specs.Kept.{given}
use Rattle.kilim_run_model.specs.State.{Setting}
use Rattle.kilim_run_state.specs.declared.run.Limits.{Limits}
use Rattle.kilim_fiber_laws.specs.woven_kin.Standing.{Standing}
use Rattle.kilim_fiber_laws.specs.woven_kin.Alike.{TakesName}
use Rattle.kilim_fiber_steps.specs.declared.records.natives.natives.Native as declared_native
use Rattle.kilim_fiber_steps.specs.declared.records.natives.natives.Native.TheVariants as code
use Rattle.kilim_run_trees.specs.Room.{RoomFor}
use Rattle.kilim_run_trees.specs.Walk.{AllThere}
use Rattle.kilim_run_trees.specs.Moved.{Fits, CanLeave, IsTooLarge, TakenOut, tree_heap}
use Rattle.kilim_run_trees.specs.Shaping.{Suits}
use Rattle.kilim_fiber_laws.specs.woven_kin.Nexts.{Next, Goes, Puts, PutWaits, PutsAgain, Bounds, Gets, Probes, Starts, Prints, Rests, Ends, Stands, asks_next, counted, paused_at, taken_at, waiting_at}
use Rattle.kilim_fiber_body.specs.Body.{standing_at, behind_at, HasFrames, RoomIn}
use Rattle.kilim_fiber_body.specs.declared.body.Body.{Body}
use Rattle.kilim_fiber_body.specs.declared.body.Came.{Came}
use Rattle.kilim_fiber_body.specs.declared.body.Came.TheVariants as came
use Rattle.kilim_fiber_body.specs.declared.gifts.Gift.{Gift}
use Rattle.kilim_fiber_body.specs.declared.gifts.Gift.TheVariants as gift

-- ---- a tree that leaves

-- what is known of the object at a place that is put or started
pub record CanGive (p : Program) (heap : Objects) (root : ℕ) : Type 0 where
  pub there : AllThere heap root
  pub leaves : (room : RoomFor) → Fits heap root room → CanLeave heap root room
  pub large : IsTooLarge heap root → shape_of p heap root ≡ None
  pub suits : (room : RoomFor) → Fits heap root room → (after : Objects) (tree : List Object) → TakenOut heap root after tree → AllByRecursion (Suits p) tree

pub record IsGift (p : Program) (root : ℕ) (heap after : Objects) (tree : List Object) (shape : List Token) : Type 0 where
  pub out : TakenOut heap root after tree
  pub has : shape_of p heap root ≡ Some shape

abbrev pub GiftIs : Program → ℕ → Objects → Objects → Gift → Type 0
GiftIs p root heap after (gift.Tree tree shape) = IsGift p root heap after tree shape
GiftIs p root heap after gift.TooLarge = (shape_of p heap root ≡ None) × (after ≡ heap)

-- ---- what comes

-- the same count, or one instruction more
pub record IsNear (old new : ℕ) : Type 0 where
  pub least : old ≤ new
  pub most : new ≤ old + 1

-- a tree has left the heap
pub record HasGiven (m : ℕ) (new : Body) (tree : List Object) : Type 0 where
  pub heap : Objects
  pub out : TakenOut heap m new.heap tree

-- A put that waits: its tree has left the heap. Made again, its tree has come from where it stood apart.
abbrev pub FirstWaits : ℕ → Next → Body → BoxName → List Object → List Token → Type 0
FirstWaits x next new box tree shape =
    (m : ℕ) × (g : HasGiven m new tree) × (next ≡ PutWaits box m shape (waiting_at box (behind_at x (record new { heap = g.heap }))) (taken_at (behind_at x (record new { heap = g.heap }))))

abbrev pub WaitsAgain : ℕ → Next → Body → BoxName → List Object → List Token → Type 0
WaitsAgain x next new box tree shape =
    next ≡ PutsAgain box 0 shape (taken_at (behind_at x (record new { heap = tree_heap tree }))) (waiting_at box (behind_at x (record new { apart = Some (record { tree = tree; shape = shape }) }))) (taken_at (behind_at x new))

-- The fiber does that next, and comes to this body; what is asked is kept where it was.
abbrev pub Comes : ℕ → Next → Body → Came → Type 0
Comes x next new came.On = next ≡ Goes (standing_at x new)
Comes x next new (came.Puts box tree shape) = (m : ℕ) × (g : HasGiven m new tree) × (next ≡ Puts box m shape (counted (behind_at x (record new { heap = g.heap }))))
Comes x next new (came.PutWaits box tree shape) = FirstWaits x next new box tree shape ⊎ WaitsAgain x next new box tree shape
Comes x next new (came.Bounds box most) = next ≡ Bounds box most (counted (behind_at x new))
Comes x next new (came.Takes box) = next ≡ Gets box (paused_at box (behind_at x new)) (taken_at (behind_at x new))
Comes x next new (came.Probes box) = next ≡ Probes box (counted (behind_at x new))
Comes x next new (came.Starts tree shape) = (m : ℕ) × (g : HasGiven m new tree) × (next ≡ Starts m shape (counted (behind_at x (record new { heap = g.heap }))))
Comes x next new (came.Prints shape) = (token : Token) × (shape ≡ token ∷ []) × (next ≡ Prints token (counted (behind_at x new)))
Comes x next new came.Rests = next ≡ Rests (standing_at x new)
Comes x next new (came.Ends why) = next ≡ Ends why

-- It does what comes next under some name, which is free in this heap where a new object takes it, and comes to this body.
pub record ComesBy (h : Objects) (next : ℕ → Next) (new : Body) (c : Came) : Type 0 where
  pub name : ℕ
  pub free : TakesName name (next name) → get h name ≡ None
  pub after : ℕ
  pub comes : Comes after (next name) new c

-- ---- built-in methods

-- one that has a result
abbrev pub gives_result : Option Native → Bool
gives_result (Some native.Get) = true
gives_result (Some native.Getnb) = true
gives_result (Some native.ArgCount) = true
gives_result (Some native.Arg) = true
gives_result (Some (native.OfFiber Pc)) = true
gives_result (Some (native.OfFiber Down)) = true
gives_result (Some (native.OfFiber Up)) = true
gives_result (Some (native.OfFiber Restore)) = true
gives_result (Some (native.OfFiber Receiver)) = true
gives_result n = false

-- no member of `kilim/Fiber`
abbrev pub is_other : declared_native.Native → Bool
is_other (code.OfFiber member) = false
is_other n = true

-- a value that is put
abbrev pub IsGivenBy : Program → Objects → Value → Type 0
IsGivenBy p heap (Ref m) = CanGive p heap m
IsGivenBy p heap v = Unit {0}

-- It is a call that verified code makes: in a setting with these limits it isn't where no such code comes.
pub record IsMade (W : Program) (limits : Limits) (l : Standing) (args : List Value) (n : Option Native) : Type 0 where
  pub set : Setting
  pub is-limits : set.limits ≡ limits
  pub never : asks_next set W l args n ≡ Stands → ⊥

-- What is known where a built-in method is called: p is the program that was woven, W the woven one.
pub record CanAsk (p W : Program) (limits : Limits) (n : Option Native) (args : List Value) (b : Body) : Type 0 where
  pub made : IsMade W limits (behind_at 0 b) args n
  pub room : gives_result n ≡ true → RoomIn W b.frames
  pub gives : (root : Root) (m : ℕ) → given n args ≡ Some (root, m) → CanGive p b.heap m

-- where it takes or looks for a message, there is room for that; and where it asks something it has frames
abbrev pub HasRoomFor : Program → Body → Came → Type 0
HasRoomFor W new (came.Takes box) = RoomIn W new.frames
HasRoomFor W new (came.Probes box) = RoomIn W new.frames
HasRoomFor W new (came.Puts box tree shape) = HasFrames new.frames
HasRoomFor W new (came.PutWaits box tree shape) = HasFrames new.frames
HasRoomFor W new (came.Bounds box most) = HasFrames new.frames
HasRoomFor W new (came.Starts tree shape) = HasFrames new.frames
HasRoomFor W new (came.Prints shape) = HasFrames new.frames
HasRoomFor W new c = Unit {0}
