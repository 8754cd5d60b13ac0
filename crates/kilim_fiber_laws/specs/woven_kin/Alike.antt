-- A woven fiber as the machine has it, with names that are never used again, and one whose heap has places that are used again: the
-- same but for the names of objects.
use Rattle.std.specs.Prelude.{◌+◌, ◌≡◌, ◌<◌, ℕ, Bool, false, List, ◌∷◌, Some, None, [], Option, not, ◌&&◌, nat_le}
use Rattle.kilim_fiber_spec.specs.Acts.{Apart}
use Rattle.std.specs.FinMap.{get}
use Rattle.kilim_program.specs.declared.instr.Instr.{Instr}
use Rattle.kilim_program.specs.Program.{Program}
use Rattle.kilim_run_state.specs.declared.value.Token.{Token}
use Rattle.kilim_run_state.specs.Machine.{Activation}
use Rattle.kilim_run_machine.specs.Moves.{Move, moves}
use Rattle.kilim_run_machine.specs.Moves as move
use Rattle.kilim_run_machine.specs.Natives.{native_of}
use Rattle.kilim_run_state.specs.Shapes.{shape_of}
use Rattle.kilim_run_state.specs.Trees.{Root, OfMessage, OfTask}
use Rattle.kilim_run_model.specs.Kept.{given}
use Rattle.kilim_run_model.specs.State.{Setting}
use Rattle.kilim_run_model.specs.kin.Kin.{Names, IsKin, AreKin, FramesKin, NameKin, Alike, AreHeld, IsThere}
use Rattle.kilim_run_model.specs.kin.trees.TreeKin.{IsWholeTree}
use Rattle.kilim_fiber_spec.specs.fiber_kin.Mine.{all_mine}
use Rattle.kilim_fiber_spec.specs.Fibers.{Fib, Fiber_at, Rec, Saved, is_rewinding, wfetch}
use Rattle.kilim_fiber_laws.specs.woven_kin.Standing.{Standing}
use Rattle.kilim_fiber_laws.specs.woven_kin.Nexts.{Next, Goes, Puts, PutWaits, Bounds, Gets, Probes, Starts, Prints, Rests, Ends, Stands, next_of, PutsAgain}

-- ---- records; `of` gives for a name the place

abbrev pub RecordKin : Names → Rec → Rec → Type 0
RecordKin of (Saved p x vs) (Saved q y ws) = (p ≡ q) × IsKin of x y × AreKin of vs ws

abbrev pub RecordsKin : Names → List Rec → List Rec → Type 0
RecordsKin of [] [] = Unit {0}
RecordsKin of (r ∷ rs) (s ∷ ss) = RecordKin of r s × RecordsKin of rs ss
RecordsKin of rs ss = ⊥

abbrev pub FibersKin : Names → Fib → Fib → Type 0
FibersKin of (Fiber_at lo r de re pa) (Fiber_at lower s deeper rewinding pausing) = RecordsKin of lo lower × RecordKin of r s × RecordsKin of de deeper × (re ≡ rewinding) × (pa ≡ pausing)

-- ---- trees that stand apart

-- the same shapes, whatever their heaps
abbrev pub ApartKin : List Apart → List Apart → Type 0
ApartKin [] [] = Unit {0}
ApartKin (k ∷ ks) (m ∷ ms) = (k.shape ≡ m.shape) × ApartKin ks ms
ApartKin ks ms = ⊥

-- ---- fibers

-- `of` forgets no name, and two names that are both in the heap have different places. A frame or a record may hold a name whose object has
-- left: its place may be used again. The next name of the second fiber is nowhere looked at.
pub record IsLike (of : Names) (l f : Standing) : Type 0 where
  pub frames : FramesKin of l.frames f.frames
  pub fiber : FibersKin of l.fiber f.fiber
  pub heaps : Alike of all_mine 0 f.heap l.heap f.heap
  pub done : l.done ≡ f.done
  pub boxes : l.boxes ≡ f.boxes
  pub kept : NameKin of l.kept f.kept
  pub aside : ApartKin l.aside f.aside
  pub below : (n x : ℕ) → of n ≡ Some x → n < l.next

pub record Like (l f : Standing) : Type 0 where
  pub of : Names
  pub is : IsLike of l f

-- right before a tree is given away: at `n` in the first heap, at `m` in the second
pub record Giving (p : Program) (root : Root) (n m : ℕ) (shape : List Token) (l f : Standing) : Type 0 where
  pub of : Names
  pub is : IsLike of l f
  pub named : of n ≡ Some m
  pub whole : IsWholeTree p root l.heap n
  pub has : shape_of p l.heap n ≡ Some shape

-- The second does what the first does. Of one that is where no verified code comes nothing is said.
abbrev pub NextLike : Program → Next → Next → Type 0
NextLike p (Goes a) (Goes f) = Like a f
NextLike p (Puts box n shape a) (Puts other m again f) = (box ≡ other) × (shape ≡ again) × Giving p OfMessage n m shape a f
NextLike p (PutWaits box n shape a b) (PutWaits other m again f g) = (box ≡ other) × (shape ≡ again) × Giving p OfMessage n m shape a f × Giving p OfMessage n m shape b g
NextLike p (PutsAgain box n shape whole a b) (PutsAgain other m again full f g) = (box ≡ other) × (shape ≡ again) × (whole.done ≡ g.done) × (whole.aside ≡ b.aside) × Like a f × Like b g
NextLike p (Bounds box most a) (Bounds other least f) = (box ≡ other) × (most ≡ least) × Like a f
NextLike p (Gets box a b) (Gets other f g) = (box ≡ other) × Like a f × Like b g
NextLike p (Probes box a) (Probes other f) = (box ≡ other) × Like a f
NextLike p (Starts n shape a) (Starts m again f) = (shape ≡ again) × Giving p OfTask n m shape a f
NextLike p (Prints token a) (Prints again f) = (token ≡ again) × Like a f
NextLike p (Rests a) (Rests f) = Like a f
NextLike p (Ends cause) (Ends why) = cause ≡ why
NextLike p Stands y = Unit {0}
NextLike p x y = ⊥

-- ---- what has to be known of the first one

abbrev pub GivesWhole : Program → Program → Move → Type 0
GivesWhole p W (move.Asks m args frames heap) = (root : Root) (n : ℕ) → given (native_of W m) args ≡ Some (root, n) → IsWholeTree p root heap n
GivesWhole p W other = Unit {0}

-- whether it is spent before its next instruction
abbrev pub spends : Setting → Option (Instr × ℕ × Bool) → Standing → Bool
spends set None l = false
spends set (Some found) l = (found.2 && not (is_rewinding l.fiber)) && nat_le set.limits.steps l.done

abbrev pub spends_at : Setting → Program → List (List Bool) → Standing → Activation → Bool
spends_at set W marks l top = spends set (wfetch set W marks top.method top.place) l

-- unless it is spent, what stands on the stack of its top frame is in the heap, and what it gives away next is a whole tree of the program
abbrev pub IsWholeAt : Setting → Program → List (List Bool) → Standing → List Activation → Type 0
IsWholeAt set W marks l [] = Unit {0}
IsWholeAt set W marks l (top ∷ below) = spends_at set W marks l top ≡ false → AreHeld (IsThere l.heap) top.stack × GivesWhole set.program W (moves W top below l.heap)

abbrev pub IsWhole : Setting → Program → List (List Bool) → Standing → Type 0
IsWhole set W marks l = IsWholeAt set W marks l l.frames

-- ---- and of the second

-- it goes on under a further name
abbrev pub TakesName : ℕ → Next → Type 0
TakesName n (Goes after) = after.next ≡ n + 1
TakesName n x = ⊥

-- where it does, that name was free
abbrev pub HasFree : Setting → Program → List (List Bool) → ℕ → Standing → Type 0
HasFree set W marks t f = TakesName f.next (next_of set W marks t f) → get f.heap f.next ≡ None
