-- What the interpreter asks of the frames and the heap of a woven fiber before each step.
use Rattle.std.specs.Prelude.{◌≡◌, ℕ, ◌<◌, nat_le, Bool, true, false, not, ◌&&◌, List, [], ◌∷◌, Option, Some, None, length}
use Rattle.std.specs.FinMap.{get}
use Rattle.std.specs.List.{AllByRecursion}
use Rattle.kilim_program.specs.declared.instr.Instr.{Instr}
use Rattle.kilim_program.specs.declared.names.MethodId.{MethodId}
use Rattle.kilim_program.specs.Program.{Program}
use Rattle.kilim_program.specs.declared.value.Value.{Value}
use Rattle.kilim_run_state.specs.Machine.{Activation, Objects}
use Rattle.kilim_run_state.specs.declared.value.Object.{Object}
use Rattle.kilim_run_machine.specs.Natives.{FiberMember, native_of}
use Rattle.kilim_run_state.specs.Trees.{Root}
use Rattle.kilim_run_machine.specs.Effect.{Effect, Asks}
use Rattle.kilim_run_machine.specs.Moves.{effect_of}
use Rattle.kilim_run_interp.specs.Run.{IsFine}
use Rattle.kilim_run_rows.specs.Outcome.{is_stuck}
use Rattle.kilim_run_interp.specs.Step.{FitsStack, stack_limit}
use Rattle.kilim_run_model.specs.State.{Setting}
use Rattle.kilim_run_model.specs.Kept.{IsFormed, given}
use Rattle.kilim_run_model.specs.Reach.{Below}
use Rattle.kilim_run_model.specs.kin.trees.TreeKin.{IsWholeTree}
use Rattle.kilim_run_trees.specs.Shaping.{IsShown, held}
use Rattle.kilim_type_sound.specs.Fits.{AreThere, IsThere}
use Rattle.kilim_fiber_spec.specs.fiber_kin.Served.{gives_value}
use Rattle.kilim_fiber_spec.specs.Thread.{Frame, At}
use Rattle.kilim_fiber_spec.specs.Acts.{World}
use Rattle.kilim_fiber_spec.specs.Fibers.{Fib, Woven_state, WRun, Resting, WStop, frame, first_receiver, is_rewinding, member_of}

-- where it calls a built-in method that gives a result
abbrev pub ResultHasRoom : Program → Effect → MethodId → Type 0
ResultHasRoom p (Asks c args q l s heap) m = gives_value (native_of p c) ≡ true → length s < stack_limit p m
ResultHasRoom p e m = Unit {0}

-- The instruction isn't stuck. The stack of the frame has room for what it leaves there, and for the result of the built-in method that it
-- calls. What a method returns has room on the caller's.
pub record HasRoom (p : Program) (e : Effect) (m : MethodId) (below : List Activation) : Type 0 where
  pub unstuck : is_stuck e ≡ false
  pub fits : FitsStack p e m below
  pub result : ResultHasRoom p e m

-- where it calls a member of the fiber
abbrev pub MemberHasRoom : Program → Effect → MethodId → Type 0
MemberHasRoom p (Asks c args q l s heap) m = (k : FiberMember) → member_of p c ≡ Some k → length s < stack_limit p m
MemberHasRoom p e m = Unit {0}

-- frames without their receivers
abbrev pub bare_frames : List Frame → List Activation
bare_frames [] = []
bare_frames (At m p l s x ∷ b) = frame m p l s ∷ bare_frames b

-- ---- what it gives away

-- an object in the heap that is as its class declares, and holds no fiber
pub record IsIntactAt (p : Program) (heap : Objects) (n : ℕ) : Type 0 where
  pub object : Object
  pub there : get heap n ≡ Some object
  pub formed : IsFormed p object
  pub shown : AllByRecursion IsShown (held object)

-- a whole tree of the program, with all that is at or below its root
pub record IsWholeAt (p : Program) (root : Root) (heap : Objects) (n : ℕ) : Type 0 where
  pub tree : IsWholeTree p root heap n
  pub below : (x : ℕ) → Below heap n x → IsIntactAt p heap x

-- Where the instruction puts or starts an object, it is the root of a whole tree of P. W is the program that runs.
abbrev pub GivesWhole : Program → Program → Objects → Effect → Type 0
GivesWhole P W heap (Asks c args q l s after) = (root : Root) (n : ℕ) → given (native_of W c) args ≡ Some (root, n) → IsWholeAt P root heap n
GivesWhole P W heap e = Unit {0}

-- ---- what the interpreter asks of its next step

-- What stands on the frame's stack is in the heap. The next instruction of the frame isn't stuck, and the stacks have room for what it
-- leaves there. So has the frame's for the result of a built-in method or of a member of the fiber. What it gives away is a whole tree.
pub record IsFineAt (P W : Program) (m : MethodId) (p : ℕ) (l s : List Value) (b : List Activation) (heap : Objects) : Type 0 where
  pub there : AreThere heap s
  pub fine : IsFine W (frame m p l s) b heap
  pub result : ResultHasRoom W (effect_of W (frame m p l s) heap) m
  pub member : MemberHasRoom W (effect_of W (frame m p l s) heap) m
  pub gives : GivesWhole P W heap (effect_of W (frame m p l s) heap)

-- whether the fiber has done all of its instructions, and this one counts: then it isn't done
abbrev pub is_spent : Setting → Option (Instr × ℕ × Bool) → Fib → World → Bool
is_spent set None f w = false
is_spent set (Some i) f w = (i.2 && not (is_rewinding f)) && nat_le set.limits.steps w.done

-- The frames and the heap are as the interpreter asks of them for its next step, also where the fiber is spent before it. Where it rests, the
-- receiver of the first frame, whose method `execute` goes on, is in the heap. P is the program whose threads are meant.
abbrev pub IsFineState : (P W : Program) → Woven_state → Type 0
IsFineState P W (WRun m p l s b f w ps) = IsFineAt P W m p l s b w.heap
IsFineState P W (Resting f w ps) = IsThere w.heap (first_receiver f)
IsFineState P W (WStop over) = Unit {0}
