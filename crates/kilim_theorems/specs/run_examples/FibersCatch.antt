-- A woven fiber catches as the thread beside it does: both go on at the frames that are left, with one instruction more; an exception that
-- nothing catches is counted too, and then ends the task, with nothing made.
use Rattle.std.specs.Prelude.{◌≡◌, ℕ, ◌+◌, Bool, true, List, [], ◌∷◌, Some}
use Rattle.std.specs.FinMap.{insert}
use Rattle.kilim_program.specs.declared.names.BoxName.{BoxName}
use Rattle.kilim_program.specs.declared.names.ClassId.{ClassId}
use Rattle.kilim_program.specs.declared.names.MethodId.{MethodId}
use Rattle.kilim_program.specs.declared.value.Value.{Value}
use Rattle.kilim_program.specs.declared.value.Value.TheVariants.{Box, Null, Ref}
use Rattle.kilim_program.specs.Program.{Program}
use Rattle.kilim_run_state.specs.declared.cause.EndCause.{EndCause}
use Rattle.kilim_run_state.specs.declared.cause.EndCause.TheVariants as cause
use Rattle.kilim_run_state.specs.Machine.{Activation, Objects}
use Rattle.kilim_run_state.specs.Objects.{new_object}
use Rattle.kilim_run_machine.specs.Effect.{Asks, Raises, Throws}
use Rattle.kilim_run_machine.specs.Natives as native
use Rattle.kilim_run_machine.specs.Natives.{native_of}
use Rattle.kilim_run_machine.specs.Raising.{index_at, other_index, raised_class, thrown, unwound}
use Rattle.kilim_run_model.specs.State.{Setting}
use Rattle.kilim_fiber_spec.specs.Acts.{World, ending}
use Rattle.kilim_fiber_spec.specs.Fibers.{Fib, WRun, WStop, frame, weffect}
use Rattle.kilim_fiber_spec.specs.Thread.{At, Frame, Run, Stop, effect_does, left_at}

-- one instruction more is done
abbrev pub one_more : World → World
one_more w = record w { done = w.done + 1 }

-- a new object of that class is there too
abbrev pub with_exception : Program → ClassId → Objects → World → World
with_exception p c heap w = record (one_more w) { heap = insert heap w.next (new_object p c); next = w.next + 1 }

module _ (set : Setting) (W : Program) (marks : List (List Bool)) (top : Activation) (below : List Activation) (f : Fib) (w : World) (pauses : List ℕ) where
  -- an instruction that divides by zero
  abbrev pub FiberRaises : Type 0
  FiberRaises = (c : ClassId) (g : Activation) (fs : List Activation) → raised_class W (index_at W top) cause.Zero ≡ Some c → thrown W c (Ref w.next) top below ≡ g ∷ fs →
      weffect set W marks true (Raises cause.Zero) top below f w pauses ≡ WRun g.method g.place g.locals g.stack fs f (with_exception W c w.heap w) pauses

  -- `athrow`
  abbrev pub FiberThrows : Type 0
  FiberThrows = (n : ℕ) (c : ClassId) (why : EndCause) (g : Activation) (fs : List Activation) → thrown W c (Ref n) top below ≡ g ∷ fs →
      weffect set W marks true (Throws n c why) top below f w pauses ≡ WRun g.method g.place g.locals g.stack fs f (one_more w) pauses

  -- a `put` of null
  abbrev pub FiberPuts : Type 0
  FiberPuts = (m : MethodId) (box : BoxName) (q : ℕ) (l s : List Value) (heap : Objects) (c : ClassId) (g : Activation) (fs : List Activation) →
      native_of W m ≡ Some native.Put → raised_class W other_index cause.Null ≡ Some c → unwound W c (Ref w.next) (frame top.method q l s ∷ below) ≡ g ∷ fs →
      weffect set W marks true (Asks m (Box box ∷ Null ∷ []) q l s heap) top below f w pauses ≡ WRun g.method g.place g.locals g.stack fs f (with_exception W c heap w) pauses

  -- nothing catches
  abbrev pub FiberEnds : Type 0
  FiberEnds = (n : ℕ) (c : ClassId) (why : EndCause) → thrown W c (Ref n) top below ≡ [] → weffect set W marks true (Throws n c why) top below f w pauses ≡ ending set (one_more w) WStop why

module _ (set : Setting) (top : Activation) (x : Value) (below : List Frame) (w : World) where
  abbrev pub ThreadRaises : Type 0
  ThreadRaises = (c : ClassId) (m : MethodId) (q : ℕ) (l s : List Value) (y : Value) (fs : List Frame) →
      raised_class set.program (index_at set.program top) cause.Zero ≡ Some c → left_at set.program c (Ref w.next) top x below ≡ At m q l s y ∷ fs →
      effect_does set (Raises cause.Zero) top x below w ≡ Run m q l s y fs (with_exception set.program c w.heap w)

  abbrev pub ThreadEnds : Type 0
  ThreadEnds = (n : ℕ) (c : ClassId) (why : EndCause) → left_at set.program c (Ref n) top x below ≡ [] → effect_does set (Throws n c why) top x below w ≡ ending set (one_more w) Stop why

pub record FibersCatch : Type 0 where
  pub raised : (set : Setting) (W : Program) (marks : List (List Bool)) (top : Activation) (below : List Activation) (f : Fib) (w : World) (pauses : List ℕ) → FiberRaises set W marks top below f w pauses
  pub thrown_object : (set : Setting) (W : Program) (marks : List (List Bool)) (top : Activation) (below : List Activation) (f : Fib) (w : World) (pauses : List ℕ) → FiberThrows set W marks top below f w pauses
  pub of_native : (set : Setting) (W : Program) (marks : List (List Bool)) (top : Activation) (below : List Activation) (f : Fib) (w : World) (pauses : List ℕ) → FiberPuts set W marks top below f w pauses
  pub uncaught : (set : Setting) (W : Program) (marks : List (List Bool)) (top : Activation) (below : List Activation) (f : Fib) (w : World) (pauses : List ℕ) → FiberEnds set W marks top below f w pauses
  pub beside : (set : Setting) (top : Activation) (x : Value) (below : List Frame) (w : World) → ThreadRaises set top x below w × ThreadEnds set top x below w
