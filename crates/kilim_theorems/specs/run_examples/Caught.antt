-- What is caught counts as one instruction, as what isn't: an instruction that raises, `athrow`, and a built-in method that raises, whose call
-- is counted and nothing more (JVMS 2.10, own). So a task that catches the same exception again and again ends as spent.
use Rattle.std.specs.Prelude.{◌≡◌, ℕ, ◌+◌, List, [], ◌∷◌, Some}
use Rattle.std.specs.FinMap.{insert}
use Rattle.kilim_program.specs.declared.names.BoxName.{BoxName}
use Rattle.kilim_program.specs.declared.names.ClassId.{ClassId}
use Rattle.kilim_program.specs.declared.names.MethodId.{MethodId}
use Rattle.kilim_program.specs.declared.value.Value.TheVariants.{Box, Null, Ref}
use Rattle.kilim_run_state.specs.declared.cause.EndCause.{EndCause}
use Rattle.kilim_run_state.specs.declared.cause.EndCause.TheVariants as cause
use Rattle.kilim_run_state.specs.Machine.{Activation, Objects}
use Rattle.kilim_run_state.specs.Objects.{new_object}
use Rattle.kilim_run_machine.specs.Moves as move
use Rattle.kilim_run_machine.specs.Natives as native
use Rattle.kilim_run_machine.specs.Natives.{native_of}
use Rattle.kilim_run_machine.specs.Raising.{index_at, other_index, raised_class, thrown, unwound}
use Rattle.kilim_run_model.specs.State.{Alive, Setting}
use Rattle.kilim_run_model.specs.Lone.{Goes, Lone, next_by}

-- an instruction that divides by zero: the exception is a new object, and one instruction more is done
abbrev pub RaisedCounts : Type 0
RaisedCounts = (setting : Setting) (t : ℕ) (l : Lone) (done boxes : ℕ) (top f : Activation) (below fs : List Activation) (c : ClassId) →
    raised_class setting.program (index_at setting.program top) cause.Zero ≡ Some c → thrown setting.program c (Ref l.next) top below ≡ f ∷ fs →
    next_by setting t l done boxes top below (move.Raises cause.Zero)
    ≡ Goes (record l { heap = insert l.heap l.next (new_object setting.program c); next = l.next + 1; thread = Alive (f ∷ fs) (done + 1) boxes })

-- `athrow`: the object is the one that is thrown
abbrev pub ThrownCounts : Type 0
ThrownCounts = (setting : Setting) (t : ℕ) (l : Lone) (done boxes : ℕ) (top f : Activation) (below fs : List Activation) (object : ℕ) (c : ClassId) (why : EndCause) →
    thrown setting.program c (Ref object) top below ≡ f ∷ fs →
    next_by setting t l done boxes top below (move.Throws object c why) ≡ Goes (record l { thread = Alive (f ∷ fs) (done + 1) boxes })

-- a `put` of null, with the frames as they stand behind its call
abbrev pub NativeCounts : Type 0
NativeCounts = (setting : Setting) (t : ℕ) (l : Lone) (done boxes : ℕ) (top f : Activation) (below frames fs : List Activation) (m : MethodId) (box : BoxName) (heap : Objects) (c : ClassId) →
    native_of setting.program m ≡ Some native.Put → raised_class setting.program other_index cause.Null ≡ Some c → unwound setting.program c (Ref l.next) frames ≡ f ∷ fs →
    next_by setting t l done boxes top below (move.Asks m (Box box ∷ Null ∷ []) frames heap)
    ≡ Goes (record l { heap = insert heap l.next (new_object setting.program c); next = l.next + 1; thread = Alive (f ∷ fs) (done + 1) boxes })

pub record CaughtCountsOnce : Type 0 where
  pub raised : RaisedCounts
  pub thrown_object : ThrownCounts
  pub of_native : NativeCounts
