-- The thread beside the woven machine is the thread on a heap of its own of kilim_run_model: it follows the same table.
use Rattle.std.specs.Prelude.{◌≡◌, ℕ, List, [], ◌∷◌, Option, Some, None}
use Rattle.kilim_run_state.specs.declared.cause.EndCause.{EndCause}
use Rattle.kilim_program.specs.declared.names.MethodId.{MethodId}
use Rattle.kilim_program.specs.declared.value.Value.{Value}
use Rattle.kilim_run_journal.specs.declared.entry.Act.{Act}
use Rattle.kilim_run_journal.specs.declared.entry.Act.TheVariants.{End}
use Rattle.kilim_run_state.specs.Machine.{Activation}
use Rattle.kilim_run_model.specs.State.{Setting, Alive}
use Rattle.kilim_run_model.specs.Lone.{Lone, Next, next_move}
use Rattle.kilim_run_model.specs.Lone as next
use Rattle.kilim_run_model.specs.Course.{Done, done_by}
use Rattle.kilim_run_model.specs.declared.deed.Deed.{Deed}
use Rattle.kilim_fiber_spec.specs.Acts.{World, Action, Over, Wants, Finished, Astray, Lost, Apart}
use Rattle.kilim_fiber_spec.specs.Acts as action
use Rattle.kilim_fiber_spec.specs.Thread.{Frame, At, Thread, Run, Stop, step}
use Rattle.kilim_fiber_spec.specs.Fibers.{frame}

-- ---- a thread without the receivers of its frames

abbrev pub lone_frames : List Frame → List Activation
lone_frames [] = []
lone_frames (At m p l s x ∷ b) = frame m p l s ∷ lone_frames b

abbrev pub lone_at : MethodId → ℕ → List Value → List Value → List Frame → World → Lone
lone_at m p l s b w = record { heap = w.heap; next = w.next; thread = Alive (frame m p l s ∷ lone_frames b) w.done w.boxes; kept = w.kept }

-- the thread stands so, with these deeds to come, these acts done, and that apart
abbrev pub IsAt : Lone → List Deed → List Act → ℕ → List Apart → Thread → Type 0
IsAt l ds as1 k aside (Run m p ls s x b w) = (lone_at m p ls s b w ≡ l) × (w.deeds ≡ ds) × (w.acts ≡ as1) × (w.task ≡ k) × (w.aside ≡ aside)
IsAt l ds as1 k aside (Stop o) = ⊥

-- ---- what comes next

abbrev pub SameHeap : World → Lone → Type 0
SameHeap w l = (w.heap ≡ l.heap) × (w.next ≡ l.next)

-- the action that is wanted, and how the thread then stands, where it goes on
abbrev pub wanted : Next → Option (Action × Option Lone)
wanted (next.Goes after) = None
wanted (next.Puts box root shape after) = Some (action.Puts box root shape, Some after)
wanted (next.PutWaits box root shape after) = Some (action.PutWaits box root shape, Some after)
wanted (next.Bounds box most after) = Some (action.Bounds box most, Some after)
wanted (next.Gets box after) = Some (action.Gets box, Some after)
wanted (next.Probes box after) = Some (action.Probes box, Some after)
wanted (next.Starts root shape after) = Some (action.Starts root shape, Some after)
wanted (next.Prints token after) = Some (action.Prints token, Some after)
wanted (next.Ends cause after) = Some (action.Ends cause, None)
wanted next.Stands = None

abbrev pub HeapOf : World → Option Lone → Type 0
HeapOf w None = Unit {0}
HeapOf w (Some l) = SameHeap w l

-- without a deed it ends right before the action, and shows it
abbrev pub IsWanted : Option (Action × Option Lone) → Thread → Type 0
IsWanted None t = ⊥
IsWanted (Some wish) t = (w : World) × (t ≡ Stop (Wants wish.0 w)) × HeapOf w wish.1

-- nothing comes behind an end
abbrev pub IsLast : EndCause → List Deed → Thread → Type 0
IsLast cause [] t = (w : World) × (t ≡ Stop (Finished cause w))
IsLast cause (d ∷ ds) t = t ≡ Stop Astray

abbrev pub IsBehind : Act → List Deed → List Act → ℕ → List Apart → Lone → Thread → Type 0
IsBehind (End cause) ds as1 k aside after t = IsLast cause ds t
IsBehind act ds as1 k aside after t = IsAt after ds (act ∷ as1) k aside t

-- a deed leads on, or is of another kind
abbrev pub IsDone : List Deed → List Act → ℕ → List Apart → Option Done → Thread → Type 0
IsDone ds as1 k aside None t = t ≡ Stop Astray
IsDone ds as1 k aside (Some done) t = IsBehind done.act ds as1 k aside done.after t

abbrev pub IsActed : Setting → List Deed → List Act → ℕ → List Apart → Next → Thread → Type 0
IsActed set [] as1 k aside n t = IsWanted (wanted n) t
IsActed set (d ∷ ds) as1 k aside n t = IsDone ds as1 k aside (done_by set n d) t

abbrev pub IsNext : Setting → List Deed → List Act → ℕ → List Apart → Next → Thread → Type 0
IsNext set ds as1 k aside (next.Goes after) t = IsAt after ds as1 k aside t
IsNext set ds as1 k aside next.Stands t = t ≡ Stop Lost
IsNext set ds as1 k aside n t = IsActed set ds as1 k aside n t

-- A step of the thread is what the thread on its own heap does next, with what others decide read from the next deed.
abbrev pub ThreadIsLone : Type 0
ThreadIsLone =
    (set : Setting) → (m : MethodId) (p : ℕ) (l s : List Value) (x : Value) (b : List Frame) (w : World) →
    IsNext set w.deeds w.acts w.task w.aside (next_move set w.task (lone_at m p l s b w)) (step set (Run m p l s x b w))
