-- A fiber of a course does what the thread of the course does.
use Rattle.std.specs.Prelude.{◌≡◌, ℕ, nat_le, if◌then◌else◌, Bool, List, [], ◌∷◌, Some, None}
use Rattle.std.specs.FinMap.{empty, insert}
use Rattle.kilim_program.specs.declared.value.Value.TheVariants.{Ref, Fiber}
use Rattle.kilim_program.specs.Program.{Program}
use Rattle.kilim_fiber_spec.specs.fiber_kin.Acts.{IsSound}
use Rattle.kilim_run_state.specs.declared.cause.EndCause.TheVariants as cause
use Rattle.kilim_run_state.specs.declared.value.Object.{Object}
use Rattle.kilim_run_state.specs.declared.value.Token.{Token}
use Rattle.kilim_run_state.specs.Machine.{Objects, Activation}
use Rattle.kilim_program.specs.Members.{constructor_of}
use Rattle.kilim_run_state.specs.Objects.{new_object}
use Rattle.kilim_run_state.specs.Trees.{OfTask}
use Rattle.kilim_run_model.specs.Course.{Course, IsLone, next_action}
use Rattle.kilim_run_model.specs.declared.deed.Beginning.{Beginning}
use Rattle.kilim_run_model.specs.declared.deed.Beginning.TheVariants.{Boot, Begun}
use Rattle.kilim_run_model.specs.Lone.{Lone}
use Rattle.kilim_run_model.specs.Lone as thread
use Rattle.kilim_run_model.specs.State.{Setting}
use Rattle.kilim_run_trees.specs.Moved.{PutIn}
use Rattle.kilim_fiber_laws.specs.Fibers.{IsFiberOf}
use Rattle.kilim_fiber_laws.specs.Nexts.{NextIs}
use Rattle.kilim_fiber_laws.specs.Ready.{IsObject, IsReady}
use Rattle.kilim_fiber_laws.specs.Served.{CanServe}
use Rattle.kilim_fiber_laws.specs.woven_kin.Alike.{HasFree}
use Rattle.kilim_fiber_laws.specs.woven_kin.Nexts.{begun_with, next_of}
use Rattle.kilim_fiber_laws.specs.woven_kin.Standing.{Standing}
use Rattle.kilim_fiber_spec.specs.Fibers.{executes_on, first_receiver, new_fiber}

-- What a fiber does next is what the thread of its course does next; and behind the deed it is a fiber of the further course.
abbrev pub NextFollows : Type 0
NextFollows =
    (set : Setting) (W : Program) (marks : List (List Bool)) → CanServe set W marks → (t : ℕ) (c : Course) (f : Standing) → (is : IsFiberOf set W marks t c f) → HasFree set W marks t f → NextIs set W marks t c is.lone (next_of set W marks t f)

-- Its next instruction is as the interpreter asks, also where it is spent before it.
abbrev pub FibersAreReady : Type 0
FibersAreReady =
    (set : Setting) (W : Program) (marks : List (List Bool)) → CanServe set W marks → (t : ℕ) (c : Course) (f : Standing) → IsFiberOf set W marks t c f → (top : Activation) (below : List Activation) → f.frames ≡ top ∷ below →
    IsReady set.program W f.heap top below

-- Where it rests, the receiver of its first frame is an object.
abbrev pub RestsOnObject : Type 0
RestsOnObject = (set : Setting) (W : Program) (marks : List (List Bool)) → CanServe set W marks → (t : ℕ) (c : Course) (f : Standing) → IsFiberOf set W marks t c f → f.frames ≡ [] → IsObject f.heap (first_receiver f.fiber)

-- ---- beginnings

-- the course of a task that has done nothing yet
abbrev pub new_course : Beginning → Course
new_course b = record { beginning = b; deeds = [] }

-- A started task: the fiber on a sound tree, with the first frame of its `execute`.
abbrev pub TasksBegin : Type 0
TasksBegin =
    (set : Setting) (W : Program) (marks : List (List Bool)) → CanServe set W marks → (t : ℕ) (tree : List Object) (shape : List Token) (heap : Objects) (x next : ℕ) (top : Activation) (below : List Activation) →
    IsSound set.program OfTask tree shape → PutIn empty tree heap x → begun_with W (executes_on W heap (Ref x)) (Ref x ∷ Fiber ∷ []) ≡ Some (top ∷ below) →
    IsFiberOf set W marks t (new_course (Begun shape)) (record { frames = top ∷ below; fiber = new_fiber; heap = heap; next = next; done = 0; boxes = 0; kept = None; aside = [] })

-- Where its `execute` is the built-in one, it has no frame, and the thread ends next: it is done, or spent where it may do no instruction.
abbrev pub TasksEnd : Type 0
TasksEnd =
    (set : Setting) (W : Program) (marks : List (List Bool)) → CanServe set W marks → (t : ℕ) (tree : List Object) (shape : List Token) (heap : Objects) (x : ℕ) →
    IsSound set.program OfTask tree shape → PutIn empty tree heap x → begun_with W (executes_on W heap (Ref x)) (Ref x ∷ Fiber ∷ []) ≡ Some [] →
    (lone : Lone) × IsLone set t (new_course (Begun shape)) lone × ((after : Lone) × (next_action set t lone ≡ thread.Ends (if nat_le set.limits.steps 0 then cause.Spent else cause.Done) after))

-- Task 0: the fiber on a new object of the main class, with the first frame of its constructor.
abbrev pub FirstBegins : Type 0
FirstBegins =
    (set : Setting) (W : Program) (marks : List (List Bool)) → CanServe set W marks → (t x next : ℕ) (frames : List Activation) → begun_with W (constructor_of W set.main) (Ref x ∷ []) ≡ Some frames →
    IsFiberOf set W marks t (new_course Boot) (record { frames = frames; fiber = new_fiber; heap = insert empty x (new_object set.program set.main); next = next; done = 0; boxes = 0; kept = Some x; aside = [] })
