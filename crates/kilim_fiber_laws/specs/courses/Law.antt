-- The thread beside the woven machine stands as the thread of a course does, and what is known of it then.
use Rattle.std.specs.Prelude.{◌≡◌, ◌≢◌, ℕ, suc, ◌≤◌, Bool, true, List, ◌∷◌, Some, None, length}
use Rattle.kilim_program.specs.declared.class.Method.{Method}
use Rattle.kilim_program.specs.declared.instr.Instr.{Instr}
use Rattle.kilim_program.specs.declared.names.MethodId.{MethodId}
use Rattle.kilim_program.specs.declared.value.Value.{Value}
use Rattle.kilim_program.specs.Program.{Program}
use Rattle.kilim_isolation_laws.specs.typed_threads.fine.Typed.{IsVerified}
use Rattle.kilim_type_sound.specs.Fits.{Typing, Wanted}
use Rattle.kilim_run_machine.specs.Does.{does}
use Rattle.kilim_run_machine.specs.Effect.{Asks}
use Rattle.kilim_run_state.specs.Machine.{Objects}
use Rattle.kilim_run_machine.specs.Natives.{Native, native_of}
use Rattle.kilim_run_model.specs.declared.deed.Beginning.{Beginning}
use Rattle.kilim_run_model.specs.Course.{Course, IsLone, Quiet, lone_begun}
use Rattle.kilim_run_model.specs.Kept.{Kept}
use Rattle.kilim_run_model.specs.Lone.{Lone}
use Rattle.kilim_run_model.specs.Reach.{Liveness}
use Rattle.kilim_run_model.specs.State.{Setting, is_fit}
use Rattle.kilim_weave_spec.specs.Woven.{pausable_callee}
use Rattle.kilim_fiber_spec.specs.lone.Law.{lone_at}
use Rattle.kilim_fiber_spec.specs.Acts.{Lost, World, asks, with_heap}
use Rattle.kilim_fiber_spec.specs.Links.{AllStand, AreReady, Forms, Leaf, Link, Lk, u_frames}
use Rattle.kilim_fiber_spec.specs.Serves.{From, Known, SelvesAreThere, MayPause, is_leaf, leaf_receiver, resting_heap}
use Rattle.kilim_fiber_spec.specs.Thread.{At, Frame, Run, Stop, Thread, fetch, own_of, push, raised_behind, step}

-- It stands as the thread of its task does, right after the deeds of some course and further moves without an action. A thread that is
-- over is of every course.
abbrev pub IsOfCourse : Setting → Thread → Type 0
IsOfCourse set (Run m p l s x b w) = (c : Course) × (last : Lone) × IsLone set w.task c last × Quiet set w.task last (lone_at m p l s b w)
IsOfCourse set (Stop over) = Unit {0}

-- It begins as the thread of a course without deeds.
abbrev pub CoursesBegin : Type 0
CoursesBegin = (set : Setting) (b : Beginning) (m : MethodId) (p : ℕ) (l s : List Value) (x : Value) (below : List Frame) (w : World) → lone_begun set b ≡ Some (lone_at m p l s below w) → IsOfCourse set (Run m p l s x below w)

abbrev pub CoursesGoOn : Type 0
CoursesGoOn = (set : Setting) → (t : Thread) → IsOfCourse set t → IsOfCourse set (step set t)

-- it has at most 512 frames
abbrev pub HasFew : Thread → Type 0
HasFew (Run m p l s x b w) = suc (length b) ≤ 512
HasFew (Stop over) = Unit {0}

-- What is left to be known: a built-in method gets arguments that it takes, the receiver of a pausable method is in the heap, and where the thread stands at a leaf that may pause, the calls of all
-- frames below can be made again.
pub record Rest (set : Setting) (W : Program) (marks : List (List Bool)) (form : Forms set W marks) (Typed : Thread → Type 0) : Type 0 where
  pub answers : (m : MethodId) (p to q : ℕ) (i : Instr) (l s l2 s2 args : List Value) (x : Value) (b : List Frame) (w : World) (heap : Objects) (c : MethodId) → Typed (Run m p l s x b w) → fetch set.program m p ≡ Some (i, to)
      → does set.program (own_of set.program m) i to l s w.heap ≡ Asks c args q l2 s2 heap → asks set (with_heap w heap) Stop (λ after v. Run m q l2 (push v s2) x b after) (raised_behind set (At m q l2 s2 x ∷ b) (with_heap w heap)) (native_of set.program c) args ≢ Stop Lost
  pub selves : SelvesAreThere set Typed
  pub ready : (m : MethodId) (p to : ℕ) (i : Instr) (callee : Method) (l s s2 args wl : List Value) (x : Value) (old : ℕ) (was : Value) (links : List Link) (w : World) (c : MethodId) (leaf : Native)
      → Typed (Run m p l s x (u_frames links) w) → fetch set.program m p ≡ Some (i, to) → pausable_callee set.program i ≡ Some callee
      → does set.program (own_of set.program m) i to l s w.heap ≡ Asks c args to l s2 w.heap → native_of set.program c ≡ Some leaf → is_leaf leaf ≡ true → AllStand set W marks form links → MayPause set leaf args w
      → (w.kept ≡ None) × AreReady set W marks form (resting_heap set.program leaf args w.heap) (Leaf leaf) (leaf_receiver leaf args) (Lk m p to i callee s2 l wl x old was ∷ links)

-- Of the thread of a course, in verified code whose threads keep what they reach: an instruction stands at its place, its objects are
-- of the program's classes, no value on its stack is a fiber, a receiver is of the class that is named, a call has arguments as its
-- method takes them, and so has `execute`, there are at most 512 frames, and no instruction is stuck. So the rest is enough.
abbrev pub KnownOfCourses : Type 0
KnownOfCourses =
    (set : Setting) (typing : Typing) (wanted : Wanted) (live : Liveness) → IsVerified set typing wanted → is_fit set ≡ true → Kept live set → (W : Program) (marks : List (List Bool)) (form : Forms set W marks) (first : Thread) → IsOfCourse set first → HasFew first → first ≢ Stop Lost →
    Rest set W marks form (From set first) → Known set W marks form (From set first)
