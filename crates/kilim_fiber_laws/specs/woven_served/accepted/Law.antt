-- The woven form of an accepted program does what the program does.
use Rattle.std.specs.Prelude.{◌≡◌, ◌≢◌, ℕ, Bool, true, false, List, [], ◌∷◌, Some, None}
use Rattle.kilim_program.specs.declared.class.Method.{Method}
use Rattle.kilim_program.specs.declared.instr.Instr.{Instr}
use Rattle.kilim_program.specs.declared.names.ClassId.{ClassId}
use Rattle.kilim_program.specs.declared.names.MethodId.{MethodId}
use Rattle.kilim_program.specs.declared.value.Value.{Value}
use Rattle.kilim_program.specs.Names.{is_task, method_at}
use Rattle.kilim_program.specs.Program.{Program}
use Rattle.kilim_run_machine.specs.Does.{does}
use Rattle.kilim_run_machine.specs.Effect.{Asks}
use Rattle.kilim_program.specs.Members.{execute_of}
use Rattle.kilim_run_machine.specs.Moves.{entered}
use Rattle.kilim_run_machine.specs.Natives.{Native, native_of}
use Rattle.kilim_isolation_laws.specs.Laws.{IsRunOfAccepted}
use Rattle.kilim_run_model.specs.State.{Setting}
use Rattle.kilim_type_spec.specs.Typed.{IsLive}
use Rattle.kilim_fiber_laws.specs.simulation.beginnings.Law.{ServesAlong}
use Rattle.kilim_fiber_laws.specs.courses.Law.{HasFew, IsOfCourse}
use Rattle.kilim_weave_spec.specs.Woven.{pausable_callee}
use Rattle.kilim_weave_laws.specs.woven_programs.keeps.Law.{NoneIsTooLong}
use Rattle.kilim_weave_laws.specs.woven_program.Made.{woven_counted, woven_program}
use Rattle.kilim_fiber_spec.specs.Acts.{Lost, World}
use Rattle.kilim_fiber_spec.specs.Fibers.{enter, new_fiber, wstarted}
use Rattle.kilim_fiber_spec.specs.Form.{is_pausable}
use Rattle.kilim_fiber_spec.specs.Links.{AllStand, AreReady, Forms, Leaf, Link, Lk, u_frames}
use Rattle.kilim_fiber_spec.specs.Runs.{most_uncounted}
use Rattle.kilim_fiber_spec.specs.Serves.{From, SelvesAreThere, Serves, MayPause, is_leaf, leaf_receiver, resting_heap}
use Rattle.kilim_fiber_spec.specs.Thread.{Run, Stop, Thread, fetch, own_of, self_of, started}

-- What is left to be known: the receiver of a pausable method is in the heap, and where the thread stands at a leaf that may pause, the calls of all
-- frames below can be made again.
abbrev pub CanPause : (set : Setting) (W : Program) (marks : List (List Bool)) → Forms set W marks → (Thread → Type 0) → Type 0
CanPause set W marks form Typed =
    SelvesAreThere set Typed
    × ((m : MethodId) (p to : ℕ) (i : Instr) (callee : Method) (l s s2 args wl : List Value) (x : Value) (old : ℕ) (was : Value) (links : List Link) (w : World) (c : MethodId) (leaf : Native)
    → Typed (Run m p l s x (u_frames links) w) → fetch set.program m p ≡ Some (i, to) → pausable_callee set.program i ≡ Some callee
    → does set.program (own_of set.program m) i to l s w.heap ≡ Asks c args to l s2 w.heap → native_of set.program c ≡ Some leaf → is_leaf leaf ≡ true → AllStand set W marks form links → MayPause set leaf args w
    → (w.kept ≡ None) × AreReady set W marks form (resting_heap set.program leaf args w.heap) (Leaf leaf) (leaf_receiver leaf args) (Lk m p to i callee s2 l wl x old was ∷ links))

-- A fiber of the woven program does what the thread of a course does: wherever it stands with it; from the beginning of a method that
-- isn't pausable, as a constructor's, on; and from where the `execute` of a started task begins, the task's own or the built-in one.
pub record ServesCourses (set : Setting) (W : Program) (marks : List (List Bool)) (form : Forms set W marks) : Type 0 where
  pub serves : (first : Thread) → IsOfCourse set first → HasFew first → first ≢ Stop Lost → CanPause set W marks form (From set first) → Serves set W marks form most_uncounted (From set first)
  pub constructs : (c : MethodId) (args : List Value) (w : World) (ps : List ℕ) → is_pausable set.program c ≡ false → IsOfCourse set (Run c 0 (entered set.program c args).locals [] (self_of set.program c args) [] w)
      → CanPause set W marks form (From set (Run c 0 (entered set.program c args).locals [] (self_of set.program c args) [] w))
      → ServesAlong set W marks form most_uncounted (Run c 0 (entered set.program c args).locals [] (self_of set.program c args) [] w) (enter set W marks c args [] new_fiber w ps)
  pub executes : (class : ClassId) (c : MethodId) (n : ℕ) (w : World) (ps : List ℕ) → is_task set.program class ≡ true → execute_of set.program class ≡ Some c → IsOfCourse set (started set n w (Some c)) → started set n w (Some c) ≢ Stop Lost
      → CanPause set W marks form (From set (started set n w (Some c))) → ServesAlong set W marks form most_uncounted (started set n w (Some c)) (wstarted set W marks n w new_fiber ps (Some c))

-- Of a run of an accepted program of which no method is too long to be woven, where each method's table tells which slots are live: a
-- fiber of the program that weaving makes does what the thread of a course does, where the calls below a leaf can be made again.
abbrev pub AcceptedWeaves : Type 0
AcceptedWeaves =
    (set : Setting) → IsRunOfAccepted set → NoneIsTooLong set.program → (lives : MethodId → ℕ → ℕ → Bool) → ((id : MethodId) (m : Method) → method_at set.program id ≡ Some m → IsLive m (lives id)) →
    (form : Forms set (woven_program set.program lives) (woven_counted set.program lives)) × ServesCourses set (woven_program set.program lives) (woven_counted set.program lives) form
