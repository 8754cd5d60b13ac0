-- From the beginning of a task on, a woven fiber does what the thread does.
use Rattle.std.specs.Prelude.{◌≡◌, ◌↔◌, ◌⊎◌, ℕ, Bool, true, false, List, [], ◌∷◌, Some}
use Rattle.kilim_program.specs.declared.class.Method.{Method}
use Rattle.kilim_program.specs.declared.names.MethodId.{MethodId}
use Rattle.kilim_program.specs.declared.value.Value.{Value}
use Rattle.kilim_program.specs.declared.value.Value.TheVariants.{Ref}
use Rattle.kilim_program.specs.Names.{method_at}
use Rattle.kilim_program.specs.Program.{Program}
use Rattle.kilim_run_machine.specs.Moves.{entered}
use Rattle.kilim_run_model.specs.State.{Setting}
use Rattle.kilim_fiber_spec.specs.Acts.{Over, World}
use Rattle.kilim_fiber_spec.specs.Fibers.{Fib, Resting, WStop, Woven_state, enter, new_fiber, wstarted, wsteps}
use Rattle.kilim_fiber_spec.specs.Form.{Facts, Members, is_pausable}
use Rattle.kilim_fiber_spec.specs.Links.{Both, Fine, Forms, Takes, code, unwoven, woven}
use Rattle.kilim_fiber_spec.specs.Runs.{ComesToRest, Soon, most_uncounted}
use Rattle.kilim_fiber_spec.specs.Rooms.{IsFineState}
use Rattle.kilim_fiber_spec.specs.Serves.{From, Known, Rows, StandsFor}
use Rattle.kilim_fiber_spec.specs.Thread.{Run, Stop, Thread, self_of, started, steps}

-- After so many steps the thread is over, or the fiber comes to stand with it: its frames are those of the thread, at the places to which
-- theirs have moved, with the locals that are shown, the same stacks and the same world.
abbrev pub StandsWith : (set : Setting) (W : Program) (marks : List (List Bool)) → Forms set W marks → Thread → Woven_state → ℕ → Type 0
StandsWith set W marks form first x n =
    ((o : Over) × (steps set n first ≡ Stop o)) ⊎ ((t : Both) × (unwoven t ≡ steps set n first) × Fine set W marks form t × ((j : ℕ) × (wsteps set W marks j x ≡ woven set W marks form t)))

-- From this state on the fiber does what the thread does: both end alike, after each step of the thread the fiber comes to stand with it, at each
-- rest the fiber stands for the thread, and the next counted instruction, rest or end comes within so many instructions. Where it pauses, it comes
-- to rest in the same world. At every moment the frames and the heap are as the interpreter asks of them for its next step.
pub record ServesAlong (set : Setting) (W : Program) (marks : List (List Bool)) (form : Forms set W marks) (most : ℕ) (first : Thread) (x : Woven_state) : Type 0 where
  pub ends : (o : Over) → ((n : ℕ) × (steps set n first ≡ Stop o)) ↔ ((j : ℕ) × (wsteps set W marks j x ≡ WStop o))
  pub stands : (n : ℕ) → StandsWith set W marks form first x n
  pub rests : (j : ℕ) (f : Fib) (w : World) (ps : List ℕ) → wsteps set W marks j x ≡ Resting f w ps → (n : ℕ) × StandsFor set W marks form (steps set n first) (Resting f w ps)
  pub soon : (j : ℕ) → Soon set W marks most (wsteps set W marks j x)
  pub pausing : (j : ℕ) → ComesToRest set W marks most (wsteps set W marks j x)
  pub fine : (j : ℕ) → IsFineState set.program W (wsteps set W marks j x)

-- A method that isn't pausable begins, as the constructor of task 0 does. Or the `execute` of a started task begins, which is pausable: with
-- code, where the woven method may begin with added instructions, or the built-in one.
abbrev pub BeginningsServe : Type 0
BeginningsServe =
    (set : Setting) (W : Program) (marks : List (List Bool)) (form : Forms set W marks) → Members set.program W → ((m : MethodId) → Facts set.program W (code set W marks) (form m)) → Rows set W marks form →
    ((c : MethodId) (args : List Value) (w : World) (ps : List ℕ) → is_pausable set.program c ≡ false → Known set W marks form (From set (Run c 0 (entered set.program c args).locals [] (self_of set.program c args) [] w)) →
    ServesAlong set W marks form most_uncounted (Run c 0 (entered set.program c args).locals [] (self_of set.program c args) [] w) (enter set W marks c args [] new_fiber w ps))
    × ((c : MethodId) (a b : Method) (n : ℕ) (w : World) (ps : List ℕ) → method_at set.program c ≡ Some a → method_at W c ≡ Some b → b.built_in ≡ a.built_in → a.pausable ≡ true → Takes set W marks form c (Ref n ∷ []) (Ref n) → Known set W marks form (From set (started set n w (Some c))) →
    ServesAlong set W marks form most_uncounted (started set n w (Some c)) (wstarted set W marks n w new_fiber ps (Some c)))
