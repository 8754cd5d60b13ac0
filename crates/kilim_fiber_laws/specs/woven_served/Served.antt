-- What a fiber of a woven program does along a course, whatever pauses come.
use Rattle.std.specs.Prelude.{◌≡◌, ◌≢◌, ℕ, true, List, [], ◌∷◌, Option, Some, None, Bool}
use Rattle.kilim_program.specs.declared.class.Form.TheVariants.{Plain}
use Rattle.kilim_program.specs.declared.names.ClassId.{ClassId}
use Rattle.kilim_program.specs.declared.names.MethodId.{MethodId}
use Rattle.kilim_program.specs.declared.value.Value.TheVariants.{Ref}
use Rattle.kilim_program.specs.Keeps.{Keeps}
use Rattle.kilim_program.specs.Names.{class_at}
use Rattle.kilim_program.specs.Program.{Program}
use Rattle.kilim_run_state.specs.declared.run.Limits.{Limits}
use Rattle.kilim_program.specs.Members.{constructor_of, is_fit_main}
use Rattle.kilim_isolation_laws.specs.reached_objects.Laws.{AreLive}
use Rattle.kilim_isolation_laws.specs.Laws.{IsRunOfAccepted}
use Rattle.kilim_run_model.specs.declared.deed.Beginning.{Beginning}
use Rattle.kilim_run_model.specs.declared.deed.Beginning.TheVariants.{Boot, Begun}
use Rattle.kilim_run_model.specs.Course.{Course, lone_begun}
use Rattle.kilim_run_model.specs.Kept.{Kept}
use Rattle.kilim_run_model.specs.Lone.{Lone}
use Rattle.kilim_run_model.specs.Reach.{Liveness}
use Rattle.kilim_run_model.specs.State.{Setting}
use Rattle.kilim_type_spec.specs.Typed.{IsWellTyped}
use Rattle.kilim_fiber_laws.specs.simulation.beginnings.Law.{StandsWith}
use Rattle.kilim_weave_spec.specs.Form.{WovenForm}
use Rattle.kilim_fiber_laws.specs.woven_served.gives.Law.{HandsOut}
use Rattle.kilim_weave_laws.specs.woven_programs.keeps.Law.{NoneIsTooLong}
use Rattle.kilim_fiber_laws.specs.woven_served.ready.Law.{FormServes}
use Rattle.kilim_fiber_spec.specs.Acts.{Lost, Over, World}
use Rattle.kilim_fiber_spec.specs.Fibers.{Fib, Resting, WStop, Woven_state, enter, executes_on, new_fiber, wstarted, wsteps}
use Rattle.kilim_fiber_spec.specs.Links.{Forms}
use Rattle.kilim_fiber_spec.specs.Rooms.{IsFineState}
use Rattle.kilim_fiber_spec.specs.Runs.{ComesToRest, Soon, most_uncounted}
use Rattle.kilim_fiber_spec.specs.Serves.{StandsFor}
use Rattle.kilim_fiber_spec.specs.Thread.{Thread, steps}
use Rattle.kilim_fiber_laws.specs.receivers.states.Law.{FollowsCourse, ThreadAlong, first_thread, world_at}

-- ---- beginnings

-- the constructor of task 0, on its object; it never pauses, so it is handed no fiber
abbrev pub constructing_in : Setting → Program → List (List Bool) → World → List ℕ → Option MethodId → Woven_state
constructing_in set W marks w pauses None = WStop Lost
constructing_in set W marks w pauses (Some c) = enter set W marks c (Ref 0 ∷ []) [] new_fiber w pauses

-- A new fiber begins: that of task 0 with the constructor of the main class, that of a started task with the `execute` of its object's class.
abbrev pub first_fiber : Setting → Program → List (List Bool) → Beginning → World → List ℕ → Woven_state
first_fiber set W marks Boot w pauses = constructing_in set W marks w pauses (constructor_of W set.main)
first_fiber set W marks (Begun shape) w pauses = wstarted set W marks 0 w new_fiber pauses (executes_on W w.heap (Ref 0))

abbrev pub ConstructorIsSame : Type 0
ConstructorIsSame = (P W : Program) (counted : List (List Bool)) → Keeps P → P.form ≡ Plain → WovenForm P W counted → (c : ClassId) → (class_at P c ≢ None) → constructor_of W c ≡ constructor_of P c

-- ---- along a course

-- A fiber that comes to be `x`, and the thread that comes to be `first`, each with the deeds of the course to come.
pub record ServesCourse (set : Setting) (W : Program) (marks : List (List Bool)) (form : Forms set W marks) (k : ℕ) (c : Course) (first : Thread) (x : Woven_state) : Type 0 where
  -- The fiber comes right before an action, or to its end, exactly where the thread of the course does, in the same world.
  pub follows : FollowsCourse set k c (λ o. (j : ℕ) × (wsteps set W marks j x ≡ WStop o))
  pub never_lost : (j : ℕ) → wsteps set W marks j x ≢ WStop Lost
  -- After each step of the thread, until that is over, it comes to stand with it.
  pub stands : (n : ℕ) → StandsWith set W marks form first x n
  -- At each rest it stands for the thread, which stands as that of a course does.
  pub rests : (j : ℕ) (f : Fib) (w : World) (pauses : List ℕ) → wsteps set W marks j x ≡ Resting f w pauses → (n : ℕ) × StandsFor set W marks form (steps set n first) (Resting f w pauses) × ThreadAlong set k c (steps set n first)
  -- The next counted instruction, rest or end comes soon.
  pub soon : (j : ℕ) → Soon set W marks most_uncounted (wsteps set W marks j x)
  -- Where it pauses, it comes to rest, without an action and with nothing counted.
  pub pausing : (j : ℕ) → ComesToRest set W marks most_uncounted (wsteps set W marks j x)
  -- At every moment the frames and the heap are as the interpreter asks of them for its next step in W, whether that counts or not.
  pub fine : (j : ℕ) → IsFineState set.program W (wsteps set W marks j x)
  -- A tree that is put or started next is whole: no object is met twice below its root, in the fiber's heap.
  pub gives : (j : ℕ) (o : Over) → wsteps set W marks j x ≡ WStop o → HandsOut set o

-- A run of a program, of one main class and one list of limits, and a woven form of the program.
pub record ServesRun (set : Setting) (W : Program) (marks : List (List Bool)) : Type 0 where
  -- each thread keeps what it reaches in its own heap, and gives away whole trees
  pub kept : (live : Liveness) → AreLive set.program live → Kept live set
  -- by old place each woven method has its form; and wherever a fiber stands with its thread, it does what that does
  pub tasks : FormServes set W marks
  -- and so from each beginning on, along all deeds and pauses
  pub courses : (k : ℕ) (c : Course) (l : Lone) (pauses : List ℕ) → lone_begun set c.beginning ≡ Some l →
      ServesCourse set W marks tasks.form k c (first_thread set c.beginning (world_at k l c.deeds [])) (first_fiber set W marks c.beginning (world_at k l c.deeds []) pauses)

abbrev pub RunsServe : Type 0
RunsServe = (set : Setting) → IsRunOfAccepted set → NoneIsTooLong set.program → (W : Program) (marks : List (List Bool)) → WovenForm set.program W marks → ServesRun set W marks

-- ---- a program and its woven form

-- The woven form is that of the program and well typed; and whatever the main class, if it is fit, and the limits are, its fibers do in each
-- run what the tasks do.
pub record Serves (P W : Program) (marks : List (List Bool)) : Type 0 where
  pub form : WovenForm P W marks
  pub typed : IsWellTyped W
  pub runs : (main : ClassId) → is_fit_main P main ≡ true → (limits : Limits) → ServesRun (record { program = P; main = main; limits = limits }) W marks
