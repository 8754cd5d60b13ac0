-- A fiber that pauses wants nothing before it rests; and it comes to pause by itself only where it counts.
use Rattle.std.specs.Prelude.{◌≡◌, ◌<◌, ◌≤◌, ℕ, Bool, true, false, List, ◌∷◌}
use Rattle.kilim_program.specs.Program.{Program}
use Rattle.kilim_run_state.specs.Machine.{Activation}
use Rattle.kilim_run_model.specs.Course.{Course}
use Rattle.kilim_run_model.specs.State.{Setting}
use Rattle.kilim_fiber_laws.specs.Fibers.{IsFiberOf}
use Rattle.kilim_fiber_laws.specs.Served.{CanServe}
use Rattle.kilim_fiber_laws.specs.woven_kin.Alike.{HasFree}
use Rattle.kilim_fiber_laws.specs.woven_kin.Nexts.{Next, Goes, Rests, next_of}
use Rattle.kilim_fiber_laws.specs.woven_kin.Standing.{Standing}
use Rattle.kilim_fiber_spec.specs.Fibers.{is_pausing}

-- it goes on by itself, still pausing, or rests
abbrev pub IsUnwinding : Next → Type 0
IsUnwinding (Goes f) = is_pausing f.fiber ≡ true
IsUnwinding (Rests f) = Unit {0}
IsUnwinding next = ⊥

-- So does a fiber of a course that has a frame and pauses, as one does that was answered nothing at a `get`, or that yielded.
abbrev pub PausingRests : Type 0
PausingRests =
    (set : Setting) (W : Program) (marks : List (List Bool)) → CanServe set W marks → (t : ℕ) (c : Course) (f : Standing) → IsFiberOf set W marks t c f → HasFree set W marks t f → (top : Activation) (below : List Activation) → f.frames ≡ top ∷ below →
    is_pausing f.fiber ≡ true → IsUnwinding (next_of set W marks t f)

-- where it goes on by itself its count falls never, and grows where it comes to pause
abbrev pub CountsOn : Standing → Next → Type 0
CountsOn f (Goes g) = (f.done ≤ g.done) × (is_pausing f.fiber ≡ false → is_pausing g.fiber ≡ true → f.done < g.done)
CountsOn f next = Unit {0}

-- So does each woven fiber, of a course or not: a `yield` is counted, and nothing else makes it pause by itself.
abbrev pub PausingCounts : Type 0
PausingCounts = (set : Setting) (W : Program) (marks : List (List Bool)) (t : ℕ) (f : Standing) → CountsOn f (next_of set W marks t f)
