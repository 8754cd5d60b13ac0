-- Laws of a thread that is alone, and of one that rests.
use Rattle.std.specs.Prelude.{◌≡◌, ℕ, ◌<◌, true, List, Some, length, slice_get}
use Rattle.kilim_program.specs.Program.{Program}
use Rattle.kilim_run_state.specs.declared.value.Object.{Object}
use Rattle.kilim_run_state.specs.declared.value.Token.{Token}
use Rattle.kilim_run_state.specs.Trees.{Root, built}
use Rattle.kilim_run_model.specs.State.{Setting, Thread, State}
use Rattle.kilim_run_model.specs.Lone.{Lone}
use Rattle.kilim_run_model.specs.Turn.{moved, quiet}
use Rattle.kilim_run_model.specs.Runs.{is_at_rest}
use Rattle.kilim_run_model.specs.Course.{Course, next_within, next_action, IsLone}

-- More moves than a thread may do instructions lead it to its next action, and whatever is enough to the same.
abbrev pub NextComes : Type 0
NextComes = (setting : Setting) (t n : ℕ) (l : Lone) → setting.limits.steps < n → next_within setting t n l ≡ next_action setting t l

-- a course is that of one thread
abbrev pub OneLone : Type 0
OneLone = (setting : Setting) (t : ℕ) (c : Course) (a b : Lone) → IsLone setting t c a → IsLone setting t c b → a ≡ b

-- a thread that has ended or waits doesn't move
abbrev pub RestsStill : Type 0
RestsStill = (setting : Setting) (s : State) (t : ℕ) (thread : Thread) → slice_get s.threads t ≡ Some thread → is_at_rest setting s t thread ≡ true → moved setting s t ≡ quiet s

-- a shape of which there is a tree under some names has one under any, of as many objects
abbrev pub BuiltAnywhere : Type 0
BuiltAnywhere = (p : Program) (root : Root) (base other : ℕ) (shape : List Token) (objects : List Object) → built p root base shape ≡ Some objects →
    (others : List Object) × (built p root other shape ≡ Some others) × (length others ≡ length objects)
