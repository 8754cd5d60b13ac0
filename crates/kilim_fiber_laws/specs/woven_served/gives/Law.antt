-- What a woven fiber hands out next is a whole tree.
use Rattle.std.specs.Prelude.{◌≡◌, ℕ, Bool, List, Some}
use Rattle.kilim_program.specs.declared.class.Method.{Method}
use Rattle.kilim_program.specs.declared.names.MethodId.{MethodId}
use Rattle.kilim_program.specs.Names.{method_at}
use Rattle.kilim_run_state.specs.declared.value.Token.{Token}
use Rattle.kilim_run_state.specs.Shapes.{shape_of}
use Rattle.kilim_run_state.specs.Trees.{OfMessage, OfTask, Root}
use Rattle.kilim_isolation_laws.specs.Laws.{IsRunOfAccepted}
use Rattle.kilim_run_model.specs.Kept.{IsGivenTree}
use Rattle.kilim_run_model.specs.State.{Setting}
use Rattle.kilim_type_spec.specs.Typed.{IsLive}
use Rattle.kilim_weave_laws.specs.woven_programs.keeps.Law.{NoneIsTooLong}
use Rattle.kilim_weave_laws.specs.woven_program.Made.{woven_counted, woven_program}
use Rattle.kilim_fiber_laws.specs.woven_served.ready.Law.{MayBegin, ServesTasks}
use Rattle.kilim_fiber_laws.specs.receivers.Law.{IsBegun}
use Rattle.kilim_fiber_spec.specs.Acts.{Over, Wants, World}
use Rattle.kilim_fiber_spec.specs.Acts as action
use Rattle.kilim_fiber_spec.specs.Fibers.{WStop, wsteps}
use Rattle.kilim_fiber_spec.specs.Links.{Both, Fine, Forms, unwoven, woven}
use Rattle.kilim_fiber_spec.specs.Serves.{From}
use Rattle.kilim_fiber_spec.specs.Thread.{Stop, Thread, steps}

-- Below the root there is a tree of that shape in the heap: no object is met twice below it, and the declared types allow it.
pub record IsHandedOut (set : Setting) (kind : Root) (w : World) (root : ℕ) (shape : List Token) : Type 0 where
  pub shaped : shape_of set.program w.heap root ≡ Some shape
  pub given : IsGivenTree set.program kind w.heap root

-- where a tree is put or started next, it is so of that tree
abbrev pub HandsOut : Setting → Over → Type 0
HandsOut set (Wants (action.Puts box root shape) w) = IsHandedOut set OfMessage w root shape
HandsOut set (Wants (action.PutWaits box root shape) w) = IsHandedOut set OfMessage w root shape
HandsOut set (Wants (action.Starts root shape) w) = IsHandedOut set OfTask w root shape
HandsOut set o = Unit {0}

-- Of a run of an accepted program of which no method is too long to be woven, where each method's table tells which slots are live: a
-- fiber of the program that weaving makes does what the task does, and what it puts or starts next is a whole tree of its heap. So is what
-- the thread puts or starts, from the task's beginning on, and with it what the fiber does from there on, as both end alike.
abbrev pub WovenGives : Type 0
WovenGives =
    (set : Setting) → IsRunOfAccepted set → NoneIsTooLong set.program → (lives : MethodId → ℕ → ℕ → Bool) → ((id : MethodId) (m : Method) → method_at set.program id ≡ Some m → IsLive m (lives id)) →
    (form : Forms set (woven_program set.program lives) (woven_counted set.program lives)) × ServesTasks set (woven_program set.program lives) (woven_counted set.program lives) form
    × ((first : Thread) → MayBegin set first → (t : Both) → Fine set (woven_program set.program lives) (woven_counted set.program lives) form t → From set first (unwoven t) → (j : ℕ) (o : Over) →
    wsteps set (woven_program set.program lives) (woven_counted set.program lives) j (woven set (woven_program set.program lives) (woven_counted set.program lives) form t) ≡ WStop o → HandsOut set o)
    × ((first : Thread) → IsBegun set first → (n : ℕ) (o : Over) → steps set n first ≡ Stop o → HandsOut set o)
