-- An exception never meets a fiber that pauses or rewinds.
use Rattle.std.specs.Prelude.{◌≡◌, ℕ, Bool, true, ◌||◌, List, Option, Some}
use Rattle.kilim_program.specs.declared.instr.Instr.{Instr}
use Rattle.kilim_program.specs.declared.names.MethodId.{MethodId}
use Rattle.kilim_program.specs.declared.value.Value.{Value}
use Rattle.kilim_program.specs.Program.{Program}
use Rattle.kilim_run_machine.specs.Does.{does}
use Rattle.kilim_run_machine.specs.Effect.{Effect, Asks, Raises, Throws}
use Rattle.kilim_run_machine.specs.Natives.{native_of}
use Rattle.kilim_run_model.specs.State.{Setting}
use Rattle.kilim_run_state.specs.declared.cause.EndCause.{EndCause}
use Rattle.kilim_run_state.specs.Machine.{Activation}
use Rattle.kilim_fiber_spec.specs.Acts.{World, with_heap}
use Rattle.kilim_fiber_spec.specs.Fibers.{Fib, Resting, WRun, WStop, Woven_state, is_pausing, is_rewinding, member_of, wasks, wfetch, wsteps}
use Rattle.kilim_fiber_spec.specs.Form.{Facts, Members}
use Rattle.kilim_fiber_spec.specs.Links.{Both, Fine, Forms, code, unwoven, woven}
use Rattle.kilim_fiber_spec.specs.Serves.{From, Known, Rows}
use Rattle.kilim_fiber_spec.specs.Thread.{Thread, own_of, push}

module _ (set : Setting) (W : Program) (marks : List (List Bool)) where
  -- what a frame does behind a built-in method
  abbrev pub behind_native : (m : MethodId) (q : ℕ) (l s : List Value) (b : List Activation) → Fib → World → List ℕ → Option Value → Woven_state
  behind_native m q l s b f w ps v = WRun m q l (push v s) b f w ps

  -- The instruction throws nothing. Where it calls a built-in method, the values are right: what comes of the call is the same, whatever is done
  -- with what is raised.
  abbrev pub ThrowsNothing : (m : MethodId) (b : List Activation) (f : Fib) (w : World) (ps : List ℕ) → Effect → Type 0
  ThrowsNothing m b f w ps (Raises why) = ⊥
  ThrowsNothing m b f w ps (Throws n c why) = ⊥
  ThrowsNothing m b f w ps (Asks c args q l s heap) =
      (raise other : Fib → World → List ℕ → EndCause → Woven_state) →
      wasks set W marks (behind_native m q l s b) raise (member_of W c) (native_of W c) args f (with_heap w heap) ps ≡ wasks set W marks (behind_native m q l s b) other (member_of W c) (native_of W c) args f (with_heap w heap) ps
  ThrowsNothing m b f w ps e = Unit {0}

  -- where the fiber pauses or rewinds, its next instruction throws nothing
  abbrev pub IsCalm : Woven_state → Type 0
  IsCalm (WRun m p l s b f w ps) =
      (is_pausing f || is_rewinding f) ≡ true → (i : Instr) (nx : ℕ) (counts : Bool) → wfetch set W marks m p ≡ Some (i, nx, counts) → ThrowsNothing m b f w ps (does W (own_of W m) i nx l s w.heap)
  IsCalm (Resting f w ps) = Unit {0}
  IsCalm (WStop over) = Unit {0}

-- from a state on that both sides share
abbrev pub ExceptionsMeetNone : Type 0
ExceptionsMeetNone =
    (set : Setting) (W : Program) (marks : List (List Bool)) (form : Forms set W marks) → Members set.program W → ((m : MethodId) → Facts set.program W (code set W marks) (form m)) → Rows set W marks form →
    (first : Thread) → Known set W marks form (From set first) → (t : Both) → Fine set W marks form t → From set first (unwoven t) → (j : ℕ) → IsCalm set W marks (wsteps set W marks j (woven set W marks form t))
