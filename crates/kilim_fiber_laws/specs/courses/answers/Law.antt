-- A built-in method that verified code asks gets arguments that it takes.
use Rattle.std.specs.Prelude.{◌≡◌, ◌≢◌, ℕ, List, ◌∷◌, Some}
use Rattle.kilim_program.specs.declared.instr.Instr.{Instr}
use Rattle.kilim_program.specs.declared.names.MethodId.{MethodId}
use Rattle.kilim_program.specs.declared.value.Value.{Value}
use Rattle.kilim_isolation_laws.specs.typed_threads.fine.Typed.{IsVerified}
use Rattle.kilim_type_sound.specs.Fits.{AreThere, Classes, FrameFits, HeapFits, Nothing, Typing, Wanted}
use Rattle.kilim_run_machine.specs.Does.{does}
use Rattle.kilim_run_machine.specs.Effect.{Asks}
use Rattle.kilim_run_state.specs.Machine.{Objects}
use Rattle.kilim_run_machine.specs.Natives.{native_of}
use Rattle.kilim_run_model.specs.State.{Setting}
use Rattle.kilim_fiber_spec.specs.Acts.{Lost, World, asks, with_heap}
use Rattle.kilim_fiber_spec.specs.Fibers.{frame}
use Rattle.kilim_fiber_spec.specs.Thread.{At, Frame, Run, Stop, fetch, own_of, push, raised_behind}

-- Where a top frame of verified code fits its frame of verification, and what its stack names is in the heap: a built-in method that its
-- instruction asks doesn't come where no verified code comes. It goes on, acts, ends, or finds another deed than its own.
abbrev pub NativesAnswer : Type 0
NativesAnswer =
    (set : Setting) (typing : Typing) (wanted : Wanted) → IsVerified set typing wanted → (of : Classes) (m : MethodId) (p to q : ℕ) (i : Instr) (l s l2 s2 args : List Value) (x : Value) (b : List Frame) (w : World) (heap : Objects) (c : MethodId) →
    FrameFits set.program typing wanted of Nothing (frame m p l s) → HeapFits set.program of w.heap → AreThere w.heap s → fetch set.program m p ≡ Some (i, to) → does set.program (own_of set.program m) i to l s w.heap ≡ Asks c args q l2 s2 heap →
    asks set (with_heap w heap) Stop (λ after v. Run m q l2 (push v s2) x b after) (raised_behind set (At m q l2 s2 x ∷ b) (with_heap w heap)) (native_of set.program c) args ≢ Stop Lost
