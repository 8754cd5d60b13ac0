-- From the beginning of a task on.
use Rattle.std.proofs.Common.{ℕ, zero, suc, List, [], ◌∷◌, refl}
use Rattle.kilim_program.specs.declared.names.MethodId.{MethodId}
use Rattle.kilim_program.specs.declared.value.Value.{Value}
use Rattle.kilim_program.specs.declared.value.Value.TheVariants.{Box, Fiber, Int, Long, Null, Ref, Text}
use Rattle.kilim_type_sound.specs.Fits.{Classes}
use Rattle.kilim_run_state.specs.Machine.{Activation, Objects}
use Rattle.kilim_isolation_laws.specs.Laws.{IsRunOfAccepted}
use Rattle.kilim_run_model.specs.State.{Setting}
use Rattle.kilim_fiber_laws.proofs.receivers.Begins.{begins_held}
use Rattle.kilim_fiber_laws.proofs.receivers.Chain.{WellAs, step_well}
use Rattle.kilim_fiber_laws.proofs.receivers.Held.{Guard, Held, HeldIn, stays_there}
use Rattle.kilim_fiber_laws.proofs.receivers.Steps.{step_held}
use Rattle.kilim_fiber_laws.specs.receivers.Law.{ReceiversStay, SelfThere, SelvesIn, SelvesThere}
use Rattle.kilim_fiber_spec.specs.Fibers.{frame}
use Rattle.kilim_fiber_spec.specs.Thread.{At, Frame, Run, Stop, Thread, step, steps}

module _ (set : Setting) (run : IsRunOfAccepted set) where
  self_there : (h : Objects) (frames : List Activation) (c : MethodId) (y : Value) → Guard set run h frames c y → SelfThere set h c y
  self_there h frames c (Ref o) guard pausable = stays_there set run h frames o (guard pausable o refl)
  self_there h frames c (Int x) guard pausable = tt
  self_there h frames c (Long x) guard pausable = tt
  self_there h frames c Null guard pausable = tt
  self_there h frames c (Text units) guard pausable = tt
  self_there h frames c (Box box) guard pausable = tt
  self_there h frames c Fiber guard pausable = tt

  selves_there : (b : List Frame) (h : Objects) (above : List Activation → List Activation) (c : MethodId) (y : Value) → Held set run h above c y b → SelvesThere set h c y b
  selves_there [] h above c y held = self_there h (above []) c y held
  selves_there (At m q l s x ∷ b) h above c y held = (self_there h (above []) c y held.0, selves_there b h (λ pre. above (frame m q l s ∷ pre)) m x held.1)

  pub selves_in : (t : Thread) → HeldIn set run t → SelvesIn set t
  selves_in (Run m p l s x b w) held = selves_there b w.heap (λ pre. frame m p l s ∷ pre) m x held
  selves_in (Stop o) held = tt

  along : (n : ℕ) (t : Thread) (of : Classes) → WellAs set run of t → HeldIn set run t → SelvesIn set (steps set n t)
  along zero t of well held = selves_in t held
  along (suc n) t of well held =
      let next = step_well set run of t well in
      along n (step set t) next.0 next.2 (step_held set run of t well held (next.0, next.2))

pub receivers_stay : ReceiversStay
receivers_stay set run first is n = let b = begins_held set run first is in along set run n first b.0 b.1 b.2
