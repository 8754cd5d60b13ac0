-- From the beginning of a task on.
use Rattle.std.proofs.Common.{ℕ, zero, suc}
use Rattle.kilim_type_sound.specs.Fits.{Classes}
use Rattle.kilim_isolation_laws.specs.Laws.{IsRunOfAccepted}
use Rattle.kilim_run_model.specs.State.{Setting}
use Rattle.kilim_fiber_laws.proofs.receivers.called.Begins.{begins_called}
use Rattle.kilim_fiber_laws.proofs.receivers.called.Steps.{step_called}
use Rattle.kilim_fiber_laws.specs.receivers.called.Law.{CalledAs, CallsStand, TypedAs}
use Rattle.kilim_fiber_laws.proofs.receivers.Chain.{WellAs, step_well}
use Rattle.kilim_fiber_spec.specs.Thread.{Run, Stop, Thread, step, steps}

module _ (set : Setting) (run : IsRunOfAccepted set) where
  typed_as : (t : Thread) (of : Classes) → WellAs set run of t → TypedAs set of t
  typed_as (Run m p l s x b w) of well = well.fits
  typed_as (Stop o) of well = tt

  along : (n : ℕ) (t : Thread) (of : Classes) → WellAs set run of t → CalledAs set of t → (more : Classes) × TypedAs set more (steps set n t) × CalledAs set more (steps set n t)
  along zero t of well all = (of, typed_as t of well, all)
  along (suc n) t of well all =
      let next = step_well set run of t well in
      along n (step set t) next.0 next.2 (step_called set run of next.0 next.1 t well all)

pub calls_stand : CallsStand
calls_stand set run first is n = let b = begins_called set run first is in along set run n first b.0 b.1 b.2
