-- Each thread of an accepted program is kept.
use Rattle.std.proofs.Common.{◌≡◌, ℕ, true, Option, Some, subst}
use Rattle.std.specs.FinMap.{get}
use Rattle.kilim_run_state.specs.declared.value.Object.{Object}
use Rattle.kilim_run_state.specs.Machine.{Objects}
use Rattle.kilim_run_model.specs.Kept.{IsKept, Kept}
use Rattle.kilim_run_model.specs.Lone.{Lone}
use Rattle.kilim_run_model.specs.Reach.{Below, Liveness, OptionNames}
use Rattle.kilim_run_model.specs.State.{Alive, Ended, Setting, Thread}
use Rattle.kilim_type_laws.specs.Laws.{typing_at}
use Rattle.kilim_type_sound.specs.Fits.{Classes, Fits}
use Rattle.kilim_isolation_laws.specs.typed_threads.fine.Typed.{frames_of}
use Rattle.kilim_isolation_laws.specs.reached_objects.Laws.{AreLive}
use Rattle.kilim_isolation_laws.proofs.reached_objects.Frames.{reached_are_there}
use Rattle.kilim_isolation_laws.specs.Laws.{IsRunOfAccepted, StandsWell, listed_at}
use Rattle.kilim_isolation_laws.specs.Standing.{ThreadStands}
use Rattle.kilim_isolation_laws.proofs.Keeping.{checked, is_verified, sound, stack_there, threads_stand}
use Rattle.kilim_isolation_laws.proofs.Moving.{moves_stand}
use Rattle.kilim_isolation_laws.proofs.states.State.{states_give}
use Rattle.kilim_isolation_laws.specs.states.Laws.{FramesStand, GivesTrees, MoveStands}
use Rattle.kilim_isolation_laws.specs.kept.Laws.{AcceptedIsKept}

module _ (set : Setting) (run : IsRunOfAccepted set) (live : Liveness) (alive : AreLive set.program live) where
  there_in : (h : Objects) (kept : Option ℕ) (of : Classes) (th : Thread) → Fits set.program (typing_at set.program) (λ id at k. true) of (frames_of th) h → ThreadStands set.program (typing_at set.program) (listed_at set.program) kept h th →
      (n x : ℕ) → OptionNames live (Some th) kept n → Below h n x → (o : Object) × (get h x ≡ Some o)
  there_in h kept of (Ended cause) fits stands n x names below = absurd names
  there_in h kept of (Alive frames done boxes) fits stands n x names below =
      reached_are_there set.program (λ id at k. true) live of kept frames h (checked set run.keeps run.form run.well run.accepted run.main run.begins) alive (record { graphs = stands; types = fits }) n x names below

  gives : (l : Lone) → StandsWell set l → GivesTrees set l
  gives l b = states_give set (λ id at k. true) (listed_at set.program) b.of l (is_verified set run.keeps run.form run.well run.accepted run.main run.begins) run.named b.fits
      (stack_there set run.keeps run.form run.well run.accepted run.main run.begins l b) frames_stand moves_fit
    where
      frames_stand : FramesStand set (listed_at set.program) l
      frames_stand frames done boxes e = subst (λ (th : Thread). ThreadStands set.program (typing_at set.program) (listed_at set.program) l.kept l.heap th) e b.stands

      moves_fit : MoveStands set (listed_at set.program) l
      moves_fit top below done boxes e =
          moves_stand set (λ id at k. true) (listed_at set.program) (sound set run.keeps run.form run.well run.accepted run.main run.begins) (is_verified set run.keeps run.form run.well run.accepted run.main run.begins) run.main b.of l top below done boxes b.fits b.stands e

  is_kept : (l : Lone) → StandsWell set l → IsKept live set l
  is_kept l b = record {
    there = there_in l.heap l.kept b.of l.thread b.fits.fits b.stands;
    formed = λ n x o names below at. (gives l b).formed x o at;
    gives = (gives l b).gives;
  }

  all_kept : Kept live set
  all_kept t c last l lone quiet = is_kept l (threads_stand set run t c last l lone quiet)

pub accepted_is_kept : AcceptedIsKept
accepted_is_kept set run live alive = all_kept set run live alive
