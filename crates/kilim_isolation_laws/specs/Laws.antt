-- Each thread of an accepted program stands with its shape graphs.
use Rattle.std.specs.Prelude.{◌≡◌, ℕ, true}
use Rattle.kilim_program.specs.declared.class.Form.TheVariants.{Plain}
use Rattle.kilim_program.specs.Keeps.{Keeps}
use Rattle.kilim_program.specs.Program.{Program}
use Rattle.kilim_run_model.specs.Course.{Course, IsLone, Quiet}
use Rattle.kilim_run_model.specs.Lone.{Lone}
use Rattle.kilim_run_model.specs.State.{Setting, is_fit}
use Rattle.kilim_type_spec.specs.Typed.{IsWellTyped}
use Rattle.kilim_type_laws.specs.Laws.{typing_at}
use Rattle.kilim_isolation_pauses.specs.Pausing.{frames_at}
use Rattle.kilim_isolation.specs.Faults.{IsAccepted}
use Rattle.kilim_type_sound.specs.Fits.{Classes}
use Rattle.kilim_isolation_laws.specs.typed_threads.fine.Typed.{FitsAs}
use Rattle.kilim_isolation_laws.specs.reached_objects.graphs.Threads.{Listed}
use Rattle.kilim_isolation_laws.specs.reached_objects.Laws.{typed}
use Rattle.kilim_isolation_laws.specs.tree_types.Laws.{AreNamedPlainly}
use Rattle.kilim_isolation_laws.specs.Standing.{MainBegins, Standing}

-- a run of a program in plain form that verification and the isolation rules accept, with a fit main class
pub record IsRunOfAccepted (set : Setting) : Type 0 where
  pub keeps : Keeps set.program
  pub named : AreNamedPlainly set.program
  pub form : set.program.form ≡ Plain
  pub well : IsWellTyped set.program
  pub accepted : IsAccepted (typed set.program)
  pub main : is_fit set ≡ true
  pub begins : MainBegins set.program set.main

-- the frames over which the isolation rules walk
abbrev pub listed_at : Program → Listed
listed_at p id = frames_at (typed p) id

-- its frames stand with their graphs, and fit the frames of verification; all locals are wanted
pub record StandsWell (set : Setting) (l : Lone) : Type 0 where
  pub of : Classes
  pub fits : FitsAs set (typing_at set.program) (λ id at k. true) of l
  pub stands : Standing set.program (typing_at set.program) (listed_at set.program) l

-- each thread that there can be of an accepted program
abbrev pub ThreadsStand : Type 0
ThreadsStand = (set : Setting) → IsRunOfAccepted set → (t : ℕ) (c : Course) (last l : Lone) → IsLone set t c last → Quiet set t last l → StandsWell set l
