-- Examples, computed: a pause and its rewinding, and tasks with the built-in `execute`.
use Rattle.std.specs.Prelude.{◌≡◌, ℕ, [], ◌∷◌, Some}
use Rattle.kilim_program.specs.declared.value.Value.TheVariants.{Ref}
use Rattle.kilim_program.specs.BuiltIn.{class_id, method_id}
use Rattle.kilim_run_state.specs.declared.cause.EndCause.{EndCause}
use Rattle.kilim_run_state.specs.declared.cause.EndCause.TheVariants as cause
use Rattle.kilim_program.specs.Members.{execute_of}
use Rattle.kilim_weave_spec.specs.Samples.{values}
use Rattle.kilim_fiber_spec.specs.Acts.{Ends, Wants, counted}
use Rattle.kilim_fiber_spec.specs.Fibers.{WRun, WStop, new_fiber, wresumes, wstarted, wstep, wsteps}
use Rattle.kilim_fiber_spec.specs.Thread.{Run, Stop, started, step}
use Rattle.kilim_fiber_spec.specs.examples.Samples.{at_pause, before_pause, behind_pause, main_is_task, none_done, paused_fiber, so_many, ten_done, two_done, values_marks, values_setting, woven_values_program}

-- how a task begins whose `execute` is the built-in one, and its fiber
abbrev pub begins_so : ℕ → EndCause → Type 0
begins_so n why =
    (started (so_many n) 0 none_done (execute_of values (class_id 6)) ≡ Stop (Wants (Ends why) none_done))
    × (wstarted (so_many n) woven_values_program values_marks 0 none_done new_fiber [] (execute_of woven_values_program (class_id 6)) ≡ WStop (Wants (Ends why) none_done))

pub record ExamplesHold : Type 0 where
  -- 21 instructions down to the rest, of which the `yield` counts
  pub pauses : wsteps values_setting woven_values_program values_marks 21 before_pause ≡ at_pause
  -- 25 instructions up again, of which none counts
  pub goes_on : wsteps values_setting woven_values_program values_marks 25 (wresumes values_setting woven_values_program values_marks (Some (method_id 1)) paused_fiber (counted ten_done) []) ≡ behind_pause
  -- with no instruction to do it is spent, else done at once
  pub spent : begins_so 0 cause.Spent
  pub done : begins_so 1 cause.Done
  -- task 0 is done in the move that ends its constructor, also where that is the last instruction that it may do
  pub done_at_last : step main_is_task (Run (method_id 0) 4 (Ref 0 ∷ []) [] (Ref 0) [] two_done) ≡ Stop (Wants (Ends cause.Done) two_done)
  pub fiber_at_last : wstep main_is_task woven_values_program values_marks (WRun (method_id 0) 4 (Ref 0 ∷ []) [] [] new_fiber two_done []) ≡ WStop (Wants (Ends cause.Done) two_done)
