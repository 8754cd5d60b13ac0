-- An example: the loop of one `yield` of kilim_weave_spec, with two instructions to do, meets all that the law asks of a program, of its
-- woven form, and of a thread.
use Rattle.std.specs.Prelude.{◌≡◌, ℕ, true, [], ◌∷◌, Some, None}
use Rattle.std.specs.FinMap.{empty, insert}
use Rattle.kilim_program.specs.declared.class.Form.TheVariants.{Plain}
use Rattle.kilim_program.specs.declared.class.Method.{Method}
use Rattle.kilim_program.specs.declared.names.MethodId.{MethodId}
use Rattle.kilim_program.specs.declared.value.Value.TheVariants.{Ref}
use Rattle.kilim_program.specs.BuiltIn.{class_id, class_type, method_id}
use Rattle.kilim_program.specs.Keeps.{Keeps}
use Rattle.kilim_program.specs.Names.{method_at}
use Rattle.kilim_run_state.specs.Machine.{Objects}
use Rattle.kilim_program.specs.Members.{is_fit_main}
use Rattle.kilim_run_model.specs.State.{Setting}
use Rattle.kilim_type_spec.specs.Typed.{IsWellTyped}
use Rattle.kilim_weave_spec.specs.Form.{WovenForm}
use Rattle.kilim_weave_spec.specs.Samples.{loop, woven_loop, woven_loop_marks}
use Rattle.kilim_weave_laws.specs.woven_programs.keeps.Law.{NoneIsTooLong}
use Rattle.kilim_weave_laws.specs.woven_programs.Law.{KeepsPauses}
use Rattle.kilim_fiber_spec.specs.Acts.{World}
use Rattle.kilim_fiber_spec.specs.Form.{Facts}
use Rattle.kilim_fiber_spec.specs.Links.{Forms, code}
use Rattle.kilim_fiber_spec.specs.Runs.{most_uncounted}
use Rattle.kilim_fiber_spec.specs.Serves.{From, Known, Serves}
use Rattle.kilim_fiber_spec.specs.Thread.{Thread, Run}
use Rattle.kilim_fiber_laws.specs.stands.Law.{IsFormOf}

abbrev pub two_steps : Setting
two_steps = record { program = loop; main = class_id 0; limits = record { steps = 2; args = [] } }

-- one object, the task's
abbrev pub one_object : Objects
one_object = insert empty 0 (record { class = class_type 0; fields = []; elements = [] })

-- so many instructions are done
abbrev pub after : ℕ → World
after n = record { task = 0; heap = one_object; next = 1; kept = None; deeds = []; acts = []; done = n; boxes = 0; aside = [] }

-- `execute` begins
abbrev pub first : Thread
first = Run (method_id 1) 0 (Ref 0 ∷ []) [] (Ref 0) [] (after 0)

pub record LoopMeetsAll : Type 0 where
  pub keeps : Keeps loop
  pub plain : loop.form ≡ Plain
  pub typed : IsWellTyped loop
  pub pauses : KeepsPauses loop
  pub short : NoneIsTooLong loop
  pub main : is_fit_main loop two_steps.main ≡ true
  pub woven : WovenForm loop woven_loop woven_loop_marks
  -- with each form by old place that the law gives
  pub known : (form : Forms two_steps woven_loop woven_loop_marks) → ((m : MethodId) → Facts loop woven_loop (code two_steps woven_loop woven_loop_marks) (form m))
      → ((m : MethodId) (a : Method) → method_at loop m ≡ Some a → IsFormOf loop woven_loop (code two_steps woven_loop woven_loop_marks) m (form m) a) → Known two_steps woven_loop woven_loop_marks form (From two_steps first)
  -- so a fiber of the woven loop does what the thread does
  pub served : (form : Forms two_steps woven_loop woven_loop_marks) × Serves two_steps woven_loop woven_loop_marks form most_uncounted (From two_steps first)
