-- The woven form of a program does what the program does.
use Rattle.std.specs.Prelude.{◌≡◌, Bool, true, List, Some}
use Rattle.kilim_program.specs.declared.class.Form.TheVariants.{Plain}
use Rattle.kilim_program.specs.declared.class.Method.{Method}
use Rattle.kilim_program.specs.declared.names.MethodId.{MethodId}
use Rattle.kilim_program.specs.Keeps.{Keeps}
use Rattle.kilim_program.specs.Names.{method_at}
use Rattle.kilim_program.specs.Program.{Program}
use Rattle.kilim_program.specs.Members.{is_fit_main}
use Rattle.kilim_run_model.specs.State.{Setting}
use Rattle.kilim_type_spec.specs.Typed.{IsWellTyped}
use Rattle.kilim_weave_spec.specs.Form.{WovenForm}
use Rattle.kilim_weave_laws.specs.woven_programs.Law.{KeepsPauses}
use Rattle.kilim_weave_laws.specs.woven_programs.keeps.Law.{NoneIsTooLong}
use Rattle.kilim_fiber_laws.specs.stands.Law.{IsFormOf}
use Rattle.kilim_fiber_spec.specs.Form.{Facts}
use Rattle.kilim_fiber_spec.specs.Links.{Forms, code}
use Rattle.kilim_fiber_spec.specs.Runs.{most_uncounted}
use Rattle.kilim_fiber_spec.specs.Serves.{From, Known, Serves}
use Rattle.kilim_fiber_spec.specs.Thread.{Thread}

-- Of a kept, well-typed program whose pauses keep their rules, of which no method is too long to be woven, and whose main class is fit:
-- each woven method has a form by old place, and a woven fiber does what any thread does of which all states that it comes to are
-- typed and intact.
abbrev pub WovenServes : Type 0
WovenServes =
    (set : Setting) (W : Program) (counted : List (List Bool)) → Keeps set.program → set.program.form ≡ Plain → IsWellTyped set.program → KeepsPauses set.program → NoneIsTooLong set.program → is_fit_main set.program set.main ≡ true →
    WovenForm set.program W counted → (form : Forms set W counted) × ((m : MethodId) → Facts set.program W (code set W counted) (form m)) × ((m : MethodId) (a : Method) → method_at set.program m ≡ Some a → IsFormOf set.program W (code set W counted) m (form m) a)
    × ((first : Thread) → Known set W counted form (From set first) → Serves set W counted form most_uncounted (From set first))
