-- The woven form of a program by old place: where each old instruction stands, what stands at a pausable call and in its resume block,
-- and which locals are alike there.
use Rattle.std.specs.Prelude.{◌≡◌, ℕ, Bool, true, List, Option, Some}
use Rattle.kilim_program.specs.declared.class.Form.TheVariants.{Plain}
use Rattle.kilim_program.specs.declared.class.Method.{Method}
use Rattle.kilim_program.specs.declared.instr.Instr.{Instr}
use Rattle.kilim_program.specs.declared.names.MethodId.{MethodId}
use Rattle.kilim_program.specs.Keeps.{Keeps}
use Rattle.kilim_program.specs.Names.{method_at}
use Rattle.kilim_program.specs.Program.{Program}
use Rattle.kilim_run_model.specs.State.{Setting}
use Rattle.kilim_type_spec.specs.Typed.{IsLive, IsWellTyped, typing_of}
use Rattle.kilim_weave_spec.specs.Form.{WovenForm}
use Rattle.kilim_weave_laws.specs.woven_programs.Law.{KeepsPauses}
use Rattle.kilim_weave_laws.specs.woven_programs.keeps.Law.{NoneIsTooLong}
use Rattle.kilim_fiber_spec.specs.Form.{Facts, Form}
use Rattle.kilim_fiber_spec.specs.Links.{Forms, code}

-- The frames by place are those of verification, and where a method has pausable calls, its table tells which slots are live.
pub record IsFormOf (P W : Program) (read : MethodId → ℕ → Option (Instr × ℕ × Bool)) (m : MethodId) (fm : Form P W read m) (a : Method) : Type 0 where
  pub typing : fm.typing ≡ typing_of P a
  pub live : fm.has_calls ≡ true → IsLive a fm.live

-- Each method of the woven form of a kept, well-typed program, whose pauses keep their rules and of which no method is too long to be
-- woven, has its form by old place.
abbrev pub WovenStands : Type 0
WovenStands =
    (set : Setting) (W : Program) (counted : List (List Bool)) → Keeps set.program → set.program.form ≡ Plain → IsWellTyped set.program → KeepsPauses set.program → NoneIsTooLong set.program → WovenForm set.program W counted →
    (form : Forms set W counted) × ((m : MethodId) → Facts set.program W (code set W counted) (form m)) × ((m : MethodId) (a : Method) → method_at set.program m ≡ Some a → IsFormOf set.program W (code set W counted) m (form m) a)
