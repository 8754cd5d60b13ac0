-- A program has a woven form.
use Rattle.std.specs.Prelude.{◌≡◌, ℕ, Bool, Some}
use Rattle.kilim_program.specs.declared.class.Method.{Method}
use Rattle.kilim_program.specs.declared.names.MethodId.{MethodId}
use Rattle.kilim_program.specs.Keeps.{Keeps}
use Rattle.kilim_program.specs.Names.{method_at}
use Rattle.kilim_program.specs.Program.{Program}
use Rattle.kilim_type_spec.specs.Typed.{IsLive}
use Rattle.kilim_weave_spec.specs.Form.{WovenForm}
use Rattle.kilim_weave_laws.specs.woven_program.Made.{woven_counted, woven_program}

-- Where each method's table tells which slots are live, the program that the function makes is a woven form.
abbrev pub WovenFormIsThere : Type 0
WovenFormIsThere =
    (p : Program) → Keeps p → (lives : MethodId → ℕ → ℕ → Bool) → ((id : MethodId) (m : Method) → method_at p id ≡ Some m → IsLive m (lives id)) → WovenForm p (woven_program p lives) (woven_counted p lives)
