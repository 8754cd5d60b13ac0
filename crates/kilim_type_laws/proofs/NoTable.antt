-- A method without an exception table keeps the rules of handlers.
use Rattle.std.proofs.Common.{◌≡◌, ℕ, true, List, [], ◌∷◌, Option}
use Rattle.kilim_program.specs.declared.class.Handler.{Handler}
use Rattle.kilim_program.specs.declared.class.Method.{Method}
use Rattle.kilim_program.specs.declared.instr.Instr.{Instr}
use Rattle.kilim_program.specs.Names.{is_empty}
use Rattle.kilim_program.specs.Program.{Program}
use Rattle.kilim_type_spec.specs.Step.{Types}
use Rattle.kilim_type_spec.specs.Typed.{AreHandled, Handles, arriving, declared, frames_from, left_by}

none_handled : (p : Program) (m : Method) (at : ℕ) (f : Types) (hs : List Handler) → is_empty hs ≡ true → AreHandled p m at f hs
none_handled p m at f [] none = tt
none_handled p m at f (h ∷ hs) none = absurd (cc)

pub none_handles : (p : Program) (m : Method) → is_empty m.handlers ≡ true → (flow : Option Types) (es : List (ℕ × Instr)) → Handles p m es (frames_from p m flow es)
none_handles p m none flow [] = tt
none_handles p m none flow (e ∷ es) = (none_handled p m e.0 _ m.handlers none, none_handles p m none (left_by p m e (arriving flow (declared m e.0))) es)
