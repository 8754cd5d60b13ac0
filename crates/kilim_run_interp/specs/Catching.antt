-- What the search for the frame that catches finds: how far it dropped frames, and the place of a handler.
use Rattle.std.specs.Prelude.{◌≡◌, ℕ, Bool, true, false, List, [], ◌∷◌, Option, Some, None}
use Rattle.std.specs.FinMap.{get, insert}
use Rattle.kilim_program.specs.declared.class.Handler.{Handler}
use Rattle.kilim_program.specs.declared.class.Method.{Method}
use Rattle.kilim_program.specs.declared.instr.Instr.{Instr}
use Rattle.kilim_program.specs.declared.instr.Instr.TheVariants.{Invokevirtual}
use Rattle.kilim_program.specs.declared.names.ClassId.{ClassId}
use Rattle.kilim_program.specs.declared.names.MethodId.{MethodId}
use Rattle.kilim_program.specs.declared.value.Value.{Value}
use Rattle.kilim_program.specs.declared.value.Value.TheVariants.{Ref}
use Rattle.kilim_program.specs.Names.{method_at}
use Rattle.kilim_program.specs.Program.{Program}
use Rattle.kilim_run_state.specs.declared.frames.frames.Frames.{Frames}
use Rattle.kilim_run_state.specs.frames.Calls.{activation, below_of, calls_of}
use Rattle.kilim_run_state.specs.Machine.{Activation, Objects}
use Rattle.kilim_run_state.specs.Objects.{new_object}
use Rattle.kilim_run_machine.specs.Raising.{handler_of}

-- ---- the place of a handler

abbrev pub handler_place : Option Handler → Option ℕ
handler_place None = None
handler_place (Some h) = Some h.at

abbrev pub handler_in : Program → ClassId → ℕ → Option Method → Option ℕ
handler_in p c at None = None
handler_in p c at (Some m) = handler_place (handler_of p c at m.handlers)

abbrev pub call_place : Option (ℕ × Instr) → Option ℕ
call_place None = None
call_place (Some e) = Some e.0

-- of a frame behind that instruction
abbrev pub handler_behind : Program → ClassId → MethodId → Option (ℕ × Instr) → Option ℕ
handler_behind p c m None = None
handler_behind p c m (Some e) = handler_in p c e.0 (method_at p m)

abbrev pub is_virtual : Option (Instr × ℕ) → Bool
is_virtual (Some (Invokevirtual m, next)) = true
is_virtual found = false

-- ---- frames

-- The frames that are left where the top one is the first that catches: it stands at its handler, with that value alone on its stack.
abbrev pub left_at : Option ℕ → Frames → Value → List Activation
left_at None frames v = []
left_at (Some at) frames v = record (activation frames.top) { place = at; stack = v ∷ [] } ∷ below_of frames

-- those frames are left; or nothing catches
abbrev pub IsThrown : List Activation → Bool → Frames → Type 0
IsThrown left true new = calls_of new ≡ left
IsThrown left false new = left ≡ []

-- an object of the class was added, under that name, and the frames are left that it leaves
pub record IsCaught (p : Program) (class : Option ClassId) (left : ClassId → Value → List Activation) (name : ℕ) (new : Frames) (h k : Objects) : Type 0 where
  pub of : ClassId
  pub is : class ≡ Some of
  pub fresh : get h name ≡ None
  pub added : k ≡ insert h name (new_object p of)
  pub frames : calls_of new ≡ left of (Ref name)

-- that; or nothing catches, and nothing was made
abbrev pub IsRaised : Program → Option ClassId → (ClassId → Value → List Activation) → Option ℕ → Frames → Objects → Objects → Type 0
IsRaised p class left (Some name) new h k = IsCaught p class left name new h k
IsRaised p class left None new h k = (k ≡ h) × ((c : ClassId) → class ≡ Some c → (v : Value) → left c v ≡ [])
