-- Rules 1 and 2 by the targets of an instruction and the place behind it.
use Rattle.std.specs.Prelude.{◌≡◌, ℕ, Bool, true, ◌||◌, ◌&&◌, not, List, [], ◌∷◌, Option, Some, None, is_some, Result, Ok}
use Rattle.std.specs.List.{list_all}
use Rattle.kilim_program.specs.declared.class.Method.{Method}
use Rattle.kilim_program.specs.declared.instr.Instr.{Instr}
use Rattle.kilim_program.specs.Program.{Program}
use Rattle.kilim_type_spec.specs.Step.{Types}
use Rattle.kilim_type_spec.specs.Typed.{declared}
use Rattle.kilim_type_spec.specs.Faults.{flows_into_declared}

abbrev pub behind_declared : Method → Bool → Option ℕ → Bool
behind_declared m ends None = true
behind_declared m ends (Some next) = not ends || is_some (declared m next)

abbrev pub declared_all : Method → Bool → List ℕ → Option ℕ → Bool
declared_all m ends targets behind = list_all (λ to. is_some (declared m to)) targets && behind_declared m ends behind

abbrev pub behind_flows : Program → Method → Types → Bool → Option ℕ → Bool
behind_flows p m f ends None = true
behind_flows p m f ends (Some next) = ends || flows_into_declared p f (declared m next)

abbrev pub flow_all : Program → Method → Types → Bool → List ℕ → Option ℕ → Bool
flow_all p m f ends targets behind = list_all (λ to. flows_into_declared p f (declared m to)) targets && behind_flows p m f ends behind

-- the place behind an instruction
abbrev pub place_of : List (ℕ × Instr) → Option ℕ
place_of [] = None
place_of (e ∷ es) = Some e.0

-- an instruction was stepped: the least rule that fails, and if none does, what is left
pub record IsStepped (meant : Option ℕ) (result : Result Types ℕ) (found : Option ℕ) (after : Types) : Type 0 where
  pub rule : meant ≡ found
  pub left : found ≡ None → result ≡ Ok after
