-- The mark of the instruction at a place.
use Rattle.std.specs.Prelude.{◌≡◌, ℕ, ◌<◌, Bool, List, [], ◌∷◌, Some, length, drop}
use Rattle.kilim_program.specs.declared.instr.Instr.{Instr}
use Rattle.kilim_program.specs.declared.names.MethodId.{MethodId}
use Rattle.kilim_program.specs.Lengths.{first_place}
use Rattle.kilim_program.specs.Names.{method_at}
use Rattle.kilim_program.specs.Program.{Program}
use Rattle.kilim_run_state.specs.Machine.{Activation}
use Rattle.kilim_fiber_spec.specs.Fibers.{marked, marks_of, wcode_in}

-- among a method's instructions, with a mark for each
pub record IsMarked (code : List (ℕ × Instr)) (marks : List Bool) (end place : ℕ) (mark : Bool) : Type 0 where
  pub found : Instr × ℕ × Bool
  pub at : marked code marks end place ≡ Some found
  pub is : found.2 ≡ mark

-- it is the one of that number
pub record IsNumber (code : List (ℕ × Instr)) (marks : List Bool) (end place at : ℕ) (mark : Bool) : Type 0 where
  pub within : at < length code
  pub stands : first_place (drop at code) end ≡ place
  pub has : IsMarked code marks end place mark

-- in a program with marks for each method
pub record IsMark (p : Program) (counted : List (List Bool)) (m : MethodId) (place : ℕ) (mark : Bool) : Type 0 where
  pub found : Instr × ℕ × Bool
  pub at : wcode_in (marks_of counted m) (method_at p m) place ≡ Some found
  pub is : found.2 ≡ mark

-- the next instruction of these frames
abbrev pub NextHas : Program → List (List Bool) → Bool → List Activation → Type 0
NextHas p counted mark [] = ⊥
NextHas p counted mark (top ∷ below) = IsMark p counted top.method top.place mark
