-- What the code answers of an instruction and of a method, by the definitions.
use Rattle.std.specs.Prelude.{◌≡◌, ℕ, List, [], ◌∷◌, ◌++◌, Option, Some, None, unwrap_or, map}
use Rattle.kilim_program.specs.declared.class.Method.{Method}
use Rattle.kilim_program.specs.declared.instr.Instr.{Instr}
use Rattle.kilim_program.specs.declared.verified.Frame.{Frame}
use Rattle.kilim_program.specs.Program.{Program}
use Rattle.kilim_type_spec.specs.Step.{Types}
use Rattle.kilim_type_spec.specs.Typed.{left_by, listed, no_types, frames_from, frames_of}
use Rattle.kilim_type_spec.specs.Faults.{lesser, place_rule, walk_fault, method_fault, body_fault}
use Rattle.kilim_type_verify.specs.declared.walk.Visited.{Visited}
use Rattle.kilim_type_verify.specs.declared.walk.Visited.TheVariants.{Goes, Fails}
use Rattle.kilim_type_verify.specs.declared.walk.Walked.{Walked}
use Rattle.kilim_type_verify.specs.declared.walk.Walked.TheVariants.{Frames, Fault}

-- one instruction, under the frame there
abbrev pub VisitedUnder : Program → Method → Option ℕ → Option Types → ℕ × Instr → List (ℕ × Instr) → List Frame → List Frame → Visited → Type 0
VisitedUnder p m pending f e es old new (Goes g) =
    (lesser pending (place_rule p m e es f) ≡ None) × (left_by p m e f ≡ g) × (new ≡ old ++ listed m (unwrap_or f no_types) ∷ [])
VisitedUnder p m pending f e es old new (Fails r) = lesser pending (place_rule p m e es f) ≡ Some r

-- the code of a method, with what flows to it, and what fails before it
abbrev pub CodeWalked : Program → Method → Option ℕ → Option Types → Walked → Type 0
CodeWalked p m first flow (Frames fs) = (walk_fault p m first flow m.code ≡ None) × (fs.items ≡ map (listed m) (frames_from p m flow m.code))
CodeWalked p m first flow (Fault at rule) = walk_fault p m first flow m.code ≡ Some (at, rule)

-- the body of a method
abbrev pub BodyWalked : Program → Method → Walked → Type 0
BodyWalked p m (Frames fs) = (body_fault p m m.code ≡ None) × (fs.items ≡ map (listed m) (frames_of p m))
BodyWalked p m (Fault at rule) = body_fault p m m.code ≡ Some (at, rule)

-- a method
abbrev pub MethodWalked : Program → Method → Walked → Type 0
MethodWalked p m (Frames fs) = (method_fault p m ≡ None) × (fs.items ≡ map (listed m) (frames_of p m))
MethodWalked p m (Fault at rule) = method_fault p m ≡ Some (at, rule)
