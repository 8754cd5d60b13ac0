-- Rows that don't depend on the place.
use Rattle.std.proofs.Common.{◌≡◌, ℕ, List, [], Result, sym, subst, refl}
use Rattle.kilim_program.specs.declared.class.Method.{Method}
use Rattle.kilim_program.specs.declared.instr.Instr.{Instr}
use Rattle.kilim_program.specs.declared.value.Value.{Value}
use Rattle.kilim_program.specs.declared.value.Value.TheVariants as value
use Rattle.kilim_program.specs.Program.{Program}
use Rattle.kilim_type_spec.specs.Step.{Form, Operand, Row, Shuffles, Takes, Types, type_step, by_row, constant_row, long_constant_row}
use Rattle.kilim_program.specs.declared.verified.VType.{VType}
use Rattle.kilim_type_step.specs.Answers.{answers}
use Rattle.kilim_type_step.specs.declared.fault.StepFault.{StepFault}

pub constant_place : (p : Program) (m : Method) (at : ℕ) (v : Value) (f : Types) → by_row p m at (constant_row p v) f ≡ by_row p m 0 (constant_row p v) f
constant_place p m at (value.Int x) f = refl
constant_place p m at (value.Text x) f = refl
constant_place p m at (value.Long x) f = refl
constant_place p m at value.Null f = refl
constant_place p m at (value.Ref x) f = refl
constant_place p m at (value.Box x) f = refl
constant_place p m at value.Fiber f = refl

pub long_place : (p : Program) (m : Method) (at : ℕ) (v : Value) (f : Types) → by_row p m at (long_constant_row v) f ≡ by_row p m 0 (long_constant_row v) f
long_place p m at (value.Int x) f = refl
long_place p m at (value.Text x) f = refl
long_place p m at (value.Long x) f = refl
long_place p m at value.Null f = refl
long_place p m at (value.Ref x) f = refl
long_place p m at (value.Box x) f = refl
long_place p m at value.Fiber f = refl

pub plain_place : (p : Program) (m : Method) (at : ℕ) (r : Row) (takes : List Operand) (gives : List VType) (f after : Types) (result : Result Unit StepFault) → r ≡ Takes takes gives [] → answers (by_row p m 0 (Takes takes gives []) f) result after →
    answers (by_row p m at r f) result after
plain_place p m at r takes gives f after result is done = subst (λ (x : Row). answers (by_row p m at x f) result after) (sym is) done

pub shuffle_place : (p : Program) (m : Method) (at : ℕ) (r : Row) (form : Form) (f after : Types) (result : Result Unit StepFault) → r ≡ Shuffles form → answers (by_row p m 0 (Shuffles form) f) result after → answers (by_row p m at r f) result after
shuffle_place p m at r form f after result is done = subst (λ (x : Row). answers (by_row p m at x f) result after) (sym is) done

-- an instruction that is known
pub instr_is : (p : Program) (m : Method) (at : ℕ) (i known : Instr) (f after : Types) (result : Result Unit StepFault) → i ≡ known → answers (type_step p m at known f) result after → answers (type_step p m at i f) result after
instr_is p m at i known f after result is done = subst (λ (x : Instr). answers (type_step p m at x f) result after) (sym is) done
