-- Rows of calls, by the method that is called.
use Rattle.std.proofs.Common.{◌≡◌, ℕ, Bool, true, false, ap, sym, subst, ◌∙◌, Option, Some, Result}
use Rattle.kilim_program.specs.declared.class.Method.{Method}
use Rattle.kilim_program.specs.declared.names.MethodId.{MethodId}
use Rattle.kilim_program.specs.Names.{method_at}
use Rattle.kilim_program.specs.Program.{Program}
use Rattle.kilim_program.specs.Same.{is_constructor}
use Rattle.kilim_type_spec.specs.Step.{Types, by_row, special_by, special_row}
use Rattle.kilim_type_step.specs.declared.fault.StepFault.{StepFault}
use Rattle.kilim_type_step.specs.Answers.{answers}

by_special : (p : Program) (m : Method) (id : MethodId) (callee : Method) (at : ℕ) (f : Types) (b : Bool) → method_at p id ≡ Some callee → is_constructor callee ≡ b →
    by_row p m at (special_row p m id (method_at p id)) f ≡ by_row p m at (special_by b p m id callee) f
by_special p m id callee at f b e is = ap (λ (o : Option Method). by_row p m at (special_row p m id o) f) e ∙ ap (λ x. by_row p m at (special_by x p m id callee) f) is

pub constructor_called : (p : Program) (m : Method) (id : MethodId) (callee : Method) (at : ℕ) (f g : Types) (r : Result Unit StepFault) → method_at p id ≡ Some callee → is_constructor callee ≡ true →
    answers (by_row p m 0 (special_by true p m id callee) f) r g → answers (by_row p m at (special_row p m id (method_at p id)) f) r g
constructor_called p m id callee at f g r e is h = let P : Result Types ℕ → Type 0 = λ x. answers x r g in subst P (sym (by_special p m id callee at f true e is)) h

pub special_called : (p : Program) (m : Method) (id : MethodId) (callee : Method) (at : ℕ) (f g : Types) (r : Result Unit StepFault) → method_at p id ≡ Some callee → is_constructor callee ≡ false →
    answers (by_row p m 0 (special_by false p m id callee) f) r g → answers (by_row p m at (special_row p m id (method_at p id)) f) r g
special_called p m id callee at f g r e is h = let P : Result Types ℕ → Type 0 = λ x. answers x r g in subst P (sym (by_special p m id callee at f false e is)) h
