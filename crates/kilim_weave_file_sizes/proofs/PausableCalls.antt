-- Pausable calls, counted.
use Rattle.std.proofs.Common.{◌≡◌, ℕ, suc, Bool, true, false, if◌then◌else◌, Option, Some, None, refl}
use Rattle.kilim_program.specs.declared.class.Method.{Method}
use Rattle.kilim_program.specs.declared.instr.Instr.{Instr}
use Rattle.kilim_program.specs.declared.instr.Instr.TheVariants.{Invokevirtual, Invokespecial, Invokestatic}
use Rattle.kilim_program.specs.Names.{method_at}
use Rattle.kilim_program.specs.Program.{Program}
use Rattle.kilim_weave_spec.specs.Weight.{one_more}
use Rattle.kilim_weave_spec.specs.Woven.{if_there, pausable_callee}
use Rattle.kilim_weave_file_spec.specs.Raw.{is_pausable_call, pauses}

by_flag : (m : Method) (n : ℕ) (b : Bool) → one_more (if b then Some m else None) n ≡ (if b then suc n else n)
by_flag m n true = refl
by_flag m n false = refl

by_method : (o : Option Method) (n : ℕ) → one_more (if_there o) n ≡ (if pauses o then suc n else n)
by_method None n = refl
by_method (Some m) n = by_flag m n m.pausable

pub one_more_is : (p : Program) (i : Instr) (n : ℕ) → one_more (pausable_callee p i) n ≡ (if is_pausable_call p i then suc n else n)
one_more_is p (Invokevirtual id) n = by_method (method_at p id) n
one_more_is p (Invokespecial id) n = by_method (method_at p id) n
one_more_is p (Invokestatic id) n = by_method (method_at p id) n
one_more_is p i n = refl
