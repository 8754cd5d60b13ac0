-- Instructions that call or make something.
use Rattle.std.proofs.Common.{◌≡◌, true, true≢false, refl, sym}
use Rattle.kilim_program.specs.declared.instr.Instr.{Instr}
use Rattle.kilim_program.specs.declared.instr.Instr.TheVariants.{Anewarray, Invokespecial, Invokestatic, Invokevirtual, New, Newarray}
use Rattle.kilim_program.specs.declared.names.ClassId.{ClassId}
use Rattle.kilim_program.specs.declared.names.MethodId.{MethodId}
use Rattle.kilim_program.specs.declared.ty.Base.{Base}
use Rattle.kilim_program.specs.declared.ty.Ty.{Ty}
use Rattle.kilim_run_interp.specs.instruction.Near.{is_far}

-- there are no others
pub none_far : (i : Instr) → is_far i ≡ true → ((m : MethodId) → i ≡ Invokevirtual m → ⊥) → ((m : MethodId) → i ≡ Invokespecial m → ⊥) → ((m : MethodId) → i ≡ Invokestatic m → ⊥) →
    ((c : ClassId) → i ≡ New c → ⊥) → ((b : Base) → i ≡ Newarray b → ⊥) → ((ty : Ty) → i ≡ Anewarray ty → ⊥) → ⊥
none_far (Invokevirtual m) far a b c d e f = a m refl
none_far (Invokespecial m) far a b c d e f = b m refl
none_far (Invokestatic m) far a b c d e f = c m refl
none_far (New k) far a b c d e f = d k refl
none_far (Newarray t) far a b c d e f = e t refl
none_far (Anewarray t) far a b c d e f = f t refl
none_far _ far a b c d e f = true≢false (sym far)
