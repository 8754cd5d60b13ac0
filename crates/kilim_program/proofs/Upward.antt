-- Going up a line of superclasses by one, and taking a dimension from two types.
use Rattle.std.proofs.Common.{◌≡◌, ℕ, zero, suc, ◌-◌, ◌<◌, Bool, false, Some, refl, ap, arith}
use Rattle.std.specs.List.{list_any}
use Rattle.kilim_program.specs.declared.class.Class.{Class}
use Rattle.kilim_program.specs.declared.names.ClassId.{ClassId}
use Rattle.kilim_program.specs.declared.ty.Base.{Base}
use Rattle.kilim_program.specs.Program.{Program}
use Rattle.kilim_program.specs.Names.{class_at, line_up_to}
use Rattle.kilim_program.specs.Fits.{type_assignable, base_assignable, is_object_base}

pub any_above : (test : ClassId → Bool) (p : Program) (left : ℕ) (at up : ClassId) (class : Class) → 0 < left → class_at p at ≡ Some class → class.superclass ≡ Some up → test at ≡ false →
    list_any test (line_up_to p (left - 1) up) ≡ list_any test (line_up_to p left at)
any_above test p zero at up class lt e f g = absurd (omega arith)
any_above test p (suc n) at up class lt e f g = rw (g, e, f) (ap (λ k. list_any test (line_up_to p k up)) (omega arith))

-- of as many dimensions
pub same_dims : (p : Program) (n : ℕ) (a b : Base) → type_assignable p n a n b ≡ base_assignable p a b
same_dims p zero a b = refl
same_dims p (suc n) a b = same_dims p n a b

pub more_dims : (p : Program) (m n : ℕ) (a b : Base) → n < m → type_assignable p m a n b ≡ is_object_base p b
more_dims p zero n a b lt = absurd (omega arith)
more_dims p (suc m) zero a b lt = refl
more_dims p (suc m) (suc n) a b lt = more_dims p m n a b (omega arith)

pub fewer_dims : (p : Program) (m n : ℕ) (a b : Base) → m < n → type_assignable p m a n b ≡ false
fewer_dims p m zero a b lt = absurd (omega arith)
fewer_dims p zero (suc n) a b lt = refl
fewer_dims p (suc m) (suc n) a b lt = fewer_dims p m n a b (omega arith)
