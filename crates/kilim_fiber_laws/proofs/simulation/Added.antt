-- What the added instructions do.
use Rattle.std.proofs.Common.{◌≡◌, ℕ, Bool, true, false, not, ℤ, pos, List, ◌∷◌, Option, Some, None, refl, ap, ◌∙◌}
use Rattle.std.specs.Prelude.{slice_get, slice_set, ◌-ℤ◌, ◌==◌, if◌then◌else◌}
use Rattle.kilim_program.specs.declared.instr.Instr.TheVariants as instr
use Rattle.kilim_program.specs.declared.ty.Base.{Base}
use Rattle.kilim_program.specs.declared.ty.Base.TheVariants as base
use Rattle.kilim_program.specs.declared.ty.Ty.{Ty}
use Rattle.kilim_program.specs.declared.value.Value.{Value}
use Rattle.kilim_program.specs.declared.value.Value.TheVariants.{Int, Long, Null, Fiber}
use Rattle.kilim_program.specs.Program.{Program}
use Rattle.kilim_run_state.specs.Machine.{Objects}
use Rattle.kilim_run_machine.specs.Effect.{Goes, Returns, with_some, as_reference, on_word, as_int, as_long, is_wide, when, wide_or}
use Rattle.kilim_run_machine.specs.Does.{does, table_target, narrowed_int, narrowed_result}
use Rattle.kilim_program.specs.declared.class.Method.{Method}
use Rattle.kilim_fiber_spec.specs.Links.{IsReference}

-- 0 is narrowed to itself
narrowed_base : (b : Base) → narrowed_int b (pos 0) ≡ pos 0
narrowed_base base.Bool = refl
narrowed_base base.Byte = refl
narrowed_base base.Char = refl
narrowed_base base.Short = refl
narrowed_base base.Int = refl
narrowed_base base.Long = refl
narrowed_base (base.Class c) = refl

narrowed_if : (b : Bool) (x : ℤ) → x ≡ pos 0 → (if b then x else pos 0) ≡ pos 0
narrowed_if true x e = e
narrowed_if false x e = refl

narrowed_zero : (o : Option Ty) → narrowed_result o (Int (pos 0)) ≡ Int (pos 0)
narrowed_zero None = refl
narrowed_zero (Some ty) = ap Int (narrowed_if (ty.dims == 0) (narrowed_int ty.base (pos 0)) (narrowed_base ty.base))

module _ (W : Program) (own : Method) (nx : ℕ) (l s : List Value) (heap : Objects) where
  pub aload : (n : ℕ) (v : Value) → slice_get l n ≡ Some v → IsReference v → does W own (instr.Aload n) nx l s heap ≡ Goes nx l (v ∷ s) heap
  unfolding does
  aload n v e r = ap (λ o. with_some o (λ u. as_reference u (λ x. Goes nx l (x ∷ s) heap))) e ∙ r (λ x. Goes nx l (x ∷ s) heap)

  pub iload : (n : ℕ) (x : ℤ) → slice_get l n ≡ Some (Int x) → does W own (instr.Iload n) nx l s heap ≡ Goes nx l (Int x ∷ s) heap
  unfolding does
  iload n x e = ap (λ o. with_some o (λ u. as_int u (λ z. Goes nx l (Int z ∷ s) heap))) e

  pub lload : (n : ℕ) (x : ℤ) → slice_get l n ≡ Some (Long x) → does W own (instr.Lload n) nx l s heap ≡ Goes nx l (Long x ∷ s) heap
  unfolding does
  lload n x e = ap (λ o. with_some o (λ u. as_long u (λ z. Goes nx l (Long z ∷ s) heap))) e

  pub astore : (n : ℕ) (v old : Value) → slice_get l n ≡ Some old → IsReference v → does W own (instr.Astore n) nx l (v ∷ s) heap ≡ Goes nx (slice_set l n v) s heap
  unfolding does
  astore n v old e r = r (λ x. with_some (slice_get l n) (λ _. Goes nx (slice_set l n x) s heap)) ∙ ap (λ o. with_some o (λ _. Goes nx (slice_set l n v) s heap)) e

  pub istore : (n : ℕ) (x : ℤ) (old : Value) → slice_get l n ≡ Some old → does W own (instr.Istore n) nx l (Int x ∷ s) heap ≡ Goes nx (slice_set l n (Int x)) s heap
  unfolding does
  istore n x old e = ap (λ o. with_some o (λ _. Goes nx (slice_set l n (Int x)) s heap)) e

  pub lstore : (n : ℕ) (x : ℤ) (old : Value) → slice_get l n ≡ Some old → does W own (instr.Lstore n) nx l (Long x ∷ s) heap ≡ Goes nx (slice_set l n (Long x)) s heap
  unfolding does
  lstore n x old e = ap (λ o. with_some o (λ _. Goes nx (slice_set l n (Long x)) s heap)) e

  pub pop : (v : Value) → is_wide v ≡ false → does W own instr.Pop nx l (v ∷ s) heap ≡ Goes nx l s heap
  unfolding does
  pop v e = ap (λ (b : Bool). when (not b) (Goes nx l s heap)) e

  pub pop2 : (v : Value) → is_wide v ≡ true → does W own instr.Pop2 nx l (v ∷ s) heap ≡ Goes nx l s heap
  unfolding does
  pop2 v e = ap (λ (b : Bool). wide_or b (Goes nx l s heap) (on_word s (λ w below. Goes nx l below heap))) e

  pub null_const : does W own instr.AconstNull nx l s heap ≡ Goes nx l (Null ∷ s) heap
  unfolding does
  null_const = refl

  pub iconst : (n : ℤ) → does W own (instr.Iconst n) nx l s heap ≡ Goes nx l (Int n ∷ s) heap
  unfolding does
  iconst n = refl

  pub bipush : (n : ℤ) → does W own (instr.Bipush n) nx l s heap ≡ Goes nx l (Int n ∷ s) heap
  unfolding does
  bipush n = refl

  pub sipush : (n : ℤ) → does W own (instr.Sipush n) nx l s heap ≡ Goes nx l (Int n ∷ s) heap
  unfolding does
  sipush n = refl

  pub lconst : (n : ℤ) → does W own (instr.Lconst n) nx l s heap ≡ Goes nx l (Long n ∷ s) heap
  unfolding does
  lconst n = refl

  pub goto : (to : ℕ) → does W own (instr.Goto to) nx l s heap ≡ Goes to l s heap
  unfolding does
  goto to = refl

  pub if_zero : (to : ℕ) → does W own (instr.Ifeq to) nx l (Int (pos 0) ∷ s) heap ≡ Goes to l s heap
  unfolding does
  if_zero to = refl

  pub if_one : (to : ℕ) → does W own (instr.Ifeq to) nx l (Int (pos 1) ∷ s) heap ≡ Goes nx l s heap
  unfolding does
  if_one to = refl

  pub table : (default : ℕ) (targets : List ℕ) (n : ℕ) → does W own (instr.Tableswitch default (pos 1) targets) nx l (Int (pos n) ∷ s) heap ≡ Goes (table_target targets (pos n -ℤ pos 1) default) l s heap
  unfolding does
  table default targets n = refl

  pub return : does W own instr.Return nx l s heap ≡ Returns None heap
  unfolding does
  return = refl

  pub ireturn_zero : does W own instr.Ireturn nx l (Int (pos 0) ∷ s) heap ≡ Returns (Some (Int (pos 0))) heap
  unfolding does
  ireturn_zero = ap (λ (v : Value). Returns (Some v) heap) (narrowed_zero own.result)

  pub lreturn : (x : ℤ) → does W own instr.Lreturn nx l (Long x ∷ s) heap ≡ Returns (Some (Long x)) heap
  unfolding does
  lreturn x = refl

  pub areturn : does W own instr.Areturn nx l (Null ∷ s) heap ≡ Returns (Some Null) heap
  unfolding does
  areturn = refl

pub fiber_is_reference : IsReference Fiber
fiber_is_reference go = refl

pub null_is_reference : IsReference Null
null_is_reference go = refl
