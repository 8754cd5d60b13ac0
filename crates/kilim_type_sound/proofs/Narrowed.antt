-- A narrowed int is in the range of its type.
use Rattle.std.proofs.Common.{◌≡◌, inl, inr, ℕ, zero, suc, ◌<◌, ◌≤◌, ◌%◌, ◌^◌, ℤ, pos, negsuc, true, false, refl, ap, arith, mod-lt}
use Rattle.std.specs.Prelude.{◌&&◌, ◌||◌, not, nat_lt, int_lt, FitsSigned}
use Rattle.std.specs.Ordering.{int_eq}
use Rattle.std.specs.Int.{w8, w16, w32, cast_unsigned}
use Rattle.std.proofs.lemmas.Bool.{and_from}
use Rattle.std.proofs.lemmas.Bool.Decides.{leb_tells}
use mir.ValLaws as laws
use Rattle.kilim_program.specs.declared.ty.Base.TheVariants as base
use Rattle.kilim_run_machine.specs.Does.{to_byte, to_short}
use Rattle.kilim_type_sound.specs.Facts.{Narrows}

below : (a b : ℕ) → a < b → nat_lt a b ≡ true
below a b h = elim (leb_tells (suc a) b) [ inl y ↦ y.0 | inr y ↦ absurd (let z = y.1 in omega (arith, z, h)) ]

not_below : (a b : ℕ) → b ≤ a → nat_lt a b ≡ false
not_below a b h = elim (leb_tells (suc a) b) [ inl y ↦ absurd (let z = y.1 in omega (arith, z, h)) | inr y ↦ y.0 ]

small : (n : ℕ) → n < 2 → (int_eq (pos n) (pos 0) || int_eq (pos n) (pos 1)) ≡ true
small zero h = refl
small (suc zero) h = refl
small (suc (suc n)) h = absurd (omega (arith, h))

range8 : (z : ℤ) → FitsSigned w8 z → (not (int_lt z (negsuc 127)) && int_lt z (pos 128)) ≡ true
range8 (pos n) s = below n 128 s.sfits
range8 (negsuc n) s = and_from (not (nat_lt 127 n)) true (ap not (not_below 127 n (let h = s.sfits in omega (arith, h)))) refl

range16 : (z : ℤ) → FitsSigned w16 z → (not (int_lt z (negsuc 32767)) && int_lt z (pos 32768)) ≡ true
range16 (pos n) s = below n 32768 s.sfits
range16 (negsuc n) s = and_from (not (nat_lt 32767 n)) true (ap not (not_below 32767 n (let h = s.sfits in omega (arith, h)))) refl

pub narrows : Narrows
narrows base.Bool x e = small (cast_unsigned w32 x % 2) (mod-lt (cast_unsigned w32 x) (omega arith))
narrows base.Byte x e = range8 (to_byte x) (laws.to_z-Fits w8 (cast_unsigned w32 x % 2 ^ 8) (record { fits = mod-lt (cast_unsigned w32 x) (omega arith) }))
narrows base.Char x e = and_from (not (nat_lt (cast_unsigned w32 x % 2 ^ 16) 0)) (nat_lt (cast_unsigned w32 x % 2 ^ 16) 65536) (ap not (not_below (cast_unsigned w32 x % 2 ^ 16) 0 (omega arith))) (below (cast_unsigned w32 x % 2 ^ 16) 65536 (mod-lt (cast_unsigned w32 x) (omega arith)))
narrows base.Short x e = range16 (to_short x) (laws.to_z-Fits w16 (cast_unsigned w32 x % 2 ^ 16) (record { fits = mod-lt (cast_unsigned w32 x) (omega arith) }))
narrows base.Int x e = refl
narrows base.Long x e = absurd (cc)
narrows (base.Class c) x e = absurd (cc)
