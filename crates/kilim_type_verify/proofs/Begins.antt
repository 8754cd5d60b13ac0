-- The frame with which a method begins, and its argument slots.
use Rattle.std.proofs.Common.{◌≡◌, ℕ, zero, suc, ◌+◌, ◌-◌, ◌<◌, Bool, true, false, ◌&&◌, refl, ap, sym, ◌∙◌, inl, inr, arith, List, length, drop, get_or}
use Rattle.std.specs.Prelude.{nat_le, sum_by, if◌then◌else◌}
use Rattle.std.proofs.lemmas.Bool.{cases_lt, lt-leb, le-leb, ne_eqb}
use Rattle.std.proofs.lemmas.List.{drop_more, drop_all}
use Rattle.std.proofs.lemmas.List.Sums.{sum_by-cons}
use Rattle.kilim_program.specs.declared.class.Method.{Method}
use Rattle.kilim_program.specs.declared.ty.Base.{Base}
use Rattle.kilim_program.specs.declared.ty.Base.TheVariants as base
use Rattle.kilim_program.specs.declared.ty.Ty.{Ty}
use Rattle.kilim_program.specs.Same.{argument_slots, type_slots, is_wide_base}
use Rattle.kilim_type_spec.specs.Step.{vtype, size}

-- ---- how many slots

size_is : (ty : Ty) → size (vtype ty) ≡ type_slots ty
size_is ty = by_dims ty.dims ty.base
  where
    by_dims : (d : ℕ) (b : Base) → size (vtype (record { dims = d; base = b })) ≡ type_slots (record { dims = d; base = b })
    by_dims zero base.Long = refl
    by_dims zero base.Bool = refl
    by_dims zero base.Byte = refl
    by_dims zero base.Char = refl
    by_dims zero base.Short = refl
    by_dims zero base.Int = refl
    by_dims zero (base.Class c) = refl
    by_dims (suc d) b = sym (ap (λ (t : Bool). if t && is_wide_base b then 2 else 1) (ne_eqb (suc d) 0 (λ e. omega (arith, e))))

pub slots_on : (tys : List Ty) (k : ℕ) (d : Ty) → k < length tys → sum_by type_slots (drop k tys) ≡ size (vtype (get_or tys k d)) + sum_by type_slots (drop (k + 1) tys)
slots_on tys k d h = ap (sum_by type_slots) (drop_more tys k d h) ∙ sum_by-cons type_slots (get_or tys k d) (drop (k + 1) tys) ∙ ap (λ n. n + sum_by type_slots (drop (k + 1) tys)) (sym (size_is (get_or tys k d)))

pub slots_pass : (total most : ℕ) → most < total → nat_le total most ≡ false
slots_pass total most h = lt-leb total most h

pub slots_end : (tys : List Ty) (k left most : ℕ) → k ≡ length tys → left + sum_by type_slots tys ≡ most + sum_by type_slots (drop k tys) → nat_le (sum_by type_slots tys) most ≡ true
slots_end tys k left most e is = let none : sum_by type_slots (drop k tys) ≡ 0 = ap (sum_by type_slots) (drop_all k tys (omega arith)) in le-leb (sum_by type_slots tys) most (omega arith)

-- ---- arguments

pub no_this : (m : Method) → m.is_static ≡ true → nat_le (sum_by type_slots m.params) m.max_locals ≡ nat_le (argument_slots m) m.max_locals
no_this m e = ap (λ n. nat_le n m.max_locals) (sym (ap (λ (b : Bool). (if b then 0 else 1) + sum_by type_slots m.params) e ∙ (let z : 0 + sum_by type_slots m.params ≡ sum_by type_slots m.params = omega arith in z)))

with_this : (m : Method) → m.is_static ≡ false → argument_slots m ≡ 1 + sum_by type_slots m.params
with_this m e = ap (λ (b : Bool). (if b then 0 else 1) + sum_by type_slots m.params) e

one_less : (s m : ℕ) → 0 < m → nat_le s (m - 1) ≡ nat_le (1 + s) m
one_less s m h = elim (cases_lt (m - 1) s) [ inl lt ↦ lt-leb s (m - 1) lt ∙ sym (lt-leb (1 + s) m (omega arith)) | inr le ↦ le-leb s (m - 1) le ∙ sym (le-leb (1 + s) m (omega arith)) ]

pub this_first : (m : Method) → m.is_static ≡ false → 0 < m.max_locals → nat_le (sum_by type_slots m.params) (m.max_locals - 1) ≡ nat_le (argument_slots m) m.max_locals
this_first m e h = one_less (sum_by type_slots m.params) m.max_locals h ∙ ap (λ n. nat_le n m.max_locals) (sym (with_this m e))

pub no_slot : (m : Method) → m.is_static ≡ false → m.max_locals ≡ 0 → nat_le (argument_slots m) m.max_locals ≡ false
no_slot m e h = lt-leb (argument_slots m) m.max_locals (omega (arith, with_this m e))
