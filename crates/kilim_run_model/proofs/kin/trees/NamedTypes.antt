-- A type is found by the name under which it is shown, where no class's name begins with a bracket.
use Rattle.std.proofs.Common.{◌≡◌, ℕ, zero, suc, ◌+◌, Bool, true, false, not, ◌&&◌, ◌||◌, cond, List, [], ◌∷◌, ◌++◌, Option, Some, None, refl, sym, ap, subst, ◌∙◌, arith}
use Rattle.std.specs.Prelude.{slice_get}
use Rattle.std.specs.List.{list_any}
use Rattle.std.specs.Str.{bytes_eq}
use Rattle.std.proofs.lemmas.Slice.Eq.{bytes_eq-Decides}
use Rattle.std.proofs.lemmas.Bool.{ne_eqb}
use Rattle.kilim_program.specs.declared.class.Class.{Class}
use Rattle.kilim_program.specs.declared.class.Program.{Program}
use Rattle.kilim_program.specs.declared.names.ClassId.{ClassId}
use Rattle.kilim_program.specs.declared.ty.Base.{Base}
use Rattle.kilim_program.specs.declared.ty.Base.TheVariants as base
use Rattle.kilim_program.specs.Same.{all_differ}
use Rattle.kilim_program.specs.Names.{class_at, class_from, class_named, class_name, array_descriptor, base_descriptor, descriptor}
use Rattle.kilim_program.specs.Members.{name_in_base, shown_name}
use Rattle.kilim_run_model.specs.kin.trees.Laws.{IsPlain, IsPlaced}
use Rattle.kilim_run_state.specs.Trees.{type_named, array_named, before_end, type_with, class_base}

both_hold : (a b : Bool) → (a && b) ≡ true → (a ≡ true) × (b ≡ true)
both_hold true true e = (refl, refl)
both_hold true false e = absurd (cc)
both_hold false b e = absurd (cc)

is_not : (b : Bool) → not b ≡ true → b ≡ false
is_not true e = absurd (cc)
is_not false e = refl

either_not : (a b : Bool) → (a || b) ≡ false → (a ≡ false) × (b ≡ false)
either_not true b e = absurd (cc)
either_not false b e = (refl, e)

none_at : (test : Class → Bool) (cs : List Class) (i : ℕ) (c : Class) → list_any test cs ≡ false → slice_get cs i ≡ Some c → test c ≡ false
none_at test [] i c e d = absurd (cc)
none_at test (x ∷ cs) zero c e d = ap test (sym (some_eq x c d)) ∙ (either_not (test x) (list_any test cs) e).0
  where
    some_eq : (x y : Class) → Some x ≡ Some y → x ≡ y
    some_eq x y e = cc
none_at test (x ∷ cs) (suc i) c e d = none_at test cs i c (either_not (test x) (list_any test cs) e).1 d

found_from : (cs : List Class) (n i : ℕ) (c : Class) → slice_get cs i ≡ Some c → all_differ (λ a b. bytes_eq a.name b.name) cs ≡ true → class_from cs c.name n ≡ Some (record { 0 = n + i })
found_from [] n i c e d = absurd (cc)
found_from (x ∷ cs) n zero c e d =
    let same : x ≡ c = some_eq x c e in
    ap (λ (b : Bool). cond b (Some (record { 0 = n })) (class_from cs c.name (suc n))) ((bytes_eq-Decides x.name c.name).1 (ap (λ (z : Class). z.name) same))
    ∙ ap (λ (k : ℕ). Some (record { 0 = k })) (let k : n ≡ n + 0 = omega arith in k)
  where
    some_eq : (x y : Class) → Some x ≡ Some y → x ≡ y
    some_eq x y e = cc
found_from (x ∷ cs) n (suc i) c e d =
    let parts = both_hold (not (list_any (λ b. bytes_eq x.name b.name) cs)) (all_differ (λ a b. bytes_eq a.name b.name) cs) d in
    ap (λ (b : Bool). cond b (Some (record { 0 = n })) (class_from cs c.name (suc n))) (none_at (λ b. bytes_eq x.name b.name) cs i c (is_not _ parts.0) e)
    ∙ (found_from cs (suc n) i c e parts.1 ∙ ap (λ (k : ℕ). Some (record { 0 = k })) (let k : suc n + i ≡ n + suc i = omega arith in k))

-- ---- types

before_last : (name : List ℕ) (c : ℕ) → before_end (name ++ c ∷ []) ≡ name
before_last [] c = refl
before_last (x ∷ []) c = refl
before_last (x ∷ y ∷ name) c = ap (λ (z : List ℕ). x ∷ z) (before_last (y ∷ name) c)

module _ (p : Program) (differ : all_differ (λ a b. bytes_eq a.name b.name) p.classes ≡ true) (plain : (c : ClassId) (class : Class) → class_at p c ≡ Some class → IsPlain class.name) where
  found : (c : ClassId) (class : Class) → class_at p c ≡ Some class → class_named p (class_name p c) ≡ Some c
  found c class e =
      ap (λ (o : Option Class). class_named p (elim o [ None ↦ [] | Some x ↦ x.name ])) e
      ∙ (found_from p.classes 0 c.0 class e differ ∙ ap (λ (k : ℕ). Some (record { 0 = k })) (let k : 0 + c.0 ≡ c.0 = omega arith in k))

  name_is : (c : ClassId) (class : Class) → class_at p c ≡ Some class → class_name p c ≡ class.name
  name_is c class e = ap (λ (o : Option Class). elim o [ None ↦ [] | Some x ↦ x.name ]) e

  plain_named : (name : List ℕ) → IsPlain name → type_named p name ≡ type_with 0 (class_base (class_named p name))
  unfolding type_named
  plain_named [] w = absurd w
  plain_named (c ∷ cs) w = ap (λ (b : Bool). cond b (array_named p 1 cs) (type_with 0 (class_base (class_named p (c ∷ cs))))) (ne_eqb c 91 w)

  pub class_is_named : (c : ClassId) (class : Class) → class_at p c ≡ Some class → type_named p (shown_name p (record { dims = 0; base = base.Class c })) ≡ Some (record { dims = 0; base = base.Class c })
  class_is_named c class e =
      plain_named (class_name p c) (subst IsPlain (sym (name_is c class e)) (plain c class e)) ∙ ap (λ (o : Option ClassId). type_with 0 (class_base o)) (found c class e)

  base_is_named : (k : ℕ) (b : Base) → IsPlaced p b → array_named p k (base_descriptor p b) ≡ Some (record { dims = k; base = b })
  base_is_named k base.Bool w = refl
  base_is_named k base.Byte w = refl
  base_is_named k base.Char w = refl
  base_is_named k base.Short w = refl
  base_is_named k base.Int w = refl
  base_is_named k base.Long w = refl
  base_is_named k (base.Class c) w = ap (λ (n : List ℕ). type_with k (class_base (class_named p n))) (before_last (class_name p c) 59) ∙ ap (λ (o : Option ClassId). type_with k (class_base o)) (found c w.0 w.1)

  dims_are_named : (d k : ℕ) (b : Base) → IsPlaced p b → array_named p k (array_descriptor d (base_descriptor p b)) ≡ Some (record { dims = d + k; base = b })
  dims_are_named zero k b w = base_is_named k b w ∙ ap (λ (n : ℕ). Some (record { dims = n; base = b })) (let n : k ≡ 0 + k = omega arith in n)
  dims_are_named (suc d) k b w = dims_are_named d (suc k) b w ∙ ap (λ (n : ℕ). Some (record { dims = n; base = b })) (let n : d + suc k ≡ suc d + k = omega arith in n)

  pub array_is_named : (d : ℕ) (b : Base) → IsPlaced p b → type_named p (shown_name p (record { dims = suc d; base = b })) ≡ Some (record { dims = suc d; base = b })
  unfolding type_named
  array_is_named d b w =
      ap (λ (n : List ℕ). type_named p n) (ap (λ (z : Bool). cond z (name_in_base p b) (descriptor p (record { dims = suc d; base = b }))) (ne_eqb (suc d) 0 (λ e. omega (arith, e))))
      ∙ (dims_are_named d 1 b w ∙ ap (λ (n : ℕ). Some (record { dims = n; base = b })) (let n : d + 1 ≡ suc d = omega arith in n))
