-- The ids in built-in classes and methods are places, where there is room for them.
use Rattle.std.proofs.Common.{◌≡◌, ℕ, ◌+◌, ◌<◌, ◌≤◌, Bool, true, false, List, [], ◌∷◌, length, Option, Some, None, refl, ◌∙◌, arith}
use Rattle.std.specs.Prelude.{◌&&◌, nat_lt}
use Rattle.std.specs.List.{list_all}
use Rattle.std.proofs.lemmas.Bool.{and_from, and_parts, lt-ltb, ltb-true}
use Rattle.kilim_program.specs.declared.class.Form.{Form}
use Rattle.kilim_program.specs.declared.class.Form.TheVariants.{Plain, Woven}
use Rattle.kilim_program.specs.declared.instr.Instr.{Instr}
use Rattle.kilim_program.specs.declared.names.ClassId.{ClassId}
use Rattle.kilim_program.specs.declared.ty.Base.{Base}
use Rattle.kilim_program.specs.declared.ty.Base.TheVariants as base
use Rattle.kilim_program.specs.declared.ty.Ty.{Ty}
use Rattle.kilim_program.specs.BuiltIn.{built_in_class, built_in_classes_in, built_in_methods_in, class_id, message_field, methods_before_exceptions, methods_from, throwable_class}
use Rattle.kilim_program.specs.Keeps.{class_ids_there, has_base, has_class, has_field, has_method, has_superclass, has_type, types_of_method}
use Rattle.kilim_program.specs.Program.{Program}
use Rattle.kilim_link_laws.proofs.code_laws.Lists.{list_all_same}

-- ---- by whether a class is there

abbrev base_by : (ClassId → Bool) → Base → Bool
base_by there (base.Class c) = there c
base_by there b = true

abbrev type_by : (ClassId → Bool) → Ty → Bool
type_by there ty = base_by there ty.base

-- how many built-in classes and methods there are
abbrev pub class_count : Form → ℕ
class_count Plain = 18
class_count Woven = 19

abbrev pub method_count : Form → ℕ
method_count Plain = 43
method_count Woven = 54

pub class_total : (form : Form) (n m : ℕ) → length (built_in_classes_in form n m) ≡ class_count form
class_total Plain n m = refl
class_total Woven n m = refl

pub method_total : (form : Form) (n : ℕ) → length (built_in_methods_in form n) ≡ method_count form
method_total Plain n = refl
method_total Woven n = refl

abbrev AreThere : Form → ℕ → (ClassId → Bool) → Type 0
AreThere form n there = (k : ℕ) → k < class_count form → there (class_id (n + k)) ≡ true

owned_by : (form : Form) (n : ℕ) (there : ClassId → Bool) (named : Instr → Bool) → there (class_id n) ≡ true → AreThere form n there → list_all (λ m. there m.owner && list_all (λ e. named e.1) m.code) (built_in_methods_in form n) ≡ true
owned_by Plain n there named object each = rw object (rw (each 1 (omega arith)) (rw (each 4 (omega arith)) (rw (each 5 (omega arith)) (rw (each 6 (omega arith)) (rw (each 7 (omega arith)) (rw (each 8 (omega arith)) (rw (each 9 (omega arith)) (rw (each 10 (omega arith)) (rw (each 11 (omega arith)) (rw (each 12 (omega arith)) (rw (each 13 (omega arith)) (rw (each 14 (omega arith)) (rw (each 15 (omega arith)) (rw (each 16 (omega arith)) (rw (each 17 (omega arith)) refl)))))))))))))))
owned_by Woven n there named object each = rw object (rw (each 1 (omega arith)) (rw (each 4 (omega arith)) (rw (each 5 (omega arith)) (rw (each 6 (omega arith)) (rw (each 7 (omega arith)) (rw (each 8 (omega arith)) (rw (each 9 (omega arith)) (rw (each 10 (omega arith)) (rw (each 11 (omega arith)) (rw (each 12 (omega arith)) (rw (each 13 (omega arith)) (rw (each 14 (omega arith)) (rw (each 15 (omega arith)) (rw (each 16 (omega arith)) (rw (each 17 (omega arith)) (rw (each 18 (omega arith)) refl))))))))))))))))

typed_by : (form : Form) (n : ℕ) (there : ClassId → Bool) → there (class_id n) ≡ true → AreThere form n there → list_all (λ m. list_all (type_by there) (types_of_method m)) (built_in_methods_in form n) ≡ true
typed_by Plain n there object each = rw object (rw (each 1 (omega arith)) (rw (each 2 (omega arith)) refl))
typed_by Woven n there object each = rw object (rw (each 1 (omega arith)) (rw (each 2 (omega arith)) (rw (each 18 (omega arith)) refl)))

same_base : (p : Program) (b : Base) → has_base p b ≡ base_by (has_class p) b
same_base p (base.Class c) = refl
same_base p b = refl

module _ (p : Program) where
  -- so many places from a number on
  class_at_place : (n count : ℕ) → n + count ≤ length p.classes → (k : ℕ) → k < count → has_class p (class_id (n + k)) ≡ true
  class_at_place n count room k l = lt-ltb (n + k) (length p.classes) (omega (arith, room, l))

  object_there : (form : Form) (n : ℕ) → n + class_count form ≤ length p.classes → has_class p (class_id n) ≡ true
  object_there Plain n room = lt-ltb n (length p.classes) (omega (arith, room))
  object_there Woven n room = lt-ltb n (length p.classes) (omega (arith, room))

  pub built_in_owned : (form : Form) (n : ℕ) (named : Instr → Bool) → n + class_count form ≤ length p.classes → list_all (λ m. has_class p m.owner && list_all (λ e. named e.1) m.code) (built_in_methods_in form n) ≡ true
  built_in_owned form n named room = owned_by form n (has_class p) named (object_there form n room) (class_at_place n (class_count form) room)

  pub built_in_typed : (form : Form) (n : ℕ) → n + class_count form ≤ length p.classes → list_all (λ m. list_all (has_type p) (types_of_method m)) (built_in_methods_in form n) ≡ true
  built_in_typed form n room =
      list_all_same (λ m. list_all (has_type p) (types_of_method m)) (λ m. list_all (type_by (has_class p)) (types_of_method m))
      (λ m. list_all_same (has_type p) (type_by (has_class p)) (λ ty. same_base p ty.base) (types_of_method m)) (built_in_methods_in form n)
      ∙ typed_by form n (has_class p) (object_there form n room) (class_at_place n (class_count form) room)

  -- ---- classes

  methods_there : (m count : ℕ) → m + count ≤ length p.methods → (ks : List ℕ) → list_all (λ k. nat_lt k count) ks ≡ true → list_all (has_method p) (methods_from m ks) ≡ true
  methods_there m count room [] e = refl
  methods_there m count room (k ∷ ks) e =
      let both = and_parts (nat_lt k count) (list_all (λ i. nat_lt i count) ks) e in
      let less = ltb-true k count both.0 in
      and_from _ _ (lt-ltb (m + k) (length p.methods) (omega (arith, room, less))) (methods_there m count room ks both.1)

  -- a class of any name, marked or not
  one_class : (m count : ℕ) → m + count ≤ length p.methods → (superclass : Option ClassId) (ks : List ℕ) → has_superclass p superclass ≡ true → list_all (λ k. nat_lt k count) ks ≡ true
      → class_ids_there p (built_in_class [] superclass false (methods_from m ks)) ≡ true
  one_class m count room superclass ks up e = and_from _ _ up (methods_there m count room ks e)

  pub built_in_classes_there : (form : Form) (n m : ℕ) → n + class_count form ≤ length p.classes → m + method_count form ≤ length p.methods → has_field p message_field ≡ true
      → list_all (class_ids_there p) (built_in_classes_in form n m) ≡ true
  built_in_classes_there Plain n m room more field =
      let up = object_there Plain n room in
      let other = class_at_place n (class_count Plain) room in
      let one = one_class m 43 more in
      let throwable : has_class p (class_id n) ≡ true → class_ids_there p (throwable_class n m methods_before_exceptions) ≡ true =
      λ e. and_from _ _ e (and_from _ _ (and_from _ _ field refl) (methods_there m 43 more (20 ∷ 21 ∷ 22 ∷ []) refl)) in
      and_from _ _ (one None (0 ∷ []) refl refl)
      (and_from _ _ (one (Some (class_id n)) (1 ∷ 2 ∷ 3 ∷ []) up refl)
      (and_from _ _ (one (Some (class_id n)) [] up refl)
      (and_from _ _ (one (Some (class_id n)) [] up refl)
      (and_from _ _ (one (Some (class_id n)) (4 ∷ 5 ∷ 6 ∷ []) up refl)
      (and_from _ _ (one (Some (class_id n)) (7 ∷ 8 ∷ 9 ∷ 10 ∷ 11 ∷ 12 ∷ []) up refl)
      (and_from _ _ (one (Some (class_id n)) (13 ∷ 14 ∷ 15 ∷ 16 ∷ 17 ∷ 18 ∷ 19 ∷ []) up refl)
      (and_from _ _ (throwable up)
      (and_from _ _ (one (Some (class_id (n + 7))) (23 ∷ 24 ∷ []) (other 7 (omega arith)) refl)
      (and_from _ _ (one (Some (class_id (n + 8))) (25 ∷ 26 ∷ []) (other 8 (omega arith)) refl)
      (and_from _ _ (one (Some (class_id (n + 9))) (27 ∷ 28 ∷ []) (other 9 (omega arith)) refl)
      (and_from _ _ (one (Some (class_id (n + 9))) (29 ∷ 30 ∷ []) (other 9 (omega arith)) refl)
      (and_from _ _ (one (Some (class_id (n + 9))) (31 ∷ 32 ∷ []) (other 9 (omega arith)) refl)
      (and_from _ _ (one (Some (class_id (n + 9))) (33 ∷ 34 ∷ []) (other 9 (omega arith)) refl)
      (and_from _ _ (one (Some (class_id (n + 9))) (35 ∷ 36 ∷ []) (other 9 (omega arith)) refl)
      (and_from _ _ (one (Some (class_id (n + 9))) (37 ∷ 38 ∷ []) (other 9 (omega arith)) refl)
      (and_from _ _ (one (Some (class_id (n + 15))) (39 ∷ 40 ∷ []) (other 15 (omega arith)) refl)
      (and_from _ _ (one (Some (class_id (n + 15))) (41 ∷ 42 ∷ []) (other 15 (omega arith)) refl) refl)))))))))))))))))
  built_in_classes_there Woven n m room more field =
      let up = object_there Woven n room in
      let other = class_at_place n (class_count Woven) room in
      let one = one_class m 54 more in
      let throwable : has_class p (class_id n) ≡ true → class_ids_there p (throwable_class n m methods_before_exceptions) ≡ true =
      λ e. and_from _ _ e (and_from _ _ (and_from _ _ field refl) (methods_there m 54 more (20 ∷ 21 ∷ 22 ∷ []) refl)) in
      and_from _ _ (one None (0 ∷ []) refl refl)
      (and_from _ _ (one (Some (class_id n)) (1 ∷ 2 ∷ 3 ∷ []) up refl)
      (and_from _ _ (one (Some (class_id n)) [] up refl)
      (and_from _ _ (one (Some (class_id n)) [] up refl)
      (and_from _ _ (one (Some (class_id n)) (4 ∷ 5 ∷ 6 ∷ []) up refl)
      (and_from _ _ (one (Some (class_id n)) (7 ∷ 8 ∷ 9 ∷ 10 ∷ 11 ∷ 12 ∷ []) up refl)
      (and_from _ _ (one (Some (class_id n)) (13 ∷ 14 ∷ 15 ∷ 16 ∷ 17 ∷ 18 ∷ 19 ∷ []) up refl)
      (and_from _ _ (throwable up)
      (and_from _ _ (one (Some (class_id (n + 7))) (23 ∷ 24 ∷ []) (other 7 (omega arith)) refl)
      (and_from _ _ (one (Some (class_id (n + 8))) (25 ∷ 26 ∷ []) (other 8 (omega arith)) refl)
      (and_from _ _ (one (Some (class_id (n + 9))) (27 ∷ 28 ∷ []) (other 9 (omega arith)) refl)
      (and_from _ _ (one (Some (class_id (n + 9))) (29 ∷ 30 ∷ []) (other 9 (omega arith)) refl)
      (and_from _ _ (one (Some (class_id (n + 9))) (31 ∷ 32 ∷ []) (other 9 (omega arith)) refl)
      (and_from _ _ (one (Some (class_id (n + 9))) (33 ∷ 34 ∷ []) (other 9 (omega arith)) refl)
      (and_from _ _ (one (Some (class_id (n + 9))) (35 ∷ 36 ∷ []) (other 9 (omega arith)) refl)
      (and_from _ _ (one (Some (class_id (n + 9))) (37 ∷ 38 ∷ []) (other 9 (omega arith)) refl)
      (and_from _ _ (one (Some (class_id (n + 15))) (39 ∷ 40 ∷ []) (other 15 (omega arith)) refl)
      (and_from _ _ (one (Some (class_id (n + 15))) (41 ∷ 42 ∷ []) (other 15 (omega arith)) refl)
      (and_from _ _ (one (Some (class_id n)) (43 ∷ 44 ∷ 45 ∷ 46 ∷ 47 ∷ 48 ∷ 49 ∷ 50 ∷ 51 ∷ 52 ∷ 53 ∷ []) up refl) refl))))))))))))))))))
