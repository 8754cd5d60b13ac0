-- The classes and members that are found by their names are places of a program.
use Rattle.std.proofs.Common.{◌≡◌, ℕ, suc, ◌+◌, ◌<◌, true, List, [], ◌∷◌, length, sum_by, Option, Some, None, option_and_then, refl, ap, subst, arith}
use Rattle.std.specs.List.{position_from}
use Rattle.std.specs.Str.{bytes_eq}
use Rattle.std.proofs.lemmas.Bool.{false≢true, lt-ltb}
use Rattle.std.proofs.lemmas.Option.{same_Some, none-some}
use Rattle.kilim_class_descriptors.specs.declared.types.BaseText.{BaseText}
use Rattle.kilim_class_descriptors.specs.declared.types.BaseText.TheVariants as text
use Rattle.kilim_class_descriptors.specs.declared.types.FieldText.{FieldText}
use Rattle.kilim_program.specs.declared.class.Class.{Class}
use Rattle.kilim_program.specs.declared.names.ClassId.{ClassId}
use Rattle.kilim_program.specs.declared.names.FieldId.{FieldId}
use Rattle.kilim_program.specs.declared.names.MethodId.{MethodId}
use Rattle.kilim_program.specs.declared.ty.Base.{Base}
use Rattle.kilim_program.specs.declared.ty.Base.TheVariants as base
use Rattle.kilim_program.specs.declared.ty.Ty.{Ty}
use Rattle.kilim_program.specs.BuiltIn.{class_id, method_id}
use Rattle.kilim_program.specs.Keeps.{has_base, has_class, has_field, has_method, has_type}
use Rattle.kilim_program.specs.Lengths.{is_primitive}
use Rattle.kilim_program.specs.Names.{class_from, line_of}
use Rattle.kilim_program.specs.Program.{Program}
use Rattle.kilim_link_spec.specs.Code.{field_found, method_found}
use Rattle.kilim_link_spec.specs.declared.fault.MemberOf.{MemberOf as MemberRef}
use Rattle.kilim_link_spec.specs.Types.{base_in, class_named_by, named_by, type_in, typed}
use Rattle.kilim_link_spec.specs.World.{World, class_of, field_id, field_in, fields_at, find_field, find_method, first_field, first_found, first_method, is_field, is_method, method_in, methods_at, or_else, view_at}
use Rattle.kilim_link_spec.specs.declared.view.ClassView.{ClassView}
use Rattle.kilim_link_laws.proofs.code_laws.Counts.{Counts, count_fields, count_methods, position_within, sum_within}
use Rattle.kilim_link_laws.proofs.code_laws.Rows.{if_cases, mapped}
use Rattle.kilim_link_laws.proofs.code_laws.TestedTypes.{Tested}

-- ---- in lists

class_within : (classes : List Class) (name : List ℕ) (n : ℕ) (c : ClassId) → class_from classes name n ≡ Some c → c.0 < n + length classes
class_within [] name n c e = absurd (none-some c e)
class_within (class ∷ classes) name n c e =
    if_cases (c.0 < n + length (class ∷ classes)) (bytes_eq class.name name) (class_id n) c (class_from classes name (suc n))
    (λ here same. let number = ap (λ (d : ClassId). d.0) same in omega (arith, number))
    (λ there later. let l = class_within classes name (suc n) c later in omega (arith, l)) e

either_found : {A : Type 0} (P : Type 0) (a b : Option A) (y : A) → (a ≡ Some y → P) → (b ≡ Some y → P) → or_else a b ≡ Some y → P
either_found P None b y first later e = later e
either_found P (Some x) b y first later e = first e

found_holds : {A B : Type 0} (P : B → Type 0) (search : A → Option B) → ((x : A) (y : B) → search x ≡ Some y → P y) → (xs : List A) (y : B) → first_found search xs ≡ Some y → P y
found_holds P search each [] y e = absurd (none-some y e)
found_holds P search each (x ∷ xs) y e = either_found (P y) (search x) (first_found search xs) y (each x y) (found_holds P search each xs y) e

-- what is found in a class of the world
bound_found : {A B : Type 0} (P : B → Type 0) (next : A → Option B) → ((x : A) (y : B) → next x ≡ Some y → P y) → (o : Option A) (y : B) → option_and_then next o ≡ Some y → P y
bound_found P next each None y e = absurd (none-some y e)
bound_found P next each (Some x) y e = each x y e

-- ---- members by their numbers

method_within : (w : World) (name descriptor : List ℕ) (c : ClassId) (o : Option ClassView) (k : ℕ) → view_at w c ≡ o → position_from (is_method name descriptor) 0 (methods_at o) ≡ Some k → first_method w c + k < sum_by count_methods w.classes
method_within w name descriptor c None k at e = absurd (none-some k e)
method_within w name descriptor c (Some v) k at e =
    let place = position_within (is_method name descriptor) 0 v.methods k e in
    let all = sum_within count_methods w.classes c.0 v at in
    omega (arith, place, all)

field_within : (w : World) (name descriptor : List ℕ) (c : ClassId) (o : Option ClassView) (k : ℕ) → view_at w c ≡ o → position_from (is_field name descriptor) 0 (fields_at o) ≡ Some k → first_field w c + k < suc (sum_by count_fields w.classes)
field_within w name descriptor c None k at e = absurd (none-some k e)
field_within w name descriptor c (Some v) k at e =
    let place = position_within (is_field name descriptor) 0 v.fields k e in
    let all = sum_within count_fields w.classes c.0 v at in
    omega (arith, place, all)

-- of a text nothing is asked
abbrev pub any_text : FieldText → Type 0
any_text f = Unit {0}

module _ (w : World) (p : Program) (counts : Counts w p) where
  pub place_within : (name : List ℕ) (c : ClassId) → class_of w name ≡ Some c → c.0 < length w.classes
  place_within name c e =
      let l = class_within w.outline.classes name 0 c e in
      let same = counts.outline in
      let views = counts.classes in
      omega (arith, l, same, views)

  pub class_there : (name : List ℕ) (c : ClassId) → class_of w name ≡ Some c → has_class p c ≡ true
  class_there name c e =
      let l = place_within name c e in
      let same = counts.classes in
      lt-ltb c.0 (length p.classes) (omega (arith, l, same))

  method_there : (name descriptor : List ℕ) (c : ClassId) (m : MethodId) → method_in w name descriptor c ≡ Some m → has_method p m ≡ true
  method_there name descriptor c m e =
      let made = mapped (λ (k : ℕ). method_id (first_method w c + k)) (position_from (is_method name descriptor) 0 (methods_at (view_at w c))) m e in
      let l = method_within w name descriptor c (view_at w c) made.x refl made.there in
      let number = ap (λ (n : MethodId). n.0) made.is in
      let same = counts.methods in
      lt-ltb m.0 (length p.methods) (omega (arith, l, number, same))

  field_there : (name descriptor : List ℕ) (c : ClassId) (f : FieldId) → field_in w name descriptor c ≡ Some f → has_field p f ≡ true
  field_there name descriptor c f e =
      let made = mapped (λ (k : ℕ). field_id (first_field w c + k)) (position_from (is_field name descriptor) 0 (fields_at (view_at w c))) f e in
      let l = field_within w name descriptor c (view_at w c) made.x refl made.there in
      let number = ap (λ (n : FieldId). n.0) made.is in
      let same = counts.fields in
      lt-ltb f.0 (length p.fields) (omega (arith, l, number, same))

  pub found_method : (ref : MemberRef) (m : MethodId) → method_found w ref ≡ Some m → has_method p m ≡ true
  found_method ref m e =
      bound_found (λ n. has_method p n ≡ true) (λ c. find_method w c ref.name ref.descriptor)
      (λ c. found_holds (λ n. has_method p n ≡ true) (method_in w ref.name ref.descriptor) (method_there ref.name ref.descriptor) (line_of w.outline c)) (class_named_by w (named_by ref.owner)) m e

  pub found_field : (ref : MemberRef) (f : FieldId) → field_found w ref ≡ Some f → has_field p f ≡ true
  found_field ref f e =
      bound_found (λ n. has_field p n ≡ true) (λ c. find_field w c ref.name ref.descriptor)
      (λ c. found_holds (λ n. has_field p n ≡ true) (field_in w ref.name ref.descriptor) (field_there ref.name ref.descriptor) (line_of w.outline c)) (class_named_by w (named_by ref.owner)) f e

  -- ---- types

  base_there : (b : BaseText) (y : Base) → base_in w b ≡ Some y → has_base p y ≡ true
  base_there text.Bool y e = subst (λ z. has_base p z ≡ true) (same_Some base.Bool y e) refl
  base_there text.Byte y e = subst (λ z. has_base p z ≡ true) (same_Some base.Byte y e) refl
  base_there text.Char y e = subst (λ z. has_base p z ≡ true) (same_Some base.Char y e) refl
  base_there text.Short y e = subst (λ z. has_base p z ≡ true) (same_Some base.Short y e) refl
  base_there text.Int y e = subst (λ z. has_base p z ≡ true) (same_Some base.Int y e) refl
  base_there text.Long y e = subst (λ z. has_base p z ≡ true) (same_Some base.Long y e) refl
  base_there text.Float y e = absurd (none-some y e)
  base_there text.Double y e = absurd (none-some y e)
  base_there (text.Class name) y e =
      let m = mapped base.Class (class_of w name) y e in
      subst (λ z. has_base p z ≡ true) m.is (class_there name m.x m.there)

  text_there : (f : FieldText) (ty : Ty) → type_in w f ≡ Some ty → has_type p ty ≡ true
  text_there f ty e =
      let m = mapped (typed f.dims) (base_in w f.base) ty e in
      subst (λ t. has_type p t ≡ true) m.is (base_there f.base m.x m.there)

  primitive_there : (element : Base) → is_primitive element ≡ true → has_type p (typed 1 element) ≡ true
  primitive_there (base.Class c) e = absurd (false≢true e)
  primitive_there b e = refl

  pub types_there : Tested w any_text (has_type p)
  types_there = record { of_text = λ f ty any. text_there f ty; of_class = class_there; of_primitive = primitive_there }
