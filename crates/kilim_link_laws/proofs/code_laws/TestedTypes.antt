-- The types that a linked method names pass a test, where those of texts and classes do.
use Rattle.std.proofs.Common.{◌≡◌, ℕ, suc, Bool, true, List, [], ◌∷◌, Option, Some, None, refl, ap, subst, ◌∙◌, option_map, option_to_list}
use Rattle.std.specs.List.{list_all, flat_map, AllByRecursion}
use Rattle.std.proofs.lemmas.Bool.{and_from, and_parts}
use Rattle.std.proofs.lemmas.List.Folds.{list_all-append}
use Rattle.std.proofs.lemmas.Option.{same_Some, none-some}
use Rattle.kilim_class_descriptors.specs.declared.types.BaseText.TheVariants as text
use Rattle.kilim_class_descriptors.specs.declared.types.FieldText.{FieldText}
use Rattle.kilim_program.specs.declared.names.ClassId.{ClassId}
use Rattle.kilim_program.specs.declared.ty.Base.{Base}
use Rattle.kilim_program.specs.declared.ty.Base.TheVariants as base
use Rattle.kilim_program.specs.declared.ty.Ty.{Ty}
use Rattle.kilim_program.specs.Keeps.{array_of}
use Rattle.kilim_program.specs.Lengths.{is_primitive}
use Rattle.kilim_link_spec.specs.Mentions.{types_mentioned}
use Rattle.kilim_link_spec.specs.declared.named.Mention.{Mention}
use Rattle.kilim_link_spec.specs.declared.named.Mention.TheVariants.{OfClass, OfElement}
use Rattle.kilim_link_spec.specs.Types.{base_in, type_in, type_named, class_named_by, result_in, result_types, typed, each_of}
use Rattle.kilim_link_spec.specs.declared.named.Named.{Named}
use Rattle.kilim_link_spec.specs.declared.named.Named.TheVariants.{AClass, AnArray, Malformed}
use Rattle.kilim_link_spec.specs.World.{World, class_of}
use Rattle.kilim_link_laws.proofs.code_laws.Lists.{all_map, each_of_all}
use Rattle.kilim_link_laws.proofs.code_laws.Rows.{mapped}

-- A test that the types of good texts pass, and those of classes, and arrays of int-like types and longs.
pub record Tested (w : World) (Good : FieldText → Type 0) (test : Ty → Bool) : Type 0 where
  pub of_text : (f : FieldText) (ty : Ty) → Good f → type_in w f ≡ Some ty → test ty ≡ true
  pub of_class : (name : List ℕ) (c : ClassId) → class_of w name ≡ Some c → test (typed 0 (base.Class c)) ≡ true
  pub of_primitive : (element : Base) → is_primitive element ≡ true → test (typed 1 element) ≡ true

-- what is mentioned is good
abbrev pub GoodMention : (FieldText → Type 0) → Mention → Type 0
GoodMention Good m = AllByRecursion Good (types_mentioned m)

pub one_passes : (test : Ty → Bool) (ty : Ty) → test ty ≡ true → list_all test (ty ∷ []) ≡ true
one_passes test ty f = and_from _ _ f refl

pub flat_passes : {A B : Type 0} (test : B → Bool) (f : A → List B) (xs : List A) → list_all (λ x. list_all test (f x)) xs ≡ true → list_all test (flat_map f xs) ≡ true
flat_passes test f [] e = refl
flat_passes test f (x ∷ xs) e =
    let both = and_parts (list_all test (f x)) (list_all (λ y. list_all test (f y)) xs) e in
    list_all-append test (f x) (flat_map f xs) ∙ and_from _ _ both.0 (flat_passes test f xs both.1)

module _ (w : World) (Good : FieldText → Type 0) (test : Ty → Bool) (tested : Tested w Good test) where
  pub types_pass : (fs : List FieldText) (tys : List Ty) → AllByRecursion Good fs → each_of (type_in w) fs ≡ Some tys → list_all test tys ≡ true
  types_pass fs tys good e = each_of_all (type_in w) test fs tys (all_map Good _ (λ f one ty there. tested.of_text f ty one there) fs good) e

  pub result_passes : (result : Option FieldText) (ty : Option Ty) → AllByRecursion Good (result_types result) → result_in w result ≡ Some ty → list_all test (option_to_list ty) ≡ true
  result_passes None ty good e = subst (λ o. list_all test (option_to_list o) ≡ true) (same_Some None ty e) refl
  result_passes (Some f) ty good e =
      let m = mapped (λ (t : Ty). Some t) (type_in w f) ty e in
      subst (λ o. list_all test (option_to_list o) ≡ true) m.is (one_passes test m.x (tested.of_text f m.x good.0 m.there))

  -- what a class entry names, and an array of it
  pub named_passes : (class : Named) (ty : Ty) → GoodMention Good (OfClass class) → type_named w class ≡ Some ty → test ty ≡ true
  named_passes (AClass name) ty good e =
      let m = mapped (λ (c : ClassId). typed 0 (base.Class c)) (class_of w name) ty e in
      subst (λ t. test t ≡ true) m.is (tested.of_class name m.x m.there)
  named_passes (AnArray type) ty good e = tested.of_text type ty good.0 e
  named_passes (Malformed name) ty good e = absurd (none-some ty e)

  pub element_passes : (class : Named) (ty : Ty) → GoodMention Good (OfElement class) → type_named w class ≡ Some ty → test (array_of ty) ≡ true
  element_passes (AClass name) ty good e =
      let m = mapped (λ (c : ClassId). typed 0 (base.Class c)) (class_of w name) ty e in
      subst (λ t. test (array_of t) ≡ true) m.is
      (tested.of_text (record { dims = 1; base = text.Class name }) (typed 1 (base.Class m.x)) good.0 (ap (λ o. option_map (typed 1) (option_map base.Class o)) m.there))
  element_passes (AnArray type) ty good e =
      let m = mapped (typed type.dims) (base_in w type.base) ty e in
      subst (λ t. test (array_of t) ≡ true) m.is (tested.of_text (record type { dims = suc type.dims }) (typed (suc type.dims) m.x) good.0 (ap (option_map (typed (suc type.dims))) m.there))
  element_passes (Malformed name) ty good e = absurd (none-some ty e)

  -- a class that is no array
  pub class_passes : (class : Named) (c : ClassId) → class_named_by w class ≡ Some c → test (typed 0 (base.Class c)) ≡ true
  class_passes (AClass name) c e = tested.of_class name c e
  class_passes (AnArray type) c e = absurd (none-some c e)
  class_passes (Malformed name) c e = absurd (none-some c e)
