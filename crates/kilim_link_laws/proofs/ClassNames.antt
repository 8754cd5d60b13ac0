-- No class's name begins with `[`.
use Rattle.std.proofs.Common.{◌≡◌, ℕ, Bool, true, false, ◌||◌, not, ◌==◌, List, [], ◌∷◌, length, slice_get, Some, refl, sym, ap, ◌∙◌}
use Rattle.std.specs.List.{list_all, slice_split}
use Rattle.std.proofs.lemmas.Bool.{and_from, and_parts, not-true, not_from_false, or_parts}
use Rattle.std.proofs.lemmas.List.Folds.{list_all-append}
use Rattle.kilim_class_file.specs.declared.class_file.ClassFile.{ClassFile}
use Rattle.kilim_program.specs.declared.class.Class.{Class}
use Rattle.kilim_program.specs.declared.class.Field.{Field}
use Rattle.kilim_program.specs.declared.class.Form.{Form}
use Rattle.kilim_program.specs.declared.class.Form.TheVariants.{Plain, Woven}
use Rattle.kilim_program.specs.declared.class.Method.{Method}
use Rattle.kilim_program.specs.declared.names.ClassId.{ClassId}
use Rattle.kilim_program.specs.BuiltIn.{built_in_classes_in, class_id}
use Rattle.kilim_program.specs.Keeps.{begins_as_array, none_is_named_as_array}
use Rattle.kilim_program.specs.Names.{is_empty}
use Rattle.kilim_link_spec.specs.Faults.{is_class_name, name_broken}
use Rattle.kilim_link_spec.specs.Laws.{LinkedInParts, NoProblem, NoneHasAProblem, NoneOfEachKind}
use Rattle.kilim_link_spec.specs.Linked.{linked_class, program_with}
use Rattle.kilim_link_spec.specs.World.{World, own_name, world_of}
use Rattle.kilim_link_laws.specs.Facts.{EachIsNamed, NoneIsNamedAsArray, each_is_named}
use Rattle.kilim_link_laws.proofs.Bridge.{linked_class_is}
use Rattle.kilim_link_laws.proofs.Linking.{Linking, linking, not_so}
use Rattle.kilim_link_laws.proofs.Lists.{all_by_places}
use Rattle.kilim_link_laws.proofs.Made.{file_made}

abbrev is_no_array : List ℕ → Bool
is_no_array name = not (begins_as_array name)

-- none of the units of a class name is `[`
unit_is_no_array : (name : List ℕ) → list_all (λ u. not (u == 46 || u == 59 || u == 91)) name ≡ true → is_no_array name ≡ true
unit_is_no_array [] all = refl
unit_is_no_array (u ∷ us) all =
    let first = not-true _ (and_parts (not (u == 46 || u == 59 || u == 91)) (list_all (λ v. not (v == 46 || v == 59 || v == 91)) us) all).0 in
    not_from_false (u == 91) (or_parts (u == 46 || u == 59) (u == 91) first).1

name_is_no_array : (name : List ℕ) → is_class_name name ≡ true → is_no_array name ≡ true
unfolding is_class_name
name_is_no_array name e = unit_is_no_array name (and_parts _ _ (and_parts (list_all (λ p. not (is_empty p)) (slice_split (λ u. u == 47) name)) _ e).1).0

-- it isn't empty
name_is_some : (name : List ℕ) → is_class_name name ≡ true → not (is_empty name) ≡ true
unfolding is_class_name
name_is_some [] e = absurd (cc)
name_is_some (u ∷ us) e = refl

not_not : (b : Bool) → not b ≡ false → b ≡ true
not_not true e = refl
not_not false e = absurd (cc)

own_name_is : (w : World) (file : ClassFile) (c : ClassId) → NoProblem w file c → is_class_name (own_name file) ≡ true
unfolding name_broken
own_name_is w file c none = not_not _ (not_so _ _ none.name_is_whole)

built_in_names : (form : Form) (first method : ℕ) → list_all (λ class. is_no_array class.name) (built_in_classes_in form first method) ≡ true
built_in_names Plain first method = refl
built_in_names Woven first method = refl

built_in_some : (form : Form) (first method : ℕ) → list_all (λ class. not (is_empty class.name)) (built_in_classes_in form first method) ≡ true
built_in_some Plain first method = refl
built_in_some Woven first method = refl

module _ (files : List ClassFile) (form : Form) (classes : List Class) (fields : List Field) (methods : List Method) (l : Linking files form classes fields methods) where
  abbrev w : World
  w = world_of files form

  own_at : (n : ℕ) (class : Class) → slice_get classes n ≡ Some class → is_no_array class.name ≡ true
  own_at n class there =
      let f = file_made (linked_class w) files classes l.classes_are n class there in
      let made = linked_class_is w f.file (class_id n) class f.is in
      ap (λ (k : Class). is_no_array k.name) (sym made.is) ∙ name_is_no_array (own_name f.file) (own_name_is w f.file (class_id n) (l.none n f.file f.at))

  pub none_is_array : none_is_named_as_array (program_with files form classes fields methods) ≡ true
  unfolding none_is_named_as_array
  none_is_array =
      let built = built_in_classes_in form (length files) (length methods) in
      list_all-append (λ (class : Class). is_no_array class.name) classes built
      ∙ and_from _ _ (all_by_places (λ (class : Class). is_no_array class.name) classes own_at) (built_in_names form (length files) (length methods))

  some_at : (n : ℕ) (class : Class) → slice_get classes n ≡ Some class → not (is_empty class.name) ≡ true
  some_at n class there =
      let f = file_made (linked_class w) files classes l.classes_are n class there in
      let made = linked_class_is w f.file (class_id n) class f.is in
      ap (λ (k : Class). not (is_empty k.name)) (sym made.is) ∙ name_is_some (own_name f.file) (own_name_is w f.file (class_id n) (l.none n f.file f.at))

  pub all_named : each_is_named (program_with files form classes fields methods) ≡ true
  unfolding each_is_named
  all_named =
      let built = built_in_classes_in form (length files) (length methods) in
      list_all-append (λ (class : Class). not (is_empty class.name)) classes built
      ∙ and_from _ _ (all_by_places (λ (class : Class). not (is_empty class.name)) classes some_at) (built_in_some form (length files) (length methods))

module _ (in_parts : LinkedInParts) (none_has : NoneHasAProblem) (of_each : NoneOfEachKind) where
  pub none_is_named_as_array_of : NoneIsNamedAsArray
  none_is_named_as_array_of files form p well = linking in_parts none_has of_each (λ q. none_is_named_as_array q ≡ true) files form p well (none_is_array files form)

  pub each_is_named_of : EachIsNamed
  each_is_named_of files form p well = linking in_parts none_has of_each (λ q. each_is_named q ≡ true) files form p well (all_named files form)
