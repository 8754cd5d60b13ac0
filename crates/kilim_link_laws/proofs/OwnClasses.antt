-- No class of the files is `kilim/Fiber`, and their superclasses are of the files, `java/lang/Object`,
-- `kilim/Task` or a class of exceptions.
use Rattle.std.proofs.Common.{◌≡◌, ℕ, ◌+◌, Bool, true, false, ◌||◌, not, nat_lt, List, [], map, length, take, slice_get, Option, Some, None, option_map, bytes_eq, codes, refl, sym, ap, ◌∙◌, arith}
use Rattle.std.specs.List.{list_all, list_any}
use Rattle.std.proofs.lemmas.Bool.{and_from, and_parts, lt-ltb, not_from_false, or_left, or_parts, or_right}
use Rattle.std.proofs.lemmas.List.{length-append, length-map, take_at}
use Rattle.std.proofs.lemmas.Option.{same_Some, slice_get_within}
use Rattle.kilim_lemmas.proofs.Lists.{get_right, get_left}
use Rattle.kilim_lemmas.proofs.Truth.{rest_is_false}
use Rattle.kilim_class_file.specs.declared.class_file.ClassFile.{ClassFile}
use Rattle.kilim_program.specs.declared.class.Class.{Class}
use Rattle.kilim_program.specs.declared.class.Field.{Field}
use Rattle.kilim_program.specs.declared.class.Form.{Form}
use Rattle.kilim_program.specs.declared.class.Form.TheVariants.{Plain, Woven}
use Rattle.kilim_program.specs.declared.class.Method.{Method}
use Rattle.kilim_program.specs.declared.names.ClassId.{ClassId}
use Rattle.kilim_program.specs.Program.{Program}
use Rattle.kilim_program.specs.BuiltIn.{built_in_classes_in, class_id, is_exception}
use Rattle.kilim_program.specs.Keeps.{is_open_superclass, own_class_fits, own_classes_fit, own_count}
use Rattle.kilim_program.specs.Names.{class_name}
use Rattle.kilim_link_spec.specs.Faults.{is_fiber, is_open, is_open_class, may_extend}
use Rattle.kilim_link_spec.specs.Laws.{LinkedInParts, NoneHasAProblem, NoneOfEachKind}
use Rattle.kilim_link_spec.specs.Linked.{linked_class, program_with}
use Rattle.kilim_link_spec.specs.Mentions.{class_names}
use Rattle.kilim_link_spec.specs.Qualified.{has_fiber}
use Rattle.kilim_link_spec.specs.World.{World, built_ins, class_of, is_message_by, outline_with, own_name, super_name, view_at, view_of_built_in, view_of_file, world_of}
use Rattle.kilim_link_spec.specs.declared.view.ClassView.{ClassView}
use Rattle.kilim_link_laws.specs.Facts.{OwnClassesFit}
use Rattle.kilim_link_laws.proofs.Bridge.{LinkedClass, linked_class_is}
use Rattle.kilim_link_laws.proofs.Classes.{extends}
use Rattle.kilim_link_laws.proofs.LeftOut.{nothing_left_out}
use Rattle.kilim_link_laws.proofs.Linking.{Linking, linking}
use Rattle.kilim_link_laws.proofs.Lists.{Left, Right, Side, all_by_places, mapped_at, origin, side}
use Rattle.kilim_link_laws.proofs.Made.{file_made}
use Rattle.kilim_link_laws.proofs.Named.{outlined_at, outlined_one}
use Rattle.kilim_link_laws.proofs.Origins as origins
use Rattle.kilim_link_laws.proofs.Origins.{length-built_in}
use Rattle.kilim_link_laws.proofs.Unique as unique
use Rattle.kilim_link_laws.proofs.Unique.{built_views, found_view, views}

-- ---- no problem

open_up : (w : World) (c up : ClassId) (o : Option ClassId) → o ≡ Some up → may_extend w c o ≡ true → is_open_class (view_at w up) ≡ true
open_up w c up None is e = absurd (cc)
open_up w c up (Some d) is e = ap (λ (f : ClassId). is_open_class (view_at w f)) (sym (same_Some d up is)) ∙ (and_parts (is_open_class (view_at w d)) _ e).0

-- in woven form the fiber is the last of the built-in classes
fiber_view : (view : ClassView) × (slice_get (built_views Woven) 18 ≡ Some view) × (view.name ≡ codes "kilim/Fiber")
fiber_view = (_, refl, refl)

module _ (files : List ClassFile) (form : Form) (classes : List Class) (fields : List Field) (methods : List Method) (l : Linking files form classes fields methods) where
  abbrev w : World
  w = world_of files form

  abbrev p : Program
  p = program_with files form classes fields methods

  abbrev len : ℕ
  len = length files

  abbrev mark : ClassId → ClassView → Bool
  mark c v = is_message_by (outline_with form (views files form) (λ d u. u.is_marked)) c

  -- a class of the program has the name of its view
  view_name : (n : ℕ) (v : ClassView) → slice_get (views files form) n ≡ Some v → class_name p (class_id n) ≡ v.name
  unfolding world_of
  view_name n v there =
      let a = origins.agree files form classes fields methods l in
      sym (a.names (class_id n))
      ∙ ap (λ (o : Option Class). elim o [ None ↦ [] | Some class ↦ class.name ]) (outlined_at (views files form) mark 0 (views files form) n ∙ ap (option_map (outlined_one (views files form) mark (0 + n))) there)

  own : own_count p ≡ len
  own =
      let built = built_in_classes_in form len (length methods) in
      let both = length-append classes built in
      let count = origins.count files form classes fields methods l in
      let shifted = length-built_in form len (length methods) in
      omega (arith, both, count, shifted)

  -- ---- superclasses

  named_open : (v : ClassView) → v.is_built_in ≡ true → is_open v ≡ true → (bytes_eq v.name (codes "java/lang/Object") || (bytes_eq v.name (codes "kilim/Task") || is_exception v.name)) ≡ true
  named_open v built e = second (not v.is_built_in) _ (ap not built) (and_parts (not v.is_final) _ e).1
    where
      second : (a b : Bool) → a ≡ false → (a || b) ≡ true → b ≡ true
      second true b none e = absurd (cc)
      second false b none e = e

  open_by : (up : ClassId) (v : ClassView) → slice_get (views files form) up.0 ≡ Some v → is_open v ≡ true → Side (map view_of_file files) (built_views form) up.0 v → is_open_superclass p (Some up) ≡ true
  open_by up v there e (Left at) =
      let within = slice_get_within (map view_of_file files) up.0 v at in
      let views_count = length-map files view_of_file in
      let count = own in
      or_left _ _ (lt-ltb up.0 (own_count p) (omega (arith, within, views_count, count)))
  open_by up v there e (Right k is at) =
      let o = origin (view_of_built_in (built_ins form)) (built_in_classes_in form 0 0) k v at in
      let built : v.is_built_in ≡ true = ap (λ (z : ClassView). z.is_built_in) (sym o.is) in
      or_right (nat_lt up.0 (own_count p)) _ (ap (λ (name : List ℕ). bytes_eq name (codes "java/lang/Object") || (bytes_eq name (codes "kilim/Task") || is_exception name)) (view_name up.0 v there) ∙ named_open v built e)

  open_super : (n : ℕ) (file : ClassFile) (class : Class) → slice_get files n ≡ Some file → LinkedClass w file (class_id n) class → is_open_superclass p class.superclass ≡ true
  unfolding world_of
  open_super n file class there made =
      let f = found_view files form (super_name file) made.up made.up_is in
      let opened = open_up w (class_id n) made.up (class_of w (super_name file)) made.up_is (extends w file (class_id n) (l.none n file there)) in
      let is_one : is_open f.view ≡ true = ap is_open_class (sym f.at) ∙ opened in
      ap (λ (k : Class). is_open_superclass p k.superclass) (sym made.is) ∙ open_by made.up f.view f.at is_one (side (map view_of_file files) (built_views form) made.up.0 f.view f.at)

  -- ---- names

  no_fiber_by : (f : Form) → form ≡ f → (n : ℕ) (file : ClassFile) → slice_get files n ≡ Some file → bytes_eq (own_name file) (codes "kilim/Fiber") ≡ false
  unfolding world_of
  no_fiber_by Plain is n file there =
      let plain : not (has_fiber form) ≡ true = ap (λ (f : Form). not (has_fiber f)) is in
      (or_parts (is_fiber (own_name file)) (list_any is_fiber (class_names file)) (rest_is_false _ _ plain (nothing_left_out w file (class_id n) (l.none n file there)).fiber)).0
  no_fiber_by Woven is n file there =
      let v = fiber_view in
      let within = slice_get_within files n file there in
      let views_count = length-map files view_of_file in
      let here = get_left (map view_of_file files) (built_views form) n (view_of_file file) (mapped_at view_of_file files n file there) in
      let place = length (map view_of_file files) + 18 in
      let fiber : slice_get (views files form) place ≡ Some v.0 = get_right (map view_of_file files) (built_views form) place 18 refl ∙ (ap (λ (f : Form). slice_get (built_views f) 18) is ∙ v.1) in
      ap (bytes_eq (own_name file)) (sym v.2) ∙ unique.names_apart files form classes fields methods l n place (view_of_file file) v.0 (omega (arith, within, views_count)) here fiber

  fits_at : (n : ℕ) (class : Class) → slice_get classes n ≡ Some class → own_class_fits p class ≡ true
  fits_at n class there =
      let f = file_made (linked_class w) files classes l.classes_are n class there in
      let made = linked_class_is w f.file (class_id n) class f.is in
      let name : bytes_eq class.name (codes "kilim/Fiber") ≡ false = ap (λ (k : Class). bytes_eq k.name (codes "kilim/Fiber")) (sym made.is) ∙ no_fiber_by form refl n f.file f.at in
      and_from _ _ (not_from_false _ name) (open_super n f.file class f.at made)

  pub own_fit : own_classes_fit p ≡ true
  unfolding own_classes_fit
  own_fit =
      let count = origins.count files form classes fields methods l in
      ap (λ (n : ℕ). list_all (own_class_fits p) (take n p.classes)) (own ∙ sym count)
      ∙ (ap (list_all (own_class_fits p)) (take_at classes (built_in_classes_in form len (length methods)) (length classes) refl)
      ∙ all_by_places (own_class_fits p) classes fits_at)

module _ (in_parts : LinkedInParts) (none_has : NoneHasAProblem) (of_each : NoneOfEachKind) where
  pub own_classes_fit_of : OwnClassesFit
  own_classes_fit_of files form p well = linking in_parts none_has of_each (λ q. own_classes_fit q ≡ true) files form p well (own_fit files form)
