-- The classes of a world: no two have one name, so a class is found by its name.
use Rattle.std.proofs.Common.{◌≡◌, ℕ, ◌+◌, ◌<◌, Bool, true, false, ◌&&◌, List, ◌++◌, map, length, take, slice_get, Option, Some, None, option_map, bytes_eq, refl, sym, ap, ◌∙◌, arith}
use Rattle.std.specs.List.{list_any, position_from}
use Rattle.std.proofs.lemmas.Bool.{or_parts}
use Rattle.std.proofs.lemmas.Option.{same_Some}
use Rattle.kilim_lemmas.proofs.Lists.{front_none}
use Rattle.kilim_lemmas.proofs.Truth.{rest_is_false}
use Rattle.kilim_lemmas.proofs.Texts.{text_is, same_text}
use Rattle.kilim_class_file.specs.declared.class_file.ClassFile.{ClassFile}
use Rattle.kilim_program.specs.declared.class.Class.{Class}
use Rattle.kilim_program.specs.declared.class.Field.{Field}
use Rattle.kilim_program.specs.declared.class.Form.{Form}
use Rattle.kilim_program.specs.declared.class.Form.TheVariants.{Plain, Woven}
use Rattle.kilim_program.specs.declared.class.Method.{Method}
use Rattle.kilim_program.specs.declared.names.ClassId.{ClassId}
use Rattle.kilim_program.specs.BuiltIn.{built_in_classes_in, class_id}
use Rattle.kilim_program.specs.Same.{all_differ}
use Rattle.kilim_link_spec.specs.Faults.{declared_twice, is_built_in_name}
use Rattle.kilim_link_spec.specs.Laws.{NoProblem}
use Rattle.kilim_link_spec.specs.World.{World, built_ins, class_of, is_message_by, number_of, outline_with, own_name, view_of_built_in, view_of_file, world_of}
use Rattle.kilim_link_spec.specs.declared.view.ClassView.{ClassView}
use Rattle.kilim_link_laws.proofs.Linking.{Linking, not_so}
use Rattle.kilim_link_laws.proofs.Lists.{Left, Origin, Right, Side, differ_at, get_take, none_at, origin, side}
use Rattle.kilim_link_laws.proofs.Named.{class_from_outlined, position, position_at, texts_back}

abbrev pub built_views : Form → List ClassView
built_views form = map (view_of_built_in (built_ins form)) (built_in_classes_in form 0 0)

abbrev pub views : List ClassFile → Form → List ClassView
views files form = map view_of_file files ++ built_views form

pub classes_are_views : (files : List ClassFile) (form : Form) → (world_of files form).classes ≡ views files form
unfolding world_of
classes_are_views files form = refl

-- ---- no two have one name

abbrev same_name : ClassView → ClassView → Bool
same_name a b = bytes_eq a.name b.name

built_apart : (form : Form) → all_differ same_name (built_views form) ≡ true
built_apart Plain = refl
built_apart Woven = refl

record NotGiven (w : World) (file : ClassFile) (c : ClassId) : Type 0 where
  before : list_any (λ v. bytes_eq v.name (own_name file)) (take c.0 w.classes) ≡ false
  built_in : is_built_in_name w (own_name file) ≡ false

not_given : (w : World) (file : ClassFile) (c : ClassId) → NoProblem w file c → NotGiven w file c
unfolding declared_twice
not_given w file c n = let parts = or_parts _ _ (not_so _ _ (front_none _ _ n.not_twice)) in record { before = parts.0; built_in = parts.1 }

module _ (files : List ClassFile) (form : Form) (classes : List Class) (fields : List Field) (methods : List Method) (l : Linking files form classes fields methods) where
  abbrev w : World
  w = world_of files form

  apart_from_file : (i j : ℕ) (u v : ClassView) → i < j → slice_get (views files form) i ≡ Some u → Origin view_of_file files j v → bytes_eq u.name v.name ≡ false
  unfolding world_of
  apart_from_file i j u v less there o =
      let given = not_given w o.of (class_id j) (l.none j o.of o.at) in
      ap (λ (z : ClassView). bytes_eq u.name z.name) (sym o.is) ∙ none_at (λ (z : ClassView). bytes_eq z.name (own_name o.of)) (take j (views files form)) given.before i u (get_take (views files form) j i less ∙ there)

  file_from_built : (i j k : ℕ) (u v : ClassView) → Origin view_of_file files i u → slice_get (views files form) j ≡ Some v → Origin (view_of_built_in (built_ins form)) (built_in_classes_in form 0 0) k v → bytes_eq u.name v.name ≡ false
  unfolding world_of
  file_from_built i j k u v o there b =
      let given = not_given w o.of (class_id i) (l.none i o.of o.at) in
      let apart = none_at (λ (z : ClassView). z.is_built_in && bytes_eq z.name (own_name o.of)) (views files form) given.built_in j v there in
      let built : v.is_built_in ≡ true = ap (λ (z : ClassView). z.is_built_in) (sym b.is) in
      ap (λ (z : ClassView). bytes_eq z.name v.name) (sym o.is) ∙ texts_back v.name (own_name o.of) (rest_is_false v.is_built_in (bytes_eq v.name (own_name o.of)) built apart)

  built_from : (i j k : ℕ) (u v : ClassView) → i < j → slice_get (views files form) j ≡ Some v → j ≡ length (map view_of_file files) + k → slice_get (built_views form) k ≡ Some v →
      Side (map view_of_file files) (built_views form) i u → bytes_eq u.name v.name ≡ false
  built_from i j k u v less there is e (Left f) =
      file_from_built i j k u v (origin view_of_file files i u f) there (origin (view_of_built_in (built_ins form)) (built_in_classes_in form 0 0) k v e)
  built_from i j k u v less there is e (Right m at f) = differ_at same_name (built_views form) (built_apart form) m k u v (omega (arith, at, is, less)) f e

  apart_by : (i j : ℕ) (u v : ClassView) → i < j → slice_get (views files form) i ≡ Some u → slice_get (views files form) j ≡ Some v →
      Side (map view_of_file files) (built_views form) j v → bytes_eq u.name v.name ≡ false
  apart_by i j u v less first second (Left e) = apart_from_file i j u v less first (origin view_of_file files j v e)
  apart_by i j u v less first second (Right k is e) = built_from i j k u v less second is e (side (map view_of_file files) (built_views form) i u first)

  pub names_apart : (i j : ℕ) (u v : ClassView) → i < j → slice_get (views files form) i ≡ Some u → slice_get (views files form) j ≡ Some v → bytes_eq u.name v.name ≡ false
  names_apart i j u v less first second = apart_by i j u v less first second (side (map view_of_file files) (built_views form) j v second)

  pub number_at : (n : ℕ) (v : ClassView) → slice_get (views files form) n ≡ Some v → number_of (views files form) v.name ≡ Some (class_id n)
  number_at n v there =
      let number : 0 + n ≡ n = omega arith in
      ap (option_map class_id) (position_at (λ (u : ClassView). bytes_eq u.name v.name) 0 (views files form) n v there (same_text v.name v.name refl) (λ i y less e. names_apart i n y v less e there) ∙ ap Some number)

-- ---- the class of a name is its number

pub class_of_is : (files : List ClassFile) (form : Form) (name : List ℕ) → class_of (world_of files form) name ≡ number_of (views files form) name
unfolding world_of
class_of_is files form name = class_from_outlined (views files form) (λ c v. is_message_by (outline_with form (views files form) (λ d u. u.is_marked)) c) name 0 (views files form)

-- the class that is found
pub record FoundView (files : List ClassFile) (form : Form) (name : List ℕ) (c : ClassId) : Type 0 where
  pub view : ClassView
  pub at : slice_get (views files form) c.0 ≡ Some view
  pub is : view.name ≡ name

found_by : (files : List ClassFile) (form : Form) (name : List ℕ) (c : ClassId) (o : Option ℕ) → position_from (λ (v : ClassView). bytes_eq v.name name) 0 (views files form) ≡ o → option_map class_id o ≡ Some c → FoundView files form name c
found_by files form name c None at e = absurd (cc)
found_by files form name c (Some n) at e =
    let p = position (λ (v : ClassView). bytes_eq v.name name) 0 (views files form) n at in
    let number : c.0 ≡ p.place = let same = ap (λ (d : ClassId). d.0) (same_Some (class_id n) c e) in let is = p.is in omega (arith, same, is) in
    record { view = p.of; at = ap (slice_get (views files form)) number ∙ p.at; is = text_is p.of.name name p.passes }

pub found_view : (files : List ClassFile) (form : Form) (name : List ℕ) (c : ClassId) → class_of (world_of files form) name ≡ Some c → FoundView files form name c
found_view files form name c e = found_by files form name c (position_from (λ (v : ClassView). bytes_eq v.name name) 0 (views files form)) refl (sym (class_of_is files form name) ∙ e)
