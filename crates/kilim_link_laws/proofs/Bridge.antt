-- The outline of a world is the program that its files link to, without its members: class for class.
use Rattle.std.proofs.Common.{◌≡◌, ℕ, ◌+◌, ◌-◌, ◌<◌, ◌≤◌, Bool, List, [], map, length, slice_get, Option, Some, None, option_map, refl, sym, ap, subst, ◌∙◌, ⊎_elim, arith}
use Rattle.std.specs.List.{range_with_len}
use Rattle.std.proofs.lemmas.Bool.{cases_lt}
use Rattle.std.proofs.lemmas.List.{length-map}
use Rattle.std.proofs.lemmas.Option.{same_Some, none-some}
use Rattle.kilim_lemmas.proofs.Lists.{get_right, get_left, get_some}
use Rattle.kilim_class_file.specs.declared.class_file.ClassFile.{ClassFile}
use Rattle.kilim_program.specs.declared.class.Class.{Class}
use Rattle.kilim_program.specs.declared.class.Field.{Field}
use Rattle.kilim_program.specs.declared.class.Form.{Form}
use Rattle.kilim_program.specs.declared.class.Method.{Method}
use Rattle.kilim_program.specs.declared.names.ClassId.{ClassId}
use Rattle.kilim_program.specs.Program.{Program}
use Rattle.kilim_program.specs.BuiltIn.{built_in_classes_in, class_id, method_id}
use Rattle.kilim_program.specs.Kinds.{is_marked, is_message}
use Rattle.kilim_program.specs.Names.{◌>>=◌}
use Rattle.kilim_link_spec.specs.Laws.{LinkedInParts, NoneHasAProblem, NoneOfEachKind}
use Rattle.kilim_link_spec.specs.Linked.{linked_class, program_with}
use Rattle.kilim_link_spec.specs.World.{World, acc_abstract, built_ins, class_of, field_id, first_field, first_method, has_flag, is_message_by, number_of, outline_with, outlined, own_name, super_name, view_of_built_in, view_of_file, world_of}
use Rattle.kilim_link_spec.specs.declared.view.ClassView.{ClassView}
use Rattle.kilim_link_laws.specs.Bridge.{Agree, BaredAgrees, OutlineAgrees, OutlineIsBared, bare, bared}
use Rattle.kilim_link_laws.proofs.Linking.{Linking, linking}
use Rattle.kilim_link_laws.proofs.Lists.{get_map, mapped_at, same_by_places}
use Rattle.kilim_link_laws.proofs.Made.{each_length, file_makes, length-numbered}
use Rattle.kilim_link_laws.proofs.Named.{outlined_at, outlined_one}
use Rattle.kilim_link_laws.proofs.Outline as outline
use Rattle.kilim_link_laws.proofs.Outline.{bare_built_in, placed}
use Rattle.kilim_link_laws.proofs.Shifted.{shift_class}
use Rattle.kilim_link_laws.proofs.Unique.{built_views, class_of_is, views}
use Rattle.kilim_link_spec.specs.Types.{itself}

-- what a class of a file is linked to
abbrev pub linked_with : World → ClassFile → ClassId → ClassId → Class
linked_with w file c up = record {
  name = own_name file;
  superclass = Some up;
  is_abstract = has_flag acc_abstract file.access_flags;
  message = is_message w.outline c;
  fields = map field_id (range_with_len (first_field w c) (length file.fields));
  methods = map method_id (range_with_len (first_method w c) (length file.methods));
}

pub record LinkedClass (w : World) (file : ClassFile) (c : ClassId) (class : Class) : Type 0 where
  pub up : ClassId
  pub up_is : class_of w (super_name file) ≡ Some up
  pub is : linked_with w file c up ≡ class

linked_by : (w : World) (file : ClassFile) (c : ClassId) (class : Class) (o : Option ClassId) → class_of w (super_name file) ≡ o → (o >>= λ (up : ClassId). Some (linked_with w file c up)) ≡ Some class → LinkedClass w file c class
linked_by w file c class None is e = absurd (none-some class e)
linked_by w file c class (Some up) is e = record { up = up; up_is = is; is = same_Some (linked_with w file c up) class e }

pub linked_class_is : (w : World) (file : ClassFile) (c : ClassId) (class : Class) → linked_class w file c ≡ Some class → LinkedClass w file c class
linked_class_is w file c class e = linked_by w file c class (class_of w (super_name file)) refl e

-- a record of a class by its parts
abbrev headed : List ℕ → Option ClassId → Bool → Bool → Class
headed name superclass is_abstract message = record { name = name; superclass = superclass; is_abstract = is_abstract; message = message; fields = []; methods = [] }

module _ (files : List ClassFile) (form : Form) (classes : List Class) (fields : List Field) (methods : List Method) (l : Linking files form classes fields methods) where
  abbrev w : World
  w = world_of files form

  abbrev p : Program
  p = program_with files form classes fields methods

  abbrev vs : List ClassView
  vs = views files form

  abbrev mark : ClassId → ClassView → Bool
  mark c v = is_message_by (outline_with form vs (λ d u. u.is_marked)) c

  pub length-classes : length classes ≡ length files
  length-classes = each_length itself _ classes l.classes_are ∙ length-numbered (linked_class w) 0 files

  file_view_at : (n : ℕ) (file : ClassFile) → slice_get files n ≡ Some file → slice_get vs n ≡ Some (view_of_file file)
  file_view_at n file there = get_left (map view_of_file files) (built_views form) n (view_of_file file) (mapped_at view_of_file files n file there)

  at_outline : (n : ℕ) → slice_get (outlined vs mark 0 vs) n ≡ option_map (outlined_one vs mark n) (slice_get vs n)
  at_outline n =
      let number : 0 + n ≡ n = omega arith in
      outlined_at vs mark 0 vs n ∙ ap (λ (k : ℕ). option_map (outlined_one vs mark k) (slice_get vs n)) number

  of_file : (n : ℕ) (file : ClassFile) (class : Class) → slice_get files n ≡ Some file → linked_class w file (class_id n) ≡ Some class → outlined_one vs mark n (view_of_file file) ≡ bare class
  unfolding world_of
  of_file n file class there made =
      let k = linked_class_is w file (class_id n) class made in
      let own = own_name file in
      let is_abstract = has_flag acc_abstract file.access_flags in
      let up : number_of vs (super_name file) ≡ Some k.up = sym (class_of_is files form (super_name file)) ∙ k.up_is in
      let message : is_message w.outline (class_id n) ≡ mark (class_id n) (view_of_file file) = ap is_marked (at_outline n ∙ ap (option_map (outlined_one vs mark n)) (file_view_at n file there)) in
      ap (λ (s : Option ClassId). headed own s is_abstract (mark (class_id n) (view_of_file file))) up
      ∙ (ap (λ (b : Bool). headed own (Some k.up) is_abstract b) (sym message) ∙ ap bare k.is)

  of_built_in : (n k : ℕ) (class : Class) → n ≡ length files + k → slice_get (built_in_classes_in form 0 0) k ≡ Some class → outlined_one vs mark n (view_of_built_in (built_ins form) class) ≡ placed (length files) class
  of_built_in n k class is there =
      ap (λ (s : Option ClassId). headed class.name s class.is_abstract (mark (class_id n) (view_of_built_in (built_ins form) class))) (outline.built_super files form classes fields methods l k class there)
      ∙ ap (λ (b : Bool). headed class.name (option_map (shift_class (length files)) class.superclass) class.is_abstract b)
      (ap (λ (m : ℕ). mark (class_id m) (view_of_built_in (built_ins form) class)) is ∙ outline.built_mark files form classes fields methods l k class there)

  at_file : (n : ℕ) → n < length files → option_map (outlined_one vs mark n) (slice_get vs n) ≡ option_map bare (slice_get p.classes n)
  at_file n less =
      let f = get_some files n less in
      let m = file_makes (linked_class w) files classes l.classes_are n f.0 f.1 in
      let built = built_in_classes_in form (length files) (length methods) in
      ap (option_map (outlined_one vs mark n)) (file_view_at n f.0 f.1)
      ∙ (ap Some (of_file n f.0 m.made f.1 m.is) ∙ ap (option_map bare) (sym (get_left classes built n m.made m.at)))

  built_by : (n k : ℕ) → n ≡ length files + k → (o : Option Class) → slice_get (built_in_classes_in form 0 0) k ≡ o →
      option_map (outlined_one vs mark n) (option_map (view_of_built_in (built_ins form)) o) ≡ option_map (placed (length files)) o
  built_by n k is None there = refl
  built_by n k is (Some class) there = ap Some (of_built_in n k class is there)

  at_built_in : (n k : ℕ) → n ≡ length files + k → option_map (outlined_one vs mark n) (slice_get vs n) ≡ option_map bare (slice_get p.classes n)
  at_built_in n k is =
      let built0 = built_in_classes_in form 0 0 in
      let built = built_in_classes_in form (length files) (length methods) in
      let views_count = length-map files view_of_file in
      let count = length-classes in
      let left : slice_get vs n ≡ slice_get (built_views form) k = get_right (map view_of_file files) (built_views form) n k (omega (arith, views_count, is)) in
      let right : slice_get p.classes n ≡ slice_get built k = get_right classes built n k (omega (arith, count, is)) in
      ap (option_map (outlined_one vs mark n)) (left ∙ get_map (view_of_built_in (built_ins form)) built0 k)
      ∙ (built_by n k is (slice_get built0 k) refl
      ∙ (sym (get_map (placed (length files)) built0 k)
      ∙ (ap (λ (cs : List Class). slice_get cs k) (sym (bare_built_in form (length files) (length methods)))
      ∙ (get_map bare built k ∙ ap (option_map bare) (sym right)))))

  at_place : (n : ℕ) → slice_get (outlined vs mark 0 vs) n ≡ slice_get (map bare p.classes) n
  at_place n =
      at_outline n
      ∙ (⊎_elim (λ (less : n < length files). at_file n less) (λ (more : length files ≤ n). let is : n ≡ length files + (n - length files) = omega (arith, more) in at_built_in n (n - length files) is) (cases_lt n (length files))
      ∙ sym (get_map bare p.classes n))

  pub outline_is_bared : w.outline ≡ bared p
  unfolding world_of
  outline_is_bared = ap (λ (cs : List Class). record { classes = cs; methods = []; fields = []; form = form }) (same_by_places (outlined vs mark 0 vs) (map bare p.classes) at_place)

module _ (in_parts : LinkedInParts) (none_has : NoneHasAProblem) (of_each : NoneOfEachKind) where
  pub outline_is : OutlineIsBared
  outline_is files form p well = linking in_parts none_has of_each (λ q. (world_of files form).outline ≡ bared q) files form p well (outline_is_bared files form)

pub agrees : BaredAgrees → OutlineIsBared → OutlineAgrees
agrees of_bared is files form p well = subst (λ (q : Program). Agree q p) (sym (is files form p well)) (of_bared p)
