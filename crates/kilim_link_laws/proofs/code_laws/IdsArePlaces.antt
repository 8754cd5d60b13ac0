-- Each id in a linked program is a place in its list.
use Rattle.std.proofs.Common.{◌≡◌, ℕ, zero, suc, ◌+◌, ◌<◌, ◌≤◌, Bool, true, List, ◌++◌, length, map, Option, Some, None, refl, ap, sym, subst, ◌∙◌, lit<, arith}
use Rattle.std.specs.Prelude.{◌&&◌, nat_lt}
use Rattle.std.specs.List.{list_all, flat_map, range_with_len, AllByRecursion}
use Rattle.std.proofs.lemmas.Bool.{and_from, lt-ltb}
use Rattle.std.proofs.lemmas.List.{length-append, length-map}
use Rattle.std.proofs.lemmas.List.Folds.{list_all-append, list_all-map}
use Rattle.std.proofs.lemmas.Option.{same_Some, slice_get_within}
use Rattle.kilim_class_attributes.specs.declared.attribute.Code.{Code}
use Rattle.kilim_class_file.specs.declared.class_file.ClassFile.{ClassFile}
use Rattle.kilim_class_file.specs.declared.class_file.MemberInfo.{MemberInfo}
use Rattle.kilim_program.specs.declared.class.Class.{Class}
use Rattle.kilim_program.specs.declared.class.Field.{Field}
use Rattle.kilim_program.specs.declared.class.Form.{Form}
use Rattle.kilim_program.specs.declared.class.Form.TheVariants.{Plain, Woven}
use Rattle.kilim_program.specs.declared.class.Method.{Method}
use Rattle.kilim_program.specs.declared.names.ClassId.{ClassId}
use Rattle.kilim_program.specs.BuiltIn.{built_in_classes_in, built_in_methods_in, class_id, message_field, method_id}
use Rattle.kilim_program.specs.Keeps.{class_ids_there, has_class, has_field, has_method, has_type, ids_are_places, members_there, types_of_method}
use Rattle.kilim_program.specs.Program.{Program}
use Rattle.kilim_link_spec.specs.Code.{decoded}
use Rattle.kilim_link_spec.specs.Laws.{LinkedInParts, Parts}
use Rattle.kilim_link_spec.specs.Linked.{body_in, code_attribute, linked_class, linked_field, linked_method, no_body}
use Rattle.kilim_link_spec.specs.declared.named.Body.{Body}
use Rattle.kilim_link_spec.specs.Mentions.{mentions_of, types_mentioned}
use Rattle.kilim_link_spec.specs.declared.named.Mention.TheVariants.{OfField}
use Rattle.kilim_link_spec.specs.World.{World, class_of, declared_field, declared_method, field_id, first_field, first_method, member_descriptor, super_name, view_of_file, world_of}
use Rattle.kilim_link_laws.proofs.code_laws.BuiltInIds.{built_in_classes_there, built_in_owned, built_in_typed, class_count, class_total, method_count, method_total}
use Rattle.kilim_link_laws.proofs.code_laws.Counts.{Counts, ViewAt, count_fields, count_methods, counts, sum_within, views_there}
use Rattle.kilim_link_laws.proofs.code_laws.Files.{each_file_map}
use Rattle.kilim_link_laws.proofs.code_laws.FoundIds.{any_text, class_there, types_there}
use Rattle.kilim_link_laws.proofs.code_laws.Lists.{EachFile, all_from, all_map, members_pass, numbered_pass, made_length}
use Rattle.kilim_link_laws.proofs.code_laws.Members.{body_parts, bound, field_parts, method_parts}
use Rattle.kilim_link_laws.proofs.code_laws.Mentions.{FileMentions, MethodMentions, file_mentions}
use Rattle.kilim_link_laws.proofs.code_laws.NamedMembers.{code_there}
use Rattle.kilim_link_laws.proofs.code_laws.TestedMethods.{field_passes, method_passes}
use Rattle.kilim_link_laws.proofs.code_laws.TestedTypes.{GoodMention, flat_passes}
use Rattle.kilim_link_laws.specs.code_laws.Facts.{IdsArePlaces}

-- ---- numbers in a row

row_there : {A : Type 0} (test : A → Bool) (make : ℕ → A) (count : ℕ) → ((i : ℕ) → i < count → test (make i) ≡ true) → (first n : ℕ) → first + n ≤ count → list_all test (map make (range_with_len first n)) ≡ true
row_there test make count each first zero room = refl
row_there test make count each first (suc n) room = and_from _ _ (each first (omega (arith, room))) (row_there test make count each (first + 1) n (omega (arith, room)))

-- ---- of linked classes and members

nothing_asked : (file : ClassFile) → FileMentions (GoodMention any_text) file
nothing_asked file = file_mentions (GoodMention any_text) file (all_from (GoodMention any_text) (λ m. all_from any_text (λ f. tt) (types_mentioned m)) (mentions_of file))

module _ (w : World) (p : Program) (c : Counts w p) where
  file_class : (file : ClassFile) (class : ClassId) → ViewAt w.classes file class → has_class p class ≡ true
  file_class file class at =
      let l = slice_get_within w.classes class.0 (view_of_file file) at in
      let same = c.classes in
      lt-ltb class.0 (length p.classes) (omega (arith, l, same))

  own_fields : (file : ClassFile) (class : ClassId) → ViewAt w.classes file class → list_all (has_field p) (map field_id (range_with_len (first_field w class) (length file.fields))) ≡ true
  own_fields file class at =
      let all = sum_within count_fields w.classes class.0 (view_of_file file) at in
      let own = length-map file.fields (declared_field file) in
      let same = c.fields in
      row_there (has_field p) field_id (length p.fields) (λ i l. lt-ltb i (length p.fields) l) (first_field w class) (length file.fields) (omega (arith, all, own, same))

  own_methods : (file : ClassFile) (class : ClassId) → ViewAt w.classes file class → list_all (has_method p) (map method_id (range_with_len (first_method w class) (length file.methods))) ≡ true
  own_methods file class at =
      let all = sum_within count_methods w.classes class.0 (view_of_file file) at in
      let own = length-map file.methods (declared_method file) in
      let same = c.methods in
      row_there (has_method p) method_id (length p.methods) (λ i l. lt-ltb i (length p.methods) l) (first_method w class) (length file.methods) (omega (arith, all, own, same))

  linked_class_ids : (file : ClassFile) (class : ClassId) → ViewAt w.classes file class → (y : Class) → linked_class w file class ≡ Some y → class_ids_there p y ≡ true
  linked_class_ids file class at y e =
      let b = bound (class_of w (super_name file)) _ y e in
      subst (λ x. class_ids_there p x ≡ true) (same_Some _ y b.then)
      (and_from _ _ (class_there w p c (super_name file) b.x b.there) (and_from _ _ (own_fields file class at) (own_methods file class at)))

  field_owner : (file : ClassFile) (class : ClassId) → ViewAt w.classes file class → (field : MemberInfo) (y : Field) → linked_field w file class field ≡ Some y → has_class p y.owner ≡ true
  field_owner file class at field y e =
      let f = field_parts w file class field y e in
      subst (λ x. has_class p x.owner ≡ true) (sym f.is) (file_class file class at)

  body_members : (file : ClassFile) (class : ClassId) (method : MemberInfo) (code : Option Code) (body : Body) → body_in w file class method code ≡ Some body → list_all (λ e. members_there p e.1) body.code ≡ true
  body_members file class method None body e = subst (λ b. list_all (λ x. members_there p x.1) b.code ≡ true) (same_Some no_body body e) refl
  body_members file class method (Some code) body e =
      let b = body_parts w file class method code body e in
      subst (λ x. list_all (λ i. members_there p i.1) x.code ≡ true) (sym b.is) (code_there w p c file.constant_pool (decoded code.code) b.instrs b.instrs_are)

  abbrev method_ids : Method → Bool
  method_ids m = has_class p m.owner && list_all (λ e. members_there p e.1) m.code

  linked_method_ids : (file : ClassFile) (class : ClassId) → ViewAt w.classes file class → (method : MemberInfo) (y : Method) → linked_method w file class method ≡ Some y → method_ids y ≡ true
  linked_method_ids file class at method y e =
      let m = method_parts w file class method y e in
      subst (λ x. method_ids x ≡ true) (sym m.is) (and_from _ _ (file_class file class at) (body_members file class method (code_attribute method) m.body m.body_is))

  method_types : (file : ClassFile) (class : ClassId) → ViewAt w.classes file class → AllByRecursion (λ m. (y : Method) → linked_method w file class m ≡ Some y → list_all (has_type p) (types_of_method y) ≡ true) file.methods
  method_types file class at =
      all_map (MethodMentions (GoodMention any_text) file) _ (method_passes w any_text (has_type p) (types_there w p c) file class (file_class file class at)) file.methods (nothing_asked file).methods

  field_types : (file : ClassFile) (class : ClassId) → AllByRecursion (λ f. (y : Field) → linked_field w file class f ≡ Some y → has_type p y.ty ≡ true) file.fields
  field_types file class =
      all_map (λ f. GoodMention any_text (OfField (member_descriptor file f))) _ (field_passes w any_text (has_type p) (types_there w p c) file class) file.fields (nothing_asked file).fields

one_less : (form : Form) → 1 < class_count form
one_less Plain = lit< tt
one_less Woven = lit< tt

seven_less : (form : Form) → 7 < class_count form
seven_less Plain = lit< tt
seven_less Woven = lit< tt

-- ---- all of it

module _ (files : List ClassFile) (form : Form) (p : Program) (parts : Parts files form p) where
  abbrev w : World
  w = world_of files form

  abbrev n : ℕ
  n = length files

  c : Counts w p
  c = counts files form p parts

  views : EachFile (ViewAt w.classes) 0 files
  views = views_there files form

  class_room : n + class_count form ≤ length p.classes
  class_room =
      let own = made_length (linked_class w) 0 files parts.classes parts.classes_are in
      let all : length p.classes ≡ length (parts.classes ++ built_in_classes_in form n (length parts.methods)) = ap (λ (q : Program). length q.classes) parts.is in
      let both = length-append parts.classes (built_in_classes_in form n (length parts.methods)) in
      let built = class_total form n (length parts.methods) in
      omega (arith, own, all, both, built)

  method_room : length parts.methods + method_count form ≤ length p.methods
  method_room =
      let all : length p.methods ≡ length (parts.methods ++ built_in_methods_in form n) = ap (λ (q : Program). length q.methods) parts.is in
      let both = length-append parts.methods (built_in_methods_in form n) in
      let built = method_total form n in
      omega (arith, all, both, built)

  first_field_there : has_field p message_field ≡ true
  first_field_there =
      let many : length p.fields ≡ suc (length parts.fields) = ap (λ (q : Program). length q.fields) parts.is in
      lt-ltb 0 (length p.fields) (omega (arith, many))

  classes_there : list_all (class_ids_there p) p.classes ≡ true
  classes_there =
      let each = each_file_map (ViewAt w.classes) _ (linked_class_ids w p c) 0 files views in
      let own = numbered_pass (class_ids_there p) (linked_class w) 0 files parts.classes each parts.classes_are in
      let built = built_in_classes_in form n (length parts.methods) in
      ap (λ (q : Program). list_all (class_ids_there p) q.classes) parts.is
      ∙ (list_all-append (class_ids_there p) parts.classes built ∙ and_from _ _ own (built_in_classes_there p form n (length parts.methods) class_room method_room first_field_there))

  built_class : (k : ℕ) → k < class_count form → has_class p (class_id (n + k)) ≡ true
  built_class k less = let room = class_room in lt-ltb (n + k) (length p.classes) (omega (arith, room, less))

  owners_there : list_all (λ f. has_class p f.owner) p.fields ≡ true
  owners_there =
      let test : Field → Bool = λ f. has_class p f.owner in
      let each = each_file_map (ViewAt w.classes) _ (λ file class at. all_from _ (field_owner w p c file class at) file.fields) 0 files views in
      ap (λ (q : Program). list_all test q.fields) parts.is ∙ and_from _ _ (built_class 7 (seven_less form)) (members_pass test (λ file. file.fields) (linked_field w) 0 files parts.fields each parts.fields_are)

  methods_there : list_all (method_ids w p c) p.methods ≡ true
  methods_there =
      let test = method_ids w p c in
      let each = each_file_map (ViewAt w.classes) _ (λ file class at. all_from _ (linked_method_ids w p c file class at) file.methods) 0 files views in
      let own = members_pass test (λ file. file.methods) (linked_method w) 0 files parts.methods each parts.methods_are in
      ap (λ (q : Program). list_all test q.methods) parts.is
      ∙ (list_all-append test parts.methods (built_in_methods_in form n) ∙ and_from _ _ own (built_in_owned p form n (members_there p) class_room))

  types_of_fields : list_all (has_type p) (map (λ f. f.ty) p.fields) ≡ true
  types_of_fields =
      let test : Field → Bool = λ f. has_type p f.ty in
      let each = each_file_map (ViewAt w.classes) _ (λ file class at. field_types w p c file class) 0 files views in
      let own = members_pass test (λ file. file.fields) (linked_field w) 0 files parts.fields each parts.fields_are in
      list_all-map (has_type p) (λ (f : Field). f.ty) p.fields ∙ (ap (λ (q : Program). list_all test q.fields) parts.is ∙ and_from _ _ (built_class 1 (one_less form)) own)

  types_of_methods : list_all (has_type p) (flat_map types_of_method p.methods) ≡ true
  types_of_methods =
      let test : Method → Bool = λ m. list_all (has_type p) (types_of_method m) in
      let each = each_file_map (ViewAt w.classes) _ (method_types w p c) 0 files views in
      let own = members_pass test (λ file. file.methods) (linked_method w) 0 files parts.methods each parts.methods_are in
      flat_passes (has_type p) types_of_method p.methods
      (ap (λ (q : Program). list_all test q.methods) parts.is ∙ (list_all-append test parts.methods (built_in_methods_in form n) ∙ and_from _ _ own (built_in_typed p form n class_room)))

  pub places : ids_are_places p ≡ true
  unfolding ids_are_places
  places =
      and_from _ _ classes_there (and_from _ _ owners_there (and_from _ _ methods_there
      (list_all-append (has_type p) (map (λ (f : Field). f.ty) p.fields) (flat_map types_of_method p.methods) ∙ and_from _ _ types_of_fields types_of_methods)))

module _ (in_parts : LinkedInParts) where
  pub ids_are_places_there : IdsArePlaces
  ids_are_places_there files form p l = places files form p (in_parts files form p l.linked)
