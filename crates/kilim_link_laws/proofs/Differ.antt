-- No two classes have one name, and no two members of a class one name and descriptor.
use Rattle.std.proofs.Common.{◌≡◌, ℕ, zero, suc, ◌+◌, ◌<◌, ◌≤◌, Bool, true, false, ◌&&◌, ◌==◌, not, List, [], ◌∷◌, length, slice_get, Option, Some, None, option_map, bytes_eq, codes, refl, sym, ap, ◌∙◌, eqb-true, arith}
use Rattle.std.specs.List.{list_any}
use Rattle.std.proofs.lemmas.Bool.{and_from, and_parts, both_ways, false_from_ne_true, or_from, or_parts}
use Rattle.std.proofs.lemmas.Option.{same_Some, none-some, slice_get_within}
use Rattle.kilim_lemmas.proofs.Lists.{front_none, rest_none, map_none, cond_none}
use Rattle.kilim_lemmas.proofs.Texts.{text_is, same_text}
use Rattle.kilim_class_file.specs.declared.class_file.ClassFile.{ClassFile}
use Rattle.kilim_class_file.specs.declared.class_file.MemberInfo.{MemberInfo}
use Rattle.kilim_program.specs.declared.class.Class.{Class}
use Rattle.kilim_program.specs.declared.class.Field.{Field}
use Rattle.kilim_program.specs.declared.class.Form.{Form}
use Rattle.kilim_program.specs.declared.class.Method.{Method}
use Rattle.kilim_program.specs.declared.names.ClassId.{ClassId}
use Rattle.kilim_program.specs.Program.{Program}
use Rattle.kilim_program.specs.BuiltIn.{built_in_methods_in, class_id, class_type}
use Rattle.kilim_program.specs.Keeps.{names_differ}
use Rattle.kilim_program.specs.Same.{all_differ, same_field, same_method, same_result, same_signature, same_type, same_types}
use Rattle.kilim_link_spec.specs.Faults.{declared_twice, repeated, repeated_names, same_member}
use Rattle.kilim_link_spec.specs.Laws.{LinkedInParts, NoProblem, NoneHasAProblem, NoneOfEachKind}
use Rattle.kilim_link_spec.specs.Linked.{linked_field, linked_method, program_with}
use Rattle.kilim_link_spec.specs.World.{World, is_message_by, member_descriptor, member_name, outline_with, world_of}
use Rattle.kilim_link_spec.specs.declared.view.ClassView.{ClassView}
use Rattle.kilim_link_laws.specs.Bridge.{bare}
use Rattle.kilim_link_laws.specs.Facts.{NamesDiffer}
use Rattle.kilim_link_laws.proofs.Bridge as bridge
use Rattle.kilim_link_laws.proofs.LinkedMembers.{LinkedMethod, linked_field_is, linked_method_is}
use Rattle.kilim_link_laws.proofs.Linking.{Linking, linking}
use Rattle.kilim_link_laws.proofs.Lists.{Left, Right, Side, differ_at, differ_by_places, get_map, side}
use Rattle.kilim_link_laws.proofs.Members.{MemberMade, before, member_made}
use Rattle.kilim_link_laws.proofs.Named.{outlined_at, outlined_one}
use Rattle.kilim_link_laws.proofs.Resolved.{Resolves, result_same, same_descriptor, same_field_text, type_same, types_same}
use Rattle.kilim_link_laws.proofs.Seen.{seen_own}
use Rattle.kilim_link_laws.proofs.Shifted.{built_in_method_of, methods_differ, same_method_shifted, shift_method}
use Rattle.kilim_link_laws.proofs.Unique as unique
use Rattle.kilim_link_laws.proofs.Unique.{views}

-- ---- none is repeated

no_before : {A : Type 0} (same : A → A → Bool) (front xs : List A) → repeated same front xs ≡ [] → (j : ℕ) (y : A) → slice_get xs j ≡ Some y → list_any (same y) front ≡ false
no_before same front [] e j y there = absurd (none-some y there)
no_before same front (x ∷ xs) e zero y there = ap (λ (z : _). list_any (same z) front) (sym (same_Some x y there)) ∙ (cond_none (list_any (same x) front) x (repeated same (x ∷ front) xs) e).0
no_before same front (x ∷ xs) e (suc j) y there =
    let rest = (cond_none (list_any (same x) front) x (repeated same (x ∷ front) xs) e).1 in
    (or_parts (same y x) (list_any (same y) front) (no_before same (x ∷ front) xs rest j y there)).1

none_repeated : {A : Type 0} (same : A → A → Bool) (front xs : List A) → repeated same front xs ≡ [] → (i j : ℕ) (x y : A) → i < j → slice_get xs i ≡ Some x → slice_get xs j ≡ Some y → same y x ≡ false
none_repeated same front [] e i j x y less first second = absurd (none-some x first)
none_repeated same front (z ∷ xs) e i zero x y less first second = absurd (omega (arith, less))
none_repeated same front (z ∷ xs) e zero (suc j) x y less first second =
    let rest = (cond_none (list_any (same z) front) z (repeated same (z ∷ front) xs) e).1 in
    ap (same y) (sym (same_Some z x first)) ∙ (or_parts (same y z) (list_any (same y) front) (no_before same (z ∷ front) xs rest j y second)).0
none_repeated same front (z ∷ xs) e (suc i) (suc j) x y less first second =
    let rest = (cond_none (list_any (same z) front) z (repeated same (z ∷ front) xs) e).1 in
    none_repeated same (z ∷ front) xs rest i j x y (omega (arith, less)) first second

record NoneTwice (file : ClassFile) : Type 0 where
  fields : repeated (same_member file) [] file.fields ≡ []
  methods : repeated (same_member file) [] file.methods ≡ []

none_twice : (w : World) (file : ClassFile) (c : ClassId) → NoProblem w file c → NoneTwice file
unfolding declared_twice
none_twice w file c n =
    let members = rest_none _ _ n.not_twice in
    record { fields = map_none _ _ (front_none (repeated_names file file.fields) (repeated_names file file.methods) members); methods = map_none _ _ (rest_none (repeated_names file file.fields) (repeated_names file file.methods) members) }

-- ---- members of one kind

-- members that are said to be the same have one owner, one name and one descriptor; then one of them was declared twice
module _ {A : Type 0} (list : ClassFile → List MemberInfo) (make : ClassFile → ClassId → MemberInfo → Option A) (files : List ClassFile)
    (once : (n : ℕ) (file : ClassFile) → slice_get files n ≡ Some file → repeated (same_member file) [] (list file) ≡ []) where
  apart : (i j : ℕ) (x y : A) → i < j → (m : MemberMade list make files i x) → (o : MemberMade list make files j y) → m.class ≡ o.class →
      member_name m.file m.member ≡ member_name o.file o.member → member_descriptor m.file m.member ≡ member_descriptor o.file o.member → ⊥
  apart i j x y less m o class names descriptors =
      let file : m.file ≡ o.file = same_Some m.file o.file (sym m.file_at ∙ (ap (slice_get files) class ∙ o.file_at)) in
      let here : slice_get (list o.file) m.place ≡ Some m.member = ap (λ (f : ClassFile). slice_get (list f) m.place) (sym file) ∙ m.member_at in
      let start : before list files m.class ≡ before list files o.class = ap (before list files) class in
      let first = m.is in
      let second = o.is in
      let name : member_name o.file o.member ≡ member_name o.file m.member = sym names ∙ ap (λ (f : ClassFile). member_name f m.member) file in
      let descriptor : member_descriptor o.file o.member ≡ member_descriptor o.file m.member = sym descriptors ∙ ap (λ (f : ClassFile). member_descriptor f m.member) file in
      both_ways (same_member o.file o.member m.member)
      (none_repeated (same_member o.file) [] (list o.file) (once o.class o.file o.file_at) m.place o.place m.member o.member (omega (arith, start, first, second, less)) here o.member_at)
      (and_from _ _ (same_text _ _ name) (same_text _ _ descriptor))

-- ---- what same members are

record SameField (a b : Field) : Type 0 where
  owners : a.owner.0 ≡ b.owner.0
  names : a.name ≡ b.name
  types : a.ty ≡ b.ty

same_field_is : (a b : Field) → same_field a b ≡ true → SameField a b
same_field_is a b e =
    let parts = and_parts (a.owner.0 == b.owner.0) (bytes_eq a.name b.name && same_type a.ty b.ty) e in
    let rest = and_parts (bytes_eq a.name b.name) (same_type a.ty b.ty) parts.1 in
    record { owners = eqb-true a.owner.0 b.owner.0 parts.0; names = text_is a.name b.name rest.0; types = type_same a.ty b.ty rest.1 }

pub record SameSignature (a b : Method) : Type 0 where
  pub names : a.name ≡ b.name
  pub params : a.params ≡ b.params
  pub results : a.result ≡ b.result

pub same_signature_is : (a b : Method) → same_signature a b ≡ true → SameSignature a b
same_signature_is a b e =
    let parts = and_parts (bytes_eq a.name b.name) (same_types a.params b.params && same_result a.result b.result) e in
    let rest = and_parts (same_types a.params b.params) (same_result a.result b.result) parts.1 in
    record { names = text_is a.name b.name parts.0; params = types_same a.params b.params rest.0; results = result_same a.result b.result rest.1 }

module _ (files : List ClassFile) (form : Form) (classes : List Class) (fields : List Field) (methods : List Method) (l : Linking files form classes fields methods) where
  abbrev w : World
  w = world_of files form

  abbrev p : Program
  p = program_with files form classes fields methods

  -- ---- classes

  abbrev mark : ClassId → ClassView → Bool
  mark c v = is_message_by (outline_with form (views files form) (λ d u. u.is_marked)) c

  pub record ViewOf (n : ℕ) (class : Class) : Type 0 where
    pub view : ClassView
    pub at : slice_get (views files form) n ≡ Some view
    pub name : view.name ≡ class.name

  view_by : (n : ℕ) (class : Class) (o : Option ClassView) → slice_get (views files form) n ≡ o → option_map (outlined_one (views files form) mark (0 + n)) o ≡ Some (bare class) → ViewOf n class
  view_by n class None at e = absurd (none-some (bare class) e)
  view_by n class (Some v) at e = record { view = v; at = at; name = ap (λ (c : Class). c.name) (same_Some (outlined_one (views files form) mark (0 + n) v) (bare class) e) }

  pub view_of : (n : ℕ) (class : Class) → slice_get p.classes n ≡ Some class → ViewOf n class
  unfolding world_of
  view_of n class there =
      let outline = ap (λ (q : Program). slice_get q.classes n) (bridge.outline_is_bared files form classes fields methods l) in
      view_by n class (slice_get (views files form) n) refl
      (sym (outlined_at (views files form) mark 0 (views files form) n) ∙ (outline ∙ (get_map bare p.classes n ∙ ap (option_map bare) there)))

  pub classes_differ : all_differ (λ (a b : Class). bytes_eq a.name b.name) p.classes ≡ true
  classes_differ = differ_by_places (λ (a b : Class). bytes_eq a.name b.name) p.classes (λ i j a b less first second.
      let v = view_of i a first in
      let u = view_of j b second in
      ap (λ (n : List ℕ). bytes_eq n b.name) (sym v.name) ∙ (ap (bytes_eq v.view.name) (sym u.name) ∙ unique.names_apart files form classes fields methods l i j v.view u.view less v.at u.at))

  -- ---- fields

  two_fields : (i j : ℕ) (a b : Field) → i < j → slice_get fields i ≡ Some a → slice_get fields j ≡ Some b → SameField a b → ⊥
  two_fields i j a b less first second same =
      let m = member_made (λ file. file.fields) (linked_field w) files fields l.fields_are i a first in
      let o = member_made (λ file. file.fields) (linked_field w) files fields l.fields_are j b second in
      let f = linked_field_is w m.file (class_id m.class) m.member a m.made in
      let g = linked_field_is w o.file (class_id o.class) o.member b o.made in
      let class : m.class ≡ o.class = ap (λ (x : Field). x.owner.0) f.is ∙ (same.owners ∙ sym (ap (λ (x : Field). x.owner.0) g.is)) in
      let names : member_name m.file m.member ≡ member_name o.file o.member = ap (λ (x : Field). x.name) f.is ∙ (same.names ∙ sym (ap (λ (x : Field). x.name) g.is)) in
      let types : f.ty ≡ g.ty = ap (λ (x : Field). x.ty) f.is ∙ (same.types ∙ sym (ap (λ (x : Field). x.ty) g.is)) in
      apart (λ file. file.fields) (linked_field w) files (λ n file at. (none_twice w file (class_id n) (l.none n file at)).fields) i j a b less m o class names
      (same_field_text files form _ _ f.text g.text f.ty g.ty f.text_is g.text_is f.ty_is g.ty_is types)

  own_fields_differ : all_differ same_field fields ≡ true
  own_fields_differ = differ_by_places same_field fields (λ i j a b less first second. false_from_ne_true (same_field a b) (λ e. two_fields i j a b less first second (same_field_is a b e)))

  field_owner : (i : ℕ) (a : Field) → slice_get fields i ≡ Some a → a.owner.0 < length files
  field_owner i a there =
      let m = member_made (λ file. file.fields) (linked_field w) files fields l.fields_are i a there in
      let f = linked_field_is w m.file (class_id m.class) m.member a m.made in
      let owner : m.class ≡ a.owner.0 = ap (λ (x : Field). x.owner.0) f.is in
      let within = slice_get_within files m.class m.file m.file_at in
      omega (arith, owner, within)

  -- the built-in field is of a class behind those of the files
  first_differs : (built : Field) → length files ≤ built.owner.0 → (xs : List Field) → ((i : ℕ) (a : Field) → slice_get xs i ≡ Some a → a.owner.0 < length files) → list_any (same_field built) xs ≡ false
  first_differs built late [] below = refl
  first_differs built late (x ∷ xs) below =
      or_from _ _ (false_from_ne_true (same_field built x) (λ e. let owners = (same_field_is built x e).owners in let less = below 0 x refl in omega (arith, owners, less, late)))
      (first_differs built late xs (λ i a at. below (suc i) a at))

  abbrev text_field : Field
  text_field = record { name = codes "message"; ty = class_type (length files + 1); owner = class_id (length files + 7); is_static = false; is_private = true; constant = None }

  pub fields_differ : all_differ same_field p.fields ≡ true
  fields_differ = and_from _ _ (ap not (first_differs text_field (omega arith) fields field_owner)) own_fields_differ

  -- ---- methods

  resolves : (file : ClassFile) (c : ClassId) (member : MemberInfo) (method : Method) → LinkedMethod w file c member method → Resolves w (member_descriptor file member) method.params method.result
  resolves file c member method m = (seen_own w file c member method m).types

  own_methods : (i j : ℕ) (a b : Method) → i < j → slice_get methods i ≡ Some a → slice_get methods j ≡ Some b → a.owner.0 ≡ b.owner.0 → SameSignature a b → ⊥
  own_methods i j a b less first second owners same =
      let m = member_made (λ file. file.methods) (linked_method w) files methods l.methods_are i a first in
      let o = member_made (λ file. file.methods) (linked_method w) files methods l.methods_are j b second in
      let f = linked_method_is w m.file (class_id m.class) m.member a m.made in
      let g = linked_method_is w o.file (class_id o.class) o.member b o.made in
      let class : m.class ≡ o.class = ap (λ (x : Method). x.owner.0) f.is ∙ (owners ∙ sym (ap (λ (x : Method). x.owner.0) g.is)) in
      let names : member_name m.file m.member ≡ member_name o.file o.member = ap (λ (x : Method). x.name) f.is ∙ (same.names ∙ sym (ap (λ (x : Method). x.name) g.is)) in
      apart (λ file. file.methods) (linked_method w) files (λ n file at. (none_twice w file (class_id n) (l.none n file at)).methods) i j a b less m o class names
      (same_descriptor files form _ _ a.params b.params a.result b.result (resolves m.file (class_id m.class) m.member a f) (resolves o.file (class_id o.class) o.member b g) same.params same.results)

  abbrev built : List Method
  built = built_in_methods_in form (length files)

  own_owner : (i : ℕ) (a : Method) → slice_get methods i ≡ Some a → a.owner.0 < length files
  own_owner i a there =
      let m = member_made (λ file. file.methods) (linked_method w) files methods l.methods_are i a there in
      let f = linked_method_is w m.file (class_id m.class) m.member a m.made in
      let owner : m.class ≡ a.owner.0 = ap (λ (x : Method). x.owner.0) f.is in
      let within = slice_get_within files m.class m.file m.file_at in
      omega (arith, owner, within)

  built_owner : (k : ℕ) (a : Method) → slice_get built k ≡ Some a → length files ≤ a.owner.0
  built_owner k a there =
      let o = built_in_method_of form (length files) k a there in
      let owner : length files + o.of.owner.0 ≡ a.owner.0 = ap (λ (x : Method). x.owner.0) o.is in
      omega (arith, owner)

  two_by : (i j : ℕ) (a b : Method) → i < j → Side methods built i a → Side methods built j b → same_method a b ≡ true → ⊥
  two_by i j a b less (Left e) (Left f) same =
      let parts = and_parts (a.owner.0 == b.owner.0) (same_signature a b) same in
      own_methods i j a b less e f (eqb-true a.owner.0 b.owner.0 parts.0) (same_signature_is a b parts.1)
  two_by i j a b less (Left e) (Right k is f) same =
      let own = own_owner i a e in
      let other = built_owner k b f in
      let owners = eqb-true a.owner.0 b.owner.0 (and_parts (a.owner.0 == b.owner.0) (same_signature a b) same).0 in
      omega (arith, own, other, owners)
  two_by i j a b less (Right k is e) (Left f) same = let within = slice_get_within methods j b f in omega (arith, is, within, less)
  two_by i j a b less (Right k is e) (Right n at f) same =
      let o = built_in_method_of form (length files) k a e in
      let q = built_in_method_of form (length files) n b f in
      both_ways (same_method o.of q.of) (differ_at same_method (built_in_methods_in form 0) (methods_differ form) k n o.of q.of (omega (arith, is, at, less)) o.at q.at)
      (sym (same_method_shifted (length files) o.of q.of) ∙ (ap (λ (x : Method). same_method x (shift_method (length files) q.of)) o.is ∙ (ap (same_method a) q.is ∙ same)))

  pub all_methods_differ : all_differ same_method p.methods ≡ true
  all_methods_differ = differ_by_places same_method p.methods (λ i j a b less first second. false_from_ne_true (same_method a b) (λ e. two_by i j a b less (side methods built i a first) (side methods built j b second) e))

  pub differ : names_differ p ≡ true
  unfolding names_differ
  differ = and_from _ _ classes_differ (and_from _ _ fields_differ all_methods_differ)

module _ (in_parts : LinkedInParts) (none_has : NoneHasAProblem) (of_each : NoneOfEachKind) where
  pub names_differ_of : NamesDiffer
  names_differ_of files form p well = linking in_parts none_has of_each (λ q. names_differ q ≡ true) files form p well (differ files form)
