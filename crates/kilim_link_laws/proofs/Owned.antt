-- A class's members are those that name it as owner, in their order.
use Rattle.std.proofs.Common.{◌≡◌, ◌⊎◌, ℕ, zero, suc, ◌+◌, ◌<◌, ◌≤◌, Bool, true, false, cond, ◌&&◌, if◌then◌else◌, List, [], ◌∷◌, ◌++◌, map, length, slice_get, Option, Some, bytes_eq, refl, sym, ap, subst, ◌∙◌, ⊎_elim, inl, inr, ne_eqb, ◌==◌, arith}
use Rattle.std.specs.List.{range_with_len}
use Rattle.kilim_program.proofs.BuiltIns.{each_class_at}
use Rattle.std.proofs.lemmas.Bool.{and_from, cond-false, cases_order, eq-eqb}
use Rattle.std.proofs.lemmas.List.{append-nil, length-map}
use Rattle.std.proofs.lemmas.Option.{same_Some, slice_get_within}
use Rattle.kilim_lemmas.proofs.Texts.{text_is, same_text}
use Rattle.kilim_class_file.specs.declared.class_file.ClassFile.{ClassFile}
use Rattle.kilim_class_file.specs.declared.class_file.MemberInfo.{MemberInfo}
use Rattle.kilim_program.specs.declared.class.Class.{Class}
use Rattle.kilim_program.specs.declared.class.Field.{Field}
use Rattle.kilim_program.specs.declared.class.Form.{Form}
use Rattle.kilim_program.specs.declared.class.Form.TheVariants.{Plain, Woven}
use Rattle.kilim_program.specs.declared.class.Method.{Method}
use Rattle.kilim_program.specs.declared.names.ClassId.{ClassId}
use Rattle.kilim_program.specs.declared.names.FieldId.{FieldId}
use Rattle.kilim_program.specs.declared.names.MethodId.{MethodId}
use Rattle.kilim_program.specs.Program.{Program}
use Rattle.kilim_program.specs.BuiltIn.{built_in_classes_in, built_in_methods_in, class_id, method_id}
use Rattle.kilim_program.specs.Keeps.{each_class_from, members_are_owned, owned_from}
use Rattle.kilim_link_spec.specs.Laws.{LinkedInParts, NoneHasAProblem, NoneOfEachKind}
use Rattle.kilim_link_spec.specs.Linked.{linked_field, linked_method, members, program_with}
use Rattle.kilim_link_spec.specs.Types.{each_of, itself}
use Rattle.kilim_link_spec.specs.World.{World, declared_field, declared_method, field_id, first_field, first_method, view_of_file, world_of}
use Rattle.kilim_link_laws.specs.Facts.{MembersAreOwned}
use Rattle.kilim_link_laws.proofs.Bridge.{LinkedClass}
use Rattle.kilim_link_laws.proofs.LinkedMembers.{linked_field_is, linked_method_is}
use Rattle.kilim_link_laws.proofs.Linking.{Linking, linking}
use Rattle.kilim_link_laws.proofs.Lists.{mapped_at}
use Rattle.kilim_link_laws.proofs.Made.{each_length}
use Rattle.kilim_link_laws.proofs.Members.{MemberMade, before, length-made, member_made}
use Rattle.kilim_link_laws.proofs.Origins as origins
use Rattle.kilim_link_laws.proofs.Origins.{ClassOrigin, OfBuiltIn, OfFile, built_in_of, each_by_places}
use Rattle.kilim_link_laws.proofs.Outline.{by_table}
use Rattle.kilim_link_laws.proofs.Owners.{before_all, before_is_sum, none_owned, owned-append, owned_by_numbers, owned_numbers, owned_shifted, row_owned}
use Rattle.kilim_link_laws.proofs.Unique.{built_views}

-- ---- of all files

-- the members before those of a file, and those of it, are not more than there are
module _ {A : Type 0} (list : ClassFile → List MemberInfo) (make : ClassFile → ClassId → MemberInfo → Option A) (owner : A → ClassId)
    (own : (file : ClassFile) (c : ClassId) (member : MemberInfo) (y : A) → make file c member ≡ Some y → owner y ≡ c)
    (files : List ClassFile) (ys : List A) (all : each_of itself (members list make files) ≡ Some ys) where
  row_within : (n : ℕ) (file : ClassFile) → slice_get files n ≡ Some file → before list files n + length (list file) ≤ length ys
  row_within n file there =
      let len = each_length itself (members list make files) ys all in
      let total = length-made list make 0 files in
      let past = before_all list files (length files) n file there (slice_get_within files n file there) in
      omega (arith, len, total, past)

  owner_is : (j : ℕ) (y : A) (m : MemberMade list make files j y) → (owner y).0 ≡ m.class
  owner_is j y m = ap (λ (c : ClassId). c.0) (own m.file (class_id m.class) m.member y m.made)

  pub owned_row : (n : ℕ) (file : ClassFile) → slice_get files n ≡ Some file → owned_from owner (class_id n) 0 ys ≡ range_with_len (before list files n) (length (list file))
  owned_row n file there =
      let number : 0 + before list files n ≡ before list files n = omega arith in
      row_owned owner (class_id n) 0 (before list files n) (length (list file)) ys (row_within n file there)
      (λ j y at low high. let m = member_made list make files ys all j y at in inside j y m low high)
      (λ j y at is. let m = member_made list make files ys all j y at in outside j y m is)
      ∙ ap (λ (k : ℕ). range_with_len k (length (list file))) number
    where
      inside : (j : ℕ) (y : A) (m : MemberMade list make files j y) → before list files n ≤ j → j < before list files n + length (list file) → (owner y).0 ≡ n
      inside j y m low high =
          let place = slice_get_within (list m.file) m.place m.member m.member_at in
          let is = m.is in
          owner_is j y m
          ∙ ⊎_elim (λ (same : m.class ≡ n). same)
          (⊎_elim (λ (less : m.class < n). let past = before_all list files n m.class m.file m.file_at less in absurd (omega (arith, past, place, is, low)))
          (λ (more : n < m.class). let past = before_all list files m.class n file there more in absurd (omega (arith, past, place, is, high)))) (cases_order m.class n)

      outside : (j : ℕ) (y : A) (m : MemberMade list make files j y) → (owner y).0 ≡ n → (before list files n ≤ j) × (j < before list files n + length (list file))
      outside j y m owned =
          let class : m.class ≡ n = sym (owner_is j y m) ∙ owned in
          let same_file : m.file ≡ file = same_Some m.file file (sym m.file_at ∙ (ap (slice_get files) class ∙ there)) in
          let place : m.place < length (list file) = subst (λ (f : ClassFile). m.place < length (list f)) same_file (slice_get_within (list m.file) m.place m.member m.member_at) in
          let start : before list files m.class ≡ before list files n = ap (before list files) class in
          let is = m.is in
          (omega (arith, start, is), omega (arith, start, is, place))

  pub none_of_later : (n : ℕ) → length files ≤ n → owned_from owner (class_id n) 0 ys ≡ []
  none_of_later n late = none_owned owner (class_id n) 0 ys (λ j y at owned.
      let m = member_made list make files ys all j y at in
      let within = slice_get_within files m.class m.file m.file_at in
      let class = sym (owner_is j y m) ∙ owned in
      omega (arith, within, class, late))

-- ---- the numbers of members

field_numbers : (xs : List ℕ) → map (λ (f : FieldId). f.0) (map field_id xs) ≡ xs
field_numbers [] = refl
field_numbers (x ∷ xs) = ap (λ (ys : List ℕ). x ∷ ys) (field_numbers xs)

method_numbers : (xs : List ℕ) → map (λ (m : MethodId). m.0) (map method_id xs) ≡ xs
method_numbers [] = refl
method_numbers (x ∷ xs) = ap (λ (ys : List ℕ). x ∷ ys) (method_numbers xs)

-- ---- built-in classes

abbrev pub numbers_of : Class → List ℕ
numbers_of class = map (λ (m : MethodId). m.0) class.methods

pub numbers_shifted : (form : Form) (first method : ℕ) → map numbers_of (built_in_classes_in form first method) ≡ map (λ (class : Class). map (λ (i : ℕ). method + i) (numbers_of class)) (built_in_classes_in form 0 0)
numbers_shifted Plain first method = refl
numbers_shifted Woven first method = refl

-- `java/lang/Throwable`, the eighth class, has the built-in field, and no other class has one
abbrev first_field_of : ℕ → List ℕ
first_field_of k = if 7 == k then 0 ∷ [] else []

field_table : (form : Form) (first method : ℕ) → each_class_from (λ c class. bytes_eq (map (λ (f : FieldId). f.0) class.fields) (first_field_of c.0)) 0 (built_in_classes_in form first method) ≡ true
field_table Plain first method = refl
field_table Woven first method = refl

-- ---- fields behind the first one

owned_later : {A : Type 0} (owner : A → ClassId) (c : ClassId) (n : ℕ) (xs : List A) → owned_from owner c (suc n) xs ≡ map suc (owned_from owner c n xs)
owned_later owner c n [] = refl
owned_later owner c n (x ∷ xs) = by ((owner x).0 == c.0) (owned_later owner c (suc n) xs)
  where
    by : (z : Bool) → owned_from owner c (suc (suc n)) xs ≡ map suc (owned_from owner c (suc n) xs) → cond z (suc n ∷ owned_from owner c (suc (suc n)) xs) (owned_from owner c (suc (suc n)) xs) ≡ map suc (cond z (n ∷ owned_from owner c (suc n) xs) (owned_from owner c (suc n) xs))
    by true again = ap (λ (ns : List ℕ). suc n ∷ ns) again
    by false again = again

range_later : (a n : ℕ) → range_with_len (suc a) n ≡ map suc (range_with_len a n)
range_later a zero = refl
range_later a (suc n) =
    let next : suc a + 1 ≡ suc (a + 1) = omega arith in
    ap (λ (ns : List ℕ). suc a ∷ ns) (ap (λ (k : ℕ). range_with_len k n) next ∙ range_later (a + 1) n)

-- the first number that is owned, by whether the number of the class is so far behind the first built-in class
first_owned : (len k : ℕ) → (len + 7 == len + k) ≡ (7 == k)
first_owned len k = by (cases_order 7 k)
  where
    by : (7 ≡ k) ⊎ ((7 < k) ⊎ (k < 7)) → (len + 7 == len + k) ≡ (7 == k)
    by (inl e) = subst (λ (n : ℕ). (len + 7 == len + n) ≡ (7 == n)) e (eq-eqb (len + 7) (len + 7) refl)
    by (inr other) = let ne : 7 ≡ k → ⊥ = λ e. ⊎_elim (λ l. omega (arith, l, e)) (λ l. omega (arith, l, e)) other in
        ne_eqb (len + 7) (len + k) (λ e. ne (omega (arith, e))) ∙ sym (ne_eqb 7 k ne)

behind_none : (a b c : List ℕ) → a ≡ [] → b ≡ c → a ++ b ≡ c
behind_none a b c none is = ap (λ (x : List ℕ). x ++ b) none ∙ is

abbrev owner_of : Method → ℕ
owner_of method = method.owner.0

same_head : (x y : ℕ) (zs : List ℕ) → x ≡ y → x ∷ zs ≡ y ∷ zs
same_head x y zs e = ap (λ (k : ℕ). k ∷ zs) e

owners_shifted : (form : Form) (first : ℕ) → map owner_of (built_in_methods_in form first) ≡ map (λ (x : ℕ). first + x) (map owner_of (built_in_methods_in form 0))
owners_shifted Plain first = let number : first ≡ first + 0 = omega arith in same_head first (first + 0) _ number
owners_shifted Woven first = let number : first ≡ first + 0 = omega arith in same_head first (first + 0) _ number

-- the table of each form
table : (form : Form) → each_class_from (λ c class. bytes_eq (numbers_of class) (owned_numbers c.0 0 (map owner_of (built_in_methods_in form 0)))) 0 (built_in_classes_in form 0 0) ≡ true
table Plain = refl
table Woven = refl

module _ (files : List ClassFile) (form : Form) (classes : List Class) (fields : List Field) (methods : List Method) (l : Linking files form classes fields methods) where
  abbrev w : World
  w = world_of files form

  abbrev p : Program
  p = program_with files form classes fields methods

  abbrev len : ℕ
  len = length files

  own_field : (file : ClassFile) (c : ClassId) (member : MemberInfo) (y : Field) → linked_field w file c member ≡ Some y → y.owner ≡ c
  own_field file c member y e = let m = linked_field_is w file c member y e in ap (λ (f : Field). f.owner) (sym m.is)

  own_method : (file : ClassFile) (c : ClassId) (member : MemberInfo) (y : Method) → linked_method w file c member ≡ Some y → y.owner ≡ c
  own_method file c member y e = let m = linked_method_is w file c member y e in ap (λ (f : Method). f.owner) (sym m.is)

  pub first_field_is : (n : ℕ) → n ≤ len → first_field w (class_id n) ≡ suc (before (λ file. file.fields) files n)
  unfolding world_of
  first_field_is n within = ap suc (before_is_sum (λ file. file.fields) view_of_file (λ v. length v.fields) (λ file. length-map file.fields (declared_field file)) files (built_views form) n within)

  pub first_method_is : (n : ℕ) → n ≤ len → first_method w (class_id n) ≡ before (λ file. file.methods) files n
  unfolding world_of
  first_method_is n within = before_is_sum (λ file. file.methods) view_of_file (λ v. length v.methods) (λ file. length-map file.methods (declared_method file)) files (built_views form) n within

  abbrev fields_of : ℕ → List ℕ
  fields_of n = owned_from (λ (f : Field). f.owner) (class_id n) 0 p.fields

  abbrev methods_of : ℕ → List ℕ
  methods_of n = owned_from (λ (m : Method). m.owner) (class_id n) 0 p.methods

  built_owners : (c n : ℕ) → owned_from (λ (m : Method). m.owner) (class_id c) n (built_in_methods_in form len) ≡ owned_numbers c n (map (λ (x : ℕ). len + x) (map owner_of (built_in_methods_in form 0)))
  built_owners c n = owned_by_numbers (λ (m : Method). m.owner) (class_id c) n (built_in_methods_in form len) ∙ ap (owned_numbers c n) (owners_shifted form len)

  none_before : (c n : ℕ) → c < len → (xs : List ℕ) → owned_numbers c n (map (λ (x : ℕ). len + x) xs) ≡ []
  none_before c n less [] = refl
  none_before c n less (x ∷ xs) = cond-false (len + x == c) _ _ (ne_eqb (len + x) c (λ e. omega (arith, e, less))) ∙ none_before c (suc n) less xs

  abbrev is_owned : ℕ → Class → Bool
  is_owned n class = bytes_eq (map (λ (f : FieldId). f.0) class.fields) (fields_of n) && bytes_eq (numbers_of class) (methods_of n)

  not_the_first : (n : ℕ) → n < len → fields_of n ≡ owned_from (λ (f : Field). f.owner) (class_id n) 1 fields
  not_the_first n within = cond-false (len + 7 == n) _ _ (ne_eqb (len + 7) n (λ e. omega (arith, e, within)))

  of_file : (n : ℕ) (file : ClassFile) (class : Class) → slice_get files n ≡ Some file → LinkedClass w file (class_id n) class → is_owned n class ≡ true
  of_file n file class there made =
      let within = slice_get_within files n file there in
      let fields_are = ap (λ (c : Class). map (λ (f : FieldId). f.0) c.fields) (sym made.is) ∙ (field_numbers _ ∙ (ap (λ (k : ℕ). range_with_len k (length file.fields)) (first_field_is n (omega (arith, within)))
      ∙ (range_later _ (length file.fields)
      ∙ (ap (map suc) (sym (owned_row (λ f. f.fields) (linked_field w) (λ (f : Field). f.owner) own_field files fields l.fields_are n file there))
      ∙ (sym (owned_later (λ (f : Field). f.owner) (class_id n) 0 fields) ∙ sym (not_the_first n within)))))) in
      let row = owned_row (λ f. f.methods) (linked_method w) (λ (m : Method). m.owner) own_method files methods l.methods_are n file there in
      let rest = built_owners n (0 + length methods) ∙ none_before n (0 + length methods) within (map owner_of (built_in_methods_in form 0)) in
      let all = owned-append (λ (m : Method). m.owner) (class_id n) 0 methods (built_in_methods_in form len)
      ∙ (ap (λ (xs : List ℕ). owned_from (λ (m : Method). m.owner) (class_id n) 0 methods ++ xs) rest ∙ (append-nil _ ∙ row)) in
      let methods_are = ap numbers_of (sym made.is) ∙ (method_numbers _ ∙ (ap (λ (k : ℕ). range_with_len k (length file.methods)) (first_method_is n (omega (arith, within))) ∙ sym all)) in
      and_from _ _ (same_text _ _ fields_are) (same_text _ _ methods_are)

  abbrev owners : List ℕ
  owners = map owner_of (built_in_methods_in form 0)

  built_places : (k : ℕ) → owned_from (λ (m : Method). m.owner) (class_id (len + k)) (0 + length methods) (built_in_methods_in form len) ≡ map (λ (i : ℕ). length methods + i) (owned_numbers k 0 owners)
  built_places k =
      let start : 0 + length methods ≡ length methods + 0 = omega arith in
      built_owners (len + k) (0 + length methods)
      ∙ (ap (λ (n : ℕ). owned_numbers (len + k) n (map (λ (x : ℕ). len + x) owners)) start
      ∙ owned_shifted len (length methods) k 0 owners)

  built_methods : (k : ℕ) → methods_of (len + k) ≡ map (λ (i : ℕ). length methods + i) (owned_numbers k 0 owners)
  built_methods k =
      owned-append (λ (m : Method). m.owner) (class_id (len + k)) 0 methods (built_in_methods_in form len)
      ∙ behind_none _ _ _ (none_of_later (λ f. f.methods) (linked_method w) (λ (m : Method). m.owner) own_method files methods l.methods_are (len + k) (omega arith)) (built_places k)

  built_numbers : (k : ℕ) (class : Class) → slice_get (built_in_classes_in form len (length methods)) k ≡ Some class → numbers_of class ≡ map (λ (i : ℕ). length methods + i) (owned_numbers k 0 owners)
  built_numbers k class there =
      let o = built_in_of form len (length methods) k class there in
      let own : numbers_of o.of ≡ owned_numbers k 0 owners = text_is _ _ (by_table form (λ c class. bytes_eq (numbers_of class) (owned_numbers c.0 0 owners)) (table form) k o.of o.at) in
      let shifted : numbers_of class ≡ map (λ (i : ℕ). length methods + i) (numbers_of o.of) = same_Some _ _
      (sym (mapped_at numbers_of (built_in_classes_in form len (length methods)) k class there) ∙ (ap (λ (xs : List (List ℕ)). slice_get xs k) (numbers_shifted form len (length methods))
      ∙ mapped_at (λ (c : Class). map (λ (i : ℕ). length methods + i) (numbers_of c)) (built_in_classes_in form 0 0) k o.of o.at)) in
      shifted ∙ ap (map (λ (i : ℕ). length methods + i)) own

  built_fields : (k : ℕ) (class : Class) → slice_get (built_in_classes_in form len (length methods)) k ≡ Some class → map (λ (f : FieldId). f.0) class.fields ≡ fields_of (len + k)
  built_fields k class there =
      let own : map (λ (f : FieldId). f.0) class.fields ≡ first_field_of (0 + k) = text_is _ _ (each_class_at (λ c other. bytes_eq (map (λ (f : FieldId). f.0) other.fields) (first_field_of c.0)) 0 (built_in_classes_in form len (length methods)) (field_table form len (length methods)) k class there) in
      let number : 0 + k ≡ k = omega arith in
      let none = owned_later (λ (f : Field). f.owner) (class_id (len + k)) 0 fields ∙ ap (map suc) (none_of_later (λ f. f.fields) (linked_field w) (λ (f : Field). f.owner) own_field files fields l.fields_are (len + k) (omega arith)) in
      own
      ∙ (ap first_field_of number
      ∙ (ap (λ (z : Bool). if z then 0 ∷ [] else []) (sym (first_owned len k))
      ∙ ap (λ (ns : List ℕ). if len + 7 == len + k then 0 ∷ ns else ns) (sym none)))

  of_built_in : (k : ℕ) (class : Class) → slice_get (built_in_classes_in form len (length methods)) k ≡ Some class → is_owned (len + k) class ≡ true
  of_built_in k class there = and_from _ _ (same_text _ _ (built_fields k class there)) (same_text _ _ (built_numbers k class there ∙ sym (built_methods k)))

  owned_by : (n : ℕ) (class : Class) → ClassOrigin files form (length methods) n class → is_owned n class ≡ true
  owned_by n class (OfFile file at made) = of_file n file class at made
  owned_by n class (OfBuiltIn k is there) = ap (λ (m : ℕ). is_owned m class) is ∙ of_built_in k class there

  pub owned : members_are_owned p ≡ true
  unfolding members_are_owned
  owned = each_by_places p (λ c class. is_owned c.0 class) (λ n class there. owned_by n class (origins.class_origin files form classes fields methods l n class there))

module _ (in_parts : LinkedInParts) (none_has : NoneHasAProblem) (of_each : NoneOfEachKind) where
  pub members_are_owned_of : MembersAreOwned
  members_are_owned_of files form p well = linking in_parts none_has of_each (λ q. members_are_owned q ≡ true) files form p well (owned files form)
