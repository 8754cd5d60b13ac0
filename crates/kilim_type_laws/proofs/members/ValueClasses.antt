-- The classes of strings, mailboxes and fibers: found by their names, not abstract, and without fields.
use Rattle.std.proofs.Common.{◌≡◌, ◌⊎◌, inl, inr, ℕ, zero, suc, ◌+◌, ◌-◌, ◌≤◌, Bool, true, false, cond, List, [], ◌∷◌, ◌++◌, length, take, reverse, filter, Option, Some, None, refl, sym, ap, subst, ◌∙◌, arith}
use Rattle.std.specs.Prelude.{◌&&◌, ◌||◌, not, nat_le, nat_lt, slice_get, codes}
use Rattle.std.specs.List.{list_any, list_all, flat_map, AllByRecursion}
use Rattle.std.specs.Str.{bytes_eq}
use Rattle.std.proofs.lemmas.Bool.{and_parts, and_from, ltb-true, not-true, or_from}
use Rattle.std.proofs.lemmas.Grind.{flat_map-append}
use Rattle.std.proofs.lemmas.List.{length-append, reverse-append, take_at}
use Rattle.kilim_program.specs.declared.class.Class.{Class}
use Rattle.kilim_program.specs.declared.class.Form.TheVariants.{Plain, Woven}
use Rattle.kilim_program.specs.declared.class.Form.{Form}
use Rattle.kilim_program.specs.declared.names.ClassId.{ClassId}
use Rattle.kilim_program.specs.declared.names.FieldId.{FieldId}
use Rattle.kilim_program.specs.declared.ty.Ty.{Ty}
use Rattle.kilim_program.specs.Program.{Program}
use Rattle.kilim_program.specs.BuiltIn.{built_in_classes_in, class_id, class_type}
use Rattle.kilim_program.specs.Names.{◌>>=◌, class_at, class_from, class_name, class_named, fields_of, is_empty, line_of, line_up_to}
use Rattle.kilim_program.specs.Keeps.{Keeps, each_class_from, is_open_superclass, names_differ, own_class_fits, own_classes_fit, own_count}
use Rattle.kilim_program.specs.Same.{all_differ, same_field, same_method}
use Rattle.kilim_program.specs.Members.{named_class, named_type}
use Rattle.kilim_program.specs.Members.{is_concrete, is_instance_field, object_fields}
use Rattle.kilim_program.proofs.BuiltIns.{each_class_at}
use Rattle.kilim_lemmas.proofs.Lists.{get_right, get_some}
use Rattle.kilim_lemmas.proofs.Texts.{text_is}
use Rattle.kilim_type_laws.specs.members.Chosen.{is_value_name, has_instances}
use Rattle.kilim_type_laws.proofs.members.FromKeeps.{all_at, among_both}

abbrev same_name : Class → Class → Bool
same_name a b = bytes_eq a.name b.name

-- ---- a class by its name

some_id : (a b : ClassId) → Some a ≡ Some b → a ≡ b
some_id a b e = cc

some_class : (a b : Class) → Some a ≡ Some b → a ≡ b
some_class a b e = cc

-- none of the classes behind has the name of a class
none_behind : (c : Class) (cs : List Class) (k : ℕ) (d : Class) → list_any (same_name c) cs ≡ false → slice_get cs k ≡ Some d → bytes_eq c.name d.name ≡ false
none_behind c [] k d none e = absurd (cc)
none_behind c (x ∷ cs) zero d none e = by (same_name c x) refl none
  where
    by : (z : Bool) → same_name c x ≡ z → (z || list_any (same_name c) cs) ≡ false → bytes_eq c.name d.name ≡ false
    by true z none = absurd (cc)
    by false z none = ap (λ (y : Class). bytes_eq c.name y.name) (sym (some_class x d e)) ∙ z
none_behind c (x ∷ cs) (suc k) d none e = by (same_name c x) none (λ rest. none_behind c cs k d rest e)
  where
    by : (z : Bool) → (z || list_any (same_name c) cs) ≡ false → (list_any (same_name c) cs ≡ false → bytes_eq c.name d.name ≡ false) → bytes_eq c.name d.name ≡ false
    by true none again = absurd (cc)
    by false none again = again none

-- where no two have one name, the class of a name is the one that is found
found_from : (cs : List Class) (name : List ℕ) (n k : ℕ) (c : Class) → all_differ same_name cs ≡ true → slice_get cs k ≡ Some c → bytes_eq c.name name ≡ true → class_from cs name n ≡ Some (class_id (n + k))
found_from [] name n k c differ e is = absurd (cc)
found_from (x ∷ cs) name n zero c differ e is =
    let here : bytes_eq x.name name ≡ true = ap (λ (y : Class). bytes_eq y.name name) (some_class x c e) ∙ is in
    let number : n ≡ n + 0 = omega arith in
    ap (λ (z : Bool). cond z (Some (class_id n)) (class_from cs name (suc n))) here ∙ ap (λ (m : ℕ). Some (class_id m)) number
found_from (x ∷ cs) name n (suc k) c differ e is =
    let parts = and_parts (not (list_any (same_name x) cs)) (all_differ same_name cs) differ in
    let apart = none_behind x cs k c (not-true _ parts.0) e in
    let other : bytes_eq x.name name ≡ false = ap (bytes_eq x.name) (sym (text_is c.name name is)) ∙ apart in
    let number : suc n + k ≡ n + suc k = omega arith in
    ap (λ (z : Bool). cond z (Some (class_id n)) (class_from cs name (suc n))) other ∙ (found_from cs name (suc n) k c parts.1 e is ∙ ap (λ (m : ℕ). Some (class_id m)) number)

-- the class that is found by a name has it
record Found (cs : List Class) (name : List ℕ) (n : ℕ) (c : ClassId) : Type 0 where
  place : ℕ
  class : Class
  number : c.0 ≡ n + place
  at : slice_get cs place ≡ Some class
  is : bytes_eq class.name name ≡ true

found_is : (cs : List Class) (name : List ℕ) (n : ℕ) (c : ClassId) → class_from cs name n ≡ Some c → Found cs name n c
found_is [] name n c e = absurd (cc)
found_is (x ∷ cs) name n c e = by (bytes_eq x.name name) refl e (λ later. found_is cs name (suc n) c later)
  where
    by : (z : Bool) → bytes_eq x.name name ≡ z → cond z (Some (class_id n)) (class_from cs name (suc n)) ≡ Some c → (class_from cs name (suc n) ≡ Some c → Found cs name (suc n) c) → Found (x ∷ cs) name n c
    by true z e again = record { place = 0; class = x; number = ap (λ (d : ClassId). d.0) (sym (some_id (class_id n) c e)) ∙ omega arith; at = refl; is = z }
    by false z e again = let f = again e in record { place = suc f.place; class = f.class; number = f.number ∙ omega arith; at = f.at; is = f.is }

-- a class of the name behind others is found, be it the first or another one
is_found : (cs : List Class) (name : List ℕ) (n : ℕ) → list_any (λ c. bytes_eq c.name name) cs ≡ true → (c : ClassId) × (class_from cs name n ≡ Some c)
is_found [] name n any = absurd (cc)
is_found (x ∷ cs) name n any = by (bytes_eq x.name name) any (λ rest. is_found cs name (suc n) rest)
  where
    by : (z : Bool) → (z || list_any (λ c. bytes_eq c.name name) cs) ≡ true → (list_any (λ c. bytes_eq c.name name) cs ≡ true → (c : ClassId) × (class_from cs name (suc n) ≡ Some c)) → (c : ClassId) × (cond z (Some (class_id n)) (class_from cs name (suc n)) ≡ Some c)
    by true any again = (class_id n, refl)
    by false any again = again any

any_right : (cs ds : List Class) (name : List ℕ) → list_any (λ c. bytes_eq c.name name) ds ≡ true → list_any (λ c. bytes_eq c.name name) (cs ++ ds) ≡ true
any_right [] ds name any = any
any_right (x ∷ cs) ds name any = by (bytes_eq x.name name) (any_right cs ds name any)
  where
    by : (z : Bool) → list_any (λ c. bytes_eq c.name name) (cs ++ ds) ≡ true → (z || list_any (λ c. bytes_eq c.name name) (cs ++ ds)) ≡ true
    by true any = refl
    by false any = any

abbrev string_name : List ℕ
string_name = codes "java/lang/String"

pub has_string : (form : Form) (a b : ℕ) → list_any (λ c. bytes_eq c.name string_name) (built_in_classes_in form a b) ≡ true
has_string Plain a b = refl
has_string Woven a b = refl

abbrev mailbox_name : List ℕ
mailbox_name = codes "kilim/Mailbox"

has_mailbox : (form : Form) (a b : ℕ) → list_any (λ c. bytes_eq c.name mailbox_name) (built_in_classes_in form a b) ≡ true
has_mailbox Plain a b = refl
has_mailbox Woven a b = refl

built_count : (form : Form) (a b : ℕ) → length (built_in_classes_in form a b) ≡ length (built_in_classes_in form 0 0)
built_count Plain a b = refl
built_count Woven a b = refl

-- a class of a name differs from one in front of it
apart_by : (x : Class) (cs : List Class) (name : List ℕ) → list_any (same_name x) cs ≡ false → list_any (λ c. bytes_eq c.name name) cs ≡ true → bytes_eq x.name name ≡ false
apart_by x [] name none any = absurd (cc)
apart_by x (c ∷ cs) name none any = by (same_name x c) (bytes_eq c.name name) refl refl none any (λ rest later. apart_by x cs name rest later)
  where
    by : (a b : Bool) → same_name x c ≡ a → bytes_eq c.name name ≡ b → (a || list_any (same_name x) cs) ≡ false → (b || list_any (λ c. bytes_eq c.name name) cs) ≡ true →
        (list_any (same_name x) cs ≡ false → list_any (λ c. bytes_eq c.name name) cs ≡ true → bytes_eq x.name name ≡ false) → bytes_eq x.name name ≡ false
    by true b e f none any again = absurd (cc)
    by false true e f none any again = ap (bytes_eq x.name) (sym (text_is c.name name f)) ∙ e
    by false false e f none any again = again none any

differs_from : (cs ds : List Class) (name : List ℕ) (k : ℕ) (c : Class) → all_differ same_name (cs ++ ds) ≡ true → list_any (λ c. bytes_eq c.name name) ds ≡ true → slice_get cs k ≡ Some c → bytes_eq c.name name ≡ false
differs_from [] ds name k c differ any at = absurd (cc)
differs_from (x ∷ cs) ds name zero c differ any at =
    let parts = and_parts (not (list_any (same_name x) (cs ++ ds))) (all_differ same_name (cs ++ ds)) differ in
    ap (λ (y : Class). bytes_eq y.name name) (sym (some_class x c at)) ∙ apart_by x (cs ++ ds) name (not-true _ parts.0) (any_right cs ds name any)
differs_from (x ∷ cs) ds name (suc k) c differ any at = differs_from cs ds name k c (and_parts (not (list_any (same_name x) (cs ++ ds))) (all_differ same_name (cs ++ ds)) differ).1 any at

abbrev concrete_value : Class → Bool
concrete_value c = not (is_value_name c.name) || not c.is_abstract

built_concrete : (form : Form) (a b : ℕ) → list_all concrete_value (built_in_classes_in form a b) ≡ true
built_concrete Plain a b = refl
built_concrete Woven a b = refl

all_by_places : {A : Type 0} (test : A → Bool) (xs : List A) → ((k : ℕ) (x : A) → slice_get xs k ≡ Some x → test x ≡ true) → list_all test xs ≡ true
all_by_places test [] each = refl
all_by_places test (x ∷ xs) each = and_from (test x) (list_all test xs) (each 0 x refl) (all_by_places test xs (λ k y at. each (suc k) y at))

some_type : (a b : Ty) → Some a ≡ Some b → a ≡ b
some_type a b e = cc

-- ---- classes without fields

abbrev has_none : Program → ClassId → Bool
has_none p c = is_empty (fields_of p c)

-- the number of a class of exceptions
abbrev pub is_late : ℕ → Bool
is_late k = nat_le 7 k && nat_lt k 18

-- a superclass of the built-in classes is the first of them, or a class of exceptions
abbrev pub UpIs : ℕ → Option ClassId → Type 0
UpIs first None = Unit {0}
UpIs first (Some up) = (up.0 ≡ first) ⊎ ((k : ℕ) × (up.0 ≡ first + k) × (is_late k ≡ true))

-- a class of values has no fields
abbrev pub IsPlain : ℕ → Class → Type 0
IsPlain first class = (is_value_name class.name ≡ true → class.fields ≡ []) × UpIs first class.superclass

pub built_plain : (form : Form) (first method : ℕ) → AllByRecursion (IsPlain first) (built_in_classes_in form first method)
built_plain Plain first method = (((λ v. refl), tt), (((λ v. refl), inl refl), (((λ v. refl), inl refl), (((λ v. refl), inl refl), (((λ v. refl), inl refl), (((λ v. refl), inl refl), (((λ v. refl), inl refl), (((λ v. absurd (let z : false ≡ true = v in cc)), inl refl), (((λ v. refl), inr (7, refl, refl)), (((λ v. refl), inr (8, refl, refl)), (((λ v. refl), inr (9, refl, refl)), (((λ v. refl), inr (9, refl, refl)), (((λ v. refl), inr (9, refl, refl)), (((λ v. refl), inr (9, refl, refl)), (((λ v. refl), inr (9, refl, refl)), (((λ v. refl), inr (9, refl, refl)), (((λ v. refl), inr (15, refl, refl)), (((λ v. refl), inr (15, refl, refl)), tt))))))))))))))))))
built_plain Woven first method = (((λ v. refl), tt), (((λ v. refl), inl refl), (((λ v. refl), inl refl), (((λ v. refl), inl refl), (((λ v. refl), inl refl), (((λ v. refl), inl refl), (((λ v. refl), inl refl), (((λ v. absurd (let z : false ≡ true = v in cc)), inl refl), (((λ v. refl), inr (7, refl, refl)), (((λ v. refl), inr (8, refl, refl)), (((λ v. refl), inr (9, refl, refl)), (((λ v. refl), inr (9, refl, refl)), (((λ v. refl), inr (9, refl, refl)), (((λ v. refl), inr (9, refl, refl)), (((λ v. refl), inr (9, refl, refl)), (((λ v. refl), inr (9, refl, refl)), (((λ v. refl), inr (15, refl, refl)), (((λ v. refl), inr (15, refl, refl)), (((λ v. refl), inl refl), tt)))))))))))))))))))

-- the first of them
record Highest (form : Form) (first method : ℕ) : Type 0 where
  class : Class
  at : slice_get (built_in_classes_in form first method) 0 ≡ Some class
  bare : class.fields ≡ []
  highest : class.superclass ≡ None

built_object : (form : Form) (first method : ℕ) → Highest form first method
built_object Plain first method = record { class = _; at = refl; bare = refl; highest = refl }
built_object Woven first method = record { class = _; at = refl; bare = refl; highest = refl }

-- a class of values is directly below the first of them
abbrev pub UpIsFirst : ℕ → Option ClassId → Type 0
UpIsFirst first None = Unit {0}
UpIsFirst first (Some up) = up.0 ≡ first

abbrev pub IsAtTop : ℕ → Class → Type 0
IsAtTop first class = is_value_name class.name ≡ true → UpIsFirst first class.superclass

pub built_at_top : (form : Form) (first method : ℕ) → AllByRecursion (IsAtTop first) (built_in_classes_in form first method)
built_at_top Plain first method = ((λ v. tt), ((λ v. refl), ((λ v. refl), ((λ v. refl), ((λ v. refl), ((λ v. refl), ((λ v. refl), ((λ v. refl), ((λ v. absurd (let z : false ≡ true = v in cc)), ((λ v. absurd (let z : false ≡ true = v in cc)), ((λ v. absurd (let z : false ≡ true = v in cc)), ((λ v. absurd (let z : false ≡ true = v in cc)), ((λ v. absurd (let z : false ≡ true = v in cc)), ((λ v. absurd (let z : false ≡ true = v in cc)), ((λ v. absurd (let z : false ≡ true = v in cc)), ((λ v. absurd (let z : false ≡ true = v in cc)), ((λ v. absurd (let z : false ≡ true = v in cc)), ((λ v. absurd (let z : false ≡ true = v in cc)), tt))))))))))))))))))
built_at_top Woven first method = ((λ v. tt), ((λ v. refl), ((λ v. refl), ((λ v. refl), ((λ v. refl), ((λ v. refl), ((λ v. refl), ((λ v. refl), ((λ v. absurd (let z : false ≡ true = v in cc)), ((λ v. absurd (let z : false ≡ true = v in cc)), ((λ v. absurd (let z : false ≡ true = v in cc)), ((λ v. absurd (let z : false ≡ true = v in cc)), ((λ v. absurd (let z : false ≡ true = v in cc)), ((λ v. absurd (let z : false ≡ true = v in cc)), ((λ v. absurd (let z : false ≡ true = v in cc)), ((λ v. absurd (let z : false ≡ true = v in cc)), ((λ v. absurd (let z : false ≡ true = v in cc)), ((λ v. absurd (let z : false ≡ true = v in cc)), ((λ v. refl), tt)))))))))))))))))))

-- none of the classes of exceptions has the name of a class of values
abbrev late_differs : ClassId → Class → Bool
late_differs c class = not (is_late c.0) || not (is_value_name class.name)

late_names : (form : Form) (first method : ℕ) → each_class_from late_differs 0 (built_in_classes_in form first method) ≡ true
late_names Plain first method = refl
late_names Woven first method = refl

many_built : (form : Form) (a b : ℕ) → 18 ≤ length (built_in_classes_in form a b)
many_built Plain a b = let e : length (built_in_classes_in Plain a b) ≡ 18 = refl in omega (arith, e)
many_built Woven a b = let e : length (built_in_classes_in Woven a b) ≡ 19 = refl in omega (arith, e)

pub all_of_at : {A : Type 0} (P : A → Type 0) (xs : List A) → AllByRecursion P xs → (k : ℕ) (x : A) → slice_get xs k ≡ Some x → P x
all_of_at P [] all k x at = absurd (cc)
all_of_at P (y ∷ xs) all zero x at = subst P (let s : y ≡ x = cc in s) all.0
all_of_at P (y ∷ xs) all (suc k) x at = all_of_at P xs all.1 k x at

is_none : {A : Type 0} (xs : List A) → is_empty xs ≡ true → xs ≡ []
is_none [] e = refl
is_none (x ∷ xs) e = absurd (cc)

none_of_all : (p : Program) (ds : List ClassId) → list_all (has_none p) ds ≡ true → flat_map (fields_of p) (reverse ds) ≡ []
none_of_all p [] all = refl
none_of_all p (d ∷ ds) all =
    let parts = and_parts (has_none p d) (list_all (has_none p) ds) all in
    ap (flat_map (fields_of p)) (reverse-append (d ∷ []) ds)
    ∙ (flat_map-append (fields_of p) (reverse ds) (d ∷ [])
    ∙ (ap (λ (fs : List FieldId). fs ++ flat_map (fields_of p) (d ∷ [])) (none_of_all p ds parts.1) ∙ ap (λ (fs : List FieldId). fs ++ []) (is_none (fields_of p d) parts.0)))

-- what no class of a first list is, is one of the second
not_own : (cs ds : List Class) (k : ℕ) (c : Class) → slice_get (cs ++ ds) k ≡ Some c → ((k : ℕ) (c : Class) → slice_get cs k ≡ Some c → is_value_name c.name ≡ false) → is_value_name c.name ≡ true → length cs ≤ k
not_own [] ds k c at none value = omega arith
not_own (x ∷ cs) ds zero c at none value = absurd (let no = none 0 c at in cc)
not_own (x ∷ cs) ds (suc k) c at none value = let later = not_own cs ds k c at (λ j d there. none (suc j) d there) value in omega (arith, later)

module _ (p : Program) (keeps : Keeps p) where
  differ : all_differ same_name p.classes ≡ true
  unfolding names_differ
  differ = (and_parts (all_differ same_name p.classes) (all_differ same_field p.fields && all_differ same_method p.methods) keeps.names).0

  pub string : (c : ClassId) × (class_named p string_name ≡ Some c)
  string = is_found p.classes string_name 0 (subst (λ (cs : List Class). list_any (λ c. bytes_eq c.name string_name) cs ≡ true) (sym keeps.built_in.classes) (any_right keeps.built_in.own_classes _ string_name (has_string p.form (length keeps.built_in.own_classes) (length keeps.built_in.own_methods))))

  -- a name that a class has, and that isn't empty, is found at that class
  pub type_is : (name : List ℕ) (c : ClassId) → bytes_eq [] name ≡ false → bytes_eq (class_name p c) name ≡ true → named_type p name ≡ Some (class_type c.0)
  type_is name c some e = by (class_at p c) refl e
    where
      by : (o : Option Class) → class_at p c ≡ o → bytes_eq (elim o [ None ↦ [] | Some class ↦ class.name ]) name ≡ true → named_type p name ≡ Some (class_type c.0)
      by None there e = absurd (cc)
      by (Some class) there e = let number : 0 + c.0 ≡ c.0 = omega arith in ap named_class (found_from p.classes name 0 c.0 class differ there e) ∙ ap (λ (k : ℕ). Some (class_type k)) number

  pub text_class : (c : ClassId) → bytes_eq (class_name p c) (codes "java/lang/String") ≡ true → named_type p (codes "java/lang/String") ≡ Some (class_type c.0)
  text_class c e = type_is (codes "java/lang/String") c refl e

  pub mailbox : (c : ClassId) → bytes_eq (class_name p c) (codes "kilim/Mailbox") ≡ true → named_type p (codes "kilim/Mailbox") ≡ Some (class_type c.0)
  mailbox c e = type_is (codes "kilim/Mailbox") c refl e

  -- a class that is found by a name has it
  pub found_name : (name : List ℕ) (c : ClassId) → class_named p name ≡ Some c → bytes_eq (class_name p c) name ≡ true
  found_name name c there =
      let f = found_is p.classes name 0 c there in
      let number = f.number in
      let place : f.place ≡ c.0 = omega (arith, number) in
      let at : class_at p c ≡ Some f.class = ap (slice_get p.classes) (sym place) ∙ f.at in
      ap (λ (o : Option Class). bytes_eq (elim o [ None ↦ [] | Some class ↦ class.name ]) name) at ∙ f.is

  -- ---- no class of the files has the name of a class of values

  abbrev pub own : List Class
  own = keeps.built_in.own_classes

  abbrev pub built : List Class
  built = built_in_classes_in p.form (length own) (length keeps.built_in.own_methods)

  pub own_counted : own_count p ≡ length own
  own_counted =
      let all = ap length keeps.built_in.classes ∙ length-append own built in
      let shift = built_count p.form (length own) (length keeps.built_in.own_methods) in
      omega (arith, all, shift)

  pub own_fits : list_all (own_class_fits p) own ≡ true
  unfolding own_classes_fit
  own_fits = subst (λ (cs : List Class). list_all (own_class_fits p) cs ≡ true) (ap (λ (n : ℕ). take n p.classes) own_counted ∙ (ap (take (length own)) keeps.built_in.classes ∙ take_at own built (length own) refl)) keeps.own_classes

  both_differ : all_differ same_name (own ++ built) ≡ true
  both_differ = subst (λ (cs : List Class). all_differ same_name cs ≡ true) keeps.built_in.classes differ

  -- a name that a built-in class has is none of a class of the files
  pub apart : (name : List ℕ) → list_any (λ c. bytes_eq c.name name) built ≡ true → (k : ℕ) (c : Class) → slice_get own k ≡ Some c → bytes_eq c.name name ≡ false
  apart name any k c at = differs_from own built name k c both_differ any at

  pub late_is_no_value : (k : ℕ) → is_late k ≡ true → is_value_name (class_name p (class_id (length own + k))) ≡ false
  late_is_no_value k late =
      let within = ltb-true k 18 (and_parts (nat_le 7 k) (nat_lt k 18) late).1 in
      let many = many_built p.form (length own) (length keeps.built_in.own_methods) in
      let c = get_some built k (omega (arith, within, many)) in
      let there : slice_get p.classes (length own + k) ≡ Some c.0 = ap (λ (cs : List Class). slice_get cs (length own + k)) keeps.built_in.classes ∙ (get_right own built (length own + k) k refl ∙ c.1) in
      let number : 0 + k ≡ k = omega arith in
      let differs : late_differs (class_id k) c.0 ≡ true =
      subst (λ (j : ℕ). late_differs (class_id j) c.0 ≡ true) number (each_class_at late_differs 0 built (late_names p.form (length own) (length keeps.built_in.own_methods)) k c.0 c.1) in
      ap (λ (o : Option Class). is_value_name (elim o [ None ↦ [] | Some class ↦ class.name ])) there
      ∙ not-true _ (subst (λ (z : Bool). (not z || not (is_value_name c.0.name)) ≡ true) late differs)

  no_fiber : (k : ℕ) (c : Class) → slice_get own k ≡ Some c → bytes_eq c.name (codes "kilim/Fiber") ≡ false
  no_fiber k c at = not-true _ (and_parts (not (bytes_eq c.name (codes "kilim/Fiber"))) (is_open_superclass p c.superclass) (all_at (own_class_fits p) own k c own_fits at)).0

  own_is_no_value : (k : ℕ) (c : Class) → slice_get own k ≡ Some c → is_value_name c.name ≡ false
  own_is_no_value k c at =
      or_from (bytes_eq c.name string_name) _ (apart string_name (has_string p.form (length own) (length keeps.built_in.own_methods)) k c at)
      (or_from (bytes_eq c.name mailbox_name) _ (apart mailbox_name (has_mailbox p.form (length own) (length keeps.built_in.own_methods)) k c at) (no_fiber k c at))

  -- ---- a class of values isn't abstract

  own_concrete : list_all concrete_value own ≡ true
  own_concrete = all_by_places concrete_value own (λ k c at. ap (λ (z : Bool). not z || not c.is_abstract) (own_is_no_value k c at))

  each_concrete : (k : ℕ) (c : Class) → slice_get p.classes k ≡ Some c → concrete_value c ≡ true
  each_concrete k c at = among_both p concrete_value own built k c own_concrete (built_concrete p.form (length own) (length keeps.built_in.own_methods)) (subst (λ (cs : List Class). slice_get cs k ≡ Some c) keeps.built_in.classes at)

  pub values : (name : List ℕ) (c : Ty) → named_type p name ≡ Some c → is_value_name name ≡ true → has_instances p c.dims c.base ≡ true
  values name c e value = by (class_named p name) refl e
    where
      by : (o : Option ClassId) → class_named p name ≡ o → named_class o ≡ Some c → has_instances p c.dims c.base ≡ true
      by None there e = absurd (cc)
      by (Some d) there e =
          let f = found_is p.classes name 0 d there in
          let place : f.place ≡ d.0 = let number = f.number in omega (arith, number) in
          let at : class_at p d ≡ Some f.class = ap (slice_get p.classes) (sym place) ∙ f.at in
          let named : is_value_name f.class.name ≡ true = ap is_value_name (text_is f.class.name name f.is) ∙ value in
          let concrete : not f.class.is_abstract ≡ true = subst (λ (z : Bool). (not z || not f.class.is_abstract) ≡ true) named (each_concrete f.place f.class f.at) in
          subst (λ (ty : Ty). has_instances p ty.dims ty.base ≡ true) (some_type _ c e) (ap is_concrete at ∙ concrete)

  -- ---- it has no fields, nor has `java/lang/Object`

  no_object_fields : (n : ℕ) → list_all (has_none p) (line_up_to p n (class_id (length own))) ≡ true
  no_object_fields zero = refl
  no_object_fields (suc n) =
      let top = built_object p.form (length own) (length keeps.built_in.own_methods) in
      let number : length own ≡ length own + 0 = omega arith in
      let there : class_at p (class_id (length own)) ≡ Some top.class = ap (λ (cs : List Class). slice_get cs (length own)) keeps.built_in.classes ∙ (get_right own built (length own) 0 number ∙ top.at) in
      subst (λ (o : Option Class). (is_empty (elim o [ None ↦ [] | Some class ↦ class.fields ]) && list_all (has_none p) (elim (o >>= λ (class : Class). class.superclass) [ None ↦ [] | Some up ↦ line_up_to p n up ])) ≡ true) (sym there)
      (and_from (is_empty top.class.fields) _ (ap is_empty top.bare) (ap (λ (o : Option ClassId). list_all (has_none p) (elim o [ None ↦ [] | Some up ↦ line_up_to p n up ])) top.highest))

  no_own_fields : (n : ℕ) (c : ClassId) → length own ≤ c.0 → is_value_name (class_name p c) ≡ true → list_all (has_none p) (line_up_to p n c) ≡ true
  no_own_fields zero c after value = refl
  no_own_fields (suc n) c after value = by (class_at p c) refl
    where
      up : (o : Option ClassId) → UpIsFirst (length own) o → list_all (has_none p) (elim o [ None ↦ [] | Some up ↦ line_up_to p n up ]) ≡ true
      up None is = refl
      up (Some d) is = subst (λ (k : ℕ). list_all (has_none p) (line_up_to p n (class_id k)) ≡ true) (sym is) (no_object_fields n)

      by : (o : Option Class) → class_at p c ≡ o → list_all (has_none p) (line_up_to p (suc n) c) ≡ true
      by None there = subst (λ (o : Option Class). (is_empty (elim o [ None ↦ [] | Some class ↦ class.fields ]) && list_all (has_none p) (elim (o >>= λ (class : Class). class.superclass) [ None ↦ [] | Some up ↦ line_up_to p n up ])) ≡ true) (sym there) refl
      by (Some class) there =
          let k : ℕ = c.0 - length own in
          let number : c.0 ≡ length own + k = omega (arith, after) in
          let at : slice_get built k ≡ Some class = sym (get_right own built c.0 k number) ∙ (ap (λ (cs : List Class). slice_get cs c.0) (sym keeps.built_in.classes) ∙ there) in
          let named : is_value_name class.name ≡ true = ap (λ (o : Option Class). is_value_name (elim o [ None ↦ [] | Some class ↦ class.name ])) (sym there) ∙ value in
          let plain = all_of_at (IsPlain (length own)) built (built_plain p.form (length own) (length keeps.built_in.own_methods)) k class at in
          let top = all_of_at (IsAtTop (length own)) built (built_at_top p.form (length own) (length keeps.built_in.own_methods)) k class at in
          subst (λ (o : Option Class). (is_empty (elim o [ None ↦ [] | Some class ↦ class.fields ]) && list_all (has_none p) (elim (o >>= λ (class : Class). class.superclass) [ None ↦ [] | Some up ↦ line_up_to p n up ])) ≡ true) (sym there)
          (and_from (is_empty class.fields) _ (ap is_empty (plain.0 named)) (up class.superclass (top named)))

  -- a class of values stands behind those of the files
  pub value_behind : (name : List ℕ) (c : ClassId) → is_value_name name ≡ true → class_named p name ≡ Some c → length own ≤ c.0
  value_behind name c value there =
      let f = found_is p.classes name 0 c there in
      let number = f.number in
      let named : is_value_name f.class.name ≡ true = ap is_value_name (text_is f.class.name name f.is) ∙ value in
      let at : slice_get (own ++ built) f.place ≡ Some f.class = subst (λ (cs : List Class). slice_get cs f.place ≡ Some f.class) keeps.built_in.classes f.at in
      let after : length own ≤ f.place = not_own own built f.place f.class at (λ k c there. own_is_no_value k c there) named in
      omega (arith, number, after)

  pub no_fields : (name : List ℕ) (c : ClassId) → is_value_name name ≡ true → class_named p name ≡ Some c → object_fields p c ≡ []
  no_fields name c value there = ap (filter (is_instance_field p)) (none_of_all p (line_of p c) (no_own_fields (length p.classes) c (value_behind name c value there) (ap is_value_name (text_is (class_name p c) name (found_name name c there)) ∙ value)))
