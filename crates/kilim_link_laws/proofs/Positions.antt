-- The methods of a class in a linked program stand as its class declares them.
use Rattle.std.proofs.Common.{◌≡◌, ℕ, zero, suc, ◌+◌, ◌<◌, Bool, true, List, [], ◌∷◌, map, length, slice_get, filter_map, Option, Some, None, is_some, refl, sym, ap, subst, ◌∙◌, arith}
use Rattle.std.specs.List.{cons_option, list_all, range_with_len}
use Rattle.std.proofs.lemmas.Bool.{and_parts}
use Rattle.std.proofs.lemmas.List.{length-map}
use Rattle.std.proofs.lemmas.Option.{same_Some, none-some, slice_get_within}
use Rattle.kilim_lemmas.proofs.Lists.{get_right, get_left, get_some}
use Rattle.kilim_class_file.specs.declared.class_file.ClassFile.{ClassFile}
use Rattle.kilim_program.specs.declared.class.Class.{Class}
use Rattle.kilim_program.specs.declared.class.Field.{Field}
use Rattle.kilim_program.specs.declared.class.Form.{Form}
use Rattle.kilim_program.specs.declared.class.Form.TheVariants.{Plain, Woven}
use Rattle.kilim_program.specs.declared.class.Method.{Method}
use Rattle.kilim_program.specs.declared.names.ClassId.{ClassId}
use Rattle.kilim_program.specs.declared.names.MethodId.{MethodId}
use Rattle.kilim_program.specs.Program.{Program}
use Rattle.kilim_program.specs.BuiltIn.{built_in_classes_in, built_in_methods_in, class_id, method_id}
use Rattle.kilim_program.specs.Names.{method_at}
use Rattle.kilim_link_spec.specs.Linked.{linked_method, program_with}
use Rattle.kilim_link_spec.specs.World.{World, built_ins, declared_built_in, declared_method, declared_methods, first_method, methods_at, world_of}
use Rattle.kilim_link_spec.specs.declared.view.DeclaredMethod.{DeclaredMethod}
use Rattle.kilim_link_laws.proofs.Bodies as bodies
use Rattle.kilim_link_laws.proofs.Bridge.{LinkedClass}
use Rattle.kilim_link_laws.proofs.LinkedMembers.{linked_method_is}
use Rattle.kilim_link_laws.proofs.Linking.{Linking}
use Rattle.kilim_link_laws.proofs.Lists.{all_at, mapped_at, origin}
use Rattle.kilim_link_laws.proofs.Members.{before, member_makes}
use Rattle.kilim_link_laws.proofs.Origins as origins
use Rattle.kilim_link_laws.proofs.Origins.{BuiltIn, ClassOrigin, OfBuiltIn, OfFile, built_in_of}
use Rattle.kilim_link_laws.proofs.Outline as outline
use Rattle.kilim_link_laws.proofs.Owned as owned
use Rattle.kilim_link_laws.proofs.Owned.{numbers_of, numbers_shifted}
use Rattle.kilim_link_laws.proofs.Seen.{Seen, seen_built_in, seen_own}
use Rattle.kilim_link_laws.proofs.Shifted.{methods_shifted, shift_method}

-- ---- lists

range_at : (s len i x : ℕ) → slice_get (range_with_len s len) i ≡ Some x → (x ≡ s + i) × (i < len)
range_at s zero i x there = absurd (none-some x there)
range_at s (suc len) zero x there = let same = same_Some s x there in (omega (arith, same), omega arith)
range_at s (suc len) (suc i) x there = let rest = range_at (s + 1) len i x there in let number = rest.0 in let within = rest.1 in (omega (arith, number), omega (arith, within))

length-range : (s len : ℕ) → length (range_with_len s len) ≡ len
length-range s zero = refl
length-range s (suc len) = ap suc (length-range (s + 1) len)

kept_at : {A B : Type 0} (h : A → Option B) (x : A) (xs : List A) (i : ℕ) (y : B) (o : Option B) → h x ≡ o → is_some o ≡ true → slice_get (filter_map h xs) i ≡ Some y → slice_get (filter_map h (x ∷ xs)) (suc i) ≡ Some y
kept_at h x xs i y None is some rest = absurd (cc)
kept_at h x xs i y (Some z) is some rest = ap (λ (o : Option _). slice_get (cons_option o (filter_map h xs)) (suc i)) is ∙ rest

-- where something is made of each
filtered_at : {A B : Type 0} (h : A → Option B) (xs : List A) → list_all (λ (x : A). is_some (h x)) xs ≡ true → (i : ℕ) (x : A) (y : B) → slice_get xs i ≡ Some x → h x ≡ Some y → slice_get (filter_map h xs) i ≡ Some y
filtered_at h [] all i x y there is = absurd (none-some x there)
filtered_at h (z ∷ xs) all zero x y there is = ap (λ (o : Option _). slice_get (cons_option o (filter_map h xs)) 0) (ap h (same_Some z x there) ∙ is)
filtered_at h (z ∷ xs) all (suc i) x y there is =
    let parts = and_parts (is_some (h z)) (list_all (λ x. is_some (h x)) xs) all in
    kept_at h z xs i y (h z) refl parts.0 (filtered_at h xs parts.1 i x y there is)

one_longer : {B : Type 0} (o : Option B) (ys : List B) → is_some o ≡ true → length (cons_option o ys) ≡ suc (length ys)
one_longer None ys some = absurd (cc)
one_longer (Some y) ys some = refl

length-filtered : {A B : Type 0} (h : A → Option B) (xs : List A) → list_all (λ (x : A). is_some (h x)) xs ≡ true → length (filter_map h xs) ≡ length xs
length-filtered h [] all = refl
length-filtered h (z ∷ xs) all =
    let parts = and_parts (is_some (h z)) (list_all (λ x. is_some (h x)) xs) all in
    one_longer (h z) (filter_map h xs) parts.0 ∙ ap suc (length-filtered h xs parts.1)

-- ---- built-in classes

abbrev methods_there : Form → Class → Bool
methods_there form class = list_all (λ (id : MethodId). is_some (method_at (built_ins form) id)) class.methods

all_there : (form : Form) → list_all (methods_there form) (built_in_classes_in form 0 0) ≡ true
all_there Plain = refl
all_there Woven = refl

some_of : {A : Type 0} (o : Option A) → is_some o ≡ true → (x : A) × (o ≡ Some x)
some_of None some = absurd (cc)
some_of (Some x) some = (x, refl)

module _ (files : List ClassFile) (form : Form) (classes : List Class) (fields : List Field) (methods : List Method) (l : Linking files form classes fields methods) where
  abbrev w : World
  w = world_of files form

  abbrev p : Program
  p = program_with files form classes fields methods

  abbrev len : ℕ
  len = length files

  abbrev built : List Class
  built = built_in_classes_in form len (length methods)

  -- a method of a class, and the one that it declares
  pub record SeenAt (c : ClassId) (i : ℕ) (id : MethodId) : Type 0 where
    pub declared : DeclaredMethod
    pub at : slice_get (declared_methods w c) i ≡ Some declared
    pub method : Method
    pub method_is : method_at p id ≡ Some method
    pub seen : Seen w c declared method

  at_file : (n : ℕ) (file : ClassFile) (class : Class) → slice_get files n ≡ Some file → LinkedClass w file (class_id n) class → (i : ℕ) (id : MethodId) → slice_get class.methods i ≡ Some id → SeenAt (class_id n) i id
  at_file n file class there made i id inside =
      let numbers = range_with_len (first_method w (class_id n)) (length file.methods) in
      let o = origin method_id numbers i id (ap (λ (c : Class). slice_get c.methods i) made.is ∙ inside) in
      let place = range_at (first_method w (class_id n)) (length file.methods) i o.of o.at in
      let member = get_some file.methods i place.1 in
      let m = member_makes (λ f. f.methods) (linked_method w) files methods l.methods_are n i file member.0 there member.1 in
      let within = slice_get_within files n file there in
      let number : id.0 ≡ before (λ f. f.methods) files n + i =
      ap (λ (d : MethodId). d.0) (sym o.is) ∙ (place.0 ∙ ap (λ (s : ℕ). s + i) (owned.first_method_is files form classes fields methods l n (omega (arith, within)))) in
      record {
        declared = declared_method file member.0;
        at = bodies.methods_there files form classes fields methods l n file i member.0 there member.1;
        method = m.result;
        method_is = ap (slice_get p.methods) number ∙ get_left methods (built_in_methods_in form len) (before (λ f. f.methods) files n + i) m.result m.at;
        seen = seen_own w file (class_id n) member.0 m.result (linked_method_is w file (class_id n) member.0 m.result m.is);
      }

  -- a method of a built-in class
  pub record BuiltAt (class0 : Class) (i : ℕ) (id : MethodId) : Type 0 where
    pub id0 : MethodId
    pub at : slice_get class0.methods i ≡ Some id0
    pub of : Method
    pub of_is : method_at (built_ins form) id0 ≡ Some of
    pub method_is : method_at p id ≡ Some (shift_method len of)

  numbers_are : (k : ℕ) (class : Class) → slice_get built k ≡ Some class → (o : BuiltIn form len k class) → numbers_of class ≡ map (λ (x : ℕ). length methods + x) (numbers_of o.of)
  numbers_are k class there o = same_Some _ _
      (sym (mapped_at numbers_of built k class there) ∙ (ap (λ (xs : List (List ℕ)). slice_get xs k) (numbers_shifted form len (length methods))
      ∙ mapped_at (λ (c : Class). map (λ (x : ℕ). length methods + x) (numbers_of c)) (built_in_classes_in form 0 0) k o.of o.at))

  -- a built-in method of the program, by the place where the first one has number 0
  shifted_at : (id id0 : MethodId) (m : Method) → id.0 ≡ length methods + id0.0 → method_at (built_ins form) id0 ≡ Some m → method_at p id ≡ Some (shift_method len m)
  shifted_at id id0 m place there =
      let here : slice_get p.methods id.0 ≡ slice_get (built_in_methods_in form len) id0.0 = get_right methods (built_in_methods_in form len) id.0 id0.0 place in
      let shifted : slice_get (built_in_methods_in form len) id0.0 ≡ slice_get (map (shift_method len) (built_in_methods_in form 0)) id0.0 = ap (λ (ms : List Method). slice_get ms id0.0) (methods_shifted form len) in
      here ∙ (shifted ∙ mapped_at (shift_method len) (built_in_methods_in form 0) id0.0 m there)

  pub built_at : (k : ℕ) (class : Class) → slice_get built k ≡ Some class → (o : BuiltIn form len k class) → (i : ℕ) (id : MethodId) → slice_get class.methods i ≡ Some id → BuiltAt o.of i id
  built_at k class there o i id inside =
      let shifted = numbers_are k class there o in
      let number = origin (λ (x : ℕ). length methods + x) (numbers_of o.of) i id.0 (ap (λ (xs : List ℕ). slice_get xs i) (sym shifted) ∙ mapped_at (λ (m : MethodId). m.0) class.methods i id inside) in
      let first = origin (λ (m : MethodId). m.0) o.of.methods i number.of number.at in
      let all = all_at (methods_there form) (built_in_classes_in form 0 0) (all_there form) k o.of o.at in
      let some = some_of (method_at (built_ins form) first.of) (all_at (λ (d : MethodId). is_some (method_at (built_ins form) d)) o.of.methods all i first.of first.at) in
      let place : id.0 ≡ length methods + first.of.0 = sym number.is ∙ ap (λ (x : ℕ). length methods + x) (sym first.is) in
      record { id0 = first.of; at = first.at; of = some.0; of_is = some.1; method_is = shifted_at id first.of some.0 place some.1 }

  view_methods : (k : ℕ) (class0 : Class) → slice_get (built_in_classes_in form 0 0) k ≡ Some class0 → declared_methods w (class_id (len + k)) ≡ map (declared_built_in (built_ins form)) (filter_map (method_at (built_ins form)) class0.methods)
  unfolding world_of
  view_methods k class0 there = ap methods_at (outline.built_view_at files form classes fields methods l k class0 there)

  at_built_in : (k : ℕ) (class : Class) → slice_get built k ≡ Some class → (i : ℕ) (id : MethodId) → slice_get class.methods i ≡ Some id → SeenAt (class_id (len + k)) i id
  at_built_in k class there i id inside =
      let o = built_in_of form len (length methods) k class there in
      let b = built_at k class there o i id inside in
      record {
        declared = declared_built_in (built_ins form) b.of;
        at = ap (λ (ds : List DeclaredMethod). slice_get ds i) (view_methods k o.of o.at)
            ∙ mapped_at (declared_built_in (built_ins form)) (filter_map (method_at (built_ins form)) o.of.methods) i b.of
            (filtered_at (method_at (built_ins form)) o.of.methods (all_at (methods_there form) (built_in_classes_in form 0 0) (all_there form) k o.of o.at) i b.id0 b.of b.at b.of_is);
        method = shift_method len b.of;
        method_is = b.method_is;
        seen = seen_built_in files form classes fields methods l (class_id (len + k)) b.id0.0 b.of b.of_is;
      }

  seen_by : (n : ℕ) (class : Class) → ClassOrigin files form (length methods) n class → (i : ℕ) (id : MethodId) → slice_get class.methods i ≡ Some id → SeenAt (class_id n) i id
  seen_by n class (OfFile file at made) i id inside = at_file n file class at made i id inside
  seen_by n class (OfBuiltIn k is there) i id inside = subst (λ (m : ℕ). SeenAt (class_id m) i id) (sym is) (at_built_in k class there i id inside)

  pub seen_at : (n : ℕ) (class : Class) → slice_get p.classes n ≡ Some class → (i : ℕ) (id : MethodId) → slice_get class.methods i ≡ Some id → SeenAt (class_id n) i id
  seen_at n class there i id inside = seen_by n class (origins.class_origin files form classes fields methods l n class there) i id inside

  -- as many
  as_many_by : (n : ℕ) (class : Class) → ClassOrigin files form (length methods) n class → length (declared_methods w (class_id n)) ≡ length class.methods
  as_many_by n class (OfFile file at made) =
      ap length (bodies.file_methods files form classes fields methods l n file at) ∙ (length-map file.methods (declared_method file)
      ∙ (sym (length-range (first_method w (class_id n)) (length file.methods)) ∙ (sym (length-map (range_with_len (first_method w (class_id n)) (length file.methods)) method_id)
      ∙ ap (λ (c : Class). length c.methods) made.is)))
  as_many_by n class (OfBuiltIn k is there) =
      let o = built_in_of form len (length methods) k class there in
      let all = all_at (methods_there form) (built_in_classes_in form 0 0) (all_there form) k o.of o.at in
      ap (λ (m : ℕ). length (declared_methods w (class_id m))) is
      ∙ (ap length (view_methods k o.of o.at)
      ∙ (length-map (filter_map (method_at (built_ins form)) o.of.methods) (declared_built_in (built_ins form))
      ∙ (length-filtered (method_at (built_ins form)) o.of.methods all
      ∙ (sym (length-map o.of.methods (λ (m : MethodId). m.0)) ∙ (sym (length-map (numbers_of o.of) (λ (x : ℕ). length methods + x))
      ∙ (ap length (sym (numbers_are k class there o)) ∙ length-map class.methods (λ (m : MethodId). m.0)))))))

  pub as_many : (n : ℕ) (class : Class) → slice_get p.classes n ≡ Some class → length (declared_methods w (class_id n)) ≡ length class.methods
  as_many n class there = as_many_by n class (origins.class_origin files form classes fields methods l n class there)
