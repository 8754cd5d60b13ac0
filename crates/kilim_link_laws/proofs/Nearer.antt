-- Along a line of superclasses no abstract method is selected, where none is left above.
use Rattle.std.proofs.Common.{◌≡◌, ℕ, ◌+◌, Bool, true, false, ◌&&◌, ◌==◌, not, List, [], ◌∷◌, ◌++◌, length, slice_get, Option, Some, None, option_map, filter, bytes_eq, refl, sym, ap, subst, ◌∙◌, append_assoc, append-nil, eq-eqb, eqb-true, arith}
use Rattle.std.specs.List.{flat_map, list_any}
use Rattle.std.proofs.lemmas.Bool.{and_from, and_parts, both_ways, false_from_ne_true, not-false}
use Rattle.std.proofs.lemmas.Option.{same_Some, none-some, slice_get_within}
use Rattle.kilim_lemmas.proofs.Lists.{front_none, rest_none, get_right, get_left, get_some}
use Rattle.kilim_lemmas.proofs.Truth.{rest_is_false}
use Rattle.kilim_lemmas.proofs.Texts.{text_is, same_text}
use Rattle.kilim_class_file.specs.declared.class_file.ClassFile.{ClassFile}
use Rattle.kilim_program.specs.declared.class.Class.{Class}
use Rattle.kilim_program.specs.declared.class.Field.{Field}
use Rattle.kilim_program.specs.declared.class.Form.{Form}
use Rattle.kilim_program.specs.declared.class.Method.{Method}
use Rattle.kilim_program.specs.declared.names.ClassId.{ClassId}
use Rattle.kilim_program.specs.declared.names.MethodId.{MethodId}
use Rattle.kilim_program.specs.declared.ty.Base.{Base}
use Rattle.kilim_program.specs.declared.ty.Base.TheVariants as base
use Rattle.kilim_program.specs.declared.ty.Ty.{Ty}
use Rattle.kilim_program.specs.Program.{Program}
use Rattle.kilim_program.specs.Keeps.{is_left_abstract, is_same_id}
use Rattle.kilim_program.specs.Names.{class_at, first_that, line_of, method_at, methods_of}
use Rattle.kilim_program.specs.Same.{answers, same_base, same_result, same_signature, same_type, same_types, selected}
use Rattle.kilim_link_spec.specs.Faults.{is_left_above, left_above}
use Rattle.kilim_link_spec.specs.Linked.{program_with}
use Rattle.kilim_link_spec.specs.World.{World, declared_methods, is_message_by, is_method, methods_at, outline_with, world_of}
use Rattle.kilim_link_spec.specs.declared.view.ClassView.{ClassView}
use Rattle.kilim_link_spec.specs.declared.view.DeclaredMethod.{DeclaredMethod}
use Rattle.kilim_link_laws.specs.Bridge.{bare}
use Rattle.kilim_link_laws.proofs.Bridge as bridge
use Rattle.kilim_link_laws.proofs.Bridge.{LinkedClass}
use Rattle.kilim_link_laws.proofs.Flat.{any_at, append_none, first_left, first_none, first_passes, flat_map-append}
use Rattle.kilim_link_laws.proofs.Linking.{Linking, none_passes}
use Rattle.kilim_link_laws.proofs.Lists.{Left, Right, Side, get_map, none_at, none_by_places, side}
use Rattle.kilim_link_laws.proofs.Named.{outlined_at, outlined_one}
use Rattle.kilim_link_laws.proofs.Positions as positions
use Rattle.kilim_link_laws.proofs.Resolved.{Resolves, same_types_of}
use Rattle.kilim_link_laws.proofs.Seen.{Seen}
use Rattle.kilim_link_laws.proofs.Unique.{views}

-- ---- types are the same as themselves

base_itself : (b : Base) → same_base b b ≡ true
base_itself base.Bool = refl
base_itself base.Byte = refl
base_itself base.Char = refl
base_itself base.Short = refl
base_itself base.Int = refl
base_itself base.Long = refl
base_itself (base.Class c) = eq-eqb c.0 c.0 refl

type_itself : (ty : Ty) → same_type ty ty ≡ true
type_itself ty = and_from (ty.dims == ty.dims) (same_base ty.base ty.base) (eq-eqb ty.dims ty.dims refl) (base_itself ty.base)

types_themselves : (tys : List Ty) → same_types tys tys ≡ true
types_themselves [] = refl
types_themselves (ty ∷ tys) = and_from (same_type ty ty) (same_types tys tys) (type_itself ty) (types_themselves tys)

result_itself : (o : Option Ty) → same_result o o ≡ true
result_itself None = refl
result_itself (Some ty) = type_itself ty

-- ---- what is selected

same_id_is : (id : MethodId) (o : Option MethodId) → is_same_id id o ≡ true → o ≡ Some id
same_id_is id None e = absurd (cc)
same_id_is id (Some other) e = ap (λ (n : ℕ). Some (record { 0 = n })) (sym (eqb-true id.0 other.0 e))

none_of_none : {A B : Type 0} (f : A → B) (o : Option A) → option_map f o ≡ None → o ≡ None
none_of_none f None e = refl
none_of_none f (Some x) e = absurd (none-some (f x) (sym e))

module _ (files : List ClassFile) (form : Form) (classes : List Class) (fields : List Field) (methods : List Method) (l : Linking files form classes fields methods) where
  abbrev w : World
  w = world_of files form

  abbrev p : Program
  p = program_with files form classes fields methods

  abbrev len : ℕ
  len = length files

  abbrev pub left : ClassId → MethodId → Bool
  left c id = is_left_abstract p c id (method_at p id)

  -- a declared method among some methods of the program
  pub record Among (ids : List MethodId) (d : DeclaredMethod) : Type 0 where
    pub place : ℕ
    pub id : MethodId
    pub at : slice_get ids place ≡ Some id
    pub method : Method
    pub method_is : method_at p id ≡ Some method
    pub name : d.name ≡ method.name
    pub types : Resolves w d.descriptor method.params method.result
    pub private : d.is_private ≡ method.is_private

  -- each of some declared methods is among some of the program
  abbrev pub All : List DeclaredMethod → List MethodId → Type 0
  All ds ids = (i : ℕ) (d : DeclaredMethod) → slice_get ds i ≡ Some d → Among ids d

  pub among_left : (ids more : List MethodId) (d : DeclaredMethod) → Among ids d → Among (ids ++ more) d
  among_left ids more d a = record { place = a.place; id = a.id; at = get_left ids more a.place a.id a.at; method = a.method; method_is = a.method_is; name = a.name; types = a.types; private = a.private }

  among_right : (ids more : List MethodId) (d : DeclaredMethod) → Among more d → Among (ids ++ more) d
  among_right ids more d a = record { place = length ids + a.place; id = a.id; at = get_right ids more (length ids + a.place) a.place refl ∙ a.at; method = a.method; method_is = a.method_is; name = a.name; types = a.types; private = a.private }

  among_by : (ds es : List DeclaredMethod) (ids more : List MethodId) → All ds ids → All es more → (i : ℕ) (d : DeclaredMethod) → Side ds es i d → Among (ids ++ more) d
  among_by ds es ids more all rest i d (Left e) = among_left ids more d (all i d e)
  among_by ds es ids more all rest i d (Right k is e) = among_right ids more d (rest k d e)

  all_more : (ds es : List DeclaredMethod) (ids more : List MethodId) → All ds ids → All es more → All (ds ++ es) (ids ++ more)
  all_more ds es ids more all rest i d there = among_by ds es ids more all rest i d (side ds es i d there)

  -- those of a class
  all_there : (d : ClassId) (class : Class) → class_at p d ≡ Some class → All (declared_methods w d) class.methods
  all_there d class is i m inside =
      let many = positions.as_many files form classes fields methods l d.0 class is in
      let within = slice_get_within (declared_methods w d) i m inside in
      let id = get_some class.methods i (omega (arith, many, within)) in
      let s = positions.seen_at files form classes fields methods l d.0 class is i id.0 id.1 in
      let same : s.declared ≡ m = same_Some s.declared m (sym s.at ∙ inside) in
      record {
        place = i;
        id = id.0;
        at = id.1;
        method = s.method;
        method_is = s.method_is;
        name = ap (λ (x : DeclaredMethod). x.name) (sym same) ∙ s.seen.name;
        types = subst (λ (x : DeclaredMethod). Resolves w x.descriptor s.method.params s.method.result) same s.seen.types;
        private = ap (λ (x : DeclaredMethod). x.is_private) (sym same) ∙ s.seen.private;
      }

  abbrev mark : ClassId → ClassView → Bool
  mark c v = is_message_by (outline_with form (views files form) (λ d u. u.is_marked)) c

  no_view : (d : ClassId) → class_at p d ≡ None → declared_methods w d ≡ []
  unfolding world_of
  no_view d is =
      let outlines = ap (λ (q : Program). slice_get q.classes d.0) (bridge.outline_is_bared files form classes fields methods l) in
      let none = sym (outlined_at (views files form) mark 0 (views files form) d.0) ∙ (outlines ∙ (get_map bare p.classes d.0 ∙ ap (option_map bare) is)) in
      ap methods_at (none_of_none (outlined_one (views files form) mark (0 + d.0)) (slice_get (views files form) d.0) none)

  all_by : (d : ClassId) (o : Option Class) → class_at p d ≡ o → All (declared_methods w d) (elim o [ None ↦ [] | Some class ↦ class.methods ])
  all_by d None is i m inside = absurd (none-some m (ap (λ (ds : List DeclaredMethod). slice_get ds i) (sym (no_view d is)) ∙ inside))
  all_by d (Some class) is i m inside = all_there d class is i m inside

  pub all_of_class : (d : ClassId) → All (declared_methods w d) (methods_of p d)
  all_of_class d = all_by d (class_at p d) refl

  -- ---- a method of an ancestor

  abbrev answered : Method → MethodId → Bool
  answered m id = answers m (method_at p id)

  abbrev is_nearer : DeclaredMethod → DeclaredMethod → Bool
  is_nearer d o = not o.is_private && is_method d.name d.descriptor o

  -- a nearer one of that name and descriptor answers
  nearer_answers : (c : ClassId) (d : DeclaredMethod) (m : Method) → Seen w c d m → (o : DeclaredMethod) (ids : List MethodId) (a : Among ids o) → is_nearer d o ≡ true → answered m a.id ≡ true
  nearer_answers c d m s o ids a e =
      let parts = and_parts (not o.is_private) (is_method d.name d.descriptor o) e in
      let same = and_parts (bytes_eq o.name d.name) (bytes_eq o.descriptor d.descriptor) parts.1 in
      let open_one : not a.method.is_private ≡ true = ap not (sym a.private) ∙ parts.0 in
      let names : m.name ≡ a.method.name = sym s.name ∙ (sym (text_is _ _ same.0) ∙ a.name) in
      let types = same_types_of w d.descriptor o.descriptor m.params a.method.params m.result a.method.result s.types a.types (sym (text_is _ _ same.1)) in
      let params : same_types m.params a.method.params ≡ true = ap (same_types m.params) (sym types.0) ∙ types_themselves m.params in
      let result : same_result m.result a.method.result ≡ true = ap (same_result m.result) (sym types.1) ∙ result_itself m.result in
      ap (answers m) a.method_is ∙ and_from _ _ open_one (and_from _ _ (same_text _ _ names) (and_from _ _ params result))

  -- what is selected is found among the nearer ones, or is none of theirs
  nearer_found : (c : ClassId) (id : MethodId) (ids more : List MethodId) (m : Method) → left c id ≡ true → list_any (left c) ids ≡ false → first_that (answered m) (ids ++ more) ≡ Some id →
      (o : Option MethodId) → first_that (answered m) ids ≡ o → (j : ℕ) (x : MethodId) → slice_get ids j ≡ Some x → answered m x ≡ true → ⊥
  nearer_found c id ids more m is none found None first j x at passes = both_ways (answered m x) (first_none (answered m) ids first j x at) passes
  nearer_found c id ids more m is none found (Some y) first j x at passes =
      let same : y ≡ id = same_Some y id (sym (first_left (answered m) ids more y first) ∙ found) in
      let f = first_passes (answered m) ids y first in
      both_ways (left c y) (none_at (left c) ids none f.place y f.at) (ap (left c) same ∙ is)

  not_left : (c : ClassId) (front rest : List ClassId) (d : ClassId) (nearer : List DeclaredMethod) → line_of p c ≡ front ++ d ∷ rest → All nearer (flat_map (methods_of p) front) →
      list_any (left c) (flat_map (methods_of p) front) ≡ false → filter (is_left_above nearer) (declared_methods w d) ≡ [] →
      (class : Class) → class_at p d ≡ Some class → (i : ℕ) (id : MethodId) → slice_get class.methods i ≡ Some id → left c id ≡ true → ⊥
  not_left c front rest d nearer line all none above class is i id inside e =
      let s = positions.seen_at files form classes fields methods l d.0 class is i id inside in
      let m = s.method in
      let parts = and_parts m.is_abstract (is_same_id id (selected p c m)) (sym (ap (is_left_abstract p c id) s.method_is) ∙ e) in
      let chosen : selected p c m ≡ Some id = same_id_is id (selected p c m) parts.1 in
      let passes = first_passes (answered m) (flat_map (methods_of p) (line_of p c)) id chosen in
      let open_one : not m.is_private ≡ true = (and_parts (not m.is_private) (same_signature m m) (sym (ap (answers m) s.method_is) ∙ passes.passes)).0 in
      let not_above = none_passes (is_left_above nearer) (declared_methods w d) above i s.declared s.at in
      let declared_open : not s.declared.is_private ≡ true = ap not s.seen.private ∙ open_one in
      let some : list_any (is_nearer s.declared) nearer ≡ true = not-false _ (rest_is_false _ _ declared_open (rest_is_false _ _ (s.seen.abstracts ∙ parts.0) not_above)) in
      let near = any_at (is_nearer s.declared) nearer some in
      let among = all near.1.place near.0 near.1.at in
      let found : first_that (answered m) (flat_map (methods_of p) front ++ flat_map (methods_of p) (d ∷ rest)) ≡ Some id =
      ap (first_that (answered m)) (sym (flat_map-append (methods_of p) front (d ∷ rest)) ∙ ap (flat_map (methods_of p)) (sym line)) ∙ chosen in
      nearer_found c id (flat_map (methods_of p) front) (flat_map (methods_of p) (d ∷ rest)) m e none found (first_that (answered m) (flat_map (methods_of p) front)) refl
      among.place among.id among.at (nearer_answers d s.declared m s.seen near.0 (flat_map (methods_of p) front) among near.1.passes)

  none_here : (c : ClassId) (front rest : List ClassId) (d : ClassId) (nearer : List DeclaredMethod) → line_of p c ≡ front ++ d ∷ rest → All nearer (flat_map (methods_of p) front) →
      list_any (left c) (flat_map (methods_of p) front) ≡ false → filter (is_left_above nearer) (declared_methods w d) ≡ [] →
      (o : Option Class) → class_at p d ≡ o → list_any (left c) (elim o [ None ↦ [] | Some class ↦ class.methods ]) ≡ false
  none_here c front rest d nearer line all none above None is = refl
  none_here c front rest d nearer line all none above (Some class) is = none_by_places (left c) class.methods (λ i id inside.
      false_from_ne_true (left c id) (λ e. not_left c front rest d nearer line all none above class is i id inside e))

  pub none_above : (c : ClassId) (front : List ClassId) (nearer : List DeclaredMethod) (rest extra : List ClassId) → line_of p c ≡ front ++ rest → All nearer (flat_map (methods_of p) front) →
      list_any (left c) (flat_map (methods_of p) front) ≡ false → left_above w nearer (rest ++ extra) ≡ [] → list_any (left c) (flat_map (methods_of p) rest) ≡ false
  none_above c front nearer [] extra line all none above = refl
  none_above c front nearer (d ∷ rest) extra line all none above =
      let here = front_none (filter (is_left_above nearer) (declared_methods w d)) (left_above w (nearer ++ declared_methods w d) (rest ++ extra)) above in
      let own = none_here c front rest d nearer line all none here (class_at p d) refl in
      let flat : flat_map (methods_of p) front ++ methods_of p d ≡ flat_map (methods_of p) (front ++ d ∷ []) =
      ap (λ (ids : List MethodId). flat_map (methods_of p) front ++ ids) (sym (append-nil (methods_of p d))) ∙ sym (flat_map-append (methods_of p) front (d ∷ [])) in
      append_none (left c) (methods_of p d) (flat_map (methods_of p) rest) own
      (none_above c (front ++ d ∷ []) (nearer ++ declared_methods w d) rest extra (line ∙ sym (append_assoc front (d ∷ []) rest))
      (subst (All (nearer ++ declared_methods w d)) flat (all_more nearer (declared_methods w d) (flat_map (methods_of p) front) (methods_of p d) all (all_of_class d)))
      (ap (list_any (left c)) (sym flat) ∙ append_none (left c) (flat_map (methods_of p) front) (methods_of p d) none own)
      (rest_none (filter (is_left_above nearer) (declared_methods w d)) (left_above w (nearer ++ declared_methods w d) (rest ++ extra)) above))
