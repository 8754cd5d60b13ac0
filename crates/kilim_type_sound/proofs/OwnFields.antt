-- An object of a class or a subclass has the instance fields that the class declares.
use Rattle.std.proofs.Common.{◌≡◌, ℕ, zero, suc, ◌+◌, Bool, true, false, cond, eqb, List, [], ◌∷◌, ◌++◌, length, map, reverse, filter, Option, Some, None, refl, sym, ap, subst, ◌∙◌, arith}
use Rattle.std.specs.Prelude.{◌&&◌, ◌||◌, not, slice_get, codes}
use Rattle.std.specs.List.{list_any, list_all, flat_map}
use Rattle.std.specs.Str.{bytes_eq}
use Rattle.std.proofs.lemmas.Bool.{and_parts, eqb-true, eq-eqb, ltb-true, or_left, or_right}
use Rattle.std.proofs.lemmas.Grind.{flat_map-append}
use Rattle.std.proofs.lemmas.List.{reverse-append}
use Rattle.kilim_program.specs.declared.class.Class.{Class}
use Rattle.kilim_program.specs.declared.class.Field.{Field}
use Rattle.kilim_program.specs.declared.names.ClassId.{ClassId}
use Rattle.kilim_program.specs.declared.names.FieldId.{FieldId}
use Rattle.kilim_program.specs.declared.ty.Base.{Base}
use Rattle.kilim_program.specs.declared.ty.Base.TheVariants as base
use Rattle.kilim_program.specs.Program.{Program}
use Rattle.kilim_program.specs.BuiltIn.{class_id, class_type}
use Rattle.kilim_program.specs.Fits.{class_assignable, fits_type, is_named, type_assignable}
use Rattle.kilim_program.specs.Kinds.{is_message}
use Rattle.kilim_program.specs.Names.{class_at, field_of, fields_of, line_of}
use Rattle.kilim_program.specs.Keeps.{Keeps, class_ids_there, has_class, ids_are_places, members_are_owned, owned_from}
use Rattle.kilim_program.specs.Members.{is_instance_field, object_fields}
use Rattle.kilim_lemmas.proofs.Lists.{get_some}
use Rattle.kilim_lemmas.proofs.Texts.{text_is}
use Rattle.kilim_type_sound.specs.Facts.{OwnsField}
use Rattle.kilim_type_laws.proofs.members.FromKeeps.{all_at}
use Rattle.kilim_type_laws.proofs.members.Through.{cases, each_at, message_at, message_top, object_at, object_top}

-- a field is among those that name its owner
among_owned : (fs : List Field) (n k : ℕ) (f : Field) → slice_get fs k ≡ Some f → list_any (λ (m : ℕ). eqb m (n + k)) (owned_from (λ g. g.owner) f.owner n fs) ≡ true
among_owned [] n k f at = absurd (cc)
among_owned (x ∷ fs) n zero f at =
    let s : x ≡ f = cc in
    let number : n ≡ n + 0 = omega arith in
    let same : eqb x.owner.0 f.owner.0 ≡ true = eq-eqb x.owner.0 f.owner.0 (ap (λ (g : Field). g.owner.0) s) in
    subst (λ (z : Bool). list_any (λ (m : ℕ). eqb m (n + 0)) (cond z (n ∷ owned_from (λ g. g.owner) f.owner (suc n) fs) (owned_from (λ g. g.owner) f.owner (suc n) fs)) ≡ true) (sym same) (or_left (eqb n (n + 0)) _ (eq-eqb n (n + 0) number))
among_owned (x ∷ fs) n (suc k) f at =
    let number : suc n + k ≡ n + suc k = omega arith in
    by (eqb x.owner.0 f.owner.0) (subst (λ (j : ℕ). list_any (λ (m : ℕ). eqb m j) (owned_from (λ g. g.owner) f.owner (suc n) fs) ≡ true) number (among_owned fs (suc n) k f at))
  where
    by : (z : Bool) → list_any (λ (m : ℕ). eqb m (n + suc k)) (owned_from (λ g. g.owner) f.owner (suc n) fs) ≡ true → list_any (λ (m : ℕ). eqb m (n + suc k)) (cond z (n ∷ owned_from (λ g. g.owner) f.owner (suc n) fs) (owned_from (λ g. g.owner) f.owner (suc n) fs)) ≡ true
    by true e = or_right (eqb n (n + suc k)) _ e
    by false e = e

any_of_map : (k : ℕ) (fs : List FieldId) → list_any (λ (m : ℕ). eqb m k) (map (λ (f : FieldId). f.0) fs) ≡ true → list_any (λ (y : FieldId). eqb y.0 k) fs ≡ true
any_of_map k [] e = e
any_of_map k (f ∷ fs) e = by (eqb f.0 k) e (λ rest. any_of_map k fs rest)
  where
    by : (z : Bool) → (z || list_any (λ (m : ℕ). eqb m k) (map (λ (f : FieldId). f.0) fs)) ≡ true → (list_any (λ (m : ℕ). eqb m k) (map (λ (f : FieldId). f.0) fs) ≡ true → list_any (λ (y : FieldId). eqb y.0 k) fs ≡ true) → (z || list_any (λ (y : FieldId). eqb y.0 k) fs) ≡ true
    by true e again = refl
    by false e again = again e

any_left : {A : Type 0} (test : A → Bool) (xs ys : List A) → list_any test xs ≡ true → list_any test (xs ++ ys) ≡ true
any_left test [] ys e = absurd (cc)
any_left test (x ∷ xs) ys e = by (test x) e (λ rest. any_left test xs ys rest)
  where
    by : (z : Bool) → (z || list_any test xs) ≡ true → (list_any test xs ≡ true → list_any test (xs ++ ys) ≡ true) → (z || list_any test (xs ++ ys)) ≡ true
    by true e again = refl
    by false e again = again e

any_right : {A : Type 0} (test : A → Bool) (xs ys : List A) → list_any test ys ≡ true → list_any test (xs ++ ys) ≡ true
any_right test [] ys e = e
any_right test (x ∷ xs) ys e = or_right (test x) _ (any_right test xs ys e)

any_flat : (test : FieldId → Bool) (f : ClassId → List FieldId) (ds : List ClassId) (b : ClassId) → list_any (λ (d : ClassId). eqb d.0 b.0) ds ≡ true → list_any test (f b) ≡ true → list_any test (flat_map f (reverse ds)) ≡ true
any_flat test f [] b e any = absurd (cc)
any_flat test f (d ∷ ds) b e any =
    subst (λ (fs : List FieldId). list_any test fs ≡ true) (sym (ap (flat_map f) (reverse-append (d ∷ []) ds) ∙ flat_map-append f (reverse ds) (d ∷ []))) (by (eqb d.0 b.0) refl e (λ rest. any_flat test f ds b rest any))
  where
    by : (z : Bool) → eqb d.0 b.0 ≡ z → (z || list_any (λ (d : ClassId). eqb d.0 b.0) ds) ≡ true → (list_any (λ (d : ClassId). eqb d.0 b.0) ds ≡ true → list_any test (flat_map f (reverse ds)) ≡ true) → list_any test (flat_map f (reverse ds) ++ flat_map f (d ∷ [])) ≡ true
    by true is e again = any_right test (flat_map f (reverse ds)) (flat_map f (d ∷ [])) (any_left test (f d) [] (subst (λ (k : ℕ). list_any test (f (class_id k)) ≡ true) (sym (eqb-true d.0 b.0 is)) any))
    by false is e again = any_left test (flat_map f (reverse ds)) (flat_map f (d ∷ [])) (again e)

any_kept : (keep : FieldId → Bool) (x : FieldId) (fs : List FieldId) → keep x ≡ true → list_any (λ (y : FieldId). eqb y.0 x.0) fs ≡ true → list_any (λ (y : FieldId). eqb y.0 x.0) (filter keep fs) ≡ true
any_kept keep x [] k e = e
any_kept keep x (f ∷ fs) k e = by (eqb f.0 x.0) (keep f) refl refl e (λ rest. any_kept keep x fs k rest)
  where
    by : (z w : Bool) → eqb f.0 x.0 ≡ z → keep f ≡ w → (z || list_any (λ (y : FieldId). eqb y.0 x.0) fs) ≡ true → (list_any (λ (y : FieldId). eqb y.0 x.0) fs ≡ true → list_any (λ (y : FieldId). eqb y.0 x.0) (filter keep fs) ≡ true) →
        list_any (λ (y : FieldId). eqb y.0 x.0) (cond w (f ∷ filter keep fs) (filter keep fs)) ≡ true
    by true true is kept e again = or_left (eqb f.0 x.0) _ is
    by true false is kept e again = absurd (let s : keep f ≡ true = subst (λ (j : ℕ). keep (record { 0 = j }) ≡ true) (sym (eqb-true f.0 x.0 is)) k in cc)
    by false true is kept e again = or_right (eqb f.0 x.0) _ (again e)
    by false false is kept e again = again e

module _ (p : Program) (keeps : Keeps p) (x : FieldId) (field : Field) (there : field_of p x ≡ Some field) where
  owner_there : (c : Class) × (class_at p field.owner ≡ Some c)
  unfolding ids_are_places
  owner_there =
      let all = (and_parts (list_all (λ f. has_class p f.owner) p.fields) _ (and_parts (list_all (class_ids_there p) p.classes) _ keeps.ids).1).0 in
      get_some p.classes field.owner.0 (ltb-true field.owner.0 (length p.classes) (all_at (λ f. has_class p f.owner) p.fields x.0 field all there))

  -- the class that a field names as owner has it
  owner_has : (c : Class) → class_at p field.owner ≡ Some c → list_any (λ (y : FieldId). eqb y.0 x.0) c.fields ≡ true
  unfolding members_are_owned
  owner_has c at =
      let one = each_at (λ (k : ClassId) (class : Class). bytes_eq (map (λ (f : FieldId). f.0) class.fields) (owned_from (λ f. f.owner) k 0 p.fields) && bytes_eq (map (λ m. m.0) class.methods) (owned_from (λ m. m.owner) k 0 p.methods)) 0 p.classes field.owner.0 c keeps.members at in
      let number : 0 + field.owner.0 ≡ field.owner.0 = omega arith in
      let same = text_is (map (λ (f : FieldId). f.0) c.fields) (owned_from (λ f. f.owner) (class_id (0 + field.owner.0)) 0 p.fields) (and_parts (bytes_eq (map (λ (f : FieldId). f.0) c.fields) (owned_from (λ f. f.owner) (class_id (0 + field.owner.0)) 0 p.fields)) _ one).0 in
      let here = same ∙ ap (λ (k : ℕ). owned_from (λ (f : Field). f.owner) (class_id k) 0 p.fields) number in
      let place : 0 + x.0 ≡ x.0 = omega arith in
      any_of_map x.0 c.fields (subst (λ (ms : List ℕ). list_any (λ (m : ℕ). eqb m x.0) ms ≡ true) (sym here) (subst (λ (j : ℕ). list_any (λ (m : ℕ). eqb m j) (owned_from (λ f. f.owner) field.owner 0 p.fields) ≡ true) place (among_owned p.fields 0 x.0 field there)))

  no_owner : (c : Class) → class_at p field.owner ≡ Some c → c.fields ≡ [] → ⊥
  no_owner c at none = let e = subst (λ (fs : List FieldId). list_any (λ (y : FieldId). eqb y.0 x.0) fs ≡ true) none (owner_has c at) in cc

  not_object : is_named p (codes "java/lang/Object") field.owner ≡ true → ⊥
  not_object e = no_owner (object_top p.form (length keeps.built_in.own_classes) (length keeps.built_in.own_methods)).class (object_at p keeps field.owner e) (object_top p.form (length keeps.built_in.own_classes) (length keeps.built_in.own_methods)).fields

  not_message : is_named p (codes "kilim/Message") field.owner ≡ true → ⊥
  not_message e = no_owner (message_top p.form (length keeps.built_in.own_classes) (length keeps.built_in.own_methods)).class (message_at p keeps field.owner e) (message_top p.form (length keeps.built_in.own_classes) (length keeps.built_in.own_methods)).fields

  of_class : (c : ClassId) → field.is_static ≡ false → class_assignable p c field.owner ≡ true → list_any (λ (y : FieldId). eqb y.0 x.0) (object_fields p c) ≡ true
  of_class c instance e =
      cases (list_any (λ (d : ClassId). eqb d.0 field.owner.0) (line_of p c)) (is_named p (codes "java/lang/Object") field.owner) (is_named p (codes "kilim/Message") field.owner) (list_any (is_message p) (line_of p c)) e
      (λ l. any_kept (is_instance_field p) x (flat_map (fields_of p) (reverse (line_of p c))) keep (any_flat (λ (y : FieldId). eqb y.0 x.0) (fields_of p) (line_of p c) field.owner l mine))
      (λ o. absurd (not_object o))
      (λ m k. absurd (not_message m))
    where
      keep : is_instance_field p x ≡ true
      keep = ap (λ (o : Option Field). elim o [ None ↦ false | Some f ↦ not f.is_static ]) there ∙ ap not instance

      mine : list_any (λ (y : FieldId). eqb y.0 x.0) (fields_of p field.owner) ≡ true
      mine = subst (λ (o : Option Class). list_any (λ (y : FieldId). eqb y.0 x.0) (elim o [ None ↦ [] | Some class ↦ class.fields ]) ≡ true) (sym owner_there.1) (owner_has owner_there.0 owner_there.1)

  of_type : (d : ℕ) (b : Base) → field.is_static ≡ false → type_assignable p d b 0 (base.Class field.owner) ≡ true → OwnsField p d b x
  of_type zero (base.Class c) instance e = of_class c instance e
  of_type (suc d) b instance e = absurd (not_object e)
  of_type zero b instance e = absurd (cc)

pub fields : (p : Program) → Keeps p → (x : FieldId) (field : Field) → field_of p x ≡ Some field → field.is_static ≡ false → (d : ℕ) (b : Base) → fits_type p (record { dims = d; base = b }) (class_type field.owner.0) ≡ true → OwnsField p d b x
unfolding fits_type
fields p keeps x field there instance d b e = of_type p keeps x field there d b instance e
