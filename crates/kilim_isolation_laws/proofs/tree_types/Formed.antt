-- Each object of a heap that fits is as its class declares it.
use Rattle.std.proofs.Common.{◌≡◌, inl, inr, ℕ, zero, suc, Bool, true, false, cond, eqb, List, [], ◌∷◌, ◌++◌, length, map, Option, Some, None, refl, sym, ap, subst, ◌∙◌, arith, append_assoc}
use Rattle.std.specs.Str.{bytes_eq}
use Rattle.std.proofs.lemmas.Bool.{and_parts, eq-eqb, eqb-true, ltb-true, false_from_ne_true}
use Rattle.kilim_program.specs.declared.class.Class.{Class}
use Rattle.kilim_program.specs.declared.names.ClassId.{ClassId}
use Rattle.kilim_program.specs.declared.names.FieldId.{FieldId}
use Rattle.kilim_program.specs.declared.ty.Base.{Base}
use Rattle.kilim_program.specs.declared.ty.Base.TheVariants as base
use Rattle.kilim_program.specs.declared.ty.Ty.{Ty}
use Rattle.kilim_program.specs.declared.value.Value.{Value}
use Rattle.kilim_program.specs.Program.{Program}
use Rattle.kilim_program.specs.Keeps.{Keeps, has_base, names_differ}
use Rattle.kilim_program.specs.Names.{class_at}
use Rattle.kilim_program.specs.Same.{all_differ}
use Rattle.kilim_run_state.specs.declared.value.Object.{Object}
use Rattle.kilim_program.specs.Members.{is_concrete, object_fields, shown_name}
use Rattle.kilim_run_state.specs.Shapes.{field_in, fields_in_order}
use Rattle.kilim_run_state.specs.Trees.{object_of, type_named, with_keys}
use Rattle.kilim_run_model.specs.Kept.{Finds, IsFormed}
use Rattle.kilim_lemmas.proofs.Lists.{get_some}
use Rattle.kilim_type_sound.specs.Fits.{Classes, ContentFits, FieldsFit, has_objects}
use Rattle.kilim_type_laws.proofs.members.ClassMethods.{IsAmong}
use Rattle.kilim_run_model.specs.kin.trees.Laws.{IsPlaced}
use Rattle.kilim_run_model.proofs.kin.trees.NamedTypes.{array_is_named, class_is_named}
use Rattle.kilim_isolation_laws.specs.tree_types.Laws.{AreNamedPlainly, ObjectsAreFormed}
use Rattle.kilim_isolation_laws.proofs.tree_types.Apart.{AreApart, fields_apart}

abbrev pub values_of : List (FieldId × Value) → List Value
values_of es = map (λ (e : FieldId × Value). e.1) es

-- ---- fields are found

none_in : (pre : List (FieldId × Value)) (e : FieldId × Value) (g : FieldId) → field_in pre g ≡ None → eqb e.0.0 g.0 ≡ false → field_in (pre ++ e ∷ []) g ≡ None
none_in [] e g n f = ap (λ (z : Bool). cond z (Some e.1) None) f
none_in (x ∷ pre) e g n f = by (eqb x.0.0 g.0) n (λ rest. none_in pre e g rest f)
  where
    by : (z : Bool) → cond z (Some x.1) (field_in pre g) ≡ None → (field_in pre g ≡ None → field_in (pre ++ e ∷ []) g ≡ None) → cond z (Some x.1) (field_in (pre ++ e ∷ []) g) ≡ None
    by true n again = absurd (cc)
    by false n again = again n

found_in : (pre es : List (FieldId × Value)) (e : FieldId × Value) (g : FieldId) → field_in pre g ≡ None → e.0 ≡ g → field_in (pre ++ e ∷ es) g ≡ Some e.1
found_in [] es e g n s = ap (λ (z : Bool). cond z (Some e.1) (field_in es g)) (eq-eqb e.0.0 g.0 (ap (λ (f : FieldId). f.0) s))
found_in (x ∷ pre) es e g n s = by (eqb x.0.0 g.0) n (λ rest. found_in pre es e g rest s)
  where
    by : (z : Bool) → cond z (Some x.1) (field_in pre g) ≡ None → (field_in pre g ≡ None → field_in (pre ++ e ∷ es) g ≡ Some e.1) → cond z (Some x.1) (field_in (pre ++ e ∷ es) g) ≡ Some e.1
    by true n again = absurd (cc)
    by false n again = again n

other_number : (f g : FieldId) (fs : List FieldId) → (IsAmong f fs → ⊥) → IsAmong g fs → eqb f.0 g.0 ≡ false
other_number f g fs none i = false_from_ne_true (eqb f.0 g.0) (λ e. none (subst (λ (k : ℕ). IsAmong (record { 0 = k }) fs) (sym (eqb-true f.0 g.0 e)) i))

finds : (p : Program) (of : Classes) (pre : List (FieldId × Value)) (fs : List FieldId) (es : List (FieldId × Value)) → FieldsFit p of fs es → ((g : FieldId) → IsAmong g fs → field_in pre g ≡ None) → AreApart fs → Finds (pre ++ es) fs (values_of es)
finds p of pre [] [] fit none apart = tt
finds p of pre [] (e ∷ es) fit none apart = absurd fit
finds p of pre (f ∷ fs) [] fit none apart = absurd fit
finds p of pre (f ∷ fs) (e ∷ es) fit none apart = (
  found_in pre es e f (none f (inl refl)) fit.0,
  subst (λ (xs : List (FieldId × Value)). Finds xs fs (values_of es)) (append_assoc pre (e ∷ []) es)
      (finds p of (pre ++ e ∷ []) fs es fit.2 (λ g i. none_in pre e g (none g (inr i)) (ap (λ (k : FieldId). eqb k.0 g.0) fit.0 ∙ other_number f g fs apart.0 i)) apart.1),
)

keys : (p : Program) (of : Classes) (fs : List FieldId) (es : List (FieldId × Value)) → FieldsFit p of fs es → es ≡ with_keys fs (values_of es)
keys p of [] [] fit = refl
keys p of [] (e ∷ es) fit = absurd fit
keys p of (f ∷ fs) [] fit = absurd fit
keys p of (f ∷ fs) (e ∷ es) fit = ap (λ (g : FieldId). (g, e.1) ∷ es) fit.0 ∙ ap (λ (xs : List (FieldId × Value)). (f, e.1) ∷ xs) (keys p of fs es fit.2)

pub finds_of : (p : Program) → Keeps p → (of : Classes) (c : ClassId) (es : List (FieldId × Value)) → FieldsFit p of (object_fields p c) es → Finds es (object_fields p c) (values_of es)
finds_of p keeps of c es fit = finds p of [] (object_fields p c) es fit (λ g i. refl) (fields_apart p keeps c)

-- ---- an object

module _ (p : Program) (keeps : Keeps p) (plain : AreNamedPlainly p) where
  differ : all_differ (λ a b. bytes_eq a.name b.name) p.classes ≡ true
  unfolding names_differ
  differ = (and_parts (all_differ (λ a b. bytes_eq a.name b.name) p.classes) _ keeps.names).0

  pub placed : (b : Base) → has_base p b ≡ true → IsPlaced p b
  placed (base.Class c) e = get_some p.classes c.0 (ltb-true c.0 (length p.classes) e)
  placed base.Bool e = tt
  placed base.Byte e = tt
  placed base.Char e = tt
  placed base.Short e = tt
  placed base.Int e = tt
  placed base.Long e = tt

  class_there : (c : ClassId) → is_concrete (class_at p c) ≡ true → (class : Class) × (class_at p c ≡ Some class)
  class_there c e = by (class_at p c) refl e
    where
      by : (o : Option Class) → class_at p c ≡ o → is_concrete o ≡ true → (class : Class) × (class_at p c ≡ Some class)
      by None at e = absurd (cc)
      by (Some class) at e = (class, at)

  of_class : (of : Classes) (c : ClassId) (o : Object) → o.class ≡ record { dims = 0; base = base.Class c } → (has_objects p c ≡ true) × FieldsFit p of (object_fields p c) o.fields × (o.elements ≡ []) → IsFormed p o
  of_class of c o is fit =
      let there = class_there c (and_parts (is_concrete (class_at p c)) _ fit.0).0 in
      let named = class_is_named p differ plain c there.0 there.1 in
      let made = keys p of (object_fields p c) o.fields fit.1 in
      record {
        named = subst (λ (ty : Ty). type_named p (shown_name p ty) ≡ Some ty) (sym is) named;
        values = values_of o.fields;
        is = whole o made fit.2 is;
        finds = λ e. subst (λ (ty : Ty). Finds o.fields (fields_in_order p ty.base) (values_of o.fields)) (sym is) (finds p of [] (object_fields p c) o.fields fit.1 (λ g i. refl) (fields_apart p keeps c));
      }
    where
      whole : (o : Object) → o.fields ≡ with_keys (object_fields p c) (values_of o.fields) → o.elements ≡ [] → o.class ≡ record { dims = 0; base = base.Class c } → o ≡ object_of p o.class (values_of o.fields)
      whole o made none is =
          let a : o ≡ record { class = record { dims = 0; base = base.Class c }; fields = with_keys (object_fields p c) (values_of o.fields); elements = [] } =
          ap (λ (ty : Ty). record { class = ty; fields = o.fields; elements = o.elements }) is
          ∙ (ap (λ (fs : List (FieldId × Value)). record { class = record { dims = 0; base = base.Class c }; fields = fs; elements = o.elements }) made
          ∙ ap (λ (es : List Value). record { class = record { dims = 0; base = base.Class c }; fields = with_keys (object_fields p c) (values_of o.fields); elements = es }) none) in
          a ∙ ap (λ (ty : Ty). object_of p ty (values_of o.fields)) (sym is)

  of_array : (d : ℕ) (b : Base) (o : Object) → o.class ≡ record { dims = suc d; base = b } → o.fields ≡ [] → has_base p b ≡ true → IsFormed p o
  of_array d b o is none there = record {
    named = subst (λ (ty : Ty). type_named p (shown_name p ty) ≡ Some ty) (sym is) (array_is_named p differ plain d b (placed b there));
    values = o.elements;
    is =
        ap (λ (fs : List (FieldId × Value)). record { class = o.class; fields = fs; elements = o.elements }) none
        ∙ (ap (λ (ty : Ty). record { class = ty; fields = []; elements = o.elements }) is ∙ (sym (picked o.elements (eqb (suc d) 0) (no_zero (eqb (suc d) 0) refl)) ∙ ap (λ (ty : Ty). object_of p ty o.elements) (sym is)));
    finds = λ e. absurd (no_dims (subst (λ (ty : Ty). (eqb ty.dims 0) ≡ true) is e));
  }
    where
      whole : List Value → Object
      whole es = record { class = record { dims = suc d; base = b }; fields = []; elements = es }

      with_fields : List Value → Object
      with_fields es = record { class = record { dims = suc d; base = b }; fields = with_keys (fields_in_order p b) es; elements = [] }

      picked : (es : List Value) (z : Bool) → z ≡ false → cond z (with_fields es) (whole es) ≡ whole es
      picked es true e = absurd (cc)
      picked es false e = refl

      no_zero : (z : Bool) → eqb (suc d) 0 ≡ z → z ≡ false
      no_zero true e = absurd (let z = eqb-true (suc d) 0 e in omega (arith, z))
      no_zero false e = refl

      no_dims : eqb (suc d) 0 ≡ true → ⊥
      no_dims e = let z = eqb-true (suc d) 0 e in omega (arith, z)

  of_content : (of : Classes) (d : ℕ) (b : Base) (o : Object) → o.class ≡ record { dims = d; base = b } → ContentFits p of d b o → IsFormed p o
  of_content of zero (base.Class c) o is fit = of_class of c o is fit
  of_content of (suc d) b o is fit = of_array d b o is fit.0 fit.2
  of_content of zero base.Bool o is fit = absurd fit
  of_content of zero base.Byte o is fit = absurd fit
  of_content of zero base.Char o is fit = absurd fit
  of_content of zero base.Short o is fit = absurd fit
  of_content of zero base.Int o is fit = absurd fit
  of_content of zero base.Long o is fit = absurd fit

pub objects_formed : ObjectsAreFormed
objects_formed p of h keeps plain heap n o at = of_content p keeps plain of o.class.dims o.class.base o refl (heap.objects n o at)
