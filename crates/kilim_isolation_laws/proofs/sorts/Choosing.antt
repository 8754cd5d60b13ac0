-- What a call selects agrees with the method that the code names.
use Rattle.std.proofs.Common.{◌≡◌, inl, inr, ℕ, zero, suc, ◌+◌, Bool, true, false, cond, eqb, List, [], ◌∷◌, length, Option, Some, None, refl, sym, ap, subst, ◌∙◌}
use Rattle.std.specs.Prelude.{◌||◌, not, slice_get, codes}
use Rattle.std.specs.List.{list_any}
use Rattle.std.specs.Str.{bytes_eq}
use Rattle.std.proofs.lemmas.Bool.{and_parts, eqb-true}
use Rattle.kilim_program.specs.declared.class.Form.TheVariants.{Plain, Woven}
use Rattle.kilim_program.specs.declared.class.Class.{Class}
use Rattle.kilim_program.specs.declared.class.Form.{Form}
use Rattle.kilim_program.specs.declared.class.Method.{Method}
use Rattle.kilim_program.specs.declared.names.ClassId.{ClassId}
use Rattle.kilim_program.specs.declared.names.MethodId.{MethodId}
use Rattle.kilim_program.specs.declared.ty.Base.{Base}
use Rattle.kilim_program.specs.declared.ty.Base.TheVariants as base
use Rattle.kilim_program.specs.declared.ty.Kind.{Kind}
use Rattle.kilim_program.specs.declared.ty.Kind.TheVariants as kind
use Rattle.kilim_program.specs.declared.ty.Qualifier.{Qualifier}
use Rattle.kilim_program.specs.declared.ty.Ty.{Ty}
use Rattle.kilim_program.specs.Program.{Program}
use Rattle.kilim_program.specs.BuiltIn.{built_in_classes_in, built_in_methods_in, class_type}
use Rattle.kilim_program.specs.Fits.{fits_type, is_named, type_assignable}
use Rattle.kilim_program.specs.Kinds.{class_kind, is_message, is_tree_kind}
use Rattle.kilim_program.specs.Keeps.{Keeps, method_is_sound}
use Rattle.kilim_program.specs.Names.{class_at, line_of, method_at}
use Rattle.kilim_program.specs.Same.{is_constructor, selected}
use Rattle.kilim_run_machine.specs.Does.{above_of, chosen, chosen_by, chosen_on, special}
use Rattle.kilim_run_machine.specs.Does as does
use Rattle.kilim_type_spec.specs.Step.{is_above, is_superclass_method, may_name, special_fits, superclass_at}
use Rattle.kilim_type_spec.specs.Step as step
use Rattle.kilim_lemmas.proofs.Lists.{get_right}
use Rattle.kilim_isolation_graph.specs.Entry.{quality}
use Rattle.kilim_type_laws.specs.members.Chosen.{IsChosen}
use Rattle.kilim_type_laws.proofs.members.ClassMethods.{IsAmong, owner_has}
use Rattle.kilim_type_laws.proofs.members.Finding.{finds}
use Rattle.kilim_type_laws.proofs.members.FromKeeps.{all_at}
use Rattle.kilim_type_laws.proofs.members.Through.{cases, message_at, message_top, object_at, object_top}
use Rattle.kilim_isolation_laws.specs.graph_rows.Holds.{sort_by, type_sort}
use Rattle.kilim_isolation_laws.specs.graph_rows.Facts.{Agrees, ChoosesWell}
use Rattle.kilim_isolation_laws.proofs.sorts.Lines.{in_line}

object_methods : (form : Form) (first method : ℕ) (c : Class) → slice_get (built_in_classes_in form first method) 0 ≡ Some c → c.methods ≡ record { 0 = method + 0 } ∷ []
object_methods Plain first method c e = let s : _ ≡ c = some e in sym (ap (λ (x : Class). x.methods) s)
  where
    some : {A : Type 0} {x y : A} → Some x ≡ Some y → x ≡ y
    some e = cc
object_methods Woven first method c e = let s : _ ≡ c = some e in sym (ap (λ (x : Class). x.methods) s)
  where
    some : {A : Type 0} {x y : A} → Some x ≡ Some y → x ≡ y
    some e = cc

message_methods : (form : Form) (first method : ℕ) (c : Class) → slice_get (built_in_classes_in form first method) 2 ≡ Some c → c.methods ≡ []
message_methods Plain first method c e = let s : _ ≡ c = some e in sym (ap (λ (x : Class). x.methods) s)
  where
    some : {A : Type 0} {x y : A} → Some x ≡ Some y → x ≡ y
    some e = cc
message_methods Woven first method c e = let s : _ ≡ c = some e in sym (ap (λ (x : Class). x.methods) s)
  where
    some : {A : Type 0} {x y : A} → Some x ≡ Some y → x ≡ y
    some e = cc

first_is : (form : Form) (n : ℕ) (m : Method) → slice_get (built_in_methods_in form n) 0 ≡ Some m → (is_constructor m ≡ true) × (m.built_in ≡ true)
first_is Plain n m e = let s : _ ≡ m = some e in (subst (λ (x : Method). is_constructor x ≡ true) s refl, subst (λ (x : Method). x.built_in ≡ true) s refl)
  where
    some : {A : Type 0} {x y : A} → Some x ≡ Some y → x ≡ y
    some e = cc
first_is Woven n m e = let s : _ ≡ m = some e in (subst (λ (x : Method). is_constructor x ≡ true) s refl, subst (λ (x : Method). x.built_in ≡ true) s refl)
  where
    some : {A : Type 0} {x y : A} → Some x ≡ Some y → x ≡ y
    some e = cc

pub class_sort : (p : Program) (a b : ClassId) → class_kind p a ≡ class_kind p b → type_sort p (class_type a.0) ≡ type_sort p (class_type b.0)
class_sort p a b e = by (class_kind p a) (class_kind p b) refl refl e
  where
    by : (x y : Kind) → class_kind p a ≡ x → class_kind p b ≡ y → x ≡ y → sort_by p (class_type a.0) (class_kind p a) ≡ sort_by p (class_type b.0) (class_kind p b)
    by kind.Value kind.Value f g s = ap (sort_by p (class_type a.0)) f ∙ sym (ap (sort_by p (class_type b.0)) g)
    by kind.Private kind.Private f g s = ap (sort_by p (class_type a.0)) f ∙ sym (ap (sort_by p (class_type b.0)) g)
    by kind.Tree kind.Tree f g s =
        ap (sort_by p (class_type a.0)) f ∙ (ap (Rattle.kilim_isolation_laws.specs.graph_rows.Holds.Tree 0) (ap (Rattle.kilim_isolation_laws.specs.graph_rows.Holds.stuff_of p (base.Class a)) f) ∙ sym (ap (sort_by p (class_type b.0)) g ∙ ap (Rattle.kilim_isolation_laws.specs.graph_rows.Holds.Tree 0) (ap (Rattle.kilim_isolation_laws.specs.graph_rows.Holds.stuff_of p (base.Class b)) g)))
    by kind.Value kind.Tree f g s = absurd (cc)
    by kind.Value kind.Private f g s = absurd (cc)
    by kind.Tree kind.Value f g s = absurd (cc)
    by kind.Tree kind.Private f g s = absurd (cc)
    by kind.Private kind.Value f g s = absurd (cc)
    by kind.Private kind.Tree f g s = absurd (cc)

pub sizes : (p : Program) → Keeps p → (id : MethodId) (m : Method) → method_at p id ≡ Some m → length m.qualifiers ≡ length m.params
unfolding method_is_sound
sizes p keeps id m at = eqb-true (length m.qualifiers) (length m.params) (and_parts (eqb (length m.qualifiers) (length m.params)) _ (all_at method_is_sound p.methods id.0 m keeps.methods at)).0

module _ (p : Program) (keeps : Keeps p) where
  -- the methods of `java/lang/Object`
  pub of_object : (id : MethodId) (m : Method) → method_at p id ≡ Some m → is_named p (codes "java/lang/Object") m.owner ≡ true → (is_constructor m ≡ true) × (m.built_in ≡ true)
  of_object id m there e =
      let top = object_top p.form (length keeps.built_in.own_classes) (length keeps.built_in.own_methods) in
      let at = owner_has p keeps id m there top.class (object_at p keeps m.owner e) in
      let ms = object_methods p.form (length keeps.built_in.own_classes) (length keeps.built_in.own_methods) top.class top.at in
      by (subst (λ (xs : List MethodId). IsAmong id xs) ms at)
    where
      by : IsAmong id (record { 0 = length keeps.built_in.own_methods + 0 } ∷ []) → (is_constructor m ≡ true) × (m.built_in ≡ true)
      by (inr i) = absurd i
      by (inl e) =
          let place : id.0 ≡ length keeps.built_in.own_methods + 0 = ap (λ (m : MethodId). m.0) e in
          let first = sym (get_right keeps.built_in.own_methods (built_in_methods_in p.form (length keeps.built_in.own_classes)) id.0 0 place) ∙ (sym (ap (λ (ms : List Method). slice_get ms id.0) keeps.built_in.methods) ∙ there) in
          first_is p.form (length keeps.built_in.own_classes) m first

  not_message : (id : MethodId) (m : Method) → method_at p id ≡ Some m → is_named p (codes "kilim/Message") m.owner ≡ true → ⊥
  not_message id m there e =
      let top = message_top p.form (length keeps.built_in.own_classes) (length keeps.built_in.own_methods) in
      let at = owner_has p keeps id m there top.class (message_at p keeps m.owner e) in
      subst (λ (xs : List MethodId). IsAmong id xs) (message_methods p.form (length keeps.built_in.own_classes) (length keeps.built_in.own_methods) top.class top.at) at

  module _ (id : MethodId) (named : Method) (there : method_at p id ≡ Some named) (instance : named.is_static ≡ false) (plain : is_constructor named ≡ false) where
    abbrev Answer : MethodId → Type 0
    Answer f = (callee : Method) × (method_at p f ≡ Some callee) × Agrees p named callee

    not_object : (f : MethodId) (m : Method) → method_at p f ≡ Some m → is_constructor m ≡ false → is_named p (codes "java/lang/Object") m.owner ≡ true → ⊥
    not_object f m at other e = let c = (of_object f m at e).0 in cc

    named_itself : Answer id
    named_itself = (named, there, record { params = refl; qualifiers = refl; result = refl; instance = instance; plain = plain; quality_is = refl; sort_is = refl; sized = sizes p keeps id named there })

    -- what is found in a line
    found_one : (k : ClassId) (f : MethodId) → list_any (λ (d : ClassId). eqb d.0 named.owner.0) (line_of p k) ≡ true → IsChosen p k named f → Answer f
    found_one k f l c = (
      c.method,
      c.there,
      record {
        params = c.params;
        qualifiers = c.qualifiers;
        result = c.result;
        instance = c.is_static ∙ instance;
        plain = ap (λ (n : List ℕ). bytes_eq n (codes "<init>")) c.name ∙ plain;
        quality_is = ap (λ (q : Qualifier). quality p (class_type c.method.owner.0) q) c.receiver ∙ ap (λ (k : Kind). cond (is_tree_kind k) (Some named.receiver) None) kinds;
        sort_is = class_sort p c.method.owner named.owner kinds;
        sized = sizes p keeps f c.method c.there;
      },
    )
      where
        kind_is : (f : MethodId) (m : Method) → method_at p f ≡ Some m → is_constructor m ≡ false → list_any (λ (d : ClassId). eqb d.0 m.owner.0) (line_of p k) ≡ true → class_kind p m.owner ≡ class_kind p k
        kind_is f m at other l = elim (in_line p keeps (length p.classes) k m.owner l) [ inl e ↦ e | inr o ↦ absurd (not_object f m at other o) ]

        kinds : class_kind p c.method.owner ≡ class_kind p named.owner
        kinds = kind_is f c.method c.there (ap (λ (n : List ℕ). bytes_eq n (codes "<init>")) c.name ∙ plain) c.in_line ∙ sym (kind_is id named there plain l)

    in_class : (k : ClassId) → named.is_private ≡ false → list_any (λ (d : ClassId). eqb d.0 named.owner.0) (line_of p k) ≡ true → Answer (chosen_by (selected p k named) id)
    in_class k public l = by (finds p keeps id named there public plain k l)
      where
        by : (f : MethodId) × (selected p k named ≡ Some f) × IsChosen p k named f → Answer (chosen_by (selected p k named) id)
        by r = subst (λ (o : Option MethodId). Answer (chosen_by o id)) (sym r.1) (found_one k r.0 l r.2)

    on_type : (d : ℕ) (b : Base) → named.is_private ≡ false → type_assignable p d b 0 (base.Class named.owner) ≡ true → Answer (chosen_on p named id d b)
    on_type zero (base.Class k) public e =
        cases (list_any (λ (d : ClassId). eqb d.0 named.owner.0) (line_of p k)) (is_named p (codes "java/lang/Object") named.owner) (is_named p (codes "kilim/Message") named.owner) (list_any (is_message p) (line_of p k)) e
        (λ l. in_class k public l)
        (λ o. absurd (not_object id named there plain o))
        (λ m s. absurd (not_message id named there m))
    on_type (suc d) b public e = absurd (not_object id named there plain e)
    on_type zero base.Bool public e = absurd (cc)
    on_type zero base.Byte public e = absurd (cc)
    on_type zero base.Char public e = absurd (cc)
    on_type zero base.Short public e = absurd (cc)
    on_type zero base.Int public e = absurd (cc)
    on_type zero base.Long public e = absurd (cc)

    selects_one : (c : Ty) → fits_type p c (class_type named.owner.0) ≡ true → Answer (chosen p named id c)
    unfolding fits_type
    selects_one c e = by named.is_private refl
      where
        by : (z : Bool) → named.is_private ≡ z → Answer (cond z id (chosen_on p named id c.dims c.base))
        by true private = named_itself
        by false public = on_type c.dims c.base public e

    -- ---- invokespecial

    same_above : (o : Option Class) → does.superclass_of o ≡ superclass_at o
    same_above None = refl
    same_above (Some c) = refl

    module _ (own : Method) where
      above : (o : Option ClassId) → named.is_private ≡ false → is_above p o named ≡ true → Answer (above_of p named id o)
      above None public e = absurd (cc)
      above (Some up) public e = in_class up public (and_parts (list_any (λ (d : ClassId). eqb d.0 named.owner.0) (line_of p up)) (step.selects p (selected p up named)) e).0

      specials_one : may_name own named.is_private named.owner ≡ true → special_fits p own id named ≡ true → Answer (special p own named id)
      unfolding special_fits
      specials_one may fits = subst (λ (z : Bool). Answer (cond (z || eqb named.owner.0 own.owner.0) id (above_of p named id (does.superclass_of (class_at p own.owner))))) (sym plain) (by (eqb named.owner.0 own.owner.0) may fits)
        where
          public : (z : Bool) → (not z || false) ≡ true → z ≡ false
          public true e = absurd (cc)
          public false e = refl

          by : (z : Bool) → (not named.is_private || z) ≡ true → cond z named.is_private (is_superclass_method p (class_at p own.owner) named) ≡ true → Answer (cond z id (above_of p named id (does.superclass_of (class_at p own.owner))))
          by true may private = named_itself
          by false may is = subst (λ (o : Option ClassId). Answer (above_of p named id o)) (sym (same_above (class_at p own.owner))) (above (superclass_at (class_at p own.owner)) (public named.is_private may) is)

pub chooses_well : (p : Program) → Keeps p → ChoosesWell p
chooses_well p keeps = record {
  selects = λ id named there instance plain c e. selects_one p keeps id named there instance plain c e;
  specials = λ own id named there instance plain may fits. specials_one p keeps id named there instance plain own may fits;
}
