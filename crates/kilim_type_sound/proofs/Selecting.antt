-- What a call on an object selects, and what invokespecial calls, from what every program keeps.
use Rattle.std.proofs.Common.{◌≡◌, ◌⊎◌, inl, inr, ℕ, zero, suc, ◌+◌, Bool, true, false, cond, eqb, List, [], ◌∷◌, length, Option, Some, None, refl, sym, ap, subst, ◌∙◌, arith}
use Rattle.std.specs.Prelude.{◌&&◌, ◌||◌, not, slice_get, codes}
use Rattle.std.specs.List.{list_all, list_any, flat_map}
use Rattle.std.specs.Str.{bytes_eq}
use Rattle.std.proofs.lemmas.Bool.{and_parts, eqb-true, eq-eqb, not-true, or_left}
use Rattle.kilim_program.specs.declared.class.Class.{Class}
use Rattle.kilim_program.specs.declared.class.Form.TheVariants.{Plain, Woven}
use Rattle.kilim_program.specs.declared.class.Form.{Form}
use Rattle.kilim_program.specs.declared.class.Method.{Method}
use Rattle.kilim_program.specs.declared.names.ClassId.{ClassId}
use Rattle.kilim_program.specs.declared.names.MethodId.{MethodId}
use Rattle.kilim_program.specs.declared.ty.Base.{Base}
use Rattle.kilim_program.specs.declared.ty.Base.TheVariants as base
use Rattle.kilim_program.specs.declared.ty.Ty.{Ty}
use Rattle.kilim_program.specs.Program.{Program}
use Rattle.kilim_program.specs.BuiltIn.{built_in_classes_in, built_in_methods_in, class_id, class_type}
use Rattle.kilim_program.specs.Fits.{class_assignable, fits_type, is_named, type_assignable}
use Rattle.kilim_program.specs.Kinds.{is_message}
use Rattle.kilim_program.specs.Keeps.{Keeps, is_left_abstract, is_same_id, none_is_left_abstract}
use Rattle.kilim_program.specs.Names.{class_at, line_of, method_at, methods_of}
use Rattle.kilim_program.specs.Same.{answers, is_constructor, selected}
use Rattle.kilim_run_machine.specs.Does.{above_of, chosen, chosen_by, chosen_on, special}
use Rattle.kilim_run_machine.specs.Does as does
use Rattle.kilim_program.specs.Members.{is_concrete}
use Rattle.kilim_type_spec.specs.Step.{is_above, is_abstract_there, is_superclass_method, may_name, special_fits, superclass_at}
use Rattle.kilim_type_spec.specs.Step as step
use Rattle.kilim_type_spec.specs.Typed.{has_code}
use Rattle.kilim_lemmas.proofs.Lists.{get_right}
use Rattle.kilim_type_laws.specs.members.Chosen.{IsChosen}
use Rattle.kilim_type_sound.specs.Facts.{Selected}
use Rattle.kilim_type_laws.specs.members.Chosen.{has_instances}
use Rattle.kilim_type_sound.proofs.Bodies.{bodies}
use Rattle.kilim_type_laws.proofs.members.ClassMethods.{IsAmong, any_among, first_same, owner_has, among_flat, owner_lists}
use Rattle.kilim_type_laws.proofs.members.Finding.{finds}
use Rattle.kilim_type_laws.proofs.members.FromKeeps.{all_weaker, among_both, itself, own_body, superclass}
use Rattle.kilim_type_laws.proofs.members.SameNames.{AreNamedAlike, signature_by}
use Rattle.kilim_type_laws.proofs.members.Through.{cases, each_at, message_at, message_top, object_at, object_top, through}

-- ---- the classes `java/lang/Object` and `kilim/Message` declare no method that is called so

object_methods : (form : Form) (first method : ℕ) (c : Class) → slice_get (built_in_classes_in form first method) 0 ≡ Some c → c.methods ≡ record { 0 = method + 0 } ∷ []
object_methods Plain first method c e = let s : _ ≡ c = some e in sym (ap (λ (x : Class). x.methods) s)
  where
    some : {A : Type 0} {x y : A} → Some x ≡ Some y → x ≡ y
    some e = cc
object_methods Woven first method c e = let s : _ ≡ c = some e in sym (ap (λ (x : Class). x.methods) s)
  where
    some : {A : Type 0} {x y : A} → Some x ≡ Some y → x ≡ y
    some e = cc

message_methods : (form : Form) (first method : ℕ) (c : Class) → slice_get (built_in_classes_in form first method) 2 ≡ Some c → c.methods ≡ []
message_methods Plain first method c e = let s : _ ≡ c = some e in sym (ap (λ (x : Class). x.methods) s)
  where
    some : {A : Type 0} {x y : A} → Some x ≡ Some y → x ≡ y
    some e = cc
message_methods Woven first method c e = let s : _ ≡ c = some e in sym (ap (λ (x : Class). x.methods) s)
  where
    some : {A : Type 0} {x y : A} → Some x ≡ Some y → x ≡ y
    some e = cc

first_constructs : (form : Form) (n : ℕ) (m : Method) → slice_get (built_in_methods_in form n) 0 ≡ Some m → is_constructor m ≡ true
first_constructs Plain n m e = subst (λ (x : Method). is_constructor x ≡ true) (some e) refl
  where
    some : {A : Type 0} {x y : A} → Some x ≡ Some y → x ≡ y
    some e = cc
first_constructs Woven n m e = subst (λ (x : Method). is_constructor x ≡ true) (some e) refl
  where
    some : {A : Type 0} {x y : A} → Some x ≡ Some y → x ≡ y
    some e = cc

-- ---- private methods have code

abbrev concrete_private : Method → Bool
concrete_private m = not (m.is_abstract && m.is_private)

own_private : (p : Program) (m : Method) → own_body p m ≡ true → concrete_private m ≡ true
own_private p m e = by m.is_abstract m.is_private m.is_static (and_parts _ _ (and_parts (not m.built_in) _ e).1).1
  where
    by : (a q s : Bool) → not (a && (q || s)) ≡ true → not (a && q) ≡ true
    by true true s e = e
    by true false s e = refl
    by false q s e = refl

built_private : (form : Form) (n : ℕ) → list_all concrete_private (built_in_methods_in form n) ≡ true
built_private Plain n = refl
built_private Woven n = refl

same_above : (o : Option Class) → does.superclass_of o ≡ superclass_at o
same_above None = refl
same_above (Some c) = refl

module _ (p : Program) (keeps : Keeps p) (id : MethodId) (named : Method) (there : method_at p id ≡ Some named) (instance : named.is_static ≡ false) (plain : is_constructor named ≡ false) where
  abbrev Answer : MethodId → Ty → Type 0
  Answer f c = (s : Selected p named f) × (fits_type p c (class_type s.method.owner.0) ≡ true)

  code_of : (f : MethodId) (m : Method) → method_at p f ≡ Some m → m.is_abstract ≡ false → (m.built_in ≡ true) ⊎ ((m.built_in ≡ false) × (has_code m ≡ true))
  code_of f m at concrete = by m.built_in refl
    where
      by : (z : Bool) → m.built_in ≡ z → (z ≡ true) ⊎ ((z ≡ false) × (has_code m ≡ true))
      by true e = inl refl
      by false e = inr (refl, bodies p keeps f m at e concrete)

  private_is_concrete : named.is_private ≡ true → named.is_abstract ≡ false
  private_is_concrete e =
      let t = among_both p concrete_private keeps.built_in.own_methods (built_in_methods_in p.form (length keeps.built_in.own_classes)) id.0 named (all_weaker p (own_body p) concrete_private (own_private p) keeps.built_in.own_methods keeps.built_in.bodies)
      (built_private p.form (length keeps.built_in.own_classes)) (subst (λ (ms : List Method). slice_get ms id.0 ≡ Some named) keeps.built_in.methods there) in
      by named.is_abstract (subst (λ (z : Bool). not (named.is_abstract && z) ≡ true) e t)
    where
      by : (a : Bool) → not (a && true) ≡ true → a ≡ false
      by true e = absurd (cc)
      by false e = refl

  -- the named method itself
  named_itself : named.is_abstract ≡ false → Selected p named id
  named_itself concrete = record { method = named; there = there; code = code_of id named there concrete; instance = instance; plain = plain; params = refl; result = refl }

  -- what was found for it
  found_one : (k : ClassId) (f : MethodId) (c : IsChosen p k named f) → c.method.is_abstract ≡ false → Selected p named f
  found_one k f c concrete = record {
    method = c.method;
    there = c.there;
    code = code_of f c.method c.there concrete;
    instance = c.is_static ∙ instance;
    plain = ap (λ (n : List ℕ). bytes_eq n (codes "<init>")) c.name ∙ plain;
    params = c.params;
    result = c.result;
  }

  not_object : is_named p (codes "java/lang/Object") named.owner ≡ true → ⊥
  not_object e =
      let top = object_top p.form (length keeps.built_in.own_classes) (length keeps.built_in.own_methods) in
      let at = owner_has p keeps id named there top.class (object_at p keeps named.owner e) in
      let ms = object_methods p.form (length keeps.built_in.own_classes) (length keeps.built_in.own_methods) top.class top.at in
      by (subst (λ (xs : List MethodId). IsAmong id xs) ms at)
    where
      by : IsAmong id (record { 0 = length keeps.built_in.own_methods + 0 } ∷ []) → ⊥
      by (inr i) = i
      by (inl e) =
          let place : id.0 ≡ length keeps.built_in.own_methods + 0 = ap (λ (m : MethodId). m.0) e in
          let first = sym (get_right keeps.built_in.own_methods (built_in_methods_in p.form (length keeps.built_in.own_classes)) id.0 0 place) ∙ (sym (ap (λ (ms : List Method). slice_get ms id.0) keeps.built_in.methods) ∙ there) in
          let con = first_constructs p.form (length keeps.built_in.own_classes) named first in
          cc

  not_message : is_named p (codes "kilim/Message") named.owner ≡ true → ⊥
  not_message e =
      let top = message_top p.form (length keeps.built_in.own_classes) (length keeps.built_in.own_methods) in
      let at = owner_has p keeps id named there top.class (message_at p keeps named.owner e) in
      subst (λ (xs : List MethodId). IsAmong id xs) (message_methods p.form (length keeps.built_in.own_classes) (length keeps.built_in.own_methods) top.class top.at) at

  -- ---- in a class

  -- a class that isn't abstract is left with no abstract method
  none_left : (k : ClassId) (f : MethodId) (c : IsChosen p k named f) → selected p k named ≡ Some f → is_concrete (class_at p k) ≡ true → c.method.is_abstract ≡ false
  unfolding none_is_left_abstract
  none_left k f c is concrete = by (class_at p k) refl concrete
    where
      names : AreNamedAlike c.method named
      names = record { name = c.name; params = c.params; result = c.result }

      same_answers : (x : MethodId) → answers c.method (method_at p x) ≡ answers named (method_at p x)
      same_answers x = at_method (method_at p x)
        where
          at_method : (o : Option Method) → answers c.method o ≡ answers named o
          at_method None = refl
          at_method (Some m) = ap (λ (z : Bool). not m.is_private && z) (signature_by c.method named m names)

      again : selected p k c.method ≡ Some f
      again = first_same (λ (x : MethodId). answers c.method (method_at p x)) (λ (x : MethodId). answers named (method_at p x)) same_answers (flat_map (methods_of p) (line_of p k)) ∙ is

      by : (o : Option Class) → class_at p k ≡ o → is_concrete o ≡ true → c.method.is_abstract ≡ false
      by None at concrete = absurd (cc)
      by (Some class) at concrete =
          let one = each_at (λ (k : ClassId) (class : Class). class.is_abstract || not (list_any (λ (m : MethodId). is_left_abstract p k m (method_at p m)) (flat_map (methods_of p) (line_of p k)))) 0 p.classes k.0 class keeps.abstract_left at in
          let number : 0 + k.0 ≡ k.0 = omega arith in
          let here = subst (λ (n : ℕ). (class.is_abstract || not (list_any (λ (m : MethodId). is_left_abstract p (class_id n) m (method_at p m)) (flat_map (methods_of p) (line_of p (class_id n))))) ≡ true) number one in
          let none = not-true _ (second class.is_abstract _ concrete here) in
          left c.method.is_abstract refl none
        where
          second : (a b : Bool) → not a ≡ true → (a || b) ≡ true → b ≡ true
          second true b n e = absurd (cc)
          second false b n e = e

          left : (z : Bool) → c.method.is_abstract ≡ z → list_any (λ (m : MethodId). is_left_abstract p k m (method_at p m)) (flat_map (methods_of p) (line_of p k)) ≡ false → z ≡ false
          left false s none = refl
          left true s none =
              let here = ap (λ (o : Option Method). is_left_abstract p k f o) c.there ∙ (ap (λ (z : Bool). z && is_same_id f (selected p k c.method)) s ∙ (ap (λ (o : Option MethodId). is_same_id f o) again ∙ eq-eqb f.0 f.0 refl)) in
              let among = among_flat (methods_of p) (line_of p k) c.method.owner f c.in_line (owner_lists p keeps f c.method c.there) in
              let any = any_among (λ (m : MethodId). is_left_abstract p k m (method_at p m)) (flat_map (methods_of p) (line_of p k)) f among here in
              absurd (cc)

  in_class : (k : ClassId) → named.is_private ≡ false → is_concrete (class_at p k) ≡ true → class_assignable p k named.owner ≡ true → Answer (chosen_by (selected p k named) id) (class_type k.0)
  unfolding fits_type found_one
  in_class k public concrete e =
      cases (list_any (λ (d : ClassId). eqb d.0 named.owner.0) (line_of p k)) (is_named p (codes "java/lang/Object") named.owner) (is_named p (codes "kilim/Message") named.owner) (list_any (is_message p) (line_of p k)) e
      (λ l. by (finds p keeps id named there public plain k l))
      (λ o. absurd (not_object o))
      (λ m s. absurd (not_message m))
    where
      by : (f : MethodId) × (selected p k named ≡ Some f) × IsChosen p k named f → Answer (chosen_by (selected p k named) id) (class_type k.0)
      by r = subst (λ (o : Option MethodId). Answer (chosen_by o id) (class_type k.0)) (sym r.1) (found_one k r.0 r.2 (none_left k r.0 r.2 r.1 concrete), or_left _ _ r.2.in_line)

  on_type : (d : ℕ) (b : Base) → named.is_private ≡ false → has_instances p d b ≡ true → type_assignable p d b 0 (base.Class named.owner) ≡ true → Answer (chosen_on p named id d b) (record { dims = d; base = b })
  on_type zero (base.Class k) public has e = in_class k public has e
  on_type (suc d) b public has e = absurd (not_object e)
  on_type zero base.Bool public has e = absurd (cc)
  on_type zero base.Byte public has e = absurd (cc)
  on_type zero base.Char public has e = absurd (cc)
  on_type zero base.Short public has e = absurd (cc)
  on_type zero base.Int public has e = absurd (cc)
  on_type zero base.Long public has e = absurd (cc)

  pub selects_one : (c : Ty) → has_instances p c.dims c.base ≡ true → fits_type p c (class_type named.owner.0) ≡ true → Answer (chosen p named id c) c
  unfolding fits_type named_itself
  selects_one c has e = by named.is_private refl
    where
      by : (z : Bool) → named.is_private ≡ z → Answer (cond z id (chosen_on p named id c.dims c.base)) c
      by true private = (named_itself (private_is_concrete private), e)
      by false public = on_type c.dims c.base public has e

  -- ---- invokespecial

  module _ (own : Method) where
    above : (o : Option ClassId) → superclass_at (class_at p own.owner) ≡ o → named.is_private ≡ false → is_above p o named ≡ true → Answer (above_of p named id o) (class_type own.owner.0)
    unfolding fits_type found_one
    above None at public e = absurd (cc)
    above (Some up) at public e =
        let s = and_parts (list_any (λ (d : ClassId). eqb d.0 named.owner.0) (line_of p up)) (step.selects p (selected p up named)) e in
        by (finds p keeps id named there public plain up s.0) s.1
      where
        by : (f : MethodId) × (selected p up named ≡ Some f) × IsChosen p up named f → step.selects p (selected p up named) ≡ true → Answer (chosen_by (selected p up named) id) (class_type own.owner.0)
        by r e =
            let c = r.2 in
            let concrete : not c.method.is_abstract ≡ true = sym (ap (λ (o : Option MethodId). step.selects p o) r.1 ∙ ap (λ (o : Option Method). not (is_abstract_there o)) c.there) ∙ e in
            subst (λ (o : Option MethodId). Answer (chosen_by o id) (class_type own.owner.0)) (sym r.1) (found_one up r.0 c (not-true _ concrete), through p keeps (class_type own.owner.0) (class_type up.0) (class_type c.method.owner.0) (superclass p keeps own.owner up at) (line_fits c.method.owner c.in_line))
          where
            line_fits : (b : ClassId) → list_any (λ (d : ClassId). eqb d.0 b.0) (line_of p up) ≡ true → fits_type p (class_type up.0) (class_type b.0) ≡ true
            line_fits b l = or_left _ _ l

    pub specials_one : may_name own named.is_private named.owner ≡ true → special_fits p own id named ≡ true → Answer (special p own named id) (class_type own.owner.0)
    unfolding special_fits named_itself
    specials_one may fits =
        subst (λ (z : Bool). Answer (cond (z || eqb named.owner.0 own.owner.0) id (above_of p named id (does.superclass_of (class_at p own.owner)))) (class_type own.owner.0)) (sym plain) (by (eqb named.owner.0 own.owner.0) refl may fits)
      where
        by : (z : Bool) → eqb named.owner.0 own.owner.0 ≡ z → (not named.is_private || z) ≡ true → cond z named.is_private (is_superclass_method p (class_at p own.owner) named) ≡ true → Answer (cond z id (above_of p named id (does.superclass_of (class_at p own.owner)))) (class_type own.owner.0)
        by true same may private =
            (named_itself (private_is_concrete private), subst (λ (n : ℕ). fits_type p (class_type own.owner.0) (class_type n) ≡ true) (sym (eqb-true named.owner.0 own.owner.0 same)) (itself p keeps (class_type own.owner.0)))
        by false same may is =
            subst (λ (o : Option ClassId). Answer (above_of p named id o) (class_type own.owner.0)) (sym (same_above (class_at p own.owner))) (above (superclass_at (class_at p own.owner)) refl (public named.is_private may) is)
          where
            public : (z : Bool) → (not z || false) ≡ true → z ≡ false
            public true e = absurd (cc)
            public false e = refl

pub selects : (p : Program) → Keeps p → (id : MethodId) (named : Method) → method_at p id ≡ Some named → named.is_static ≡ false → is_constructor named ≡ false → (c : Ty) → has_instances p c.dims c.base ≡ true → fits_type p c (class_type named.owner.0) ≡ true →
    (s : Selected p named (chosen p named id c)) × (fits_type p c (class_type s.method.owner.0) ≡ true)
selects p keeps id named there instance plain c has e = selects_one p keeps id named there instance plain c has e

pub specials : (p : Program) → Keeps p → (own : Method) (id : MethodId) (named : Method) → method_at p id ≡ Some named → named.is_static ≡ false → is_constructor named ≡ false → may_name own named.is_private named.owner ≡ true → special_fits p own id named ≡ true →
    (s : Selected p named (special p own named id)) × (fits_type p (class_type own.owner.0) (class_type s.method.owner.0) ≡ true)
specials p keeps own id named there instance plain may fits = specials_one p keeps id named there instance plain own may fits
