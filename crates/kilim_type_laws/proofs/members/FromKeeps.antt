-- Some of the facts, from what every program keeps.
use Rattle.std.proofs.Common.{◌≡◌, ℕ, zero, suc, ◌+◌, Bool, true, false, eqb, List, [], ◌∷◌, ◌++◌, length, Option, Some, None, refl, sym, ap, subst, ◌∙◌, arith}
use Rattle.std.specs.Prelude.{◌&&◌, ◌||◌, not, slice_get, ◌==◌, is_none}
use Rattle.std.specs.List.{list_any, list_all}
use Rattle.std.proofs.lemmas.Bool.{and_parts, and_from, eq-eqb}
use Rattle.std.proofs.lemmas.List.{length-append}
use Rattle.kilim_program.specs.declared.class.Class.{Class}
use Rattle.kilim_program.specs.declared.class.Field.{Field}
use Rattle.kilim_program.specs.declared.class.Form.TheVariants.{Plain, Woven}
use Rattle.kilim_program.specs.declared.class.Form.{Form}
use Rattle.kilim_program.specs.declared.names.ClassId.{ClassId}
use Rattle.kilim_program.specs.declared.names.FieldId.{FieldId}
use Rattle.kilim_program.specs.declared.ty.Base.{Base}
use Rattle.kilim_program.specs.declared.ty.Base.TheVariants as base
use Rattle.kilim_program.specs.declared.ty.Qualifier.{Qualifier}
use Rattle.kilim_program.specs.declared.ty.Qualifier.TheVariants.{Free, Cuttable, Safe}
use Rattle.kilim_program.specs.declared.ty.Ty.{Ty}
use Rattle.kilim_program.specs.Program.{Program}
use Rattle.kilim_program.specs.BuiltIn.{class_type, built_in_classes_in, built_in_methods_in}
use Rattle.kilim_program.specs.declared.class.Method.{Method}
use Rattle.kilim_program.specs.declared.names.MethodId.{MethodId}
use Rattle.kilim_program.specs.Same.{same_flag, same_qualifier, is_constructor}
use Rattle.kilim_program.specs.Names.{class_at, method_at, field_of, line_up_to, ◌>>=◌}
use Rattle.kilim_program.specs.Keeps.{Keeps, constants_fit, constant_fits}
use Rattle.kilim_program.specs.Fits.{fits_type, type_assignable, base_assignable, class_assignable}
use Rattle.kilim_type_spec.specs.Step.{superclass_at}

pub all_at : {A : Type 0} (test : A → Bool) (xs : List A) (k : ℕ) (x : A) → list_all test xs ≡ true → slice_get xs k ≡ Some x → test x ≡ true
all_at test [] k x a e = absurd (cc)
all_at test (y ∷ xs) zero x a e = subst (λ z. test z ≡ true) (let s : y ≡ x = cc in s) (and_parts (test y) (list_all test xs) a).0
all_at test (y ∷ xs) (suc k) x a e = all_at test xs k x (and_parts (test y) (list_all test xs) a).1 e

-- there are two classes and more
two_built : (form : Form) (a b : ℕ) → (n : ℕ) × (length (built_in_classes_in form a b) ≡ suc (suc n))
two_built Plain a b = (16, refl)
two_built Woven a b = (17, refl)

two_classes : (p : Program) → Keeps p → (n : ℕ) × (length p.classes ≡ suc (suc n))
two_classes p keeps =
    let s = two_built p.form (length keeps.built_in.own_classes) (length keeps.built_in.own_methods) in
    let e = ap length keeps.built_in.classes ∙ (length-append keeps.built_in.own_classes _ ∙ ap (λ (k : ℕ). length keeps.built_in.own_classes + k) s.1) in
    (length keeps.built_in.own_classes + s.0, e ∙ omega arith)

module _ (p : Program) where
  or_left : (a b : Bool) → a ≡ true → (a || b) ≡ true
  or_left true b e = refl
  or_left false b e = absurd (cc)

  or_right : (a b : Bool) → b ≡ true → (a || b) ≡ true
  or_right true b e = refl
  or_right false b e = e

  class_itself : (n : ℕ) (c : ClassId) → length p.classes ≡ suc n → class_assignable p c c ≡ true
  class_itself n c e = or_left _ _ (subst (λ (k : ℕ). list_any (λ (d : ClassId). eqb d.0 c.0) (line_up_to p k c) ≡ true) (sym e) (or_left (eqb c.0 c.0) _ (eq-eqb c.0 c.0 refl)))

  base_itself : (n : ℕ) (b : Base) → length p.classes ≡ suc n → base_assignable p b b ≡ true
  base_itself n (base.Class c) e = class_itself n c e
  base_itself n base.Bool e = refl
  base_itself n base.Byte e = refl
  base_itself n base.Char e = refl
  base_itself n base.Short e = refl
  base_itself n base.Int e = refl
  base_itself n base.Long e = refl

  type_itself : (n d : ℕ) (b : Base) → length p.classes ≡ suc n → type_assignable p d b d b ≡ true
  type_itself n zero b e = base_itself n b e
  type_itself n (suc d) b e = type_itself n d b e

  pub itself : Keeps p → (a : Ty) → fits_type p a a ≡ true
  unfolding fits_type
  itself keeps a = let n = two_classes p keeps in type_itself (suc n.0) a.dims a.base n.1

  found_up : (o : Option Class) (up : ClassId) → superclass_at o ≡ Some up → (o >>= λ (class : Class). class.superclass) ≡ Some up
  found_up None up e = absurd (cc)
  found_up (Some class) up e = e

  line_above : (n : ℕ) (c up : ClassId) → (class_at p c >>= λ (class : Class). class.superclass) ≡ Some up → list_any (λ (d : ClassId). eqb d.0 up.0) (line_up_to p (suc (suc n)) c) ≡ true
  line_above n c up e = or_right (eqb c.0 up.0) _
      (subst (λ (o : Option ClassId). list_any (λ (d : ClassId). eqb d.0 up.0) (elim o [ None ↦ [] | Some u ↦ line_up_to p (suc n) u ]) ≡ true) (sym e) (or_left (eqb up.0 up.0) _ (eq-eqb up.0 up.0 refl)))

  pub superclass : Keeps p → (c up : ClassId) → superclass_at (class_at p c) ≡ Some up → fits_type p (class_type c.0) (class_type up.0) ≡ true
  unfolding fits_type
  superclass keeps c up e = let n = two_classes p keeps in or_left _ _ (subst (λ (k : ℕ). list_any (λ (d : ClassId). eqb d.0 up.0) (line_up_to p k c) ≡ true) (sym n.1) (line_above n.0 c up (found_up (class_at p c) up e)))

  static_fits : (f : Field) → (not f.is_static || constant_fits p f.ty f.constant) ≡ true → f.is_static ≡ true → constant_fits p f.ty f.constant ≡ true
  static_fits f e s = subst (λ (z : Bool). (not z || constant_fits p f.ty f.constant) ≡ true) s e

  pub constants : Keeps p → (x : FieldId) (field : Field) → field_of p x ≡ Some field → field.is_static ≡ true → constant_fits p field.ty field.constant ≡ true
  unfolding constants_fit
  constants keeps x field e s = static_fits field (all_at (λ f. not f.is_static || constant_fits p f.ty f.constant) p.fields x.0 field keeps.constants e) s

  -- a method is one of the files, or a built-in one
  pub among_both : {A : Type 0} (test : A → Bool) (xs ys : List A) (k : ℕ) (x : A) → list_all test xs ≡ true → list_all test ys ≡ true → slice_get (xs ++ ys) k ≡ Some x → test x ≡ true
  among_both test [] ys k x a b e = all_at test ys k x b e
  among_both test (z ∷ xs) ys zero x a b e = all_at test (z ∷ xs) zero x a e
  among_both test (z ∷ xs) ys (suc k) x a b e = among_both test xs ys k x (and_parts (test z) (list_all test xs) a).1 b e

  pub all_weaker : {A : Type 0} (test weak : A → Bool) → ((x : A) → test x ≡ true → weak x ≡ true) → (xs : List A) → list_all test xs ≡ true → list_all weak xs ≡ true
  all_weaker test weak w [] a = refl
  all_weaker test weak w (x ∷ xs) a = let as1 = and_parts (test x) (list_all test xs) a in and_from (weak x) (list_all weak xs) (w x as1.0) (all_weaker test weak w xs as1.1)

  abbrev pub own_body : Method → Bool
  own_body m = not m.built_in && (same_flag (m.code_length == 0) m.is_abstract && not (m.is_abstract && (m.is_private || m.is_static)))

  abbrev concrete_static : Method → Bool
  concrete_static m = not (m.is_abstract && m.is_static)

  own_static : (m : Method) → own_body m ≡ true → concrete_static m ≡ true
  own_static m e = by m.is_abstract m.is_private m.is_static (and_parts (same_flag (m.code_length == 0) m.is_abstract) _ (and_parts (not m.built_in) _ e).1).1
    where
      by : (a q s : Bool) → not (a && (q || s)) ≡ true → not (a && s) ≡ true
      by true q true e = e2 q e
        where
          e2 : (q : Bool) → not (q || true) ≡ true → false ≡ true
          e2 true e = e
          e2 false e = e
      by true q false e = refl
      by false q s e = refl

  built_static : (form : Form) (n : ℕ) → list_all concrete_static (built_in_methods_in form n) ≡ true
  built_static Plain n = refl
  built_static Woven n = refl

  pub statics : Keeps p → (id : MethodId) (m : Method) → method_at p id ≡ Some m → m.is_static ≡ true → m.is_abstract ≡ false
  statics keeps id m e s =
      let t = among_both concrete_static keeps.built_in.own_methods _ id.0 m (all_weaker own_body concrete_static own_static keeps.built_in.own_methods keeps.built_in.bodies) (built_static p.form (length keeps.built_in.own_classes)) (subst (λ (ms : List Method). slice_get ms id.0 ≡ Some m) keeps.built_in.methods e) in
      by m.is_abstract (subst (λ (z : Bool). not (m.is_abstract && z) ≡ true) s t)
    where
      by : (a : Bool) → not (a && true) ≡ true → a ≡ false
      by true e = absurd (cc)
      by false e = refl

  -- it gives nothing, has a cuttable receiver, and is handed nothing to keep
  abbrev plain_constructor : Method → Bool
  plain_constructor m = not (m.built_in && is_constructor m) || (is_none m.result && (same_qualifier m.receiver Cuttable && list_all (same_qualifier Safe) m.qualifiers))

  own_constructor : (m : Method) → own_body m ≡ true → plain_constructor m ≡ true
  own_constructor m e = by m.built_in (and_parts (not m.built_in) _ e).0
    where
      by : (z : Bool) → not z ≡ true → (not (z && is_constructor m) || (is_none m.result && (same_qualifier m.receiver Cuttable && list_all (same_qualifier Safe) m.qualifiers))) ≡ true
      by true e = absurd (cc)
      by false e = refl

  built_constructor : (form : Form) (n : ℕ) → list_all plain_constructor (built_in_methods_in form n) ≡ true
  built_constructor Plain n = refl
  built_constructor Woven n = refl

  pub constructors : Keeps p → (id : MethodId) (m : Method) → method_at p id ≡ Some m → m.built_in ≡ true → is_constructor m ≡ true →
      (m.result ≡ None) × (m.receiver ≡ Cuttable) × (list_all (same_qualifier Safe) m.qualifiers ≡ true)
  constructors keeps id m e own con =
      let t = among_both plain_constructor keeps.built_in.own_methods _ id.0 m (all_weaker own_body plain_constructor own_constructor keeps.built_in.own_methods keeps.built_in.bodies) (built_constructor p.form (length keeps.built_in.own_classes)) (subst (λ (ms : List Method). slice_get ms id.0 ≡ Some m) keeps.built_in.methods e) in
      let rest = is_none m.result && (same_qualifier m.receiver Cuttable && list_all (same_qualifier Safe) m.qualifiers) in
      let u = subst (λ (z : Bool). (not (z && is_constructor m) || rest) ≡ true) own t in
      let v = subst (λ (z : Bool). (not z || rest) ≡ true) con u in
      let w = and_parts (is_none m.result) _ v in
      let x = and_parts (same_qualifier m.receiver Cuttable) _ w.1 in
      (none m.result w.0, cuttable m.receiver x.0, x.1)
    where
      cuttable : (q : Qualifier) → same_qualifier q Cuttable ≡ true → q ≡ Cuttable
      cuttable Cuttable e = refl
      cuttable Free e = absurd (cc)
      cuttable Safe e = absurd (cc)

      none : (o : Option Ty) → is_none o ≡ true → o ≡ None
      none None e = refl
      none (Some ty) e = absurd (cc)
